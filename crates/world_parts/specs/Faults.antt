-- Why lines are not carried out.
use Rattle.std.specs.Prelude.{◌≢◌, Result, Err}
use Rattle.view_model.specs.declared.fault.Fault.{Fault}
use Rattle.view_model.specs.declared.fault.Fault.TheVariants as given
use Rattle.world_parts.specs.declared.fault.StepFault.{StepFault}
use Rattle.world_parts.specs.declared.fault.StepFault.TheVariants as fault

-- the fault of a line for which a call on views was not done
abbrev pub step_fault_of : Fault → StepFault
step_fault_of (given.Refused refusal) = fault.Refused refusal
step_fault_of given.NoMemory = fault.NoMemory

-- a line that does not run out of memory
abbrev pub HasMemory : {A : Type 0} → Result A StepFault → Type 0
HasMemory result = result ≢ Err fault.NoMemory

-- one for which no fetch fails
abbrev pub HasFile : {A : Type 0} → Result A StepFault → Type 0
HasFile result = result ≢ Err fault.Shelf
