-- Why a tree does not take what it is given.
use Rattle.std.specs.Prelude.{◌≡◌, Option, Some, None, Result, Ok, Err}
use Rattle.std.specs.Option.{option_or}
use Rattle.view_model.specs.Refusals.{PlainRefusal, plain_refusal}
use Rattle.view_model.specs.declared.fault.Fault.{Fault}
use Rattle.view_model.specs.declared.fault.Fault.TheVariants as fault

-- a result is a refusal exactly if there is a reason, or else a cycle, and then reports it; memory can run out only if
-- there is no reason
abbrev pub IsRefusedOrCyclic : {A : Type 0} → Option PlainRefusal → Option PlainRefusal → Result A Fault → Type 0
IsRefusedOrCyclic reason cycle (Ok answer) = option_or reason cycle ≡ None
IsRefusedOrCyclic reason cycle (Err (fault.Refused refusal)) = option_or reason cycle ≡ Some (plain_refusal refusal)
IsRefusedOrCyclic reason cycle (Err fault.NoMemory) = reason ≡ None
