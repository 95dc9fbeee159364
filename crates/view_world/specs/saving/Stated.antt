-- How states are read and restored in lines.
use Rattle.std.specs.Prelude.{◌≡◌, ℕ, Bool, true, false, List, Result, Ok, Err}
use Rattle.saved_state.specs.State.{StateEntry}
use Rattle.view_model.specs.Refusals.{AtPlace, plain_refusal, refusal_numbered}
use Rattle.view_model.specs.Numbers.{bad_state, state_class}
use Rattle.world_parts.specs.declared.fault.StepFault.{StepFault}
use Rattle.world_parts.specs.declared.fault.StepFault.TheVariants as fault
use Rattle.world_replies.specs.declared.response.Response.{Response}
use Rattle.world_replies.specs.declared.response.Response.TheVariants as response

-- the state was read that is defined, or its first wrong place is reported
abbrev pub ReadsState : Result (List StateEntry) ℕ → Result (List StateEntry) StepFault → Type 0
ReadsState decoded (Ok states) = decoded ≡ Ok states
ReadsState decoded (Err (fault.Refused refusal)) =
    (place : ℕ) × (decoded ≡ Err place)
    × (plain_refusal refusal ≡ record { number = bad_state; reason = AtPlace place })
ReadsState decoded (Err fault.NoMemory) = Unit {0}
ReadsState decoded (Err fault.Sink) = ⊥
ReadsState decoded (Err fault.Shelf) = ⊥

-- a state is taken up, without a reply, unless it is for views of other classes; only if it is not, memory may run out
abbrev pub TakesUp : Bool → Result Response StepFault → Type 0
TakesUp other (Ok reported) = (other ≡ false) × (reported ≡ response.Nothing)
TakesUp other (Err (fault.Refused refusal)) = (other ≡ true) × (plain_refusal refusal ≡ refusal_numbered state_class)
TakesUp other (Err fault.NoMemory) = other ≡ false
TakesUp other (Err fault.Sink) = ⊥
TakesUp other (Err fault.Shelf) = ⊥
