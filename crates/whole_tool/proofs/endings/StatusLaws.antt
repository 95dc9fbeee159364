-- Which statuses a run may end with.
use Rattle.std.proofs.Common.{◌∷◌, [], arith, refl}
use Rattle.std.specs.Prelude.{Bool, true, false, Option, Result, Ok, Err, IfOk, ℕ, List}
use Rattle.std.specs.Io.KnownBytes.{IsAtEnd}
use Rattle.whole_tool.specs.declared.run.Stop.TheVariants as stop
use Rattle.whole_tool.specs.declared.script.End.{End}
use Rattle.whole_tool.specs.declared.script.End.TheVariants as end
use Rattle.tool_replies.specs.Endings.{IsComplete, IsOneOf}
use Rattle.whole_tool.specs.Tool.{status_of}
use Rattle.tool_replies.proofs.EndingLaws.{not_ended}

pub ends_known : (outcome : Result Bool End) → IsOneOf (status_of outcome) (0 ∷ 1 ∷ 3 ∷ 4 ∷ 5 ∷ 6 ∷ 7 ∷ [])
ends_known (Ok true) = refl
ends_known (Ok false) = refl
ends_known (Err end.Source) = refl
ends_known (Err end.Long) = refl
ends_known (Err (end.Stopped stop.Sink)) = refl
ends_known (Err (end.Stopped stop.NoMemory)) = refl
ends_known (Err (end.Stopped stop.Shelf)) = refl

-- a run that ended by itself has read its source to the end
pub ends_read : (outcome : Result Bool End) (left : Option (List ℕ)) → IfOk outcome (λ _. IsAtEnd left) → IsComplete (status_of outcome) → IsAtEnd left
ends_read (Ok refused) left read complete = read
ends_read (Err end.Source) left read complete = absurd (not_ended 3 (omega arith) complete)
ends_read (Err end.Long) left read complete = absurd (not_ended 7 (omega arith) complete)
ends_read (Err (end.Stopped stop.Sink)) left read complete = absurd (not_ended 4 (omega arith) complete)
ends_read (Err (end.Stopped stop.NoMemory)) left read complete = absurd (not_ended 5 (omega arith) complete)
ends_read (Err (end.Stopped stop.Shelf)) left read complete = absurd (not_ended 6 (omega arith) complete)
