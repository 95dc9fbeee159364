-- What comes of a line: the world after it and its text, or why it is refused.
use Rattle.std.specs.Prelude.{ℕ, List, Option, None, Some}
use Rattle.line_words.specs.declared.words.naming.Name.{Name}
use Rattle.view_model.specs.Forest.{Forest, Nothing, Branch}
use Rattle.view_model.specs.Numbers.{no_root, no_view}
use Rattle.view_model.specs.PlainTree.{PlainView}
use Rattle.view_model.specs.Refusals.{PlainRefusal, refusal_numbered}
use Rattle.world_parts.specs.Naming.{named}
use Rattle.world_parts.specs.World.{World}

-- the world after a command and the text that is written, or why the command is refused
pub data Reply : Type 0 where
  Done : (world : World) (text : List ℕ) → Reply
  Refused : (refusal : PlainRefusal) → Reply

-- what is done with the view that a name means, if there is one
abbrev pub with_named : Option ℕ → (ℕ → Reply) → Reply
with_named None next = Refused (refusal_numbered no_view)
with_named (Some number) next = next number

-- what is done with a view that a line names
abbrev pub on_view : Forest PlainView → Name → (ℕ → Reply) → Reply
on_view Nothing name next = Refused (refusal_numbered no_root)
on_view (Branch root below after) name next = with_named (named (Branch root below after) name) next
