-- How a refusal is reported.
use Rattle.std.specs.Prelude.{ℕ, List, [], Bool, if◌then◌else◌, codes, decimal}
use Rattle.text_lines.specs.Joined.{◌⧺◌, texts_of}
use Rattle.view_model.specs.declared.refusal.Member.{Member}
use Rattle.view_model.specs.declared.refusal.Member.TheVariants as member
use Rattle.view_model.specs.Refusals.{Reason, NoDetail, AtPlace, Element, Cycle, PlainRefusal}
use Rattle.tool_replies.specs.Names.{refusal_name}

-- the number and the name of a refusal
unfoldable pub refused_text : ℕ → List ℕ
refused_text number = codes "refused " ⧺ decimal number ⧺ codes " " ⧺ refusal_name number

-- a member of a cycle: a view, or an element of a file
unfoldable pub member_text : Member → List ℕ
member_text (member.View number) = codes " v" ⧺ decimal number
member_text (member.Element number) = codes " e" ⧺ decimal number

abbrev pub axis_text : Bool → List ℕ
axis_text down = if down then codes " vertical" else codes " horizontal"

-- what is reported of a refusal after its name
abbrev pub reason_text : Reason → List ℕ
reason_text NoDetail = []
reason_text (AtPlace at) = codes " at " ⧺ decimal at
reason_text (Element number) = codes " element " ⧺ decimal number
reason_text (Cycle down members) = axis_text down ⧺ texts_of member_text members

-- the line that reports a refusal, by the number of the refused line, counted from 1
unfoldable pub refused_line : ℕ → PlainRefusal → List ℕ
refused_line line refusal =
    codes "line " ⧺ decimal line ⧺ codes ": " ⧺ refused_text refusal.number ⧺ reason_text refusal.reason ⧺ codes "\n"
