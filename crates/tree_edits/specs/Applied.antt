-- How an edit was applied to a tree of the code.
use Rattle.std.specs.Prelude.{◌≡◌, ℕ, ◌^◌, ◌<◌, true, chars, length, Option, Some, None, Result, Ok, Err}
use Rattle.std.specs.Option.{option_map}
use Rattle.view_model.specs.declared.changes.Act.{Act}
use Rattle.view_model.specs.declared.facets.Facet.{Facet}
use Rattle.view_model.specs.declared.facets.Facet.TheVariants as facet
use Rattle.view_model.specs.Facets.{facet_of}
use Rattle.view_model.specs.Numbers.{cycle, numbers_end}
use Rattle.view_model.specs.Forest.{Nothing}
use Rattle.view_model.specs.Refusals.{plain_refusal}
use Rattle.view_model.specs.Verbs.{verb_count}
use Rattle.view_model.specs.declared.fault.Fault.{Fault}
use Rattle.view_tree.specs.Views.{Views, IsLive, number_of}
use Rattle.tree_edits.specs.declared.edits.Edit.{Edit}
use Rattle.tree_edits.specs.declared.edits.Edit.TheVariants as edit
use Rattle.view_model.specs.declared.fault.Fault.TheVariants as fault
use Rattle.tree_edits.specs.Editing.{NumberedEdit, Add, Remove, ActOn, SetText, Outcome, names_views}
use Rattle.tree_edits.specs.Scene.{EditScene}

-- an edit with the numbers of the views in place of their keys, and with the characters of its text
abbrev pub numbered : Views → Edit → NumberedEdit
numbered views (edit.Add parent class width height) = Add (option_map (number_of views) parent) class width height
numbered views (edit.Remove view) = Remove (number_of views view)
numbered views (edit.Act view act) = ActOn (number_of views view) act
numbered views (edit.Text view text) = SetText (number_of views view) (chars text.now)

-- a root is added only if there is none
abbrev pub IsAddable : Views → Option ℕ → Type 0
IsAddable views None = (views.tree ≡ Nothing) × (views.next < numbers_end)
IsAddable views (Some parent) = IsLive views parent × (views.next < numbers_end)

-- a rule that is set is one of those that there are
abbrev pub FacetIsVerb : Facet → Type 0
FacetIsVerb (facet.Set reach) = Unit {0}
FacetIsVerb (facet.Visible hides) = Unit {0}
FacetIsVerb (facet.Scrolled offset) = Unit {0}
FacetIsVerb facet.Turned = Unit {0}
FacetIsVerb facet.Named = Unit {0}
FacetIsVerb (facet.Tied verb) = verb < verb_count

abbrev pub IsVerb : Act → Type 0
IsVerb act = FacetIsVerb (facet_of act)

-- the views of an edit are there, and its numbers are within their limits
abbrev pub IsEdit : Views → Edit → Type 0
IsEdit views (edit.Add parent class width height) = IsAddable views parent
IsEdit views (edit.Remove view) = IsLive views view
IsEdit views (edit.Act view act) = IsLive views view × IsVerb act
IsEdit views (edit.Text view text) = IsLive views view × (length text.now < 2 ^ 31)

-- an edit that may be out of memory: a new view, a text, an id or a rule
abbrev pub MayWantMemory : Edit → Type 0
MayWantMemory (edit.Add parent class width height) = Unit {0}
MayWantMemory (edit.Remove view) = ⊥
MayWantMemory (edit.Act view act) = names_views act ≡ true
MayWantMemory (edit.Text view text) = Unit {0}

-- an edit that is not refused, or only for a cycle
abbrev pub IsDoneOrCyclic : Outcome → Type 0
IsDoneOrCyclic (Ok outcome) = Unit {0}
IsDoneOrCyclic (Err refusal) = refusal.number ≡ cycle

-- The result is the outcome: the scene and the number of the new view, or the refusal. An edit may run out of memory if
-- there is no refusal, or only that of a cycle, since memory is taken before a cycle is known.
abbrev pub AppliesEdit : Outcome → EditScene → Result (Option ℕ) Fault → Type 0
AppliesEdit outcome after (Ok number) = outcome ≡ Ok (after, number)
AppliesEdit outcome after (Err (fault.Refused refusal)) = outcome ≡ Err (plain_refusal refusal)
AppliesEdit outcome after (Err fault.NoMemory) = IsDoneOrCyclic outcome
