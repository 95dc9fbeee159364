-- The result of an edit on a scene, or why it is refused.
use Rattle.std.specs.Prelude.{ℕ, ◌+◌, ℤ, Bool, false, if◌then◌else◌, List, [], Option, Some, None, Result, Ok, Err}
use Rattle.view_model.specs.Changes.{facts_after_act}
use Rattle.view_model.specs.declared.changes.Act.{Act}
use Rattle.view_model.specs.declared.class.Class.{Class}
use Rattle.view_model.specs.declared.refusal.Member.TheVariants as member
use Rattle.view_model.specs.Cycles.{first_cycle}
use Rattle.view_model.specs.Directed.{directed, rtl_at}
use Rattle.view_model.specs.Facets.{takes, touched_by}
use Rattle.view_model.specs.Facts.{new_facts}
use Rattle.view_model.specs.Forest.{Forest}
use Rattle.view_model.specs.Geometry.{Laid, without}
use Rattle.view_model.specs.Classes.{has_text}
use Rattle.view_model.specs.Growth.{grown_at, refusal_at}
use Rattle.view_model.specs.PlainTree.{PlainView, numbers_of, part_of, pruned, single, view_in, with_facts, with_text}
use Rattle.view_model.specs.Refusals.{PlainRefusal, refusal_numbered}
use Rattle.view_model.specs.Numbers.{wrong_class}
use Rattle.tree_edits.specs.Scene.{EditScene}

-- an edit that names views by their numbers
pub data NumberedEdit : Type 0 where
  Add : (parent : Option ℕ) (class : Class) (width height : ℤ) → NumberedEdit
  Remove : (view : ℕ) → NumberedEdit
  ActOn : (view : ℕ) (act : Act) → NumberedEdit
  SetText : (view : ℕ) (text : List ℕ) → NumberedEdit

-- the scene after an edit, with the number of the view that it made, or why it is refused
abbrev pub Outcome : Type 0
Outcome = Result (EditScene × Option ℕ) PlainRefusal

-- whether an act takes a view, and all below it, out of the geometry at once
abbrev pub hides : Act → Bool
hides act = (touched_by act).hides

-- whether an act sets the name by which a view is found, or the names by which it finds others
abbrev pub names_views : Act → Bool
names_views act = (touched_by act).names

-- whether an act sets a direction, which goes down the tree
abbrev pub turns : Act → Bool
turns act = (touched_by act).turns

-- the tree after an act on the view of this number
abbrev pub tree_after_act : ℕ → Act → Forest PlainView → Forest PlainView
tree_after_act number act tree =
    let changed = with_facts number (facts_after_act act) tree in
    if turns act then directed false changed else changed

-- the cycle that a tree would have once an act names views
abbrev pub cycle_of_act : Forest PlainView → ℕ → Act → Option PlainRefusal
cycle_of_act tree number act =
    if names_views act then first_cycle member.View (with_facts number (facts_after_act act) tree) else None

-- the geometry without a view and all below it
abbrev pub hidden : ℕ → EditScene → List Laid
hidden number scene = without (numbers_of (part_of number scene.tree)) scene.geometry

-- a new view: its facts are the default ones except for its dimensions, and its text is empty
abbrev pub new_view : ℕ → Class → ℤ → ℤ → PlainView
new_view number class width height =
    record { number = number; class = class; facts = new_facts width height; text = [] }

-- a view is added under the next number, unless there is a reason against it; it runs as its parent, and has no bounds
abbrev pub outcome_of_add : EditScene → Option ℕ → Class → ℤ → ℤ → Option PlainRefusal → Outcome
outcome_of_add scene parent class width height (Some refusal) = Err refusal
outcome_of_add scene parent class width height None =
    Ok (
      record scene {
        tree = grown_at parent
            (directed (rtl_at parent scene.tree) (single (new_view scene.next class width height))) scene.tree;
        next =
            scene.next + 1;
      },
      Some scene.next,
    )

-- a view and all below it are removed, with their bounds
abbrev pub outcome_of_remove : EditScene → ℕ → Outcome
outcome_of_remove scene number =
    Ok (record scene { tree = pruned number scene.tree; geometry = hidden number scene }, None)

-- the result of an act on a scene
abbrev pub after_act : EditScene → ℕ → Act → EditScene
after_act scene number act =
    record scene {
      tree = tree_after_act number act scene.tree;
      geometry = if hides act then hidden number scene else scene.geometry;
    }

-- an act that a view takes is done, unless there would be a cycle
abbrev pub outcome_unless : EditScene → ℕ → Act → Option PlainRefusal → Outcome
outcome_unless scene number act None = Ok (after_act scene number act, None)
outcome_unless scene number act (Some refusal) = Err refusal

-- an act on a view, by what is found under its number
abbrev pub outcome_of_act : EditScene → ℕ → Act → Option PlainView → Outcome
outcome_of_act scene number act None = Ok (scene, None)
outcome_of_act scene number act (Some view) =
    if takes view.class act then outcome_unless scene number act (cycle_of_act scene.tree number act)
    else Err (refusal_numbered wrong_class)

-- a text of a view, by what is found under its number
abbrev pub outcome_of_text : EditScene → ℕ → List ℕ → Option PlainView → Outcome
outcome_of_text scene number text None = Ok (scene, None)
outcome_of_text scene number text (Some view) =
    if has_text view.class then Ok (record scene { tree = with_text number text scene.tree }, None)
    else Err (refusal_numbered wrong_class)

-- the result of an edit of views that are there on a scene
abbrev pub outcome_of_edit : EditScene → NumberedEdit → Outcome
outcome_of_edit scene (Add parent class width height) =
    outcome_of_add scene parent class width height (refusal_at scene.tree parent)
outcome_of_edit scene (Remove number) = outcome_of_remove scene number
outcome_of_edit scene (ActOn number act) = outcome_of_act scene number act (view_in scene.tree number)
outcome_of_edit scene (SetText number text) = outcome_of_text scene number text (view_in scene.tree number)
