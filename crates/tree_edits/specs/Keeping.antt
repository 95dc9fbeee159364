-- What an edit leaves of the views of a tree of the code, key by key.
use Rattle.std.specs.Prelude.{◌≡◌, ℕ, ◌+◌, ◌==◌, false, None, if◌then◌else◌, chars}
use Rattle.view_model.specs.Changes.{facts_after_act}
use Rattle.view_model.specs.declared.changes.Act.{Act}
use Rattle.view_model.specs.Forest.{Forest}
use Rattle.view_tree.specs.tree.Directions.{directed_rows, running_below}
use Rattle.view_tree.specs.tree.Requests.{requested}
use Rattle.view_tree.specs.Rows.{Row, pruned_at_key, leaf, changed_at_key, count_of_key, with_child}
use Rattle.view_tree.specs.Views.{Held, IsLive, Views, facts_of, held_of, held_or}
use Rattle.tree_edits.specs.declared.edits.Edit.{Edit}
use Rattle.tree_edits.specs.declared.edits.Edit.TheVariants as edit
use Rattle.tree_edits.specs.Asking.{acted_view, asked_by}
use Rattle.tree_edits.specs.Editing.{hides, new_view, turns}
use Rattle.tree_edits.specs.Hiding.{held_hiding}

-- a direction that an act sets goes down the tree
abbrev pub spread : Act → Forest Row → Forest Row
spread act tree = if turns act then directed_rows false tree else tree

-- the keyed views after an edit; a new view is added under the key `fresh`
abbrev pub tree_after : Views → Edit → ℕ → Forest Row
tree_after views (edit.Add parent class width height) fresh =
    with_child parent (leaf fresh (running_below parent views.tree (new_view views.next class width height))) views.tree
tree_after views (edit.Remove view) fresh = pruned_at_key view views.tree
tree_after views (edit.Act view act) fresh = spread act (changed_at_key view (acted_view act) views.tree)
tree_after views (edit.Text view text) fresh = changed_at_key view (λ v. record v { text = chars text.now }) views.tree

-- the number of the view that is made next after an edit
abbrev pub next_after : Views → Edit → ℕ
next_after views (edit.Add parent class width height) = views.next + 1
next_after views (edit.Remove view) = views.next
next_after views (edit.Act view act) = views.next
next_after views (edit.Text view text) = views.next

-- what is kept under a key after an act on a view, before the request for layout: what it hides is out of layout; the
-- view's offset is that of its facts
abbrev pub held_acted : Views → ℕ → Act → ℕ → Held
held_acted views view act key =
    let held = held_hiding (hides act) views view key in
    if key == view then record held { offset = (facts_after_act act (facts_of views view)).offset } else held

-- what is kept under the key of a view that an edit leaves in the tree, before the request for layout
abbrev pub held_edited : Views → Edit → ℕ → Held
held_edited views (edit.Add parent class width height) = held_of views
held_edited views (edit.Remove view) = held_of views
held_edited views (edit.Act view act) = held_acted views view act
held_edited views (edit.Text view text) = held_of views

-- and after it
abbrev pub held_after : Views → Edit → ℕ → Held
held_after views edit = requested (held_edited views edit) (asked_by views edit) views.tree

-- Each view that stays keeps its key and what is kept of it, except what the edit hides or scrolls and where it
-- requests layout. A new view is added under a key that was free, and nothing was kept of it before.
pub record KeepsViews (old new : Views) (edit : Edit) : Type 0 where
  pub fresh : ℕ
  pub unused : count_of_key fresh old.tree ≡ 0
  pub tree : new.tree ≡ tree_after old edit fresh
  pub next : new.next ≡ next_after old edit
  pub stays : (key : ℕ) → IsLive old key → IsLive new key → held_of new key ≡ held_after old edit key
  pub made : IsLive new fresh → held_of new fresh ≡ held_or None
