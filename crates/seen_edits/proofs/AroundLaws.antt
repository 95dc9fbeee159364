-- What is seen of a view once an edit has changed it: no more than before.
use Rattle.std.proofs.Common.{◌≡◌, ℕ, ℤ, Bool, true, false, List, [], ◌∷◌, None, refl, ap, ◌∙◌, inl, inr, ◌⊎◌}
use Rattle.std.specs.Prelude.{◌==◌, if◌then◌else◌, chars}
use Rattle.geom_core.specs.Rects.{holds}
use Rattle.geom_core.specs.declared.geometry.Size.{Size}
use Rattle.seen_edits.proofs.BesideLaws.{around_spread, around_still}
use Rattle.seen_edits.proofs.StillLaws.{AreStill}
use Rattle.seen_edits.specs.Shown.{IsChange, edited, seen_of}
use Rattle.seen_parts.proofs.MeetingLaws.{nowhere_unseen}
use Rattle.seen_parts.specs.Meeting.{canvas_around}
use Rattle.tree_edits.specs.Asking.{acted_view, asked_by}
use Rattle.tree_edits.specs.Editing.{hides}
use Rattle.tree_edits.specs.Hiding.{gone_one, held_hiding}
use Rattle.tree_edits.specs.Keeping.{KeepsViews, held_acted, held_edited}
use Rattle.tree_edits.specs.declared.edits.Edit.{Edit}
use Rattle.tree_edits.specs.declared.edits.Edit.TheVariants as edit
use Rattle.view_model.specs.Changes.{facts_after_act}
use Rattle.view_model.specs.Forest.{Forest}
use Rattle.view_model.specs.Visible.{Canvas, whole_window}
use Rattle.view_model.specs.declared.changes.Act.{Act}
use Rattle.view_tree.specs.tree.Requests.{among, asking, forced_one, pressed, requested}
use Rattle.view_tree.specs.Rows.{Row, count_of_key, first_tree, part_from, pruned_at_key}
use Rattle.view_tree.specs.Views.{Held, IsLive, IsTree, Views, facts_of, held_of}

-- requests for layout leave the bounds of views
bounds_requested : (held : ℕ → Held) (views : List ℕ) (tree : Forest Row) (key : ℕ) → (requested held views tree key).state.bounds ≡ (held key).state.bounds
bounds_requested held [] tree key = refl
bounds_requested held (view ∷ more) tree key =
    bounds_requested (pressed held (asking held view tree)) more tree key ∙ by (among key (asking held view tree))
  where
    by : (forced : Bool) → (if forced then forced_one (held key) else held key).state.bounds ≡ (held key).state.bounds
    by true = refl
    by false = refl

-- a view has the bounds that it had, or none
abbrev StaysOrGoes : Held → Held → Type 0
StaysOrGoes old new = (new.state.bounds ≡ old.state.bounds) ⊎ (new.state.bounds ≡ None)

hiding_bounds : (goes : Bool) (views : Views) (view key : ℕ) → StaysOrGoes (held_of views key) (held_hiding goes views view key)
hiding_bounds false views view key = inl refl
hiding_bounds true views view key = by (count_of_key key (first_tree (part_from view views.tree)) == 0)
  where
    by : (none : Bool) → StaysOrGoes (held_of views key) (if none then held_of views key else gone_one (held_of views key))
    by true = inl refl
    by false = inr refl

acted_bounds : (views : Views) (view : ℕ) (act : Act) (key : ℕ) → (held_acted views view act key).state.bounds ≡ (held_hiding (hides act) views view key).state.bounds
acted_bounds views view act key = by (key == view) (held_hiding (hides act) views view key)
  where
    by : (own : Bool) (held : Held) → (if own then record held { offset = (facts_after_act act (facts_of views view)).offset } else held).state.bounds ≡ held.state.bounds
    by true held = refl
    by false held = refl

edited_bounds : (views : Views) (e : Edit) → IsChange e → (key : ℕ) → StaysOrGoes (held_of views key) (held_edited views e key)
edited_bounds views (edit.Add parent class width height) is key = absurd is
edited_bounds views (edit.Remove view) is key = absurd is
edited_bounds views (edit.Text view text) is key = inl refl
edited_bounds views (edit.Act view act) is key = elim (hiding_bounds (hides act) views view key) [
  | inl same ↦ inl (acted_bounds views view act key ∙ same)
  | inr none ↦ inr (acted_bounds views view act key ∙ none)
]

-- an edit moves no view except out of layout
stays_or_goes : (old new : Views) (e : Edit) → IsChange e → KeepsViews old new e → (key : ℕ) → IsLive old key → IsLive new key → StaysOrGoes (held_of old key) (held_of new key)
stays_or_goes old new e is keeps key was now =
    let kept = ap (λ (h : Held). h.state.bounds) (keeps.stays key was now) ∙ bounds_requested (held_edited old e) (asked_by old e) old.tree key in
    elim (edited_bounds old e is key) [
      | inl same ↦ inl (kept ∙ same)
      | inr none ↦ inr (kept ∙ none)
    ]

around_edited : (canvas : Canvas) (old new : Views) (e : Edit) → IsChange e → IsTree old → KeepsViews old new e → AreStill (held_of old) (held_of new) (pruned_at_key (edited e) old.tree)
    → canvas_around (held_of new) canvas (edited e) new.tree ≡ canvas_around (held_of old) canvas (edited e) old.tree
around_edited canvas old new (edit.Add parent class width height) is was keeps still = absurd is
around_edited canvas old new (edit.Remove view) is was keeps still = absurd is
around_edited canvas old new (edit.Act view act) is was keeps still =
    ap (canvas_around (held_of new) canvas view) keeps.tree ∙ around_spread (held_of old) (held_of new) canvas view act (acted_view act) old.tree was.directed still
around_edited canvas old new (edit.Text view text) is was keeps still =
    ap (canvas_around (held_of new) canvas view) keeps.tree ∙ around_still (held_of old) (held_of new) canvas view (λ v. record v { text = chars text.now }) old.tree still

-- of the view of an edit no more is seen than before
pub seen_less : (window : Size) (old new : Views) (e : Edit) → IsChange e → IsTree old → KeepsViews old new e → IsLive old (edited e) → IsLive new (edited e)
    → AreStill (held_of old) (held_of new) (pruned_at_key (edited e) old.tree) → (x y : ℤ)
    → holds (seen_of window old (edited e)) x y ≡ false → holds (seen_of window new (edited e)) x y ≡ false
seen_less window old new e is was keeps live now still x y unseen =
    let around = around_edited (whole_window window) old new e is was keeps still in
    elim (stays_or_goes old new e is keeps (edited e) live now) [
      | inl same ↦ rw (around, same) unseen
      | inr none ↦ rw none (nowhere_unseen (canvas_around (held_of new) (whole_window window) (edited e) new.tree) x y)
    ]
