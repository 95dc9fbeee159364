-- What an edit leaves of the views at which it requests no layout.
use Rattle.std.proofs.Common.{◌≡◌, ℕ, Bool, true, false, refl, ◌∙◌, ap}
use Rattle.std.specs.Prelude.{◌==◌, if◌then◌else◌, not}
use Rattle.view_model.specs.Changes.{facts_after_act}
use Rattle.view_model.specs.declared.changes.Act.{Act}
use Rattle.view_tree.specs.Rows.{count_of_key, first_tree, part_from}
use Rattle.view_tree.specs.Views.{Held, IsLive, Views, facts_of, held_of}
use Rattle.tree_edits.specs.declared.edits.Edit.{Edit}
use Rattle.tree_edits.specs.declared.edits.Edit.TheVariants as edit
use Rattle.tree_edits.specs.Asking.{LeavesUnasked, asked_by, goes_out, is_in_part, is_on_paths}
use Rattle.tree_edits.specs.Editing.{hides}
use Rattle.tree_edits.specs.Hiding.{held_hiding, hidden_at}
use Rattle.tree_edits.specs.Keeping.{KeepsViews, held_acted, held_edited}
use Rattle.tree_edits.proofs.RequestLaws.{both_off, requested_off, requested_place}

-- what layout keeps of a view
record KeepsLayout (old new : Held) : Type 0 where
  pub state : new.state ≡ old.state
  pub cache : new.cache ≡ old.cache

-- an act keeps it if it hides nothing
hiding_off : (goes : Bool) (views : Views) (view key : ℕ) → (if goes then is_in_part view views.tree key else false) ≡ false → held_hiding goes views view key ≡ held_of views key
hiding_off false views view key off = refl
hiding_off true views view key off = by_test (count_of_key key (first_tree (part_from view views.tree)) == 0) off
  where
    by_test : (none : Bool) → not none ≡ false → (if none then held_of views key else hidden_at 1 (held_of views key)) ≡ held_of views key
    by_test true off = refl
    by_test false off = absurd (cc)

acted_layout : (views : Views) (view : ℕ) (act : Act) (key : ℕ) → KeepsLayout (held_hiding (hides act) views view key) (held_acted views view act key)
acted_layout views view act key = by_test (key == view) (held_hiding (hides act) views view key)
  where
    by_test : (own : Bool) (held : Held) → KeepsLayout held (if own then record held { offset = (facts_after_act act (facts_of views view)).offset } else held)
    by_test true held = record { state = refl; cache = refl }
    by_test false held = record { state = refl; cache = refl }

edited_layout : (views : Views) (edit : Edit) (key : ℕ) → goes_out views edit key ≡ false → KeepsLayout (held_of views key) (held_edited views edit key)
edited_layout views (edit.Add parent class width height) key off = record { state = refl; cache = refl }
edited_layout views (edit.Remove view) key off = record { state = refl; cache = refl }
edited_layout views (edit.Act view act) key off =
    let still = hiding_off (hides act) views view key off in
    let own = acted_layout views view act key in
    record { state = own.state ∙ ap (λ (h : Held). h.state) still; cache = own.cache ∙ ap (λ (h : Held). h.cache) still }
edited_layout views (edit.Text view text) key off = record { state = refl; cache = refl }

-- an edit leaves the views at which it requests no layout
pub leaves_unasked : (old new : Views) (edit : Edit) → KeepsViews old new edit → LeavesUnasked old new edit
leaves_unasked old new edit keeps key was now off =
    let both = both_off (is_on_paths (asked_by old edit) old.tree key) (goes_out old edit key) off in
    let still = keeps.stays key was now ∙ requested_off (held_edited old edit) (asked_by old edit) old.tree key both.0 in
    let kept = edited_layout old edit key both.1 in
    (ap (λ (h : Held). h.state) still ∙ kept.state, ap (λ (h : Held). h.cache) still ∙ kept.cache)

-- a view that stays keeps its bounds, unless the edit takes it out of layout
pub stays_bounds : (old new : Views) (edit : Edit) → KeepsViews old new edit → (key : ℕ) → IsLive old key → IsLive new key → goes_out old edit key ≡ false
    → (held_of new key).state.bounds ≡ (held_of old key).state.bounds
stays_bounds old new edit keeps key was now off =
    ap (λ (h : Held). h.state.bounds) (keeps.stays key was now)
    ∙ (requested_place (held_edited old edit) (asked_by old edit) old.tree key).bounds
    ∙ ap (λ state. state.bounds) (edited_layout old edit key off).state

-- and its offset is what the edit itself makes of it
pub stays_offset : (old new : Views) (edit : Edit) → KeepsViews old new edit → (key : ℕ) → IsLive old key → IsLive new key → (held_of new key).offset ≡ (held_edited old edit key).offset
stays_offset old new edit keeps key was now =
    ap (λ (h : Held). h.offset) (keeps.stays key was now) ∙ (requested_place (held_edited old edit) (asked_by old edit) old.tree key).offset
