-- The offsets of scroll views stay within the limits of saved ones.
use Rattle.std.proofs.Common.{◌≡◌, ℕ, suc, ◌+◌, ℤ, Bool, true, false, List, [], ◌∷◌, Option, Some, None, Result, Ok, Err, refl, sym, subst, arith, inl, inr}
use Rattle.std.proofs.lemmas.Bool.{cases_Bool}
use Rattle.std.proofs.lemmas.Int.{ints}
use Rattle.std.specs.Prelude.{chars, pos, ◌==◌, ◌≤ℤ◌, ◌-ℤ◌, OnErr, if◌then◌else◌}
use Rattle.std.specs.Option.{option_map}
use Rattle.geom_core.specs.Limits.{IsSide}
use Rattle.geom_core.proofs.Sides.{clamp_size-is_side}
use Rattle.geom_core.specs.declared.geometry.Rect.{Rect}
use Rattle.geom_core.specs.declared.geometry.Size.{Size}
use Rattle.saved_state.specs.Saving.{FitsOffset, OffsetsFit}
use Rattle.size_hooks.specs.Hook.{Hook}
use Rattle.size_hooks.specs.Hooks.{hook_of}
use Rattle.touch_dispatch.specs.reaching.TreeEvents.{OnlyScrolls}
use Rattle.traversal.specs.Changing.{IsFramed}
use Rattle.traversal.specs.Frames.{Pass, after_frame, after_pass, edited_by, edits_of, ended, fired_in, followed, spent}
use Rattle.traversal.specs.declared.outcome.Frame.{Frame}
use Rattle.script_lines.specs.reading.Changes.{IsActInBounds}
use Rattle.tree_edits.specs.Applied.{AppliesEdit, numbered}
use Rattle.view_model.specs.Classes.{has_text, scrolls}
use Rattle.tree_edits.specs.Editing.{cycle_of_act, hides, outcome_of_act, outcome_of_add, outcome_of_edit, outcome_of_text, outcome_unless, new_view, turns}
use Rattle.view_model.specs.Facets.{takes}
use Rattle.tree_edits.specs.Scene.{EditScene, scene_of}
use Rattle.tree_edits.specs.declared.edits.Edit.{Edit}
use Rattle.tree_edits.specs.declared.edits.Edit.TheVariants as edit
use Rattle.view_model.specs.declared.fault.Fault.{Fault}
use Rattle.view_model.specs.Changes.{facts_after_act, facts_after_change}
use Rattle.view_model.specs.Directed.{directed, rtl_at, running}
use Rattle.view_model.specs.Facets.{facet_of, row_of}
use Rattle.view_model.specs.Facts.{padding_down}
use Rattle.view_model.specs.Forest.{count_of, Forest, Nothing, Branch, changed_where, joined}
use Rattle.view_model.specs.Geometry.{Laid, rect_in, size_of_rect}
use Rattle.view_model.specs.Growth.{grown_at, refusal_at}
use Rattle.view_model.specs.Layout.{full_layout}
use Rattle.view_model.specs.Offsets.{brought, first_rect, range_by, ranged}
use Rattle.view_model.specs.PlainTree.{PlainView, pruned, single, view_in, with_facts}
use Rattle.view_model.specs.Refusals.{PlainRefusal}
use Rattle.view_model.specs.ScrollView.{offset_within, scroll_range}
use Rattle.view_model.specs.Sprouts.{Seed, numbered as numbered_seeds, view_of}
use Rattle.view_model.specs.declared.changes.Act.{Act}
use Rattle.view_model.specs.declared.changes.Act.TheVariants as act
use Rattle.view_model.specs.declared.changes.Change.{Change}
use Rattle.view_model.specs.declared.changes.Change.TheVariants as change
use Rattle.view_model.specs.declared.changes.Flag.TheVariants as flag
use Rattle.view_model.specs.declared.changes.NumEdit.{NumEdit}
use Rattle.view_model.specs.declared.facts.Facts.{Facts}
use Rattle.view_model.specs.declared.class.Class.{Class}
use Rattle.view_model.specs.declared.facets.Facet.{Facet}
use Rattle.view_model.specs.declared.facets.Facet.TheVariants as facet
use Rattle.view_tree.proofs.forest.ForestLaws.{every-edited, every-joined}
use Rattle.view_tree.specs.Rows.{Row}
use Rattle.view_tree.specs.Views.{Held, Views, held_of, number_of, plain_of, plain_rows}
use Rattle.world_parts.proofs.trees.DirectedLaws.{every-directed}
use Rattle.world_parts.specs.Inflating.{AreUnscrolled}
use Rattle.view_world.specs.saving.Offsets.{EditsWithin, FacetWithin, ScrollsWithin}

-- a view with another offset

side_fits : (view : PlainView) → IsSide view.facts.offset → FitsOffset view
side_fits view side moves = (side.low, side.high)

zero_fits : (view : PlainView) → view.facts.offset ≡ pos 0 → FitsOffset view
zero_fits view none = side_fits view (subst IsSide (sym none) (record { low = grind (arith, ints); high = grind (arith, ints) }))

-- the same offset in other facts
kept_fits : (view : PlainView) (facts : Facts) → facts.offset ≡ view.facts.offset → FitsOffset view → FitsOffset (record view { facts = facts })
kept_fits view facts same fits moves = rw same (fits moves)

-- what an event scrolls

rows_scrolled : (old new : ℕ → Held) → ((key : ℕ) → IsSide (old key).offset → IsSide (new key).offset) → (list : Forest Row) → OffsetsFit (plain_rows old list) → OffsetsFit (plain_rows new list)
rows_scrolled old new fits Nothing every = tt
rows_scrolled old new fits (Branch row kids siblings) every = (
  λ moves. (let both = every.0 moves in let side = fits row.key (record { low = both.0; high = both.1 }) in (side.low, side.high)),
  rows_scrolled old new fits kids every.1,
  rows_scrolled old new fits siblings every.2,
)

pub offsets_scrolled : (old new : Views) → OnlyScrolls old new → OffsetsFit (plain_of old) → OffsetsFit (plain_of new)
offsets_scrolled old new scrolls every =
    subst (λ (tree : Forest Row). OffsetsFit (plain_rows (held_of new) tree)) (sym scrolls.same.tree) (rows_scrolled (held_of old) (held_of new) scrolls.fits old.tree every)

-- what edits change

fits_changed : (passes : PlainView → Bool) (change : PlainView → PlainView) → ((view : PlainView) → FitsOffset view → FitsOffset (change view))
    → (tree : Forest PlainView) → OffsetsFit tree → OffsetsFit (changed_where passes change tree)
fits_changed passes change keeps tree every =
    every-edited FitsOffset passes (λ row below after. Branch (change row) below after) (λ row below after own kids later. (keeps row own, kids, later)) tree every

fits_pruned : (number : ℕ) (tree : Forest PlainView) → OffsetsFit tree → OffsetsFit (pruned number tree)
fits_pruned number tree every = every-edited FitsOffset _ (λ row below after. after) (λ row below after own kids later. later) tree every

fits_grown : (place : Option ℕ) (new tree : Forest PlainView) → OffsetsFit new → OffsetsFit tree → OffsetsFit (grown_at place new tree)
fits_grown None new tree added every = added
fits_grown (Some parent) new tree added every =
    every-edited FitsOffset _ (λ row below after. Branch row (joined below new) after)
    (λ row below after own kids later. (own, every-joined FitsOffset below new kids added, later)) tree every

pub offset_changed : (change : Change) (facts : Facts) → (facts_after_change change facts).offset ≡ facts.offset
offset_changed (change.Gravity true gravity) facts = refl
offset_changed (change.Gravity false gravity) facts = refl
offset_changed _ facts = refl

fits_acted : (act : Act) (view : PlainView) → ScrollsWithin act → FitsOffset view → FitsOffset (record view { facts = facts_after_act act view.facts })
fits_acted (act.Change change) view bounds fits = kept_fits view (facts_after_change change view.facts) (offset_changed change view.facts) fits
fits_acted (act.Flag flag.Clip on) view bounds fits = fits
fits_acted (act.Scroll offset) view bounds fits = λ moves. bounds
fits_acted _ view bounds fits = fits

abbrev Fits : Result (EditScene × Option ℕ) PlainRefusal → Type 0
Fits (Ok after) = OffsetsFit after.0.tree
Fits (Err refusal) = Unit {0}

fits_added : (scene : EditScene) (parent : Option ℕ) (class : Class) (width height : ℤ) (reason : Option PlainRefusal) → OffsetsFit scene.tree → Fits (outcome_of_add scene parent class width height reason)
fits_added scene parent class width height (Some refusal) every = tt
fits_added scene parent class width height None every =
    let view = running (rtl_at parent scene.tree) (new_view scene.next class width height) in
    fits_grown parent (single view) scene.tree (zero_fits view refl, tt, tt) every

-- a direction that goes down a tree scrolls nothing
fits_spread : (act : Act) (tree : Forest PlainView) → OffsetsFit tree → OffsetsFit (if turns act then directed false tree else tree)
fits_spread act tree every = by (turns act)
  where
    by : (t : Bool) → OffsetsFit (if t then directed false tree else tree)
    by true = every-directed FitsOffset (λ rtl view fits. fits) false tree every
    by false = every

fits_unless : (scene : EditScene) (number : ℕ) (act : Act) (reason : Option PlainRefusal) → ScrollsWithin act → OffsetsFit scene.tree → Fits (outcome_unless scene number act reason)
fits_unless scene number act (Some refusal) within every = tt
fits_unless scene number act None within every =
    fits_spread act (with_facts number (facts_after_act act) scene.tree)
    (fits_changed (λ (view : PlainView). view.number == number) (λ (view : PlainView). record view { facts = facts_after_act act view.facts })
    (λ view fits. fits_acted act view within fits) scene.tree every)

fits_act : (scene : EditScene) (number : ℕ) (act : Act) (found : Option PlainView) → ScrollsWithin act → OffsetsFit scene.tree → Fits (outcome_of_act scene number act found)
fits_act scene number act None within every = every
fits_act scene number act (Some view) within every = elim (cases_Bool (takes view.class act)) [
  | inl e ↦ rw e (fits_unless scene number act (cycle_of_act scene.tree number act) within every)
  | inr e ↦ rw e tt
]

fits_text : (scene : EditScene) (number : ℕ) (text : List ℕ) (found : Option PlainView) → OffsetsFit scene.tree → Fits (outcome_of_text scene number text found)
fits_text scene number text None every = every
fits_text scene number text (Some view) every = elim (cases_Bool (has_text view.class)) [
  | inl e ↦ rw e (fits_changed (λ (view : PlainView). view.number == number) (λ (view : PlainView). record view { text = text }) (λ view fits. fits) scene.tree every)
  | inr e ↦ rw e tt
]

fits_edited : (views : Views) (edit : Edit) → EditsWithin edit → OffsetsFit (plain_of views) → Fits (outcome_of_edit (scene_of views) (numbered views edit))
fits_edited views (edit.Add parent class width height) within every =
    let place = option_map (number_of views) parent in
    fits_added (scene_of views) place class width height (refusal_at (plain_of views) place) every
fits_edited views (edit.Remove view) within every = fits_pruned (number_of views view) (plain_of views) every
fits_edited views (edit.Act view act) within every = fits_act (scene_of views) (number_of views view) act (view_in (plain_of views) (number_of views view)) within every
fits_edited views (edit.Text view text) within every = fits_text (scene_of views) (number_of views view) (chars text.now) (view_in (plain_of views) (number_of views view)) every

-- an act of a line scrolls within the limits, and one that hides a view does not scroll
pub bounds_within : (act : Act) → IsActInBounds act → ScrollsWithin act
bounds_within (act.Scroll offset) bounds = bounds
bounds_within _ bounds = tt

pub hides_within : (act : Act) → hides act ≡ true → ScrollsWithin act
hides_within act hidden = still (facet_of act) hidden
  where
    still : (facet : Facet) → (row_of facet).hides ≡ true → FacetWithin facet
    still (facet.Scrolled offset) hidden = absurd (cc)
    still _ hidden = tt

-- an edit was made, or was not
pub offsets_edited : (old new : Views) (edit : Edit) (result : Result (Option ℕ) Fault) → EditsWithin edit
    → AppliesEdit (outcome_of_edit (scene_of old) (numbered old edit)) (scene_of new) result → OnErr result (new ≡ old)
    → OffsetsFit (plain_of old) → OffsetsFit (plain_of new)
offsets_edited old new edit (Ok number) within applied same every = subst Fits applied (fits_edited old edit within every)
offsets_edited old new edit (Err fault) within applied same every = subst (λ (views : Views). OffsetsFit (plain_of views)) (sym same) every

-- what a frame brings into range

range_side : (own : Facts) (room : Size) (child : Option Size) → IsSide (scroll_range own room child)
range_side own room None = record { low = grind (arith, ints); high = grind (arith, ints) }
range_side own room (Some child) = clamp_size-is_side (child.h -ℤ (room.h -ℤ padding_down own))

within_side : (range offset : ℤ) → IsSide range → IsSide (offset_within range offset)
unfolding offset_within
within_side range offset side = let low = side.low in let high = side.high in record { low = grind (arith, ints); high = grind (arith, ints) }

brought_side : (own : Facts) (rect child : Option Rect) (offset : ℤ) → IsSide offset → IsSide (brought (option_map (λ (rect : Rect). scroll_range own (size_of_rect rect) (option_map size_of_rect child)) rect) offset)
brought_side own None child offset side = side
brought_side own (Some rect) child offset side = within_side (scroll_range own (size_of_rect rect) (option_map size_of_rect child)) offset (range_side own (size_of_rect rect) (option_map size_of_rect child))

fits_brought : (class : Class) (own : Facts) (rect child : Option Rect) (offset : ℤ) → (scrolls class ≡ true → (pos 0 ≤ℤ offset) × (offset ≤ℤ pos 16777215))
    → scrolls class ≡ true → (pos 0 ≤ℤ brought (range_by class own rect child) offset) × (brought (range_by class own rect child) offset ≤ℤ pos 16777215)
fits_brought class own rect child offset fits moves =
    let both = fits moves in
    let side = brought_side own rect child offset (record { low = both.0; high = both.1 }) in
    rw moves (side.low, side.high)

pub offsets_ranged : (geometry : List Laid) (tree : Forest PlainView) → OffsetsFit tree → OffsetsFit (ranged geometry tree)
offsets_ranged geometry Nothing every = tt
offsets_ranged geometry (Branch view below after) every = (
  fits_brought view.class view.facts (rect_in geometry view.number) (first_rect geometry below) view.facts.offset every.0,
  offsets_ranged geometry below every.1,
  offsets_ranged geometry after every.2,
)

fits_hooked : (edits : List NumEdit) (tree : Forest PlainView) → OffsetsFit tree → OffsetsFit (edited_by edits tree)
fits_hooked [] tree every = every
fits_hooked (edit ∷ edits) tree every =
    fits_hooked edits (with_facts edit.view (facts_after_change edit.change) tree)
    (fits_changed (λ (view : PlainView). view.number == edit.view) (λ (view : PlainView). record view { facts = facts_after_change edit.change view.facts })
    (λ view fits. kept_fits view (facts_after_change edit.change view.facts) (offset_changed edit.change view.facts) fits) tree every)

fits_spent : (tree : Forest PlainView) (hooks : List Hook) (geometry : List Laid) (fired : Option ℕ) → OffsetsFit tree → OffsetsFit (spent tree hooks geometry fired).tree
fits_spent tree hooks geometry None every = every
fits_spent tree hooks geometry (Some view) every = fits_hooked (edits_of (hook_of hooks view)) tree every

fits_passed : (tree : Forest PlainView) (hooks : List Hook) (window : Size) → OffsetsFit tree → OffsetsFit (after_pass tree hooks window).tree
fits_passed tree hooks window every =
    let geometry = full_layout tree window in
    fits_spent (ranged geometry tree) hooks geometry (fired_in hooks geometry) (offsets_ranged geometry tree every)

fits_ended : (before : ℕ) (pass : Pass) → OffsetsFit pass.tree → OffsetsFit (ended before pass).tree
fits_ended before pass every = elim (cases_Bool pass.fired) [
  | inl e ↦ rw e every
  | inr e ↦ rw e every
]

fits_followed : (window : Size) (pass : Pass) → OffsetsFit pass.tree → OffsetsFit (followed window pass).tree
fits_followed window pass every = elim (cases_Bool pass.fired) [
  | inl e ↦ rw e (fits_ended 1 (after_pass pass.tree pass.hooks window) (fits_passed pass.tree pass.hooks window every))
  | inr e ↦ rw e every
]

-- a frame was made
pub offsets_framed : (old new : Views) (before hooks : List Hook) (window : Size) (frame : Frame) → IsFramed (after_frame (plain_of old) before window) new hooks frame
    → OffsetsFit (plain_of old) → OffsetsFit (plain_of new)
offsets_framed old new before hooks window frame framed every =
    subst OffsetsFit (sym framed.plain) (fits_followed window (after_pass (plain_of old) before window) (fits_passed (plain_of old) before window every))

-- the views of a file

fits_seeds : (number : ℕ) (seeds : Forest Seed) → AreUnscrolled seeds → OffsetsFit (numbered_seeds number seeds)
fits_seeds number Nothing every = tt
fits_seeds number (Branch seed below after) every = (
  zero_fits (view_of number seed) every.0,
  fits_seeds (suc number) below every.1,
  fits_seeds (suc number + count_of below) after every.2,
)

-- views that are not scrolled were added, under the next numbers
pub offsets_grafted : (old new : Views) (place : Option ℕ) (number : ℕ) (seeds : Forest Seed) → plain_of new ≡ grown_at place (directed (rtl_at place (plain_of old)) (numbered_seeds number seeds)) (plain_of old)
    → AreUnscrolled seeds → OffsetsFit (plain_of old) → OffsetsFit (plain_of new)
offsets_grafted old new place number seeds is unscrolled every =
    let rtl = rtl_at place (plain_of old) in
    let views = numbered_seeds number seeds in
    subst OffsetsFit (sym is)
    (fits_grown place (directed rtl views) (plain_of old) (every-directed FitsOffset (λ rtl view fits. fits) rtl views (fits_seeds number seeds unscrolled)) every)
