-- What an edit of a screen keeps: if it requests no layout, what rested still does.
use Rattle.std.proofs.Common.{◌≡◌, ◌≢◌, ℕ, ◌<◌, Bool, true, false, List, [], ◌∷◌, Option, Some, None, Result, Ok, Err, refl, sym, ◌∙◌, ap, subst, arith, inl, inr}
use Rattle.std.proofs.lemmas.Bool.{cases_Bool}
use Rattle.std.specs.Prelude.{◌==◌, ◌&&◌, ◌||◌, not, if◌then◌else◌, chars, OnOk}
use Rattle.damage_rect.specs.Within.{LiesIn}
use Rattle.geom_core.specs.declared.geometry.Size.{Size}
use Rattle.pixel_raster.specs.Raster.{size_of}
use Rattle.tree_edits.proofs.FactLaws.{quiet_act}
use Rattle.tree_edits.proofs.SpreadLaws.{count_of_key-spread, unspread}
use Rattle.seen_edits.specs.Shown.{GrowsWithin, IsChange, act_is_unseen, edited, is_unseen, seen_of}
use Rattle.touch_dispatch.specs.reaching.TreeEvents.{OnlyScrolls}
use Rattle.traversal.specs.Frames.{fired_in}
use Rattle.geom_core.specs.declared.geometry.Rect.{Rect}
use Rattle.tree_edits.specs.Applied.{AppliesEdit, IsEdit, numbered}
use Rattle.tree_edits.specs.Asking.{LeavesUnasked as EditLeaves, acted_view, requests_layout}
use Rattle.tree_edits.specs.Editing.{Outcome, ActOn, cycle_of_act, hides, outcome_of_act, outcome_of_edit, outcome_unless}
use Rattle.view_model.specs.Facets.{takes}
use Rattle.tree_edits.specs.Keeping.{KeepsViews, spread}
use Rattle.tree_edits.specs.Scene.{EditScene, scene_of as edited_of}
use Rattle.tree_edits.specs.declared.edits.Edit.{Edit}
use Rattle.tree_edits.specs.declared.edits.Edit.TheVariants as edit
use Rattle.view_model.specs.declared.fault.Fault.{Fault}
use Rattle.view_model.specs.Changes.{facts_after_act}
use Rattle.view_model.proofs.FacetLaws.{hidden_asks, quiet_stays, quiet_turns}
use Rattle.view_model.specs.Facets.{facet_of, touched_by}
use Rattle.view_model.specs.Facts.{is_shown, unscrolled_facts}
use Rattle.view_model.specs.Forest.{Forest, Nothing, Branch}
use Rattle.view_model.specs.Geometry.{Laid}
use Rattle.view_model.specs.Layout.{root_specs}
use Rattle.view_model.specs.PlainTree.{PlainView, view_in}
use Rattle.view_model.specs.Refusals.{PlainRefusal}
use Rattle.view_model.specs.declared.changes.Act.{Act}
use Rattle.view_model.specs.declared.facts.Facts.{Facts}
use Rattle.view_tree.proofs.forest.KeyLaws.{times_self}
use Rattle.view_tree.proofs.forest.NumberLaws.{count_of_key-put}
use Rattle.view_tree.specs.Rows.{Row, changed_at_key, count_of_key, first_key, head_view, part_from}
use Rattle.view_tree.specs.Views.{IsLive, IsTree, Views, geometry_of, number_of, plain_of}
use Rattle.view_world.proofs.frames.AskedLaws.{leaves_edit}
use Rattle.view_world.proofs.touches.EditedCaught.{number-spread}
use Rattle.view_world.proofs.edits.LeaveLaws.{scrolls_none}
use Rattle.view_world.proofs.frames.RestLaws.{rest_along}
use Rattle.view_world.proofs.frames.SeenLaws.{among_first, number_changed, seen_named}
use Rattle.view_world.specs.screen.KeyedScreen.{KeyedScreen}
use Rattle.view_world.specs.world.Marks.{effect_by, effect_of_act, effect_of_edit, leaves_layout}
use Rattle.view_world.specs.frames.Resting.{AreSeenIn, IsResting, KeepsEdit, seen_on}
use Rattle.view_world.specs.frames.Seen.{act_paints, edited_by_act, numbers_edited}
use Rattle.view_world.specs.declared.world.marks.Effect.TheVariants.{Asks, Opens, Touches}

-- an act that requests no layout leaves what layout reads of a root

pub record SameSides (old new : Facts) : Type 0 where
  pub shown : is_shown new ≡ is_shown old
  pub specs : (window : Size) → root_specs window new ≡ root_specs window old

quiet_sides : (act : Act) (facts : Facts) → requests_layout act ≡ false → SameSides facts (unscrolled_facts (facts_after_act act facts))
quiet_sides act facts quiet =
    let kept = quiet_act act facts quiet in
    record {
      shown = ap is_shown kept.layout;
      specs = λ window. ap (root_specs window) kept.layout;
    }

pub hides_asks : (act : Act) → hides act ≡ true → effect_by (requests_layout act) (act_paints act) ≡ Asks
hides_asks act hidden = rw (hidden_asks (facet_of act) hidden) refl

-- an act on a view of a tree leaves its root there
key_put : (key : ℕ) (change : PlainView → PlainView) (tree : Forest Row) → first_key (changed_at_key key change tree) ≡ first_key tree
key_put key change Nothing = refl
key_put key change (Branch row kids siblings) = elim (cases_Bool (row.key == key)) [
  | inl e ↦ rw e refl
  | inr e ↦ rw e refl
]

head_sides : (key : ℕ) (act : Act) (tree : Forest Row) → requests_layout act ≡ false → SameSides (head_view tree).facts (head_view (changed_at_key key (acted_view act) tree)).facts
head_sides key act Nothing quiet = record { shown = refl; specs = λ window. refl }
head_sides key act (Branch row kids siblings) quiet = elim (cases_Bool (row.key == key)) [
  | inl e ↦ rw e (quiet_sides act row.view.facts quiet)
  | inr e ↦ rw e (record { shown = refl; specs = λ window. refl })
]

first_live : (views : Views) (root : ℕ) → first_key views.tree ≡ Some root → IsLive views root
first_live views root first = live views.tree first
  where
    live : (tree : Forest Row) → first_key tree ≡ Some root → 0 < count_of_key root tree
    live Nothing first = absurd cc
    live (Branch row kids siblings) first = let same : row.key ≡ root = cc in subst (λ (n : ℕ). 0 < count_of_key n (Branch row kids siblings)) same (times_self row kids siblings)

-- no view moves

abbrev Lies : List Laid → Outcome → Type 0
Lies geometry (Ok outcome) = outcome.0.geometry ≡ geometry
Lies geometry (Err refusal) = Unit {0}

lies_act : (scene : EditScene) (number : ℕ) (act : Act) (view : Option PlainView) → hides act ≡ false → Lies scene.geometry (outcome_of_act scene number act view)
lies_act scene number act None stays = refl
lies_act scene number act (Some view) stays = elim (cases_Bool (takes view.class act)) [
  | inl e ↦ rw e (unless (cycle_of_act scene.tree number act))
  | inr e ↦ rw e tt
]
  where
    unless : (reason : Option PlainRefusal) → Lies scene.geometry (outcome_unless scene number act reason)
    unless None = rw stays refl
    unless (Some refusal) = tt

lies_still : (old new : Views) (number : ℕ) (act : Act) (made : Option ℕ) → outcome_of_edit (edited_of old) (ActOn number act) ≡ Ok (edited_of new, made) → hides act ≡ false → geometry_of new ≡ geometry_of old
lies_still old new number act made applied stays =
    subst (Lies (geometry_of old)) applied (lies_act (edited_of old) number act (view_in (plain_of old) number) stays)

-- what rested still does after an edit that requests no layout
quiet_rests : (old : KeyedScreen) (new : Views) (view : ℕ) (act : Act) (made : Option ℕ) → requests_layout act ≡ false → outcome_of_edit (edited_of old.views) (ActOn (number_of old.views view) act) ≡ Ok (edited_of new, made)
    → KeepsViews old.views new (edit.Act view act) → EditLeaves old.views new (edit.Act view act) → IsResting old → IsResting (record old { views = new })
quiet_rests old new view act made quiet applied keeps leaves rests =
    let stays = quiet_stays (facet_of act) quiet in
    let still = quiet_turns (facet_of act) quiet in
    let tree : new.tree ≡ changed_at_key view (acted_view act) old.views.tree = keeps.tree ∙ unspread act (changed_at_key view (acted_view act) old.views.tree) still in
    let sides = head_sides view act old.views.tree quiet in
    record {
      settled = rests.settled;
      laid = rest_along old.views new (size_of old.surface) (ap first_key tree ∙ key_put view (acted_view act) old.views.tree)
          (ap (λ (t : Forest Row). is_shown (head_view t).facts) tree ∙ sides.shown)
          (ap (λ (t : Forest Row). root_specs (size_of old.surface) (head_view t).facts) tree ∙ sides.specs (size_of old.surface))
          (λ root first.
          let live = first_live old.views root first in
          let there : IsLive new root = subst (λ (t : Forest Row). 0 < count_of_key root t) (sym tree) (let count = count_of_key-put root view (acted_view act) old.views.tree in omega (arith, count, live)) in
          (leaves root live there (rw (still, quiet, stays) refl)).0)
          rests.laid;
      unfired = ap (fired_in old.hooks) (lies_still old.views new (number_of old.views view) act made applied stays) ∙ rests.unfired;
    }

rests_edit : (old : KeyedScreen) (new : Views) (edit : Edit) (made : Option ℕ) → AppliesEdit (outcome_of_edit (edited_of old.views) (numbered old.views edit)) (edited_of new) (let r : Result (Option ℕ) Fault = Ok made in r)
    → KeepsViews old.views new edit → EditLeaves old.views new edit → leaves_layout (effect_of_edit edit) ≡ true → IsResting old → IsResting (record old { views = new })
rests_edit old new (edit.Add parent class width height) made applied keeps leaves quiet rests = absurd cc
rests_edit old new (edit.Remove view) made applied keeps leaves quiet rests = absurd cc
rests_edit old new (edit.Text view text) made applied keeps leaves quiet rests = absurd cc
rests_edit old new (edit.Act view act) made applied keeps leaves quiet rests = elim (cases_Bool (requests_layout act)) [
  | inl e ↦ absurd (let clash = rw e at quiet in cc)
  | inr e ↦ quiet_rests old new view act made e applied keeps leaves rests
]

-- no edit is a touch
edit_untouched : (edit : Edit) → effect_of_edit edit ≢ Touches
edit_untouched (edit.Add parent class width height) e = cc
edit_untouched (edit.Remove view) e = cc
edit_untouched (edit.Text view text) e = cc
edit_untouched (edit.Act view act) e = by (requests_layout act) (act_paints act) e
  where
    by : (requests paints : Bool) → effect_by requests paints ≡ Touches → ⊥
    by true paints e = cc
    by false true e = cc
    by false false e = cc

-- an act opens no window
pub act_unopened : (act : Act) → effect_of_act act ≢ Opens
act_unopened act e = by (requests_layout act) (act_paints act) e
  where
    by : (requests paints : Bool) → effect_by requests paints ≡ Opens → ⊥
    by true paints e = cc
    by false true e = cc
    by false false e = cc

-- nor does an edit
edit_unopened : (edit : Edit) → effect_of_edit edit ≢ Opens
edit_unopened (edit.Add parent class width height) e = cc
edit_unopened (edit.Remove view) e = cc
edit_unopened (edit.Text view text) e = cc
edit_unopened (edit.Act view act) e = act_unopened act e

-- an act that is not painted, and that layout does not read, shows in no picture
unpainted : (act : Act) → (requests_layout act || act_paints act) ≡ false → act_is_unseen act ≡ true
unpainted act e = by (touched_by act).asks (touched_by act).shows e
  where
    by : (asks shows : Bool) → (asks || (shows && not asks)) ≡ false → not shows ≡ true
    by true shows e = absurd cc
    by false true e = absurd cc
    by false false e = refl

-- what was seen of a view, and what is seen of it after an edit, is within a known rectangle
seen_edited : (old new : KeyedScreen) (view : ℕ) (box : Rect) → IsTree old.views → IsTree new.views → IsLive old.views view → IsLive new.views view → number_of new.views view ≡ number_of old.views view
    → size_of new.surface ≡ size_of old.surface → LiesIn (seen_on old (number_of old.views view)) box → LiesIn (seen_on new (number_of old.views view)) box
    → LiesIn (seen_of (size_of old.surface) old.views view) box × LiesIn (seen_of (size_of old.surface) new.views view) box
seen_edited old new view box was is live there number size before after = (
  subst (λ (rect : Rect). LiesIn rect box) (seen_named old view was live) before,
  subst (λ (window : Size). LiesIn (seen_of window new.views view) box) size
      (subst (λ (rect : Rect). LiesIn rect box) (seen_named new view is there) (subst (λ (n : ℕ). LiesIn (seen_on new n) box) (sym number) after)),
)

-- an act that neither layout nor pictures read
pub neither : (asks shows : Bool) → asks ≡ false → (shows && not asks) ≡ false → (asks || (shows && not asks)) ≡ false
neither true shows r p = absurd cc
neither false true r p = absurd cc
neither false false r p = refl

-- an edit that was made damages only what is seen of its view
within_act : (old new : KeyedScreen) (view : ℕ) (act : Act) (requests paints : Bool) (box : Rect) → requests_layout act ≡ requests → act_paints act ≡ paints → IsTree old.views → IsTree new.views
    → IsLive old.views view → IsLive new.views view → number_of new.views view ≡ number_of old.views view → size_of new.surface ≡ size_of old.surface
    → GrowsWithin (size_of old.surface) view old.views new.views old.damage new.damage → (act_is_unseen act ≡ true → new.damage ≡ old.damage)
    → LiesIn old.damage box → AreSeenIn box (if requests || paints then number_of old.views view ∷ [] else []) old new → LiesIn new.damage box
within_act old new view act true paints box r p was is live there number size grows unseen lies seen =
    let both = seen (number_of old.views view) (among_first (number_of old.views view) []) in
    let own = seen_edited old new view box was is live there number size both.0 both.1 in
    grows box lies own.0 own.1
within_act old new view act false true box r p was is live there number size grows unseen lies seen =
    let both = seen (number_of old.views view) (among_first (number_of old.views view) []) in
    let own = seen_edited old new view box was is live there number size both.0 both.1 in
    grows box lies own.0 own.1
within_act old new view act false false box r p was is live there number size grows unseen lies seen =
    subst (λ (damage : Rect). LiesIn damage box) (sym (unseen (unpainted act (neither (touched_by act).asks (touched_by act).shows r p)))) lies

-- an edit of views that only have moved since names the same ones
pub edited_same : (old mid : Views) (edit : Edit) → mid.tree ≡ old.tree → numbers_edited old edit ≡ numbers_edited mid edit
edited_same old mid (edit.Add parent class width height) same = refl
edited_same old mid (edit.Remove view) same = ap (λ (tree : Forest Row). (head_view (part_from view tree)).number ∷ []) (sym same)
edited_same old mid (edit.Act view act) same = ap (λ (tree : Forest Row). edited_by_act (Some (head_view (part_from view tree)).number) act) (sym same)
edited_same old mid (edit.Text view text) same = ap (λ (tree : Forest Row). (head_view (part_from view tree)).number ∷ []) (sym same)

number_acted : (old new : Views) (view : ℕ) (act : Act) → new.tree ≡ spread act (changed_at_key view (acted_view act) old.tree) → number_of new view ≡ number_of old view
number_acted old new view act tree =
    ap (λ (t : Forest Row). (head_view (part_from view t)).number) tree
    ∙ number-spread view act (changed_at_key view (acted_view act) old.tree)
    ∙ number_changed old (record old { tree = changed_at_key view (acted_view act) old.tree }) view view (acted_view act) (λ own. refl) refl

pub within_edit : (old new : KeyedScreen) (edit : Edit) (box : Rect) → IsChange edit → IsTree old.views → IsTree new.views → IsEdit old.views edit → KeepsViews old.views new.views edit
    → size_of new.surface ≡ size_of old.surface → GrowsWithin (size_of old.surface) (edited edit) old.views new.views old.damage new.damage → (is_unseen edit ≡ true → new.damage ≡ old.damage)
    → LiesIn old.damage box → AreSeenIn box (numbers_edited old.views edit) old new → LiesIn new.damage box
within_edit old new (edit.Add parent class width height) box leaves was is made keeps size grows unseen lies seen = absurd leaves
within_edit old new (edit.Remove view) box leaves was is made keeps size grows unseen lies seen = absurd leaves
within_edit old new (edit.Act view act) box leaves was is made keeps size grows unseen lies seen =
    within_act old new view act (requests_layout act) (act_paints act) box refl refl was is made.0
    (subst (λ (t : Forest Row). 0 < count_of_key view t) (sym keeps.tree)
    (let count = count_of_key-spread view act (changed_at_key view (acted_view act) old.views.tree) ∙ count_of_key-put view view (acted_view act) old.views.tree in let live = made.0 in omega (arith, count, live)))
    (number_acted old.views new.views view act keeps.tree) size grows unseen lies seen
within_edit old new (edit.Text view text) box leaves was is made keeps size grows unseen lies seen =
    let there = subst (λ (t : Forest Row). 0 < count_of_key view t) (sym keeps.tree) (let count = count_of_key-put view view (λ own. record own { text = chars text.now }) old.views.tree in let live = made.0 in omega (arith, count, live)) in
    let number = number_changed old.views new.views view view (λ own. record own { text = chars text.now }) (λ own. refl) keeps.tree in
    let both = seen (number_of old.views view) (among_first (number_of old.views view) []) in
    let own = seen_edited old new view box was is made.0 there number size both.0 both.1 in
    grows box lies own.0 own.1

-- an edit that adds and removes no view was made, or none was
pub edit_keeps : (old : KeyedScreen) (new : Views) (damage : Rect) (edit : Edit) (result : Result (Option ℕ) Fault) → IsTree old.views → IsEdit old.views edit
    → AppliesEdit (outcome_of_edit (edited_of old.views) (numbered old.views edit)) (edited_of new) result → OnOk result (KeepsViews old.views new edit) → EditLeaves old.views new edit
    → new.counts.measures ≡ old.views.counts.measures → IsChange edit → (OnOk result (IsTree new)) → GrowsWithin (size_of old.surface) (edited edit) old.views new old.damage damage → (is_unseen edit ≡ true → damage ≡ old.damage)
    → OnOk result (KeepsEdit edit old (record old { views = new; damage = damage }))
edit_keeps old new damage edit (Ok made) is there applied keeps leaves measures change now grows unseen = record {
  measures = measures;
  rests = λ quiet rests. let still = rests_edit old new edit made applied keeps leaves quiet rests in record { settled = still.settled; laid = still.laid; unfired = still.unfired };
  leaves = leaves_edit old.views old.views new edit is there (scrolls_none old.views) leaves;
  within = λ ne box lies seen. within_edit old (record old { views = new; damage = damage }) edit box change is now there keeps refl grows unseen lies seen;
  scrolled = λ touches. absurd (edit_untouched edit touches);
  stage = λ ne. refl;
  surface = λ ne. refl;
  opened = λ opens. absurd (edit_unopened edit opens);
}
edit_keeps old new damage edit (Err fault) is there applied keeps leaves measures change now grows unseen = tt

-- an edit that requests layout was made of a screen that was scrolled before, and more of it has changed
pub loud_keeps : (old new : KeyedScreen) (mid : Views) (edit : Edit) → effect_of_edit edit ≡ Asks → IsTree old.views → IsEdit old.views edit → OnlyScrolls old.views mid → EditLeaves mid new.views edit
    → new.views.counts.measures ≡ mid.counts.measures → ((box : Rect) → LiesIn old.damage box → AreSeenIn box (numbers_edited old.views edit) old new → LiesIn new.damage box)
    → new.stage ≡ old.stage → new.surface ≡ old.surface → KeepsEdit edit old new
loud_keeps old new mid edit asks is there scrolls leaves measures within stage surface = record {
  measures = measures ∙ ap (λ counts. counts.measures) scrolls.counts;
  rests = λ quiet. absurd (let clash = rw asks at quiet in cc);
  leaves = leaves_edit old.views mid new.views edit is there scrolls leaves;
  within = λ ne. within;
  scrolled = λ touches. absurd (edit_untouched edit touches);
  stage = λ ne. stage;
  surface = λ ne. surface;
  opened = λ opens. absurd (edit_unopened edit opens);
}
