-- Views that have bounds keep sizes that can be printed.
use Rattle.std.proofs.Common.{◌≡◌, ℕ, List, [], ◌∷◌, sym, subst, inl, inr}
use Rattle.std.proofs.lemmas.Bool.{cases_Bool}
use Rattle.std.specs.Prelude.{◌==◌, ℤ, OnErr, Option, Some, None, Result, Ok, Err}
use Rattle.std.specs.List.{list_any}
use Rattle.traversal.specs.Changing.{FitAll}
use Rattle.tree_edits.specs.Applied.{AppliesEdit}
use Rattle.view_model.specs.Classes.{has_text}
use Rattle.tree_edits.specs.Editing.{NumberedEdit, Add, Remove, ActOn, SetText, Outcome, after_act, cycle_of_act, hides, outcome_of_act, outcome_of_add, outcome_of_edit, outcome_of_text, outcome_unless}
use Rattle.view_model.specs.Facets.{takes}
use Rattle.tree_edits.specs.Scene.{EditScene, scene_of}
use Rattle.view_model.specs.declared.fault.Fault.{Fault}
use Rattle.view_model.specs.declared.changes.Act.{Act}
use Rattle.view_model.specs.declared.class.Class.{Class}
use Rattle.view_model.specs.Geometry.{Laid, without}
use Rattle.view_model.specs.Growth.{refusal_at}
use Rattle.view_model.specs.PlainTree.{PlainView, numbers_of, part_of, view_in}
use Rattle.view_model.specs.Refusals.{PlainRefusal}
use Rattle.view_tree.specs.Views.{Views, geometry_of}

fit_without : (numbers : List ℕ) (geometry : List Laid) → FitAll geometry → FitAll (without numbers geometry)
fit_without numbers [] fit = tt
fit_without numbers (laid ∷ geometry) fit = elim (cases_Bool (list_any (λ number. number == laid.number) numbers)) [
  | inl e ↦ rw e (fit_without numbers geometry fit.1)
  | inr e ↦ rw e (fit.0, fit_without numbers geometry fit.1)
]

abbrev FitOutcome : Outcome → Type 0
FitOutcome (Ok outcome) = FitAll outcome.0.geometry
FitOutcome (Err refusal) = Unit {0}

fit_added : (scene : EditScene) (parent : Option ℕ) (class : Class) (width height : ℤ) (reason : Option PlainRefusal) → FitAll scene.geometry → FitOutcome (outcome_of_add scene parent class width height reason)
fit_added scene parent class width height None fit = fit
fit_added scene parent class width height (Some refusal) fit = tt

fit_act : (scene : EditScene) (number : ℕ) (act : Act) → FitAll scene.geometry → FitAll (after_act scene number act).geometry
fit_act scene number act fit = elim (cases_Bool (hides act)) [
  | inl e ↦ rw e (fit_without (numbers_of (part_of number scene.tree)) scene.geometry fit)
  | inr e ↦ rw e fit
]

fit_unless : (scene : EditScene) (number : ℕ) (act : Act) (reason : Option PlainRefusal) → FitAll scene.geometry → FitOutcome (outcome_unless scene number act reason)
fit_unless scene number act None fit = fit_act scene number act fit
fit_unless scene number act (Some refusal) fit = tt

fit_done : (scene : EditScene) (number : ℕ) (act : Act) (view : Option PlainView) → FitAll scene.geometry → FitOutcome (outcome_of_act scene number act view)
fit_done scene number act None fit = fit
fit_done scene number act (Some view) fit = elim (cases_Bool (takes view.class act)) [
  | inl e ↦ rw e (fit_unless scene number act (cycle_of_act scene.tree number act) fit)
  | inr e ↦ rw e tt
]

fit_written : (scene : EditScene) (number : ℕ) (text : List ℕ) (view : Option PlainView) → FitAll scene.geometry → FitOutcome (outcome_of_text scene number text view)
fit_written scene number text None fit = fit
fit_written scene number text (Some view) fit = elim (cases_Bool (has_text view.class)) [ inl e ↦ rw e fit | inr e ↦ rw e tt ]

fit_edited : (scene : EditScene) (edit : NumberedEdit) → FitAll scene.geometry → FitOutcome (outcome_of_edit scene edit)
fit_edited scene (Add parent class width height) fit = fit_added scene parent class width height (refusal_at scene.tree parent) fit
fit_edited scene (Remove number) fit = fit_without (numbers_of (part_of number scene.tree)) scene.geometry fit
fit_edited scene (ActOn number act) fit = fit_done scene number act (view_in scene.tree number) fit
fit_edited scene (SetText number text) fit = fit_written scene number text (view_in scene.tree number) fit

-- an edit that was made leaves such sizes
pub fits_edited : (old new : Views) (edit : NumberedEdit) (number : Option ℕ) → AppliesEdit (outcome_of_edit (scene_of old) edit) (scene_of new) (let r : Result (Option ℕ) Fault = Ok number in r)
    → FitAll (geometry_of old) → FitAll (geometry_of new)
fits_edited old new edit number applied fit = subst FitOutcome applied (fit_edited (scene_of old) edit fit)

-- and so does one that was not
pub fits_applied : (old new : Views) (edit : NumberedEdit) (result : Result (Option ℕ) Fault) → AppliesEdit (outcome_of_edit (scene_of old) edit) (scene_of new) result → OnErr result (new ≡ old)
    → FitAll (geometry_of old) → FitAll (geometry_of new)
fits_applied old new edit (Ok number) applied same fit = fits_edited old new edit number applied fit
fits_applied old new edit (Err fault) applied same fit = subst (λ (v : Views). FitAll (geometry_of v)) (sym same) fit
