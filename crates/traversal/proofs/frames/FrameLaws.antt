-- How a frame ends.
use Rattle.std.proofs.Common.{◌≡◌, ℕ, true, false, List, Option, None, Some, [], refl, sym, ◌∙◌, ap, subst, inl, inr}
use Rattle.std.proofs.lemmas.Bool.{cases_Bool}
use Rattle.geom_core.specs.declared.geometry.Size.{Size}
use Rattle.size_hooks.specs.Hook.{Hook}
use Rattle.view_model.specs.Forest.{Forest}
use Rattle.view_model.specs.Geometry.{Laid}
use Rattle.view_model.specs.Layout.{full_layout}
use Rattle.view_model.specs.Offsets.{ranged}
use Rattle.view_model.specs.PlainTree.{PlainView}
use Rattle.view_tree.specs.Views.{IsTree, Views, geometry_of, held_of, plain_of}
use Rattle.traversal.specs.Changing.{FitAll, IsFramed, IsPassed}
use Rattle.traversal.specs.declared.outcome.Frame.{Frame}
use Rattle.traversal.specs.Frames.{Framed, Pass, after_frame, after_pass, ended, fired_in, followed, reported_in, spent}
use Rattle.traversal.specs.Reporting.{reported_over}
use Rattle.traversal.proofs.hooks.ReportedLaws.{Apart, apart_rows, over_reported}
use Rattle.traversal.proofs.laid.FitLaws.{layout_fits, reported_is}

abbrev settled_by : ℕ → Pass → Framed
settled_by before pass = record { tree = pass.tree; hooks = reported_in pass.geometry pass.hooks; settled = true; fired = before; geometry = pass.geometry }

first_settles : (window : Size) (pass : Pass) → pass.fired ≡ false → followed window pass ≡ settled_by 0 pass
first_settles window pass quiet = rw quiet refl

second_settles : (window : Size) (first : Pass) → first.fired ≡ true → (after_pass first.tree first.hooks window).fired ≡ false
    → followed window first ≡ settled_by 1 (after_pass first.tree first.hooks window)
second_settles window first fired quiet = rw fired (quietly (after_pass first.tree first.hooks window) quiet)
  where
    quietly : (pass : Pass) → pass.fired ≡ false → ended 1 pass ≡ settled_by 1 pass
    quietly pass quiet = rw quiet refl

spent_geometry : (tree : Forest PlainView) (hooks : List Hook) (geometry : List Laid) (fired : Option ℕ) → (spent tree hooks geometry fired).geometry ≡ geometry
spent_geometry tree hooks geometry None = refl
spent_geometry tree hooks geometry (Some view) = refl

pass_fits : (tree : Forest PlainView) (hooks : List Hook) (window : Size) → FitAll (after_pass tree hooks window).geometry
pass_fits tree hooks window =
    let geometry = full_layout tree window in
    subst FitAll (sym (spent_geometry (ranged geometry tree) hooks geometry (fired_in hooks geometry))) (layout_fits tree window)

settled : (before : ℕ) (tree : Forest PlainView) (old : List Hook) (window : Size) (views : Views) (hooks new : List Hook) (frame : Frame) → IsPassed (after_pass tree old window) views hooks → IsTree views
    → new ≡ reported_over (geometry_of views) hooks → frame.settled ≡ true → frame.fired ≡ before → IsFramed (settled_by before (after_pass tree old window)) views new frame
settled before tree old window views hooks new frame passed is_tree reported is fired =
    let pass = after_pass tree old window in
    record {
      plain = passed.plain;
      hooks_are =
          reported
          ∙ ap (λ (g : List Laid). reported_over g hooks) passed.geometry
          ∙ reported_is pass.geometry hooks (pass_fits tree old window)
          ∙ over_reported pass.geometry hooks (subst Apart passed.geometry (apart_rows (held_of views) views.tree is_tree.numbers))
          ∙ ap (reported_in pass.geometry) passed.hooks_are;
      settled = is;
      fired = fired;
      geometry = λ _. passed.geometry;
    }

-- the first pass was the last
pub settled_first : (tree : Forest PlainView) (old : List Hook) (window : Size) (views : Views) (hooks new : List Hook) (frame : Frame)
    → IsPassed (after_pass tree old window) views hooks → (after_pass tree old window).fired ≡ false
    → IsTree views → new ≡ reported_over (geometry_of views) hooks → frame.settled ≡ true → frame.fired ≡ 0
    → IsFramed (after_frame tree old window) views new frame
settled_first tree old window views hooks new frame passed quiet is_tree reported is fired =
    subst (λ (after : Framed). IsFramed after views new frame) (sym (first_settles window (after_pass tree old window) quiet))
    (settled 0 tree old window views hooks new frame passed is_tree reported is fired)

-- the second one was
pub settled_second : (tree : Forest PlainView) (old : List Hook) (window : Size) (mid views : Views) (between hooks new : List Hook) (frame : Frame)
    → IsPassed (after_pass tree old window) mid between → (after_pass tree old window).fired ≡ true
    → IsPassed (after_pass (plain_of mid) between window) views hooks → (after_pass (plain_of mid) between window).fired ≡ false
    → IsTree views → new ≡ reported_over (geometry_of views) hooks → frame.settled ≡ true → frame.fired ≡ 1
    → IsFramed (after_frame tree old window) views new frame
settled_second tree old window mid views between hooks new frame first fired passed quiet is_tree reported is count =
    let pass = after_pass tree old window in
    let same : after_pass (plain_of mid) between window ≡ after_pass pass.tree pass.hooks window =
    ap (λ (t : Forest PlainView). after_pass t between window) first.plain ∙ ap (λ (h : List Hook). after_pass pass.tree h window) first.hooks_are in
    let passed : IsPassed (after_pass pass.tree pass.hooks window) views hooks = subst (λ (p : Pass). IsPassed p views hooks) same passed in
    let quiet : (after_pass pass.tree pass.hooks window).fired ≡ false = subst (λ (p : Pass). p.fired ≡ false) same quiet in
    subst (λ (after : Framed). IsFramed after views new frame) (sym (second_settles window pass fired quiet))
    (settled 1 pass.tree pass.hooks window views hooks new frame passed is_tree reported is count)

-- after a frame that has not settled no view has bounds
ended_nowhere : (before : ℕ) (pass : Pass) → (ended before pass).settled ≡ false → (ended before pass).geometry ≡ []
ended_nowhere before pass unsettled = elim (cases_Bool pass.fired) [
  | inl e ↦ rw e refl
  | inr e ↦ absurd (let unsettled = rw e at unsettled in cc)
]

followed_nowhere : (window : Size) (pass : Pass) → (followed window pass).settled ≡ false → (followed window pass).geometry ≡ []
followed_nowhere window pass unsettled = elim (cases_Bool pass.fired) [
  | inl e ↦ let unsettled = rw e at unsettled in rw e (ended_nowhere 1 (after_pass pass.tree pass.hooks window) unsettled)
  | inr e ↦ absurd (let unsettled = rw e at unsettled in cc)
]

pub unsettled_nowhere : (tree : Forest PlainView) (hooks : List Hook) (window : Size) → (after_frame tree hooks window).settled ≡ false → (after_frame tree hooks window).geometry ≡ []
unsettled_nowhere tree hooks window unsettled = followed_nowhere window (after_pass tree hooks window) unsettled

-- what a pass lays fits
pub passed_fits : (tree : Forest PlainView) (old : List Hook) (window : Size) (views : Views) (hooks : List Hook) → IsPassed (after_pass tree old window) views hooks → FitAll (geometry_of views)
passed_fits tree old window views hooks passed = subst FitAll (sym passed.geometry) (pass_fits tree old window)
