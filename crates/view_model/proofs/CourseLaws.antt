-- What a measuring in phases leaves of a child: only what was asked of it changes.
use Rattle.std.proofs.Common.{◌≡◌, ℕ, zero, suc, Bool, true, false, Option, Some, None, List, [], ◌∷◌, ◌++◌, refl, sym, ◌∙◌, ap}
use Rattle.std.specs.Prelude.{if◌then◌else◌, map}
use Rattle.view_model.specs.declared.facts.Facts.{Facts}
use Rattle.view_model.proofs.RelativeAlike.{requested_child}
use Rattle.view_model.specs.Course.{Child, MeasuringProgress, Requested, after_phase, after_turn, asked_for, begun, course_of, measured_of, one_phase, phases_on, size_in}
use Rattle.view_model.specs.Facts.{is_shown}
use Rattle.view_model.specs.Layout.{course_in}
use Rattle.view_model.specs.Measuring.{Manner, ByRule, BySiblings, Measured, Rule, Specs}
use Rattle.view_model.specs.PlainTree.{PlainView}
use Rattle.view_model.specs.RelativeCourse.{Arrangement, arranged, each_from, requested_at}

-- a child as if nothing was asked of it
abbrev unasked : Requested → Requested
unasked kid = record kid { requests = [] }

abbrev unasked_all : List Requested → List Requested
unasked_all [] = []
unasked_all (kid ∷ kids) = unasked kid ∷ unasked_all kids

unasked-turn : (v : Bool) (answer : Option Specs) (kid : Requested) → unasked (if v then asked_for answer kid else kid) ≡ unasked kid
unasked-turn true None kid = refl
unasked-turn true (Some specs) kid = refl
unasked-turn false answer kid = refl

unasked-phase : (ask : List Measured → Measured → Option Specs) (taken : List Measured) (kids : List Requested) → unasked_all (after_phase ask taken kids) ≡ unasked_all kids
unasked-phase ask taken [] = refl
unasked-phase ask taken (kid ∷ kids) =
    let rest = after_phase ask (taken ++ size_in (after_turn ask taken kid)) kids in
    ap (λ (own : Requested). own ∷ unasked_all rest) (unasked-turn (is_shown kid.child.facts) (ask taken (measured_of kid)) kid)
    ∙ ap (λ more. unasked kid ∷ more) (unasked-phase ask (taken ++ size_in (after_turn ask taken kid)) kids)

unasked-phases : (left : ℕ) (rule : Rule) (progress : MeasuringProgress) → unasked_all (phases_on left rule progress).kids ≡ unasked_all progress.kids
unasked-phases zero rule progress = refl
unasked-phases (suc left) rule progress =
    by_test (rule.turns progress.past) (unasked-phases left rule (one_phase rule progress) ∙ unasked-phase (rule.ask progress.past) [] progress.kids)
  where
    by_test : (v : Bool) → unasked_all (phases_on left rule (one_phase rule progress)).kids ≡ unasked_all progress.kids
        → unasked_all (if v then phases_on left rule (one_phase rule progress) else progress).kids ≡ unasked_all progress.kids
    by_test true go = go
    by_test false go = refl

unasked-begun : (kids : List Child) → unasked_all (begun kids).kids ≡ (begun kids).kids
unasked-begun [] = refl
unasked-begun (kid ∷ kids) = ap (λ more. record { child = kid; requests = []; edges = None } ∷ more) (unasked-begun kids)

unasked-course : (rule : Rule) (kids : List Child) → unasked_all (course_of rule kids).kids ≡ (begun kids).kids
unasked-course rule kids = unasked-phases 2 rule (one_phase rule (begun kids)) ∙ unasked-phase (rule.ask []) [] (begun kids).kids ∙ unasked-begun kids

-- the children of a course are those that it began with
abbrev pub children_in : List Requested → List Child
children_in kids = map (λ (kid : Requested). kid.child) kids

children_unasked : (kids : List Requested) → children_in (unasked_all kids) ≡ children_in kids
children_unasked [] = refl
children_unasked (kid ∷ kids) = ap (λ more. kid.child ∷ more) (children_unasked kids)

children_begun : (kids : List Child) → children_in (begun kids).kids ≡ kids
children_begun [] = refl
children_begun (kid ∷ kids) = ap (λ more. kid ∷ more) (children_begun kids)

children_each : (own : Facts) (specs : Specs) (all : List Child) (found : Arrangement) (p : ℕ) (kids : List Child) → children_in (each_from p (requested_at own specs all found) kids) ≡ kids
children_each own specs all found p [] = refl
children_each own specs all found p (kid ∷ kids) =
    ap (λ (first : Child). first ∷ children_in (each_from (suc p) (requested_at own specs all found) kids)) (requested_child own specs all found p kid)
    ∙ ap (λ more. kid ∷ more) (children_each own specs all found (suc p) kids)

pub course_children : (manner : Manner) (view : PlainView) (kids : List Child) (specs : Specs) → children_in (course_in manner view kids specs).kids ≡ kids
course_children (ByRule rule) view kids specs = sym (children_unasked (course_of rule kids).kids) ∙ ap children_in (unasked-course rule kids) ∙ children_begun kids
course_children BySiblings view kids specs = children_each view.facts specs kids (arranged view.facts specs kids) 0 kids
