-- What a plan returns and becomes, phase by phase.
use Rattle.std.proofs.Common.{◌≡◌, ℤ, Bool, true, false, Some, None, List, [], ◌∷◌, ◌++◌, ap, refl, sym, ◌∙◌}
use Rattle.std.specs.Prelude.{if◌then◌else◌}
use Rattle.frame_layout.specs.declared.plan.FramePlan.{FramePlan}
use Rattle.frame_layout.specs.FramePlan.{RepresentsFrame}
use Rattle.geom_core.specs.declared.geometry.Size.{Size}
use Rattle.scroll_view.specs.declared.plan.ScrollPlan.{ScrollPlan}
use Rattle.scroll_view.specs.ScrollPlan.{RepresentsScroll, own_in, scrolled, specs_in}
use Rattle.view_model.specs.declared.facts.Facts.{Facts}
use Rattle.view_model.specs.FrameLayout.{frame_own_size, frame_size}
use Rattle.view_model.specs.Measuring.{Measured, Specs, taken_as}
use Rattle.view_model.specs.ScrollView.{filling_specs, is_short, scroll_ask, scroll_rule}

no_both : {A : Type 0} {v : Bool} → v ≡ false → v ≡ true → A
no_both off on = let e : true ≡ false = sym on ∙ off in absurd (cc)

-- the size of the frame layout inside, of which the first phase is known
abbrev pub IsRoom : ScrollPlan → Size → Type 0
IsRoom plan room = (own : Facts) (specs : Specs) (first : List Measured) → RepresentsFrame plan.frame own specs [] first → room ≡ frame_size own specs first

-- of a group it reads no more
short-scrolled : (own : Facts) (height : ℤ) (kid : Measured) → is_short (scrolled own) height kid ≡ is_short own height kid
unfolding is_short
short-scrolled own height kid = refl

-- in the second phase it asks for those that are too short
pub ask-filling : (plan : ScrollPlan) (own : Facts) (specs : Specs) (past : List (List Measured)) (taken : List Measured) (kid : Measured) (room : Size)
    → plan.filling ≡ true → IsRoom plan room → RepresentsScroll plan own specs past taken
    → (if is_short (own_in plan) room.h kid then Some (filling_specs (own_in plan) (specs_in plan) room.h kid.facts) else None) ≡ scroll_ask own specs past taken kid
ask-filling plan own specs [] taken kid room filling is represents = no_both represents.1 filling
ask-filling plan own specs (first ∷ []) taken kid room filling is represents =
    let answer = λ (own : Facts) (specs : Specs) (room : Size). if is_short own room.h kid then Some (filling_specs own specs room.h kid.facts) else None in
    ap (λ own. answer own (specs_in plan) room) represents.0.own_facts
    ∙ ap (λ v. if v then Some (filling_specs own (specs_in plan) room.h kid.facts) else None) (short-scrolled own room.h kid)
    ∙ ap (λ specs. answer own specs room) represents.0.own_specs
    ∙ ap (λ room. answer own specs room) (is own specs first represents.0.frame)
ask-filling plan own specs (first ∷ second ∷ more) taken kid room filling is represents = absurd represents

-- in the first phase it takes every child
pub take-first : (plan : ScrollPlan) (frame : FramePlan) (own : Facts) (specs : Specs) (past : List (List Measured)) (taken : List Measured) (facts : Facts) (size : Size)
    → plan.filling ≡ false
    → (RepresentsFrame plan.frame own specs [] taken → RepresentsFrame frame own specs [] (taken ++ record { facts = facts; size = size } ∷ []))
    → RepresentsScroll plan own specs past taken
    → RepresentsScroll (record plan { frame = frame }) own specs past (taken ++ taken_as (scroll_rule own specs) past taken facts size ∷ [])
take-first plan frame own specs [] taken facts size free takes represents =
    (record { own_facts = represents.0.own_facts; own_specs = represents.0.own_specs; frame = takes represents.0.frame }, free)
take-first plan frame own specs (first ∷ []) taken facts size free takes represents = no_both free represents.1
take-first plan frame own specs (first ∷ second ∷ more) taken facts size free takes represents = absurd represents

-- its size is that of the first phase
pub finish-size : (plan : ScrollPlan) (own : Facts) (specs : Specs) (past : List (List Measured)) (taken : List Measured) (room : Size)
    → IsRoom plan room → RepresentsScroll plan own specs past taken → room ≡ frame_own_size own specs (past ++ taken ∷ [])
finish-size plan own specs [] taken room is represents = is own specs taken represents.0.frame
finish-size plan own specs (first ∷ []) taken room is represents = is own specs first represents.0.frame
finish-size plan own specs (first ∷ second ∷ more) taken room is represents = absurd represents
