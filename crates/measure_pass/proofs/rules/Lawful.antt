-- What measuring requires of a rule: that it measures every child that takes part in layout, and never looks at a size
-- of an earlier measuring; and general halves of that.
use Rattle.std.proofs.Common.{◌≡◌, Bool, true, false, Option, Some, None, List, [], ◌∷◌, ◌++◌, ap, ◌∙◌, sym, refl}
use Rattle.std.specs.Prelude.{pos, if◌then◌else◌}
use Rattle.std.specs.Option.{is_some}
use Rattle.geom_core.specs.Limits.{IsSide}
use Rattle.geom_core.specs.declared.geometry.Size.{Size}
use Rattle.measure_pass.specs.Courses.{CanTurn, StaysReady, has_requests}
use Rattle.measure_pass.proofs.walks.Whole.{AllAsked, has-push, no_true}
use Rattle.view_model.specs.declared.facts.Facts.{Facts}
use Rattle.view_model.specs.Course.{Child, Requested, after_phase, after_turn, asked_for, begun, course_of, measured_of, size_in}
use Rattle.view_model.specs.Facts.{is_shown}
use Rattle.view_model.specs.Measuring.{Measured, Rule, Specs, counted_as}

-- the rule of a view that may have children, or of one that has none
pub record IsLawful (group : Bool) (rule : Rule) : Type 0 where
  pub ready : (kids : List Child) → StaysReady rule 2 (begun kids)
  pub asked : (kids : List Child) → (group ≡ false → kids ≡ []) → AllAsked (course_of rule kids).kids
  pub width : (past : List (List Measured)) → IsSide (rule.size past).w
  pub height : (past : List (List Measured)) → IsSide (rule.size past).h

-- a first phase that does not look at the size that it is given
abbrev pub IsBlind : Rule → Type 0
IsBlind rule = (taken : List Measured) (facts : Facts) (size other : Size) → rule.ask [] taken (record { facts = facts; size = size }) ≡ rule.ask [] taken (record { facts = facts; size = other })

pub begun_ready : (rule : Rule) → IsBlind rule → (kids : List Child) → CanTurn rule [] (begun kids).kids
begun_ready rule blind [] = tt
begun_ready rule blind (kid ∷ kids) = (
  λ here. record {
    asked = λ taken present right. blind taken kid.facts present (record { w = pos 0; h = pos 0 });
    left = λ taken present right none. refl;
    got = λ taken specs size some. ap (λ answer. counted_as [] answer size) (blind taken kid.facts size (record { w = pos 0; h = pos 0 }) ∙ some);
  },
  begun_ready rule blind kids,
)

pub later_ready : (rule : Rule) (first : List Measured) (more : List (List Measured)) (kids : List Requested) → AllAsked kids → CanTurn rule (first ∷ more) kids
later_ready rule first more [] all = tt
later_ready rule first more (kid ∷ kids) all = (
  λ here. record {
    asked = λ taken present right. ap (λ (size : Size). rule.ask (first ∷ more) taken (record { facts = kid.child.facts; size = size })) (right (all.0 here));
    left = λ taken present right none. right (all.0 here);
    got = λ taken specs size some. refl;
  },
  later_ready rule first more kids all.1,
)

some_turn : (v : Bool) (answer : Option Specs) (kid : Requested) → is_some answer ≡ true → v ≡ is_shown kid.child.facts
    → (let next = (if v then asked_for answer kid else kid) in is_shown next.child.facts ≡ true → has_requests next.requests ≡ true)
some_turn true None kid some is = let e : true ≡ false = sym some in absurd (cc)
some_turn true (Some specs) kid some is = λ here. has-push kid.requests specs
some_turn false answer kid some is = λ here. no_true (is_shown kid.child.facts) (sym is) here

-- a phase in which each child is asked
pub all_asked : (ask : List Measured → Measured → Option Specs) (taken : List Measured) (kids : List Requested)
    → ((taken : List Measured) (kid : Measured) → is_some (ask taken kid) ≡ true) → AllAsked (after_phase ask taken kids)
all_asked ask taken [] some = tt
all_asked ask taken (kid ∷ kids) some =
    (some_turn (is_shown kid.child.facts) (ask taken (measured_of kid)) kid (some taken (measured_of kid)) refl, all_asked ask (taken ++ size_in (after_turn ask taken kid)) kids some)
