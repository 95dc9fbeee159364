-- What a plan returns and becomes, phase by phase.
use Rattle.std.proofs.Common.{◌≡◌, ℕ, ◌+◌, ℤ, pos, Bool, true, cond, Option, Some, None, List, [], ◌∷◌, ◌++◌, min, ap, sym, ◌∙◌, arith}
use Rattle.std.specs.Prelude.{count_by}
use Rattle.std.specs.Int.{int_max}
use Rattle.std.specs.Option.{option_map}
use Rattle.std.proofs.lemmas.Grind.{common_steps, fold-append}
use Rattle.frame_layout.specs.declared.axis.Axis.{Axis}
use Rattle.frame_layout.specs.declared.plan.FramePlan.{FramePlan}
use Rattle.frame_layout.specs.FramePlan.{IsAxis, HasMeasured, RepresentsFrame}
use Rattle.geom_core.specs.declared.geometry.Size.{Size}
use Rattle.geom_core.specs.declared.measuring.Spec.{Spec}
use Rattle.view_model.specs.declared.facts.Facts.{Facts}
use Rattle.view_model.specs.Facts.{matches_parent}
use Rattle.view_model.specs.FrameLayout.{first_specs, frame_rule, frame_size, greatest_by, need_across, need_down, second_specs}
use Rattle.view_model.specs.Measuring.{Specs, Measured, pair_of, taken_as}

no_size : {A : Type 0} {size : Option Size} {some : Size} → size ≡ None → size ≡ Some some → A
no_size is other = absurd (cc)

-- in the first phase it asks for every child
pub ask-first : (plan : FramePlan) (own : Facts) (specs : Specs) (past : List (List Measured)) (taken : List Measured) (kid : Measured) (pair : Spec × Spec)
    → plan.own_size ≡ None
    → ((first : List Measured) → HasMeasured plan own specs first → pair ≡ pair_of (first_specs own specs kid.facts))
    → RepresentsFrame plan own specs past taken
    → Some pair ≡ option_map pair_of ((frame_rule own specs).ask past taken kid)
ask-first plan own specs [] taken kid pair none is represents = ap Some (is taken represents.measured)
ask-first plan own specs (first ∷ []) taken kid pair none is represents = no_size none represents.own_size
ask-first plan own specs (first ∷ second ∷ more) taken kid pair none is represents = absurd represents

-- in the second it asks for those that match their parent
pub ask-second : (plan : FramePlan) (own : Facts) (specs : Specs) (past : List (List Measured)) (taken : List Measured) (kid : Measured) (room : Size) (pair : Spec × Spec)
    → plan.own_size ≡ Some room → matches_parent kid.facts ≡ true
    → ((first : List Measured) → HasMeasured plan own specs first → pair ≡ pair_of (second_specs own specs room kid.facts))
    → RepresentsFrame plan own specs past taken
    → Some pair ≡ option_map pair_of ((frame_rule own specs).ask past taken kid)
ask-second plan own specs [] taken kid room pair some matches is represents = no_size represents.own_size some
ask-second plan own specs (first ∷ []) taken kid room pair some matches is represents =
    let same : room ≡ frame_size own specs first = cc in
    rw matches (ap Some (is first represents.measured) ∙ ap (λ size. Some (pair_of (second_specs own specs size kid.facts))) same)
ask-second plan own specs (first ∷ second ∷ more) taken kid room pair some matches is represents = absurd represents

greatest_by-push : (need : Measured → ℤ) (kids : List Measured) (kid : Measured) → greatest_by need (kids ++ kid ∷ []) ≡ int_max (greatest_by need kids) (need kid)
greatest_by-push need kids kid = fold-append (λ most k. int_max most (need k)) (pos 0) kids (kid ∷ [])

count_by-push : {X : Type 0} (p : X → Bool) (xs : List X) (x : X) → count_by p (xs ++ x ∷ []) ≡ cond (p x) (count_by p xs + 1) (count_by p xs)
count_by-push p xs x = grind (arith, common_steps)

capped-push : (p : Measured → Bool) (xs : List Measured) (x : Measured) (m n : ℕ) → m ≡ min 2 (count_by p xs) → n ≡ cond (p x) (min 2 (m + 1)) m → n ≡ min 2 (count_by p (xs ++ x ∷ []))
capped-push p xs x m n h e = grind (arith, count_by-push p xs x)

-- what `Axis::take` promises
pub record TakesAxis (old new : Axis) (need : ℤ) : Type 0 where
  pub of_spec : new.spec ≡ old.spec
  pub of_min : new.min ≡ old.min
  pub of_padding : new.padding ≡ old.padding
  pub of_most : new.most ≡ int_max old.most need

IsAxis-take : (old new : Axis) (spec : Spec) (min padding : ℤ) (need : Measured → ℤ) (taken : List Measured) (kid : Measured)
    → TakesAxis old new (need kid) → IsAxis old spec min padding (greatest_by need taken) → IsAxis new spec min padding (greatest_by need (taken ++ kid ∷ []))
IsAxis-take old new spec min padding need taken kid takes is = record {
  of_spec = takes.of_spec ∙ is.of_spec;
  of_min = takes.of_min ∙ is.of_min;
  of_padding = takes.of_padding ∙ is.of_padding;
  of_most = takes.of_most ∙ ap (λ most. int_max most (need kid)) is.of_most ∙ sym (greatest_by-push need taken kid);
}

-- in the first phase it takes every child
pub take-first : (plan : FramePlan) (across down : Axis) (matching : ℕ) (own : Facts) (specs : Specs) (past : List (List Measured)) (taken : List Measured) (facts : Facts) (size : Size)
    → plan.own_size ≡ None
    → TakesAxis plan.across across (need_across (record { facts = facts; size = size }))
    → TakesAxis plan.down down (need_down (record { facts = facts; size = size }))
    → matching ≡ cond (matches_parent facts) (min 2 (plan.matching + 1)) plan.matching
    → RepresentsFrame plan own specs past taken
    → RepresentsFrame (record plan { across = across; down = down; matching = matching }) own specs past (taken ++ taken_as (frame_rule own specs) past taken facts size ∷ [])
take-first plan across down matching own specs [] taken facts size none wide tall many represents =
    let kid : Measured = record { facts = facts; size = size } in
    record {
      measured = record {
        across = IsAxis-take plan.across across _ _ _ need_across taken kid wide represents.measured.across;
        down = IsAxis-take plan.down down _ _ _ need_down taken kid tall represents.measured.down;
      };
      matching = capped-push (λ (k : Measured). matches_parent k.facts) taken kid plan.matching matching represents.matching many;
      own_size = none;
    }
take-first plan across down matching own specs (first ∷ []) taken facts size none wide tall many represents = no_size none represents.own_size
take-first plan across down matching own specs (first ∷ second ∷ more) taken facts size none wide tall many represents = absurd represents
