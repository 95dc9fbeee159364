-- What one child more makes of a pass.
use Rattle.std.proofs.Common.{◌≡◌, ◌+◌, ◌+ℤ◌, ◌-ℤ◌, ℕ, pos, Bool, List, [], ◌∷◌, ◌++◌, ap, sym, ◌∙◌, refl, arith, length-append}
use Rattle.std.specs.Prelude.{◌&&◌, ◌||◌, not}
use Rattle.std.specs.List.{list_all, list_any}
use Rattle.std.proofs.Math.Bool.{or-false, and-true}
use Rattle.std.proofs.lemmas.List.Sums.{fold_push, sum_by_push}
use Rattle.std.proofs.lemmas.List.Folds.{list_any-append, list_all-append}
use Rattle.linear_layout.specs.declared.first_pass.FirstPass.{FirstPass}
use Rattle.linear_layout.specs.declared.weight_pass.WeightPass.{WeightPass}
use Rattle.linear_layout.specs.Passes.{IsFirstPass, IsWeightPass}
use Rattle.view_model.specs.declared.facts.Facts.{Facts}
use Rattle.view_model.specs.Facts.{is_match}
use Rattle.view_model.specs.LinearLayout.{Rest, after_share, breadth_of, claim_of, dim_on, extent_of, greater, is_exact_beside, rest_of, share, skips, where_even, where_weighted}
use Rattle.view_model.specs.Measuring.{Measured, Specs}

-- the first pass with one child more
pub record AddsToFirstPass (old new : FirstPass) (own : Facts) (specs : Specs) (kid : Measured) : Type 0 where
  pub count : new.extents.count ≡ old.extents.count + 1
  pub count_weights : new.weights.count ≡ old.weights.count + 1
  pub extents : new.extents.sum ≡ old.extents.sum +ℤ extent_of own.vertical kid
  pub weights : new.weights.sum ≡ old.weights.sum + kid.facts.weight
  pub broadest : new.broadest.value ≡ greater old.broadest.value (breadth_of own.vertical kid)
  pub even : new.even.value ≡ greater old.even.value (where_even kid.facts.weight (claim_of own.vertical (is_exact_beside own specs) kid))
  pub weighted : new.weighted.value ≡ greater old.weighted.value (where_weighted kid.facts.weight (claim_of own.vertical (is_exact_beside own specs) kid))
  pub all_match : new.all_match ≡ (old.all_match && is_match (dim_on (not own.vertical) kid.facts))
  pub any_match : new.any_match ≡ (old.any_match || is_match (dim_on (not own.vertical) kid.facts))
  pub any_skipped : new.any_skipped ≡ (old.any_skipped || skips own specs kid.facts)

any_push : (p : Measured → Bool) (kids : List Measured) (kid : Measured) → list_any p (kids ++ kid ∷ []) ≡ (list_any p kids || p kid)
any_push p kids kid = list_any-append p kids (kid ∷ []) ∙ ap (λ b. list_any p kids || b) (or-false _)

all_push : (p : Measured → Bool) (kids : List Measured) (kid : Measured) → list_all p (kids ++ kid ∷ []) ≡ (list_all p kids && p kid)
all_push p kids kid = list_all-append p kids (kid ∷ []) ∙ ap (λ b. list_all p kids && b) (and-true _)

pub FirstPass-push : (old new : FirstPass) (own : Facts) (specs : Specs) (kids : List Measured) (kid : Measured) → AddsToFirstPass old new own specs kid → IsFirstPass old own specs kids
    → IsFirstPass new own specs (kids ++ kid ∷ [])
FirstPass-push old new own specs kids kid a s =
    let v = own.vertical in
    let exact = is_exact_beside own specs in
    let long = length-append kids (kid ∷ []) in
    let c = a.count in let d = s.count in let e = a.count_weights in let f = s.count_weights in
    record {
      count = omega arith;
      count_weights = omega arith;
      extents = a.extents ∙ ap (λ sum. sum +ℤ extent_of v kid) s.extents ∙ sym (fold_push (λ sum kid. sum +ℤ extent_of v kid) (pos 0) kids kid);
      weights = a.weights ∙ ap (λ sum. sum + kid.facts.weight) s.weights ∙ sym (sum_by_push (λ (kid : Measured). kid.facts.weight) kids kid);
      broadest = a.broadest ∙ ap (λ most. greater most (breadth_of v kid)) s.broadest ∙ sym (fold_push (λ most kid. greater most (breadth_of v kid)) (pos 0) kids kid);
      even = a.even ∙ ap (λ most. greater most (where_even kid.facts.weight (claim_of v exact kid))) s.even
          ∙ sym (fold_push (λ most (kid : Measured). greater most (where_even kid.facts.weight (claim_of v exact kid))) (pos 0) kids kid);
      weighted = a.weighted ∙ ap (λ most. greater most (where_weighted kid.facts.weight (claim_of v exact kid))) s.weighted
          ∙ sym (fold_push (λ most (kid : Measured). greater most (where_weighted kid.facts.weight (claim_of v exact kid))) (pos 0) kids kid);
      all_match = a.all_match ∙ ap (λ b. b && is_match (dim_on (not v) kid.facts)) s.all_match ∙ sym (all_push (λ (kid : Measured). is_match (dim_on (not v) kid.facts)) kids kid);
      any_match = a.any_match ∙ ap (λ b. b || is_match (dim_on (not v) kid.facts)) s.any_match ∙ sym (any_push (λ (kid : Measured). is_match (dim_on (not v) kid.facts)) kids kid);
      any_skipped = a.any_skipped ∙ ap (λ b. b || skips own specs kid.facts) s.any_skipped ∙ sym (any_push (λ (kid : Measured). skips own specs kid.facts) kids kid);
    }

-- the weight pass with one child more
pub record AddsToWeightPass (old new : WeightPass) (own : Facts) (specs : Specs) (kid : Measured) : Type 0 where
  pub count : new.extents.count ≡ old.extents.count + 1
  pub count_shares : new.sharing.count ≡ old.sharing.count + 1
  pub extents : new.extents.sum ≡ old.extents.sum +ℤ extent_of own.vertical kid
  pub weight : new.sharing.weight ≡ old.sharing.weight -ℤ pos kid.facts.weight
  pub spare : new.sharing.spare ≡ old.sharing.spare -ℤ share old.sharing.weight old.sharing.spare kid.facts.weight
  pub broadest : new.broadest.value ≡ greater old.broadest.value (breadth_of own.vertical kid)
  pub claim : new.claim.value ≡ greater old.claim.value (claim_of own.vertical (is_exact_beside own specs) kid)
  pub any_match : new.any_match ≡ (old.any_match || is_match (dim_on (not own.vertical) kid.facts))

rest_push : (own : Facts) (specs : Specs) (first kids : List Measured) (kid : Measured) → rest_of own specs first (kids ++ kid ∷ []) ≡ after_share (rest_of own specs first kids) kid.facts.weight
rest_push own specs first kids kid = fold_push (λ rest (kid : Measured). after_share rest kid.facts.weight) _ kids kid

after_weight : (rest : Rest) (w : ℕ) → (after_share rest w).weight ≡ rest.weight -ℤ pos w
unfolding after_share
after_weight rest w = refl

after_spare : (rest : Rest) (w : ℕ) → (after_share rest w).spare ≡ rest.spare -ℤ share rest.weight rest.spare w
unfolding after_share
after_spare rest w = refl

pub WeightPass-push : (old new : WeightPass) (own : Facts) (specs : Specs) (first kids : List Measured) (kid : Measured) → AddsToWeightPass old new own specs kid → IsWeightPass old own specs first kids
    → IsWeightPass new own specs first (kids ++ kid ∷ [])
WeightPass-push old new own specs first kids kid a s =
    let v = own.vertical in
    let exact = is_exact_beside own specs in
    let long = length-append kids (kid ∷ []) in
    let c = a.count in let d = s.count in let e = a.count_shares in let f = s.count_shares in
    let rest = rest_push own specs first kids kid in
    record {
      count = omega arith;
      count_shares = omega arith;
      extents = a.extents ∙ ap (λ sum. sum +ℤ extent_of v kid) s.extents ∙ sym (fold_push (λ sum kid. sum +ℤ extent_of v kid) (pos 0) kids kid);
      weight = a.weight ∙ ap (λ x. x -ℤ pos kid.facts.weight) s.weight ∙ sym (ap (λ (rest : Rest). rest.weight) rest ∙ after_weight (rest_of own specs first kids) kid.facts.weight);
      spare = a.spare ∙ ap (λ x. x -ℤ share old.sharing.weight x kid.facts.weight) s.spare
          ∙ ap (λ w. (rest_of own specs first kids).spare -ℤ share w (rest_of own specs first kids).spare kid.facts.weight) s.weight
          ∙ sym (ap (λ (rest : Rest). rest.spare) rest ∙ after_spare (rest_of own specs first kids) kid.facts.weight);
      broadest = a.broadest ∙ ap (λ most. greater most (breadth_of v kid)) s.broadest ∙ sym (fold_push (λ most kid. greater most (breadth_of v kid)) _ kids kid);
      claim = a.claim ∙ ap (λ most. greater most (claim_of v exact kid)) s.claim ∙ sym (fold_push (λ most kid. greater most (claim_of v exact kid)) _ kids kid);
      any_match = a.any_match ∙ ap (λ b. b || is_match (dim_on (not v) kid.facts)) s.any_match ∙ sym (any_push (λ (kid : Measured). is_match (dim_on (not v) kid.facts)) kids kid);
    }
