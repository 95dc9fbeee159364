-- What the passes of a measuring represent: the children that they have taken.
use Rattle.std.specs.Prelude.{◌≡◌, pos, not, List, length}
use Rattle.std.specs.List.{list_all, list_any}
use Rattle.linear_layout.specs.declared.first_pass.FirstPass.{FirstPass}
use Rattle.linear_layout.specs.declared.weight_pass.WeightPass.{WeightPass}
use Rattle.view_model.specs.declared.facts.Facts.{Facts}
use Rattle.view_model.specs.Facts.{is_match}
use Rattle.view_model.specs.LinearLayout.{broadest_from, claim_from, dim_on, even_claim, is_exact_beside, length_of}
use Rattle.view_model.specs.LinearLayout.{rest_of, skips, weight_of, weighted_claim}
use Rattle.view_model.specs.Measuring.{Measured, Specs}

-- the first pass of a group with these facts under these specs, once it has taken these children
pub record IsFirstPass (pass : FirstPass) (own : Facts) (specs : Specs) (kids : List Measured) : Type 0 where
  pub count : pass.extents.count ≡ length kids
  pub count_weights : pass.weights.count ≡ length kids
  pub extents : pass.extents.sum ≡ length_of own.vertical kids
  pub weights : pass.weights.sum ≡ weight_of kids
  pub broadest : pass.broadest.value ≡ broadest_from (pos 0) own.vertical kids
  pub even : pass.even.value ≡ even_claim own.vertical (is_exact_beside own specs) kids
  pub weighted : pass.weighted.value ≡ weighted_claim own.vertical (is_exact_beside own specs) kids
  pub all_match : pass.all_match ≡ list_all (λ (kid : Measured). is_match (dim_on (not own.vertical) kid.facts)) kids
  pub any_match : pass.any_match ≡ list_any (λ (kid : Measured). is_match (dim_on (not own.vertical) kid.facts)) kids
  pub any_skipped : pass.any_skipped ≡ list_any (λ (kid : Measured). skips own specs kid.facts) kids

-- the weight pass that follows on a first pass with these children, once it has taken the others
pub record IsWeightPass (pass : WeightPass) (own : Facts) (specs : Specs) (first kids : List Measured) : Type 0 where
  pub count : pass.extents.count ≡ length kids
  pub count_shares : pass.sharing.count ≡ length kids
  pub extents : pass.extents.sum ≡ length_of own.vertical kids
  pub weight : pass.sharing.weight ≡ (rest_of own specs first kids).weight
  pub spare : pass.sharing.spare ≡ (rest_of own specs first kids).spare
  pub broadest : pass.broadest.value ≡ broadest_from (broadest_from (pos 0) own.vertical first) own.vertical kids
  pub claim : pass.claim.value
      ≡ claim_from (even_claim own.vertical (is_exact_beside own specs) first) own.vertical (is_exact_beside own specs)
      kids
  pub any_match : pass.any_match ≡ list_any (λ (kid : Measured). is_match (dim_on (not own.vertical) kid.facts)) kids
