use Rattle.std.proofs.Common.{◌≡◌, ◌<◌, ◌+ℤ◌, arith, ap}
use Rattle.std.specs.Prelude.{◌&&◌, ◌||◌}
use Rattle.std.proofs.lemmas.Int.{to_z-of_z}
use Rattle.linear_layout.proofs.PassLaws.{FirstPass-push}
use Rattle.linear_layout.specs.Line.{kid_with, own_in, specs_in}
use Rattle.view_model.specs.declared.limits.TheConstants.{MAX_VIEWS}
use Rattle.view_model.specs.LinearLayout.{breadth_of, claim_of, extent_of, greater, is_exact_beside, where_even, where_weighted}
use Rattle.linear_layout.proofs.first_pass.FirstPass.with.Goals as goal

pub returns : goal.returns
returns c = λ kids few s.
    let own = own_in c.args.line.now in
    let specs = specs_in c.args.line.now in
    let v = own.vertical in
    let kid = kid_with c.args.kid.now c.args.size in
    let count = s.count in
    let counts = s.count_weights in
    let low : c.args.self.now.extents.count < MAX_VIEWS = omega arith in
    let lows : c.args.self.now.weights.count < MAX_VIEWS = omega arith in
    let extents : c.add.result.sum ≡ c.args.self.now.extents.sum +ℤ extent_of v kid = (let e = c.add.ensures.sum low in let x = c.taken_by-taken.ensures.extent in grind (arith, to_z-of_z)) in
    let broadest : c.with.result.value ≡ greater c.args.self.now.broadest.value (breadth_of v kid) = (let e = c.with.ensures in let x = c.taken_by-taken.ensures.breadth in grind (arith, to_z-of_z)) in
    let even : c.with-2.result.value ≡ greater c.args.self.now.even.value (where_even c.args.kid.now.weight (claim_of v (is_exact_beside own specs) kid)) =
    (let e = c.with-2.ensures in let x = c.even_claim.ensures.value in let y = c.taken_by-taken.ensures.claim in grind (arith, to_z-of_z)) in
    let weighted : c.with-3.result.value ≡ greater c.args.self.now.weighted.value (where_weighted c.args.kid.now.weight (claim_of v (is_exact_beside own specs) kid)) =
    (let e = c.with-3.ensures in let x = c.weighted_claim.ensures.value in let y = c.taken_by-taken.ensures.claim in grind (arith, to_z-of_z)) in
    FirstPass-push c.args.self.now _ own specs kids kid (record {
      count = c.add.ensures.count low;
      count_weights = c.add-2.ensures.count lows;
      extents = extents;
      weights = c.add-2.ensures.sum lows;
      broadest = broadest;
      even = even;
      weighted = weighted;
      all_match = ap (λ b. c.args.self.now.all_match && b) c.matches.ensures;
      any_match = ap (λ b. c.args.self.now.any_match || b) c.matches-2.ensures;
      any_skipped = ap (λ b. c.args.self.now.any_skipped || b) c.skips.ensures;
    }) s
