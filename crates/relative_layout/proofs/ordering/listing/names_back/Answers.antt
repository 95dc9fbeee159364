use Rattle.std.proofs.Common.{◌≡◌, ◌∙◌, ℕ, get_or, arith, below_more}
use Rattle.view_model.specs.SiblingRules.{last_with_id}
use Rattle.relative_layout.proofs.ordering.listing.names_back.Goals as goal

pub loop-id-preserved : goal.loop-id-preserved
loop-id-preserved c =
    let id : ℕ = get_or c.named_ids.result c.loop-id.id-index 0 in
    let last : c.last_in.result ≡ last_with_id c.args.kids.now id = c.last_in.ensures ∙ c.requires.table id in
    let before = rw last at (c.is_before.ensures c.if-not-is_before.false) in
    below_more _ _ c.loop-id.invariant (rw c.named_ids.ensures at before)

pub returns : goal.returns
returns c = λ _ k small. c.loop-id.invariant k (omega arith)
