use Rattle.std.proofs.Common.{◌<◌, ℕ}
use Rattle.std.specs.Prelude.{IfSome, slice_index}
use Rattle.relative_layout.specs.ordering.Naming.{link_at, padded_ids}
use Rattle.view_model.specs.SiblingRules.{last_with_id}
use Rattle.relative_layout.proofs.ordering.listing.names_back.Given as goal

abbrev pub invariant-loop-id : goal.invariant-loop-id
invariant-loop-id l = (k : ℕ) → k < l.id-index → IfSome (last_with_id l.kids (slice_index (padded_ids l.fn.axis (link_at l.kids l.place).rules) k)) (λ last. last < l.place)
