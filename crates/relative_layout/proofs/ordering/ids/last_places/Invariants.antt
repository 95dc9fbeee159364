use Rattle.std.proofs.Common.{◌≡◌, ℕ}
use Rattle.std.specs.Prelude.{nat_eq}
use Rattle.indexmap.specs.IndexMap.{get as place_in}
use Rattle.relative_layout.proofs.orders.NamingLaws.{last_among}
use Rattle.relative_layout.proofs.ordering.ids.last_places.Given as goal

abbrev pub invariant-loop-place : goal.invariant-loop-place
invariant-loop-place l = (id : ℕ) → place_in nat_eq l.lasts id ≡ last_among l.kids id l.place
