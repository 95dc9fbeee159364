use Rattle.std.proofs.Common.{◌≡◌, ◌≢◌, ◌<◌, ℕ, [], None}
use Rattle.relative_layout.specs.ordering.Components.{IsSearching, status_of}
use Rattle.relative_layout.specs.declared.ordering.components.Status.TheVariants.{Fresh}
use Rattle.relative_layout.proofs.ordering.components.Search.search_all.Given as goal

abbrev pub invariant-loop-point : goal.invariant-loop-point
invariant-loop-point l = record {
  search : IsSearching l.kids l.naming l.self None;
  parts : l.self.parts.items ≡ [];
  each : (point : ℕ) → point < l.point → status_of l.self.status.items point ≢ Fresh;
}
