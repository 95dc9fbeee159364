use Rattle.std.proofs.Common.{◌≡◌, length}
use Rattle.relative_layout.specs.ordering.Components.{Joins}
use Rattle.relative_layout.proofs.ordering.components.Search.join.Given as goal

abbrev pub invariant-loop-self : goal.invariant-loop-self
invariant-loop-self l = record {
  joins : Joins l.place l.fn.self.parts.items l.self.parts.items;
  status : l.self.status ≡ l.fn.self.status;
  path : l.self.path ≡ l.fn.self.path;
  todo : l.self.todo ≡ l.fn.self.todo;
  members : l.self.members ≡ l.fn.self.members;
}

abbrev pub decreases-loop-self : goal.decreases-loop-self
decreases-loop-self l = length l.self.parts.items
