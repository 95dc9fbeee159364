use Rattle.std.proofs.Common.{◌≡◌}
use Rattle.relative_layout.specs.ordering.Components.{Settles}
use Rattle.relative_layout.proofs.ordering.components.Search.finish.Given as goal

abbrev pub invariant-loop-place : goal.invariant-loop-place
invariant-loop-place l = record {
  settles : Settles l.two l.count l.start l.place l.fn.self.path.items l.fn.self.status.items l.self.status.items l.fn.self.members.items l.self.members.items;
  path : l.self.path ≡ l.fn.self.path;
  parts : l.self.parts ≡ l.fn.self.parts;
  todo : l.self.todo ≡ l.fn.self.todo;
}
