use Rattle.std.proofs.Common.{None, length}
use Rattle.relative_layout.specs.ordering.Naming.{lists_of}
use Rattle.relative_layout.specs.ordering.Components.{IsSearching, Visits, search_effort}
use Rattle.relative_layout.proofs.ordering.components.Search.leave_all.Given as goal

abbrev pub invariant-loop-part : goal.invariant-loop-part
invariant-loop-part l = record {
  search : IsSearching l.kids l.naming l.self None;
  visits : Visits l.fn.self.status.items l.self.status.items;
}

abbrev pub decreases-loop-part : goal.decreases-loop-part
decreases-loop-part l = search_effort (lists_of l.naming.namers.items) l.self.status.items (length l.self.todo.items) (length l.self.parts.items)
