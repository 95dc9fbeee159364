use Rattle.std.proofs.Common.{◌≡◌, min, ◌≤◌, ◌<◌, ◌+◌, ◌-◌, ◌*◌, ◌++◌, ◌^◌, List, ℕ, length, take}
use Rattle.view_model.specs.declared.limits.TheConstants.{MAX_VIEWS}
use Rattle.whole_tool.specs.Carried.{Carried}
use Rattle.whole_tool.specs.Carrier.{next_of}
use Rattle.whole_tool.specs.Run.{HasReadUpTo}
use Rattle.whole_tool.specs.Works.{Trace, trace}
use Rattle.whole_tool.proofs.run.Run.piece.Given as goal

-- from where the run was, it is now after the part of the piece that was taken
abbrev pub invariant-loop-at : goal.invariant-loop-at
invariant-loop-at g l = record {
  within : l.at ≤ length l.piece;
  following : (start : Carried) (first : Trace) (before : List ℕ) → length (before ++ l.piece) < 2 ^ 63 → HasReadUpTo start (g.F.Shelf.files l.fn.shelf) first (trace (g.K.Sink.state l.fn.sink) l.fn.work (g.F.Shelf.fetches l.fn.shelf)) l.fn.self before
      → HasReadUpTo start (g.F.Shelf.files l.fn.shelf) first (trace (g.K.Sink.state l.sink) l.work (g.F.Shelf.fetches l.shelf)) l.self (before ++ take l.at l.piece);
  numbers : next_of l.self.runner.carrier ≤ next_of l.fn.self.runner.carrier + MAX_VIEWS * l.at;
  files : g.F.Shelf.files l.shelf ≡ g.F.Shelf.files l.fn.shelf;
  fetches : g.F.Shelf.faults l.shelf ≡ g.F.Shelf.faults l.fn.shelf;
  painted : l.fn.work.painted ≤ l.work.painted;
  measured : min l.fn.work.measured (2 ^ 64 - 1) ≤ l.work.measured;
  counted : (g.K.Sink.state l.sink).faults ≡ (g.K.Sink.state l.fn.sink).faults;
}

abbrev pub decreases-loop-at : goal.decreases-loop-at
decreases-loop-at g l = length l.piece - l.at
