use Rattle.std.proofs.Common.{◌<◌, ℕ}
use Rattle.relative_layout.specs.ordering.Naming.{NamesBack}
use Rattle.relative_layout.proofs.ordering.listing.leads_back.Given as goal

abbrev pub invariant-loop-place : goal.invariant-loop-place
invariant-loop-place l = (p : ℕ) → p < l.place → NamesBack l.axis l.kids p
