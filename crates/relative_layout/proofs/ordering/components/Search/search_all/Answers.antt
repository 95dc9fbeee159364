use Rattle.std.proofs.Common.{◌≡◌, arith, inl, inr}
use Rattle.std.proofs.lemmas.Bool.{cases_lt}
use Rattle.relative_layout.proofs.ordering.components.Search.search_all.Goals as goal

pub loop-point-init : goal.loop-point-init
loop-point-init c = record { search = c.requires.search; parts = c.requires.parts; each = λ p h. absurd (omega arith) }

pub loop-point-preserved : goal.loop-point-preserved
loop-point-preserved c =
    let from = c.in_ok-search_from.ensures in
    record {
      search = from.search;
      parts = from.parts;
      each = λ p h. elim (cases_lt p c.loop-point.point) [
        | inl lt ↦ from.visits p (c.loop-point.invariant.each p lt)
        | inr le ↦ let same : p ≡ c.loop-point.point = omega arith in rw same from.here
      ];
    }
