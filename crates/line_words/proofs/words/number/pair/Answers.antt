use Rattle.line_words.proofs.texts.BoundLaws.{kept_within}
use Rattle.line_words.proofs.words.number.pair.Goals as goal

pub returns-clause-bounds : goal.returns-clause-bounds
returns-clause-bounds c =
    let low = c.requires.low in
    let high = c.requires.high in (
      kept_within c.args.low c.args.high c.in_ok-first.first c.ranges.low c.ranges.high low high c.in_ok-first.ensures.bounds,
      kept_within c.args.low c.args.high c.in_ok-second.second c.ranges.low c.ranges.high low high c.in_ok-second.ensures.bounds,
    )
