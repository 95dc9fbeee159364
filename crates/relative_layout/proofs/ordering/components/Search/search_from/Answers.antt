use Rattle.relative_layout.proofs.orders.SearchLaws.{IsSearching-hold, nothing_on}
use Rattle.relative_layout.proofs.ordering.components.Search.search_from.Goals as goal

pub enter-requires-clause-search : goal.enter-requires-clause-search
enter-requires-clause-search c = IsSearching-hold c.args.kids.now c.args.naming.now c.args.self.now c.args.point c.requires.search

pub enter-requires-clause-led : goal.enter-requires-clause-led
enter-requires-clause-led c = λ place h. absurd (nothing_on c.args.kids.now c.args.naming.now c.args.self.now c.requires.parts c.requires.search place h)
