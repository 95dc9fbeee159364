use Rattle.std.proofs.Common.{rules}
use Rattle.std.proofs.lemmas.List.Sorted.{answers_always, IsNonDecreasingBy-from_sort_by_key}
use Rattle.arsc_reader.proofs.Latest.{latest-stable}
use Rattle.arsc_reader.proofs.table.sort.Goals as goal

pub returns-clause-order : goal.returns-clause-order
returns-clause-order c = IsNonDecreasingBy-from_sort_by_key (λ e. e.id) _ c.in_ok-sort_by_key.ensures.sorted (λ a r q k. search rules)

pub returns-clause-same : goal.returns-clause-same
returns-clause-same c = latest-stable _ _ (c.sort_by_key.ensures.stable (λ e. e.id) (answers_always _ _ _ (λ f a r g h. search rules)))
