use Rattle.std.proofs.Common.{leb, leb-true, arith, rules}
use Rattle.std.proofs.lemmas.Bool.{leb-false}
use Rattle.std.proofs.lemmas.List.Sorted.{IsPartitionPoint-from_clause, IsPartitionedBy-leb}
use Rattle.arsc_reader.proofs.table.place_after.Goals as goal

pub returns : goal.returns
returns c =
    let parted = IsPartitionedBy-leb (λ e. e.id) _ c.args.id c.requires in
    let point = IsPartitionPoint-from_clause (λ e. leb e.id c.args.id) _ _ c.partition_point.ensures.partitioned parted (λ a r q k. search rules) in
    record {
      within = c.partition_point.ensures.bound;
      low = λ k d lt. leb-true _ _ (point.0 k d (omega arith) lt);
      high = λ k d le lt. leb-false _ _ (point.1 k d le lt);
    }
