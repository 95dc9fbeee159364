use Rattle.std.proofs.Common.{◌≡◌, ◌+◌, ◌++◌, length}
use Rattle.view_tree.specs.tree.Grafting.{links_following, numbers_following}
use Rattle.view_tree.proofs.tree.relatives.kids_after.Given as goal

abbrev pub invariant-loop-sprout : goal.invariant-loop-sprout
invariant-loop-sprout l = record {
  links : l.kids.links.items ++ links_following l.depth l.number l.rest ≡ links_following l.fn.depth l.fn.number l.fn.sprouts;
  numbers : l.kids.numbers.items ++ numbers_following l.depth l.number l.rest ≡ numbers_following l.fn.depth l.fn.number l.fn.sprouts;
  count : l.number + length l.rest ≡ l.fn.number + length l.fn.sprouts;
}

abbrev pub decreases-loop-sprout : goal.decreases-loop-sprout
decreases-loop-sprout l = length l.rest
