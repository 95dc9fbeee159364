use Rattle.relative_layout.proofs.ordering.sorted_by_names.Goals as goal

pub returns : goal.returns
returns c = rw c.in_ok-naming.ensures.axis at c.sorted_with.ensures
