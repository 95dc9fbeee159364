use Rattle.relative_layout.proofs.ordering.components.Search.leave_all.Goals as goal

pub loop-part-init : goal.loop-part-init
loop-part-init c = record { search = c.requires.search; visits = λ a was. was }

pub loop-part-preserved : goal.loop-part-preserved
loop-part-preserved c = record {
  search = c.in_ok-step.ensures.search;
  visits = λ a was. c.in_ok-step.ensures.visits a (c.loop-part.invariant.visits a was);
}
