use Rattle.measure_pass.proofs.plan.linear_leaves_all.Goals as goal

pub returns : goal.returns
returns c = λ yes. record {
  asks = λ group past last represents. rw represents.0 ((c.leaves_all.ensures.leaves yes group.own group.specs).asks past last represents.1);
  takes = λ group past taken more represents. (represents.0, (c.leaves_all.ensures.leaves yes group.own group.specs).takes past taken more represents.1);
  turns = λ group past taken represents. rw represents.0 ((c.leaves_all.ensures.leaves yes group.own group.specs).turns past taken represents.1);
}
