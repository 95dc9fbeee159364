use Rattle.std.proofs.Common.{refl}
use Rattle.measure_pass.proofs.measuring.frame.frame_size.Goals as goal

pub returns : goal.returns
returns c = record {
  size = λ group past taken represents. rw represents.0 (c.finish.ensures.value group.own group.specs past taken represents.1);
  total = λ group past taken represents. rw represents.0 refl;
}
