use Rattle.std.proofs.Common.{arith}
use Rattle.std.proofs.lemmas.Int.{ints, to_z-of_z}
use Rattle.std.proofs.lemmas.Grind.{common_steps}
use Rattle.view_model.specs.Facts.{layout_facts}
use Rattle.frame_layout.proofs.PlanLaws.{take-first}
use Rattle.frame_layout.proofs.plan.FramePlan.take.Goals as goal

pub returns : goal.returns
returns c = λ own specs past taken.
    take-first c.args.self.now c.take.new.self c.take-2.new.self c.count_to_two-self.result own specs past taken (layout_facts c.args.kid.now) c.args.size
    (grind (arith, common_steps))
    (record {
      of_spec = c.take.ensures.spec;
      of_min = c.take.ensures.min;
      of_padding = c.take.ensures.padding;
      of_most = grind (arith, ints, to_z-of_z);
    })
    (record {
      of_spec = c.take-2.ensures.spec;
      of_min = c.take-2.ensures.min;
      of_padding = c.take-2.ensures.padding;
      of_most = grind (arith, ints, to_z-of_z);
    })
    (rw (← c.matches_parent.ensures) c.count_to_two-self.ensures)
