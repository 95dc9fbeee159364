use Rattle.std.proofs.Common.{◌∙◌, ap, inl, inr, subst, sym}
use Rattle.stack_worlds.proofs.CountLaws.{idle_failed, idle_line, measured_later, numbers_way, painted_later}
use Rattle.stack_worlds.specs.KeptStack.{stack_of}
use Rattle.stack_worlds.specs.PlainStack.{PlainStack, stack_step, way_of}
use Rattle.stack_worlds.specs.StackCarried.{WritesStack}
use Rattle.stack_worlds.proofs.StackLaws.{isolated_line}
use Rattle.stack_worlds.proofs.stack.Stack.line.Goals as goal
use Rattle.window_stack.specs.StackLines.{plain_line}

pub returns-clause-isolated : goal.returns-clause-isolated
returns-clause-isolated g c files k shared hand same is replied =
    let line = plain_line c.args.line in
    let new = stack_of c.carry_out.new.self in
    isolated_line files k shared line new (g.K.Sink.state c.args.sink.now) (g.K.Sink.state c.carry_out.new.sink) c.carry_out.result
    (subst (λ (s : PlainStack). WritesStack (stack_step files s line) new (g.K.Sink.state c.args.sink.now) (g.K.Sink.state c.carry_out.new.sink) c.carry_out.result) (sym same) (c.carry_out.ensures.carried files hand))
    (elim c.carry_out.ensures.unchanged [ inl done ↦ inl done | inr kept ↦ inr (ap stack_of kept.0 ∙ sym same) ])
    replied is

pub returns-clause-work : goal.returns-clause-work
returns-clause-work g c none = idle_line (plain_line c.args.line) c.args.self.now c.carry_out.new.self c.carry_out.result c.args.work.now c.carry_out.new.work c.carry_out.ensures.works none

pub returns-clause-idle : goal.returns-clause-idle
returns-clause-idle g c =
    idle_failed (way_of (stack_of c.args.self.now) (plain_line c.args.line)) c.args.self.now c.carry_out.new.self c.carry_out.result c.args.work.now c.carry_out.new.work c.carry_out.ensures.works

pub returns-clause-numbers : goal.returns-clause-numbers
returns-clause-numbers g c =
    numbers_way (way_of (stack_of c.args.self.now) (plain_line c.args.line)) c.args.self.now c.carry_out.new.self c.carry_out.result c.args.work.now c.carry_out.new.work c.carry_out.ensures.works
    (elim c.carry_out.ensures.unchanged [ inl done ↦ inl done | inr kept ↦ inr kept.0 ])

pub returns-clause-painted : goal.returns-clause-painted
returns-clause-painted g c =
    painted_later (way_of (stack_of c.args.self.now) (plain_line c.args.line)) c.args.self.now c.carry_out.new.self c.carry_out.result c.args.work.now c.carry_out.new.work c.carry_out.ensures.works

pub returns-clause-measured : goal.returns-clause-measured
returns-clause-measured g c =
    measured_later (way_of (stack_of c.args.self.now) (plain_line c.args.line)) c.args.self.now c.carry_out.new.self c.carry_out.result c.args.work.now c.carry_out.new.work c.carry_out.ensures.works
