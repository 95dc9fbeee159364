use Rattle.std.proofs.Common.{◌∙◌, ap, sym, subst, refl, [], set}
use Rattle.std.proofs.KnownBytes.{Appends-nil}
use Rattle.std.specs.Prelude.{None, Result, map, unsigned_abs}
use Rattle.stack_worlds.proofs.ChangeLaws.{closed_place, closed_plain, delivered_writes, part_back, part_text, stacked}
use Rattle.stack_worlds.proofs.OpenLaws.{has_closed, has_same, raise_keeps}
use Rattle.stack_worlds.proofs.stack.Stack.change.Goals as goal
use Rattle.stack_worlds.specs.KeptStack.{HasWorlds, KeyedStack, kept_world, stack_of}
use Rattle.stack_worlds.specs.PlainStack.{Done, composed_text, own_step}
use Rattle.stack_worlds.specs.StackCarried.{IsOwnSound, WritesStack, written}
use Rattle.stack_worlds.specs.WindowLines.{worlds_after}
use Rattle.stack_worlds.specs.declared.stack.way.Own.{Own}
use Rattle.text_lines.specs.Delivered.{Delivered}
use Rattle.world_parts.specs.declared.fault.StepFault.{StepFault}
use Rattle.window_stack.specs.PlainPanes.{PlainPanes, closed, is_open, raised}

pub invariant_of-self : goal.invariant_of-self
invariant_of-self g c =
    has_same c.self.inside.panes c.raise.new.self (map kept_world c.self.inside.worlds)
    (λ j. ap (λ (p : PlainPanes). is_open p j) c.raise.ensures ∙ raise_keeps c.self.inside.panes c.in-Raise.k j)
    c.self.invariant

pub returns-in-Raise-clause-carried : goal.returns-in-Raise-clause-carried
returns-in-Raise-clause-carried g c =
    let k = c.in-Raise.k in
    let before = g.K.Sink.state c.args.sink.now in
    let left =
    ap (λ (p : PlainPanes). stacked p (map kept_world c.self.inside.worlds)) c.raise.ensures
    ∙ ap (λ (s : KeyedStack). stacked (raised s.panes k) s.worlds) c.self.view_is in (
      [],
      ap (own_step (stack_of c.args.self.now)) c.in-Raise.is ∙ ap (λ (s : KeyedStack). Done (stack_of s) []) (sym left),
      Appends-nil before.gone,
      refl,
    )

pub invariant_of-self-in-Close : goal.invariant_of-self-in-Close
invariant_of-self-in-Close g c =
    let k = c.in-Close.k in
    let inside = c.self-in-Close.inside in
    let window = subst (IsOwnSound (stack_of c.args.self.now)) c.in-Close.is c.requires in
    subst HasWorlds (sym (closed_place inside.panes c.close.new.self inside.worlds k c.from.result c.from.ensures c.close.ensures))
    (has_closed inside.panes (map kept_world inside.worlds) k window.name c.self-in-Close.invariant)

pub returns-in-Close-clause-carried : goal.returns-in-Close-clause-carried
returns-in-Close-clause-carried g c =
    let k = c.in-Close.k in
    let inside = c.self-in-Close.inside in
    let before = g.K.Sink.state c.args.sink.now in
    let left =
    closed_place inside.panes c.close.new.self inside.worlds k c.from.result c.from.ensures c.close.ensures
    ∙ ap (λ (s : KeyedStack). stacked (closed s.panes k) (set s.worlds k None)) c.self-in-Close.view_is in (
      [],
      ap (own_step (stack_of c.args.self.now)) c.in-Close.is ∙ closed_plain c.args.self.now k ∙ ap (λ (s : KeyedStack). Done (stack_of s) []) (sym left),
      Appends-nil before.gone,
      refl,
    )

pub returns-in-Close-clause-worlds : goal.returns-in-Close-clause-worlds
returns-in-Close-clause-worlds g c done =
    let k = c.in-Close.k in
    let inside = c.self-in-Close.inside in
    ap (λ (s : KeyedStack). s.worlds) (closed_place inside.panes c.close.new.self inside.worlds k c.from.result c.from.ensures c.close.ensures)
    ∙ ap (λ (s : KeyedStack). set s.worlds k None) c.self-in-Close.view_is
    ∙ sym (ap (worlds_after c.args.self.now) c.in-Close.is)

pub returns-in-Compose-clause-carried : goal.returns-in-Compose-clause-carried
returns-in-Compose-clause-carried g c =
    let stack = stack_of c.args.self.now in
    let before = g.K.Sink.state c.args.sink.now in
    let after = g.K.Sink.state c.compose.new.sink in
    let part = subst (IsOwnSound stack) c.in-Compose.is c.requires in
    let text = composed_text stack (unsigned_abs c.in-Compose.x) (unsigned_abs c.in-Compose.y) (unsigned_abs c.in-Compose.w) (unsigned_abs c.in-Compose.h) in
    let delivered = subst (Delivered before after c.compose.result) (part_back stack c.in-Compose.x c.in-Compose.y c.in-Compose.w c.in-Compose.h part) c.compose.ensures in
    subst (λ (r : Result (Unit {0}) StepFault). WritesStack (own_step stack c.args.own) stack before after r) (sym c.written.ensures)
    (subst (λ (own : Own). WritesStack (own_step stack own) stack before after (written c.compose.result)) (sym c.in-Compose.is) (delivered_writes stack text before after c.compose.result delivered))

pub returns-in-Compose-clause-silent : goal.returns-in-Compose-clause-silent
returns-in-Compose-clause-silent g c after e =
    let now = stack_of c.args.self.now in
    absurd (part_text now after c.in-Compose.x c.in-Compose.y c.in-Compose.w c.in-Compose.h (subst (IsOwnSound now) c.in-Compose.is c.requires) (sym (ap (own_step now) c.in-Compose.is) ∙ e))
