use Rattle.std.proofs.Common.{◌∙◌, ap, sym, subst, List, ℕ}
use Rattle.std.specs.Prelude.{Option}
use Rattle.window_stack.specs.PlainPanes.{IsStack, PlainPanes, closed, without}
use Rattle.window_stack.specs.declared.panes.Pane.{Pane}
use Rattle.window_stack.proofs.PaneLaws.{stack_closed}
use Rattle.window_stack.proofs.panes.Panes.close.Goals as goal

pub take_out-requires : goal.take_out-requires
take_out-requires c = c.self.invariant.once

pub invariant_of-self : goal.invariant_of-self
invariant_of-self c =
    subst (λ (l : List Pane). IsStack (record { panes = l; holder = c.holder_without-self-inside.result })) (sym c.take_out.ensures.others)
    (subst (λ (h : Option ℕ). IsStack (record { panes = without c.args.k c.self.inside.panes.items; holder = h })) (sym c.holder_without-self-inside.ensures)
    (stack_closed c.self.inside.holder c.args.k c.self.inside.panes.items c.self.invariant))

pub returns : goal.returns
returns c =
    ap (λ (l : List Pane). record { panes = l; holder = c.holder_without-self-inside.result }) c.take_out.ensures.others
    ∙ ap (λ (h : Option ℕ). record { panes = without c.args.k c.self.inside.panes.items; holder = h }) c.holder_without-self-inside.ensures
    ∙ ap (λ (s : PlainPanes). closed s c.args.k) c.self.view_is
