use Rattle.std.proofs.Common.{◌≡◌, ◌∙◌, ◌∷◌, ◌++◌, ap, sym, subst, Some, List}
use Rattle.window_stack.specs.PlainPanes.{AreOpen, IsStack, PlainPanes, pane_at, raised, without}
use Rattle.window_stack.specs.declared.panes.Pane.{Pane}
use Rattle.window_stack.proofs.PaneLaws.{AreOpen-raised, only-found, stack_raised}
use Rattle.window_stack.proofs.panes.Panes.raise.Goals as goal

pub take_out-requires : goal.take_out-requires
take_out-requires c = c.self.invariant.once

pub put_on_top-requires : goal.put_on_top-requires
put_on_top-requires c =
    let found : pane_at c.self.inside.panes.items c.args.k ≡ Some c.in-Some.pane = sym c.take_out.ensures.taken ∙ c.in-Some.is in
    subst (λ (l : List Pane). AreOpen (c.in-Some.pane ∷ l)) (sym c.take_out.ensures.others) (AreOpen-raised c.args.k c.self.inside.panes.items c.in-Some.pane c.self.invariant.once found)

pub invariant_of-self : goal.invariant_of-self
invariant_of-self c =
    let found : pane_at c.self.inside.panes.items c.args.k ≡ Some c.in-Some.pane = sym c.take_out.ensures.taken ∙ c.in-Some.is in
    let now : c.put_on_top.new.panes.items ≡ c.in-Some.pane ∷ without c.args.k c.self.inside.panes.items = c.put_on_top.ensures ∙ ap (λ (l : List Pane). c.in-Some.pane ∷ l) c.take_out.ensures.others in
    subst (λ (l : List Pane). IsStack (record { panes = l; holder = c.self.inside.holder })) (sym now)
    (stack_raised c.self.inside.holder c.args.k c.self.inside.panes.items c.in-Some.pane found c.self.invariant)

pub returns : goal.returns
returns c =
    let found : pane_at c.self.inside.panes.items c.args.k ≡ Some c.in-Some.pane = sym c.take_out.ensures.taken ∙ c.in-Some.is in
    let now : c.put_on_top.new.panes.items ≡ c.in-Some.pane ∷ without c.args.k c.self.inside.panes.items = c.put_on_top.ensures ∙ ap (λ (l : List Pane). c.in-Some.pane ∷ l) c.take_out.ensures.others in
    ap (λ (l : List Pane). record { panes = l; holder = c.self.inside.holder }) (now ∙ ap (λ (l : List Pane). l ++ without c.args.k c.self.inside.panes.items) (sym (only-found c.args.k c.self.inside.panes.items c.in-Some.pane c.self.invariant.once found)))
    ∙ ap (λ (s : PlainPanes). raised s c.args.k) c.self.view_is
