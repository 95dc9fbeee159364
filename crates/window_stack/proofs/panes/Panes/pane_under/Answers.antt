use Rattle.std.proofs.Common.{◌≡◌, ◌≤◌, ◌∙◌, Some, true, get_or, pos, subst, sym, w32, to_z, of_z, FitsSigned}
use Rattle.std.specs.Prelude.{IfSome}
use Rattle.std.proofs.lemmas.Int.{to_z-of_z}
use Rattle.window_stack.proofs.PaneLaws.{found_under, under_first}
use Rattle.window_stack.specs.PlainPanes.{AreOpen, PlainPanes, is_open}
use Rattle.window_stack.specs.Numbers.{max_pane}
use Rattle.window_stack.proofs.panes.Panes.pane_under.Goals as goal

pub returns-then-is_under-clause-value : goal.returns-then-is_under-clause-value
returns-then-is_under-clause-value c =
    let x : FitsSigned w32 c.args.x = c.ranges.x in
    let y : FitsSigned w32 c.args.y = c.ranges.y in
    let holds = sym c.is_under.ensures ∙ c.if-is_under.true in
    let all =
    sym (under_first (to_z w32 (of_z w32 c.args.x)) (to_z w32 (of_z w32 c.args.y)) c.args.sizes.now c.as_slice-pane-items.result.now c.loop-pane.pane-index _ c.loop-pane-test.true holds)
    ∙ c.loop-pane.invariant in
    simp to_z-of_z at all

is_there : (c : goal.After-result-1) → IfSome (Some (get_or c.as_slice-pane-items.result.now c.loop-pane.pane-index (record { k = 0; x = pos 0; y = pos 0 })))
    (λ pane. (pane.k ≤ max_pane) × (is_open c.args.self.now pane.k ≡ true))
is_there c =
    let x = to_z w32 (of_z w32 c.args.x) in
    let y = to_z w32 (of_z w32 c.args.y) in
    let are : AreOpen c.args.self.now.panes = subst (λ (stack : PlainPanes). AreOpen stack.panes) c.self.view_is c.self.invariant.once in
    let found =
    sym c.loop-pane.invariant
    ∙ under_first x y c.args.sizes.now c.as_slice-pane-items.result.now c.loop-pane.pane-index _ c.loop-pane-test.true (sym c.is_under.ensures ∙ c.if-is_under.true) in
    subst (λ o. IfSome o (λ pane. (pane.k ≤ max_pane) × (is_open c.args.self.now pane.k ≡ true))) found (found_under x y c.args.sizes.now c.args.self.now.panes are)

pub returns-then-is_under-clause-name : goal.returns-then-is_under-clause-name
returns-then-is_under-clause-name c = (is_there c).0

pub returns-then-is_under-clause-open : goal.returns-then-is_under-clause-open
returns-then-is_under-clause-open c = (is_there c).1
