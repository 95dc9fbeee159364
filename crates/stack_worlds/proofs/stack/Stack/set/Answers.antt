use Rattle.std.proofs.Common.{◌∙◌, ℤ, Bool, Some, ap, sym, subst, set, to_z, of_z, w32}
use Rattle.std.proofs.lemmas.Int.{to_z-of_z}
use Rattle.std.specs.Prelude.{if◌then◌else◌, map}
use Rattle.stack_worlds.proofs.ChangeLaws.{both_are, opened_place, placed_opened}
use Rattle.stack_worlds.proofs.OpenLaws.{has_opened, has_same, set_keeps}
use Rattle.stack_worlds.proofs.stack.Stack.set.Goals as goal
use Rattle.stack_worlds.specs.KeptStack.{HasWorlds, KeyedStack, kept_world, stack_of}
use Rattle.stack_worlds.specs.PlainStack.{placed_at}
use Rattle.view_world.specs.world.KeyedWorld.{new_world}
use Rattle.window_stack.specs.PlainPanes.{PlainPanes, is_open, set_at}

pub invariant_of-self : goal.invariant_of-self
invariant_of-self c =
    let k = c.args.k in
    let stays = ap (λ (s : KeyedStack). is_open s.panes k) c.self.view_is ∙ sym c.is_open.ensures ∙ c.if-is_open.true in
    has_same c.self.inside.panes c.set.new.self (map kept_world c.self.inside.worlds)
    (λ j. ap (λ (p : PlainPanes). is_open p j) c.set.ensures ∙ set_keeps c.self.inside.panes k (to_z w32 (of_z w32 c.args.x)) (to_z w32 (of_z w32 c.args.y)) j stays)
    c.self.invariant

pub invariant_of-self-2 : goal.invariant_of-self-2
invariant_of-self-2 c =
    let k = c.args.k in
    let x = to_z w32 (of_z w32 c.args.x) in
    let y = to_z w32 (of_z w32 c.args.y) in
    let panes = c.self.inside.panes in
    let worlds = c.self.inside.worlds in
    let off = ap (λ (s : KeyedStack). is_open s.panes k) c.self.view_is ∙ sym c.is_open.ensures ∙ c.if-is_open.false in
    let at = c.open_in.ensures.opened c.in_ok-open_in.was in
    subst HasWorlds
    (sym (both_are c.set-2.new.self (set_at panes k x y) (map kept_world c.open_in.new.worlds) (set (map kept_world worlds) k (Some new_world)) c.set-2.ensures (opened_place worlds c.open_in.new.worlds k at.0 at.1 at.2)))
    (has_opened panes (map kept_world worlds) k x y new_world c.requires off c.self.invariant)

pub returns-clause-done : goal.returns-clause-done
returns-clause-done c =
    let k = c.args.k in
    let x = to_z w32 (of_z w32 c.args.x) in
    let y = to_z w32 (of_z w32 c.args.y) in
    let worlds = c.self.inside.worlds in
    let at = c.open_in.ensures.opened c.in_ok-open_in.was in
    ap stack_of
    (both_are c.set-2.new.self (set_at c.args.self.now.panes k x y) (map kept_world c.open_in.new.worlds) (set c.args.self.now.worlds k (Some new_world))
    (c.set-2.ensures ∙ ap (λ (s : KeyedStack). set_at s.panes k x y) c.self.view_is)
    (opened_place worlds c.open_in.new.worlds k at.0 at.1 at.2 ∙ ap (λ (s : KeyedStack). set s.worlds k (Some new_world)) c.self.view_is))
    ∙ placed_opened c.args.self.now k x y (sym c.is_open.ensures ∙ c.if-is_open.false)
    ∙ ap (λ (x : ℤ). placed_at (stack_of c.args.self.now) k x y) (to_z-of_z w32 c.args.x c.ranges.x)
    ∙ ap (λ (y : ℤ). placed_at (stack_of c.args.self.now) k c.args.x y) (to_z-of_z w32 c.args.y c.ranges.y)

pub returns-clause-worlds : goal.returns-clause-worlds
returns-clause-worlds c =
    let k = c.args.k in
    let old = c.args.self.now in
    let at = c.open_in.ensures.opened c.in_ok-open_in.was in
    opened_place c.self.inside.worlds c.open_in.new.worlds k at.0 at.1 at.2
    ∙ ap (λ (s : KeyedStack). set s.worlds k (Some new_world)) c.self.view_is
    ∙ sym (ap (λ (b : Bool). if b then old.worlds else set old.worlds k (Some new_world)) (sym c.is_open.ensures ∙ c.if-is_open.false))
