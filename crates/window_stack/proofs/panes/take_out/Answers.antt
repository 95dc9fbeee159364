use Rattle.std.proofs.Common.{◌≡◌, ◌∙◌, ap, subst}
use Rattle.std.specs.List.{remove, slice_get}
use Rattle.std.specs.Option.{OnSome}
use Rattle.window_stack.proofs.PaneLaws.{left_without, place_finds, place_in}
use Rattle.window_stack.proofs.panes.take_out.Goals as goal
use Rattle.window_stack.proofs.panes.take_out.Goals.{After-pop_at}

placed : (c : After-pop_at) → c.place_of-at.result ≡ place_in c.args.k c.args.panes.now.items
placed c = c.place_of-at.ensures ∙ ap (place_in c.args.k) c.as_slice.ensures.value

pub returns-clause-taken : goal.returns-clause-taken
returns-clause-taken c = c.pop_at.ensures.value ∙ ap (slice_get c.args.panes.now.items) (placed c) ∙ place_finds c.args.k c.args.panes.now.items

pub returns-clause-others : goal.returns-clause-others
returns-clause-others c =
    left_without c.args.k c.args.panes.now.items c.pop_at.new.self.items c.pop_at.result _ c.requires (ap (λ v. v.items)) (returns-clause-taken c)
    (subst (λ n. OnSome c.pop_at.result (c.pop_at.new.self.items ≡ remove c.args.panes.now.items n)) (placed c) c.pop_at.ensures.items) c.pop_at.ensures.absent
