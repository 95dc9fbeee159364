use Rattle.std.proofs.Common.{◌≡◌, ◌∙◌, ap, arith, get_or, length, rules, sym}
use Rattle.std.specs.Option.{option_map}
use Rattle.std.proofs.lemmas.List.{length-map}
use Rattle.stack_worlds.proofs.SizeLaws.{read_each}
use Rattle.stack_worlds.proofs.stack.Stack.settled_sizes.Goals as goal
use Rattle.stack_worlds.specs.KeptStack.{KeyedStack, kept_world, stack_of}
use Rattle.stack_worlds.specs.PlainStack.{settled_size, settled_sizes}
use Rattle.view_world.specs.world.KeyedWorld.{world_of}

pub returns : goal.returns
returns c =
    let items = c.map.ensures.items in
    let eight : length c.map.result ≡ 8 = items.long in
    let refs : length c.each_ref.result ≡ 8 = sym (length-map c.each_ref.result _) ∙ ap length c.each_ref.ensures.items ∙ sym (length-map c.self.inside.worlds kept_world) ∙ c.self.invariant.all in
    read_each settled_size c.each_ref.result c.self.inside.worlds c.map.result c.each_ref.ensures.items (eight ∙ sym refs)
    (λ i d e within.
    let called = items.at i d e (omega (arith, within, eight)) in
    let read : get_or c.map.result i e ≡ settled_size (option_map world_of (kept_world (get_or c.each_ref.result i d).now)) = search rules in read)
    ∙ ap (λ (s : KeyedStack). settled_sizes (stack_of s)) c.self.view_is
