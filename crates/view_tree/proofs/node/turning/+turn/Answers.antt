use Rattle.std.proofs.Common.{◌≡◌, ◌≢◌, ◌∙◌, Bool, true, false, None, sym, subst, arith}
use Rattle.std.specs.Cmp.{booleans_Decides}
use Rattle.slab.specs.Slab.{get}
use Rattle.view_tree.specs.Rows.{children_of_first}
use Rattle.view_tree.specs.node.Turning.{part_at}
use Rattle.view_tree.proofs.nodes.TurnWalks.{TurnWalk, first_kid, kid_can, kid_fewer, kid_there, others_same, turned_all, turned_none, walk_begins, walk_falls, walk_goes}
use Rattle.view_tree.proofs.node.turning.+turn.Goals as goal

pub turn_group-returns-then-facts-rtl-clause-turned : goal.turn_group-returns-then-facts-rtl-clause-turned
turn_group-returns-then-facts-rtl-clause-turned t c =
    turned_none c.args.nodes.now c.args.view c.requires c.index.result.now c.args.above c.index.ensures
    ((booleans_Decides c.index.result.now.facts.rtl c.is_rtl-rtl.result).0 c.if-facts-rtl.true ∙ c.is_rtl-rtl.ensures)

pub turn_group-loop-next-init : goal.turn_group-loop-next-init
turn_group-loop-next-init t c = record {
  walk = subst (TurnWalk (get c.args.nodes.now) (get c.run.new.nodes) c.is_rtl-rtl.result c.args.view (children_of_first (part_at c.args.nodes.now c.args.view)))
      (sym (first_kid c.args.nodes.now c.args.view c.requires c.index-2.result.now c.index-2.ensures) ∙ sym c.key-next.ensures)
      (walk_begins c.args.nodes.now c.args.view c.requires c.is_rtl-rtl.result c.run.new.nodes c.run.ensures.own c.run.ensures.others);
  len = c.run.ensures.len;
}

pub turn_group-index-requires-in-Some : goal.turn_group-index-requires-in-Some
turn_group-index-requires-in-Some t c =
    let w = rw c.in-Some.is at c.loop-next.invariant.walk in
    kid_there c.args.nodes.now c.args.view c.requires c.is_rtl-rtl.result c.loop-next.nodes c.in-Some.kid w

pub turn_group-turn-requires : goal.turn_group-turn-requires
turn_group-turn-requires t c =
    let w = rw c.in-Some.is at c.loop-next.invariant.walk in
    let less = kid_fewer c.args.nodes.now c.args.view c.requires c.is_rtl-rtl.result c.loop-next.nodes c.in-Some.kid w in
    (omega arith, kid_can c.args.nodes.now c.args.view c.requires c.is_rtl-rtl.result c.loop-next.nodes c.in-Some.kid w)

pub turn_group-loop-next-smaller : goal.turn_group-loop-next-smaller
turn_group-loop-next-smaller t c =
    let w = rw c.in-Some.is at c.loop-next.invariant.walk in
    rw (c.in-Some.is, c.key-next-in-Some.ensures)
    (walk_falls c.args.nodes.now c.args.view c.requires c.is_rtl-rtl.result c.loop-next.nodes c.in-Some.kid w c.index-in-Some.result.now c.index-in-Some.ensures)

pub turn_group-loop-next-preserved : goal.turn_group-loop-next-preserved
turn_group-loop-next-preserved t c =
    let w = rw c.in-Some.is at c.loop-next.invariant.walk in
    record {
      walk = rw c.key-next-in-Some.ensures (walk_goes c.args.nodes.now c.args.view c.requires c.is_rtl-rtl.result c.loop-next.nodes c.in-Some.kid w c.index-in-Some.result.now c.turn.new.nodes c.index-in-Some.ensures
          c.turn.ensures.turned c.turn.ensures.others);
      len = c.turn.ensures.len ∙ c.loop-next.invariant.len;
    }

pub turn_group-returns-clause-turned : goal.turn_group-returns-clause-turned
turn_group-returns-clause-turned t c =
    let n = c.index.result.now in
    let w = rw c.in_default.is at c.loop-next.invariant.walk in
    let other : n.facts.rtl ≢ c.is_rtl-rtl.result = λ same. let is = (booleans_Decides n.facts.rtl c.is_rtl-rtl.result).1 same in let no : true ≡ false = sym is ∙ c.if-facts-rtl.false in cc in
    turned_all c.args.nodes.now c.args.view c.requires n c.args.above c.loop-next.nodes c.index.ensures (λ same. other (same ∙ sym c.is_rtl-rtl.ensures))
    (subst (λ (way : Bool). TurnWalk (get c.args.nodes.now) (get c.loop-next.nodes) way c.args.view (children_of_first (part_at c.args.nodes.now c.args.view)) None) c.is_rtl-rtl.ensures w)

pub turn_group-returns-clause-others : goal.turn_group-returns-clause-others
turn_group-returns-clause-others t c =
    others_same c.args.nodes.now c.args.view c.requires c.is_rtl-rtl.result c.loop-next.nodes c.loop-next.next c.loop-next.invariant.walk

pub turn_group-returns-clause-len : goal.turn_group-returns-clause-len
turn_group-returns-clause-len t c = c.loop-next.invariant.len

pub turn-returns-then-node-rtl-clause-turned : goal.turn-returns-then-node-rtl-clause-turned
turn-returns-then-node-rtl-clause-turned t c =
    turned_none c.args.nodes.now c.args.view c.requires c.index-node.result.now c.args.above c.index-node.ensures
    ((booleans_Decides c.index-node.result.now.facts.rtl c.is_rtl-rtl.result).0 c.if-node-rtl.true ∙ c.is_rtl-rtl.ensures)

pub turn-returns-clause-turned : goal.turn-returns-clause-turned
turn-returns-clause-turned t c =
    let n = c.index-node.result.now in
    let other : n.facts.rtl ≢ c.is_rtl-rtl.result = λ same. let is = (booleans_Decides n.facts.rtl c.is_rtl-rtl.result).1 same in let no : true ≡ false = sym is ∙ c.if-node-rtl.false in cc in
    let walk = walk_begins c.args.nodes.now c.args.view c.requires c.is_rtl-rtl.result c.run.new.nodes c.run.ensures.own c.run.ensures.others in
    let ended : TurnWalk (get c.args.nodes.now) (get c.run.new.nodes) c.is_rtl-rtl.result c.args.view (children_of_first (part_at c.args.nodes.now c.args.view)) None =
    subst (TurnWalk (get c.args.nodes.now) (get c.run.new.nodes) c.is_rtl-rtl.result c.args.view (children_of_first (part_at c.args.nodes.now c.args.view)))
    (sym (first_kid c.args.nodes.now c.args.view c.requires n c.index-node.ensures) ∙ sym c.key.ensures ∙ c.in_default.is) walk in
    turned_all c.args.nodes.now c.args.view c.requires n c.args.above c.run.new.nodes c.index-node.ensures (λ same. other (same ∙ sym c.is_rtl-rtl.ensures))
    (subst (λ (way : Bool). TurnWalk (get c.args.nodes.now) (get c.run.new.nodes) way c.args.view (children_of_first (part_at c.args.nodes.now c.args.view)) None) c.is_rtl-rtl.ensures ended)
