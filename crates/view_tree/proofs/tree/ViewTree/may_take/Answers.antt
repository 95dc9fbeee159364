use Rattle.std.proofs.Common.{◌≡◌, ◌+◌, ◌∙◌, false, List, ap, arith, sym, subst}
use Rattle.std.proofs.lemmas.Result.{err_from_is_err_and}
use Rattle.std.specs.Option.{is_some, option_map, option_or}
use Rattle.view_model.specs.Grafts.{graft_refusal, refusal_below}
use Rattle.view_model.specs.Sprouts.{seeds_of}
use Rattle.view_model.specs.Refusals.{RefusesExactlyFor}
use Rattle.view_tree.specs.Rows.{part_from}
use Rattle.view_tree.specs.Views.{IsLive, number_of, plain_of}
use Rattle.view_model.specs.declared.sprout.Sprout.{Sprout}
use Rattle.std.specs.Prelude.{slice_index_or}
use Rattle.view_tree.proofs.forest.ChildLaws.{first-has_below}
use Rattle.view_tree.proofs.values.KeptLaws.{grows}
use Rattle.view_tree.proofs.grafts.Refusing.{at_none}
use Rattle.view_tree.proofs.grafts.Saplings.{rest_is, refusal_as_root, refusal_at_parent, shaped}
use Rattle.view_tree.proofs.tree.ViewTree.may_take.Goals as goal
use Rattle.view_tree.proofs.tree.ViewTree.may_take.Goals.{in-Some+in_ok-growth_at, in_default}

pub depth-above-requires-clause-shallow : goal.depth-above-requires-clause-shallow
depth-above-requires-clause-shallow c =
    let live : IsLive c.args.self.now c.in-Some.parent = rw c.in-Some.is at c.requires.live in
    c.class-class.ensures.is_tree.shallow c.in-Some.parent live

pub returns-in_err-growth_at : goal.returns-in_err-growth_at
returns-in_err-growth_at c =
    let live : IsLive c.args.self.now c.in-Some.parent = rw c.in-Some.is at c.requires.live in
    let shape = shaped c.args.sprouts.now c.requires.preorder in
    let occupied = c.is_some-occupied.ensures ∙ ap is_some c.first.ensures.key ∙ first-has_below (part_from c.in-Some.parent c.args.self.now.tree) in
    let p = err_from_is_err_and c.from_residual.result c.from_residual.ensures.1 in
    rw (c.in-Some.is, p.1, p.2)
    (refusal_at_parent c.args.self.now c.args.sprouts.now c.class-class.ensures.is_tree shape c.in-Some.parent c.depth-above.result c.len.result c.class-class.result
    c.is_some-occupied.result live c.class-class.ensures.value occupied c.depth-above.ensures c.len.ensures.value
    ∙ ap (λ reason. option_or reason (refusal_below shape.seed.class false (c.depth-above.result + 1) (c.len.result + 1) 2 shape.kids)) c.in_err-growth_at.ensures)

pub growth_below-requires-clause-depth : goal.growth_below-requires-clause-depth
growth_below-requires-clause-depth c =
    elim c.match-parent.branch [
      | in-Some+in_ok-growth_at w ↦
          let g = grows w.class-class.result w.is_some-occupied.result w.depth-above.result w.len.result (at_none 1 _ w.in_ok-growth_at.ensures) in
          let low = g.1 in
          let is = w.depth-is in
          (omega arith, omega arith)
      | in_default w ↦ let is = w.depth-is in (omega arith, omega arith)
    ]

pub returns : goal.returns
returns c =
    let shape = shaped c.args.sprouts.now c.requires.preorder in
    let own : (slice_index_or c.args.sprouts.now 0 c.index-sprouts-0.result).class ≡ shape.seed.class =
    ap (λ (list : List Sprout). (slice_index_or list 0 c.index-sprouts-0.result).class) shape.list in
    let below = c.growth_below.ensures shape.kids (rest_is c.args.sprouts.now _ _ shape.list) in
    elim c.match-parent.branch [
      | in-Some+in_ok-growth_at w ↦
          let live : IsLive c.args.self.now w.in-Some.parent = rw w.in-Some.is at c.requires.live in
          let occupied = w.is_some-occupied.ensures ∙ ap is_some w.first.ensures.key ∙ first-has_below (part_from w.in-Some.parent c.args.self.now.tree) in
          subst (λ reason. RefusesExactlyFor reason c.growth_below.result)
          (ap (λ class. refusal_below class false c.match-parent.depth (c.len-2.result + 1) 2 shape.kids) own
          ∙ sym (ap (λ parent. graft_refusal (plain_of c.args.self.now) (option_map (number_of c.args.self.now) parent) (seeds_of c.args.sprouts.now)) w.in-Some.is
          ∙ refusal_at_parent c.args.self.now c.args.sprouts.now w.class-class.ensures.is_tree shape w.in-Some.parent w.depth-above.result w.len.result w.class-class.result
          w.is_some-occupied.result live w.class-class.ensures.value occupied w.depth-above.ensures w.len.ensures.value
          ∙ ap (λ reason. option_or reason (refusal_below shape.seed.class false (w.depth-above.result + 1) (w.len.result + 1) 2 shape.kids)) w.in_ok-growth_at.ensures
          ∙ ap (λ count. refusal_below shape.seed.class false (w.depth-above.result + 1) (count + 1) 2 shape.kids) (w.len.ensures.value ∙ sym c.len-2.ensures.value)
          ∙ ap (λ depth. refusal_below shape.seed.class false depth (c.len-2.result + 1) 2 shape.kids) (sym w.depth-is)))
          below
      | in_default w ↦
          subst (λ reason. RefusesExactlyFor reason c.growth_below.result)
          (ap (λ class. refusal_below class false c.match-parent.depth (c.len-2.result + 1) 2 shape.kids) own
          ∙ ap (λ depth. refusal_below shape.seed.class false depth (c.len-2.result + 1) 2 shape.kids) w.depth-is
          ∙ sym (ap (λ parent. graft_refusal (plain_of c.args.self.now) (option_map (number_of c.args.self.now) parent) (seeds_of c.args.sprouts.now)) w.in_default.is
          ∙ refusal_as_root c.args.self.now c.args.sprouts.now shape c.len-2.result c.len-2.ensures.value))
          below
    ]
