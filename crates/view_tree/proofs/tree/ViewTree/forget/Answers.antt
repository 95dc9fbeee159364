use Rattle.std.proofs.Common.{refl, ◌∙◌, sym, ap, List, []}
use Rattle.measure_cache.specs.declared.cache.Entry.{Entry}
use Rattle.view_tree.specs.node.Nodes.{held_by}
use Rattle.view_tree.specs.Views.{Held, Views}
use Rattle.view_tree.specs.declared.node.Node.{Node}
use Rattle.view_tree.proofs.nodes.NodeReads.{contains_live}
use Rattle.view_tree.proofs.nodes.NodeWrites.{kept-write, same-write, whole-write}
use Rattle.view_tree.proofs.tree.ViewTree.forget.Goals as goal

pub index_mut-node-requires : goal.index_mut-node-requires
index_mut-node-requires c = contains_live c.self.inside c.args.self.now c.args.view c.self.invariant.planted c.self.view_is c.requires

pub invariant_of-self : goal.invariant_of-self
invariant_of-self c =
    let n = c.index_mut-node.result.now in
    let m : Node = record n { cache = c.clear.new.self } in
    whole-write c.self.inside c.args.view n m c.index_mut-node.ensures.value refl c.self.invariant

pub returns : goal.returns
returns c =
    let n = c.index_mut-node.result.now in
    let m : Node = record n { cache = c.clear.new.self } in
    let kept = kept-write c.self.inside c.args.self.now c.args.view n m c.self.view_is c.index_mut-node.ensures.value in
    record {
      same = same-write c.self.inside c.args.view n m c.index_mut-node.ensures.value refl c.args.self.now c.self.view_is;
      held = kept.after ∙ ap (λ (cache : List Entry). record (held_by n) { cache = cache }) c.clear.ensures ∙ ap (λ (h : Held). record h { cache = [] }) (sym kept.before);
      others = kept.others;
      counts = ap (λ (v : Views). v.counts) c.self.view_is;
    }
