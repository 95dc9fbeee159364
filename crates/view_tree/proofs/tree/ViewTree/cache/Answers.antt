use Rattle.std.proofs.Common.{sym, ap}
use Rattle.view_tree.specs.Views.{Held}
use Rattle.view_tree.proofs.nodes.NodeReads.{contains_live, held_at}
use Rattle.view_tree.proofs.tree.ViewTree.cache.Goals as goal

pub index-requires : goal.index-requires
index-requires c = contains_live c.self.inside c.args.self.now c.args.view c.self.invariant.planted c.self.view_is c.requires

pub returns : goal.returns
returns c = ap (λ (h : Held). h.cache) (sym (held_at c.self.inside c.args.self.now c.args.view c.index.result.now c.self.view_is c.index.ensures))
