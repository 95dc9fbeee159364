use Rattle.view_model.specs.Sprouts.{seeds_of}
use Rattle.world_parts.proofs.edits.GraftedLaws.{grafted_consistent, grafted_leaves, has_gained, place_live}
use Rattle.world_parts.proofs.grafting.graft.Goals as goal

pub request_at-requires : goal.request_at-requires
request_at-requires c =
    place_live c.args.tree.now c.graft.new.self (seeds_of c.args.sapling.sprouts.items) c.args.place c.in_ok-graft.field-0 c.requires.live c.in_ok-graft.ensures.grafted

pub returns-clause-gained : goal.returns-clause-gained
returns-clause-gained c =
    has_gained c.args.tree.now c.graft.new.self c.request_at.new.tree (seeds_of c.args.sapling.sprouts.items) c.args.place c.in_ok-graft.field-0 c.recall_tree.ensures c.recall_tree-2.ensures c.requires.live c.requires.root
    c.in_ok-graft.ensures.grafted c.request_at.ensures.same c.request_at.ensures.held

pub returns-clause-consistent : goal.returns-clause-consistent
returns-clause-consistent c =
    grafted_consistent c.args.tree.now c.graft.new.self c.request_at.new.tree (seeds_of c.args.sapling.sprouts.items) c.args.place c.in_ok-graft.field-0 c.recall_tree.ensures c.recall_tree-2.ensures c.requires.live
    c.in_ok-graft.ensures.grafted c.request_at.ensures.same c.request_at.ensures.held

pub returns-clause-asked : goal.returns-clause-asked
returns-clause-asked c =
    grafted_leaves c.args.tree.now c.graft.new.self c.request_at.new.tree (seeds_of c.args.sapling.sprouts.items) c.args.place c.in_ok-graft.field-0 c.recall_tree.ensures c.recall_tree-2.ensures c.requires.live c.requires.root
    c.in_ok-graft.ensures.grafted c.request_at.ensures.same c.request_at.ensures.held
