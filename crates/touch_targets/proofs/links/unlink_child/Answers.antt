use Rattle.std.proofs.Common.{ap, ◌∙◌, sym}
use Rattle.slab.specs.Slab.{get}
use Rattle.touch_targets.specs.Nodes.{caught_by, view_of, without_caught}
use Rattle.touch_targets.proofs.chains.Chains.{there}
use Rattle.touch_targets.proofs.pools.Removing.{caught_unlinked}
use Rattle.touch_targets.proofs.links.unlink_child.Goals as goal

pub before-previous-requires-clause-there : goal.before-previous-requires-clause-there
before-previous-requires-clause-there c =
    let k = there (get c.args.nodes.now c.args.child) c.requires.child in
    (c.requires.linked.member c.args.child c.args.group k.value k.is (c.requires.target k.value k.is)).1

pub returns-clause-caught : goal.returns-clause-caught
returns-clause-caught c = λ x.
    let s = c.args.nodes.now in
    let k = there (get s c.args.child) c.requires.child in
    caught_unlinked s c.unlink.new.nodes c.args.group c.args.child k.value c.requires.linked k.is (c.requires.target k.value k.is) c.unlink.ensures.slots c.unlink.ensures.others x
    ∙ ap (λ o. without_caught (view_of o) (caught_by s x)) (sym k.is)
