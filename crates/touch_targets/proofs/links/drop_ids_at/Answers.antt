use Rattle.std.proofs.Common.{refl, subst, sym}
use Rattle.slab.specs.Slab.{get}
use Rattle.touch_targets.specs.Nodes.{IsTarget}
use Rattle.touch_targets.proofs.chains.Chains.{no_some, there}
use Rattle.touch_targets.proofs.chains.Unlinking.{after_there}
use Rattle.touch_targets.proofs.links.drop_ids_at.Goals as goal

pub index-requires : goal.index-requires
index-requires c =
    let s = c.args.nodes.now in
    let g = there (get s c.args.group) c.requires.group in
    rw (after_there s c.args.group c.args.slot c.args.previous g.value c.requires.linked g.is c.requires.following).is refl

pub set_ids-requires-clause-target : goal.set_ids-requires-clause-target
set_ids-requires-clause-target c =
    let s = c.args.nodes.now in
    let g = there (get s c.args.group) c.requires.group in
    let t = after_there s c.args.group c.args.slot c.args.previous g.value c.requires.linked g.is c.requires.following in
    subst IsTarget (sym t.is) (λ none. no_some none t.group)
