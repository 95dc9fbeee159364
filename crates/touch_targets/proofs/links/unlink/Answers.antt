use Rattle.std.proofs.Common.{◌≡◌, ◌∙◌, ℕ, option_map, refl}
use Rattle.slab.specs.Slab.{get}
use Rattle.touch_targets.proofs.chains.Chains.{there}
use Rattle.touch_targets.proofs.chains.Unlinking.{are_unlinked, after_there, node_unlinked, others_unlinked, slots_unlinked_by, previous_there, unlinked_at, views_unlinked}
use Rattle.touch_targets.proofs.links.unlink.Goals as goal

pub index-requires : goal.index-requires
index-requires c =
    let s = c.args.nodes.now in
    let g = there (get s c.args.group) c.requires.group in
    rw (after_there s c.args.group c.args.slot c.args.previous g.value c.requires.linked g.is c.requires.following).is refl

pub set_following-requires-clause-previous : goal.set_following-requires-clause-previous
set_following-requires-clause-previous c = λ p e.
    let s = c.args.nodes.now in
    let g = there (get s c.args.group) c.requires.group in
    rw (previous_there s c.args.group c.args.slot c.args.previous g.value c.requires.linked g.is c.requires.following p e).is refl

pub returns : goal.returns
returns c =
    let s = c.args.nodes.now in
    let t = c.set_target.new.nodes in
    let k = c.index.result.now in
    let g = there (get s c.args.group) c.requires.group in
    let written : (x : ℕ) → get t x ≡ option_map (node_unlinked c.args.group c.args.previous c.args.slot k.next x) (get s x) =
    unlinked_at s c.set_following.new.nodes t c.args.group c.args.slot c.args.previous k.next c.set_following.ensures.nodes (rw (c.none.ensures, c.none-2.ensures) at c.set_target.ensures.nodes) in
    record {
      linked = are_unlinked s t c.args.group c.args.slot c.args.previous g.value k c.requires.linked g.is c.index.ensures c.requires.following written;
      slots = slots_unlinked_by s t c.args.group c.args.slot c.args.previous g.value k c.requires.linked g.is c.index.ensures c.requires.following written;
      others = others_unlinked s t c.args.group c.args.slot c.args.previous k.next written;
      views = views_unlinked s t c.args.group c.args.slot c.args.previous k.next written;
      capacity = c.set_target.ensures.capacity ∙ c.set_following.ensures.capacity;
    }
