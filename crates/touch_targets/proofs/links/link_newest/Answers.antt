use Rattle.std.proofs.Common.{◌≡◌, ◌∙◌, ℕ, option_map}
use Rattle.slab.specs.Slab.{get}
use Rattle.touch_targets.proofs.chains.Chains.{there}
use Rattle.touch_targets.proofs.chains.Linking.{are_linked_newest, caught_linked_by, linked_at, node_linked, views_linked}
use Rattle.touch_targets.proofs.links.link_newest.Goals as goal

pub returns : goal.returns
returns c =
    let s = c.args.nodes.now in
    let t = c.set_newest.new.nodes in
    let g = c.index.result.now in
    let child = there (get s c.args.child) c.requires.child in
    let written : (x : ℕ) → get t x ≡ option_map (node_linked c.args.group c.args.child g.newest c.args.ids x) (get s x) =
    linked_at s c.set_target.new.nodes t c.args.group c.args.child g.newest c.args.ids (rw c.to.ensures at c.set_target.ensures.nodes) (rw c.to-2.ensures at c.set_newest.ensures.nodes) in
    let free = c.requires.free child.value child.is in
    record {
      linked = are_linked_newest s t c.args.group c.args.child c.args.ids g child.value c.requires.linked c.index.ensures child.is free c.requires.ids c.ranges.ids.fits written;
      caught = caught_linked_by s t c.args.group c.args.child c.args.ids g child.value c.requires.linked c.index.ensures child.is free c.requires.ids c.ranges.ids.fits written;
      views = views_linked s t c.args.group c.args.child c.args.ids g written;
      capacity = c.set_newest.ensures.capacity ∙ c.set_target.ensures.capacity;
    }
