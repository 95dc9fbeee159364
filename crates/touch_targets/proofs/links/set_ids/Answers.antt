use Rattle.std.proofs.Common.{◌≡◌, ℕ, option_map}
use Rattle.slab.specs.Slab.{get}
use Rattle.touch_targets.proofs.chains.Pointing.{are_pointed, node_pointed, slots_pointed, pointed_at, target_there}
use Rattle.touch_targets.proofs.links.set_ids.Goals as goal

pub write_ids-requires : goal.write_ids-requires
write_ids-requires c = target_there (get c.args.nodes.now c.args.slot) c.requires.target

pub returns : goal.returns
returns c =
    let s = c.args.nodes.now in
    let t = c.write_ids.new.nodes in
    let written : (x : ℕ) → get t x ≡ option_map (node_pointed c.args.slot c.args.ids x) (get s x) = pointed_at s t c.args.slot c.args.ids c.write_ids.ensures.nodes in
    record {
      linked = are_pointed s t c.args.slot c.args.ids c.requires.linked c.requires.target c.requires.ids c.ranges.ids.fits written;
      nodes = c.write_ids.ensures.nodes;
      slots = slots_pointed s t c.args.slot c.args.ids c.requires.linked c.requires.target c.requires.ids c.ranges.ids.fits written;
      capacity = c.write_ids.ensures.capacity;
    }
