use Rattle.slab.specs.Slab.{get}
use Rattle.touch_targets.proofs.chains.Chains.{there}
use Rattle.touch_targets.proofs.pools.Opening.{are_linked_without, caught_without, taken_out}
use Rattle.touch_targets.proofs.links.take_out.Goals as goal

pub returns : goal.returns
returns c =
    let s = c.args.nodes.now in
    let t = c.remove.new.self in
    let k = there (get s c.args.slot) c.requires.there in
    let written = taken_out s t c.args.slot c.remove.ensures.updates in
    record {
      linked = are_linked_without s t c.args.slot k.value c.requires.linked k.is c.requires.empty c.requires.free written;
      nodes = written;
      caught = caught_without s t c.args.slot k.value c.requires.linked k.is c.requires.empty c.requires.free written;
      len = c.remove.ensures.len;
      capacity = c.remove.ensures.capacity;
    }
