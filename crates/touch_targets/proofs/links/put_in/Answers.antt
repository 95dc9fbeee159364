use Rattle.std.proofs.Common.{◌<◌, arith}
use Rattle.slab_link.specs.Numbers.{links_end}
use Rattle.touch_targets.proofs.pools.Opening.{are_linked_with, caught_with, put_in}
use Rattle.touch_targets.proofs.links.put_in.Goals as goal

pub returns : goal.returns
returns c =
    let s = c.args.nodes.now in
    let t = c.insert_reserved.new.self in
    let low : c.insert_reserved.result < links_end = omega (arith, c.insert_reserved.ensures.key_in_range, c.insert_reserved.ensures.capacity, c.requires.small) in
    let written = put_in s t c.insert_reserved.result c.args.view (rw (c.none.ensures, c.none-2.ensures, c.none-3.ensures) at c.insert_reserved.ensures.updates) in
    record {
      linked = are_linked_with s t c.insert_reserved.result c.args.view c.requires.linked c.insert_reserved.ensures.was_vacant low c.requires.unknown written;
      unused = c.insert_reserved.ensures.was_vacant;
      nodes = written;
      caught = caught_with s t c.insert_reserved.result c.args.view c.requires.linked c.insert_reserved.ensures.was_vacant low c.requires.unknown written;
      len = c.insert_reserved.ensures.len;
      capacity = c.insert_reserved.ensures.capacity;
    }
