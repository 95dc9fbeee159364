use Rattle.std.specs.Prelude.{nat_eq}
use Rattle.indexmap.specs.IndexMap.{get as get_key, spare}
use Rattle.touch_dispatch.proofs.gestures.RoomLaws.{room_marked}
use Rattle.touch_dispatch.proofs.gesture.set_marks.Goals as goal

pub returns-then-ne-clause-room : goal.returns-then-ne-clause-room
returns-then-ne-clause-room c opened there has =
    room_marked opened (get_key nat_eq c.args.marks.now) (get_key nat_eq c.write_marks.new.marks) (spare c.args.marks.now) (spare c.write_marks.new.marks)
    c.args.view c.args.new there has c.write_marks.ensures.marks c.write_marks.ensures.room
