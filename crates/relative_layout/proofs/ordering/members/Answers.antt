use Rattle.std.proofs.Common.{length}
use Rattle.relative_layout.proofs.orders.OrderLaws.{AreMembers-next}
use Rattle.view_model.specs.SiblingRules.{leads}
use Rattle.relative_layout.proofs.ordering.members.Goals as goal

pub loop-place-preserved : goal.loop-place-preserved
loop-place-preserved c =
    let kids = c.args.kids.now in
    let r = leads c.args.naming.now.axis kids in
    let next = AreMembers-next r (length kids) c.loop-place.place c.in_ok-marks.marks.items c.loop-place.members.items c.in_ok-marks.ensures.marks c.loop-place-test.true c.loop-place.invariant in
    rw (c.in_ok-note_member.ensures, c.deref.ensures.value) next
