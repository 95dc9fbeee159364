use Rattle.text_lines.proofs.Items.{items_none, items_more, items_all}
use Rattle.tool_replies.specs.Refusals.{member_text}
use Rattle.tool_replies.proofs.refusals.put_members.Goals as goal

pub loop-member-init : goal.loop-member-init
loop-member-init g c = items_none member_text _ _

pub loop-member-preserved : goal.loop-member-preserved
loop-member-preserved g c = items_more member_text c.args.members.now c.loop-member.member-index _ c.loop-member-test.true c.loop-member.invariant c.put_member.ensures

pub returns : goal.returns
returns g c = items_all member_text c.args.members.now c.loop-member.member-index c.loop-member-test.false c.loop-member.invariant
