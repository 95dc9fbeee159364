use Rattle.std.proofs.Common.{◌≡◌, ◌<◌, length, rules, sym}
use Rattle.relative_layout.proofs.orders.SearchLaws.{begins_after-none, begins_after-some}
use Rattle.relative_layout.proofs.ordering.components.begins_after.Goals as goal

pub returns-then-is_empty : goal.returns-then-is_empty
returns-then-is_empty c = let none : length c.args.parts.now ≡ 0 = search rules in sym (begins_after-none c.args.place c.args.parts.now none)

pub returns : goal.returns
returns c = let some : 0 < length c.args.parts.now = search rules in sym (begins_after-some c.args.place c.args.parts.now some)
