use Rattle.std.proofs.Common.{◌≡◌, ◌+◌, ◌<◌, ◌≤◌, [], ◌∷◌, ap, arith, length, length-append, ◌∙◌}
use Rattle.relative_layout.proofs.orders.SearchLaws.{IsSearching-leave, IsSearching-next, Visits-leave, led_inside, next_led, part_fits, path_inside}
use Rattle.relative_layout.proofs.orders.SettleLaws.{effort-leave, effort-next}
use Rattle.relative_layout.specs.ordering.Naming.{lists_of}
use Rattle.relative_layout.proofs.ordering.components.Search.step.Goals as goal

pub finish-requires-clause-start : goal.finish-requires-clause-start
finish-requires-clause-start c = part_fits c.args.kids.now c.args.naming.now c.args.self.now c.args.part c.requires.last c.requires.search

pub finish-requires-clause-inside : goal.finish-requires-clause-inside
finish-requires-clause-inside c = λ place h. path_inside c.args.kids.now c.args.naming.now c.args.self.now place c.requires.search h

pub returns-then-len-part-clause-search : goal.returns-then-len-part-clause-search
returns-then-len-part-clause-search c =
    let old = c.args.self.now in
    let finish = c.finish.ensures in
    let room : length old.todo.items ≤ c.args.part.todo = omega (arith, c.if-len-part.true, c.len.ensures, old.todo.ok.0) in
    IsSearching-leave c.args.kids.now c.args.naming.now old c.finish.new.self c.args.part c.requires.last room finish.leaves finish.path finish.parts finish.todo c.requires.search

pub returns-then-len-part-clause-visits : goal.returns-then-len-part-clause-visits
returns-then-len-part-clause-visits c =
    let old = c.args.self.now in
    let room : length old.todo.items ≤ c.args.part.todo = omega (arith, c.if-len-part.true, c.len.ensures, old.todo.ok.0) in
    Visits-leave c.args.kids.now c.args.naming.now old c.finish.new.self c.args.part c.requires.last room c.finish.ensures.leaves c.requires.search

pub returns-then-len-part-clause-effort : goal.returns-then-len-part-clause-effort
returns-then-len-part-clause-effort c =
    let old = c.args.self.now in
    let finish = c.finish.ensures in
    rw (finish.todo, finish.parts)
    (effort-leave (lists_of c.args.naming.now.namers.items) old.status.items c.finish.new.self.status.items (length old.todo.items) old.parts.items finish.leaves.settles.fewer_fresh c.requires.last.some)

pub look_at-requires-clause-point : goal.look_at-requires-clause-point
look_at-requires-clause-point c =
    let old = c.args.self.now in
    let next = c.take_next-point.new.self in
    let is = c.take_next-point.ensures in
    let more : c.args.part.todo < length old.todo.items = omega (arith, c.if-len-part.false, c.len.ensures, old.todo.ok.0) in
    led_inside c.args.kids.now c.args.naming.now next.path.items next.parts.items c.take_next-point.result c.requires.naming
    (next_led c.args.kids.now c.args.naming.now old next c.args.part c.take_next-point.result c.requires.last more is.todo is.path is.parts c.requires.search)

pub look_at-requires-clause-search : goal.look_at-requires-clause-search
look_at-requires-clause-search c =
    let old = c.args.self.now in
    let is = c.take_next-point.ensures in
    let more : c.args.part.todo < length old.todo.items = omega (arith, c.if-len-part.false, c.len.ensures, old.todo.ok.0) in
    IsSearching-next c.args.kids.now c.args.naming.now old c.take_next-point.new.self c.args.part c.take_next-point.result c.requires.last more is.todo is.status is.path is.parts is.members c.requires.search

pub look_at-requires-clause-led : goal.look_at-requires-clause-led
look_at-requires-clause-led c =
    let old = c.args.self.now in
    let is = c.take_next-point.ensures in
    let more : c.args.part.todo < length old.todo.items = omega (arith, c.if-len-part.false, c.len.ensures, old.todo.ok.0) in
    next_led c.args.kids.now c.args.naming.now old c.take_next-point.new.self c.args.part c.take_next-point.result c.requires.last more is.todo is.path is.parts c.requires.search

pub returns-clause-effort : goal.returns-clause-effort
returns-clause-effort c =
    let old = c.args.self.now in
    let next = c.take_next-point.new.self in
    let new = c.look_at.new.self in
    let is = c.take_next-point.ensures in
    let longer : length old.todo.items ≡ length next.todo.items + 1 = ap length is.todo ∙ length-append next.todo.items (c.take_next-point.result ∷ []) in
    let less = rw (is.status, is.parts) at c.in_ok-look_at.ensures.effort in
    rw longer (effort-next (lists_of c.args.naming.now.namers.items) old.status.items new.status.items (length next.todo.items) (length new.todo.items) (length old.parts.items) (length new.parts.items) less)
