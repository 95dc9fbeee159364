use Rattle.std.proofs.Common.{◌≡◌, ◌<◌, Some, arith, length}
use Rattle.std.proofs.lemmas.List.{get_or_read}
use Rattle.relative_layout.proofs.orders.PartLaws.{goes_along}
use Rattle.relative_layout.proofs.orders.SearchLaws.{IsSearching-done, IsSearching-join}
use Rattle.relative_layout.proofs.orders.SettleLaws.{effort-fewer}
use Rattle.relative_layout.specs.ordering.Naming.{lists_of}
use Rattle.relative_layout.specs.ordering.Components.{heads_in, status_of}
use Rattle.relative_layout.specs.declared.ordering.components.Status.TheVariants.{Done, Fresh, OnPath}
use Rattle.relative_layout.proofs.ordering.components.Search.look_at.Goals as goal

pub enter-requires-clause-led : goal.enter-requires-clause-led
enter-requires-clause-led c = λ place h.
    let old = c.args.self.now in
    goes_along (heads_in c.args.kids.now c.args.naming.now) old.status.items old.path.items old.todo.items old.parts.items (Some c.args.point) c.args.point place c.requires.search.path c.requires.led h

pub returns-in-OnPath-clause-search : goal.returns-in-OnPath-clause-search
returns-in-OnPath-clause-search c =
    let old = c.args.self.now in
    let join = c.join.ensures in
    let fits : c.args.point < length old.status.items = omega (arith, c.requires.point, c.requires.search.size) in
    let read = get_or_read old.status.items c.args.point c.index.result.now fits c.index.ensures Fresh in
    let is = c.in-OnPath.is in
    let on : status_of old.status.items c.args.point ≡ OnPath c.in-OnPath.place = cc in
    IsSearching-join c.args.kids.now c.args.naming.now old c.join.new.self c.args.point c.in-OnPath.place on c.requires.led join.joins join.last join.status join.path join.todo join.members c.requires.search

pub returns-in-OnPath-clause-effort : goal.returns-in-OnPath-clause-effort
returns-in-OnPath-clause-effort c =
    let old = c.args.self.now in
    let join = c.join.ensures in
    rw (join.status, join.todo)
    (effort-fewer (lists_of c.args.naming.now.namers.items) old.status.items (length old.todo.items) (length old.parts.items) (length c.join.new.self.parts.items) join.joins.fewer)

pub returns-in-Done-clause-search : goal.returns-in-Done-clause-search
returns-in-Done-clause-search c =
    let old = c.args.self.now in
    let fits : c.args.point < length old.status.items = omega (arith, c.requires.point, c.requires.search.size) in
    let read = get_or_read old.status.items c.args.point c.index.result.now fits c.index.ensures Fresh in
    let is = c.in-Done.is in
    let done : status_of old.status.items c.args.point ≡ Done = cc in
    IsSearching-done c.args.kids.now c.args.naming.now old c.args.point done c.requires.search
