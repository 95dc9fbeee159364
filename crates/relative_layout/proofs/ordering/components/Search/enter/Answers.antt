use Rattle.std.proofs.Common.{◌++◌, ◌<◌, length, ap, arith, ◌∙◌}
use Rattle.relative_layout.proofs.orders.SearchLaws.{IsSearching-enter}
use Rattle.relative_layout.proofs.orders.SettleLaws.{effort-enter}
use Rattle.relative_layout.specs.ordering.Naming.{lists_of}
use Rattle.relative_layout.specs.ordering.Components.{heads_in}
use Rattle.relative_layout.proofs.ordering.components.Search.enter.Goals as goal

pub returns-clause-search : goal.returns-clause-search
returns-clause-search c =
    let kids = c.args.kids.now in
    let append = c.in_ok-append.ensures in
    IsSearching-enter kids c.args.naming.now c.args.self.now _ c.args.point c.requires.point c.requires.fresh c.requires.led append.status append.path append.parts
    (c.in_ok-put_heads.ensures ∙ ap (λ todo. todo.items ++ heads_in kids c.args.naming.now c.args.point) append.todo) (ap (λ marks. marks.items) append.members) c.requires.search

pub returns-clause-effort : goal.returns-clause-effort
returns-clause-effort c =
    let old = c.args.self.now in
    let append = c.in_ok-append.ensures in
    let fits : c.args.point < length old.status.items = omega (arith, c.requires.point, c.requires.search.size) in
    rw (append.status, append.parts, c.in_ok-put_heads.ensures, append.todo)
    (effort-enter c.args.kids.now (lists_of c.args.naming.now.namers.items) old.status.items c.args.point (length old.path.items) old.todo.items old.parts.items _ fits c.requires.fresh)
