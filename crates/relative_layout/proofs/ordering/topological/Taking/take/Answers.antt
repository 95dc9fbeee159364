use Rattle.std.proofs.Common.{◌≡◌, ◌-◌, Some, None, length, get_or, refl, sym, ◌∙◌, arith}
use Rattle.std.specs.Prelude.{nat_lt}
use Rattle.relative_layout.proofs.orders.Counting.{counted}
use Rattle.relative_layout.proofs.orders.NamingLaws.{last_is, length-lists_of}
use Rattle.relative_layout.proofs.orders.TakingLaws.{IsTaking-alone, IsTaking-one_of, effort-alone, effort-one_of}
use Rattle.relative_layout.specs.ordering.Naming.{id_at, lists_of}
use Rattle.view_model.specs.SiblingRules.{last_with_id}
use Rattle.relative_layout.proofs.ordering.topological.Taking.take.Goals as goal

pub count_down-requires-clause-last : goal.count_down-requires-clause-last
count_down-requires-clause-last c =
    let kids = c.args.kids.now in
    let found : last_with_id kids (id_at kids c.args.place) ≡ Some c.in-Some.last = sym (c.requires.naming.table (id_at kids c.args.place)) ∙ sym c.in-Some.ensures in
    let is = last_is kids (id_at kids c.args.place) c.in-Some.last found in
    rw c.in_ok-append.ensures.left (omega (arith, is.inside, c.requires.taking.counts.size))

pub count_down-requires-clause-rows : goal.count_down-requires-clause-rows
count_down-requires-clause-rows c =
    let kids = c.args.kids.now in
    let found : last_with_id kids (id_at kids c.args.place) ≡ Some c.in-Some.last = sym (c.requires.naming.table (id_at kids c.args.place)) ∙ sym c.in-Some.ensures in
    let is = last_is kids (id_at kids c.args.place) c.in-Some.last found in
    let size : length c.args.naming.now.namers.items ≡ length kids = sym (length-lists_of c.args.naming.now.namers.items) ∙ c.requires.naming.rows.size in
    omega (arith, is.inside)

pub count_down-requires-clause-some : goal.count_down-requires-clause-some
count_down-requires-clause-some c =
    let kids = c.args.kids.now in
    let found : last_with_id kids (id_at kids c.args.place) ≡ Some c.in-Some.last = sym (c.requires.naming.table (id_at kids c.args.place)) ∙ sym c.in-Some.ensures in
    rw c.in_ok-append.ensures.left
    (counted kids c.args.self.now.taken.items c.args.self.now.left.items c.args.place c.in-Some.last c.requires.taking.size c.requires.place c.requires.fresh found c.requires.taking.counts)

pub returns-in-None-clause-taking : goal.returns-in-None-clause-taking
returns-in-None-clause-taking c =
    let kids = c.args.kids.now in
    let none : last_with_id kids (id_at kids c.args.place) ≡ None = sym (c.requires.naming.table (id_at kids c.args.place)) ∙ sym c.in-None.ensures in
    let append = c.in_ok-append.ensures in
    let old = c.args.self.now in
    rw (append.left, append.taken, append.todo, append.order)
    (IsTaking-alone c.args.naming.now.axis kids old.left.items old.taken.items old.todo.items old.order.items c.args.place c.requires.place c.requires.fresh c.requires.ready none c.requires.taking)

pub returns-in-None-clause-effort : goal.returns-in-None-clause-effort
returns-in-None-clause-effort c =
    let append = c.in_ok-append.ensures in
    let old = c.args.self.now in
    rw (append.taken, append.todo)
    (effort-alone (lists_of c.args.naming.now.namers.items) old.taken.items c.args.place (length old.todo.items) (omega (arith, c.requires.place, c.requires.taking.size)) c.requires.fresh)

pub returns-in_ok-count_down-in-Some-clause-taking : goal.returns-in_ok-count_down-in-Some-clause-taking
returns-in_ok-count_down-in-Some-clause-taking c =
    let kids = c.args.kids.now in
    let found : last_with_id kids (id_at kids c.args.place) ≡ Some c.in-Some.last = sym (c.requires.naming.table (id_at kids c.args.place)) ∙ sym c.in-Some.ensures in
    let append = c.in_ok-append.ensures in
    let down = c.in_ok-count_down-in-Some.ensures in
    let old = c.args.self.now in
    rw (down.left, down.taken, down.todo, down.order, append.left, append.taken, append.todo, append.order)
    (IsTaking-one_of c.args.naming.now.axis kids (lists_of c.args.naming.now.namers.items) old.left.items old.taken.items old.todo.items old.order.items c.args.place c.in-Some.last
    c.requires.place c.requires.fresh c.requires.ready found c.requires.naming.rows (nat_lt 1 (get_or old.left.items c.in-Some.last 0 - 1)) refl c.requires.taking)

pub returns-in_ok-count_down-in-Some-clause-effort : goal.returns-in_ok-count_down-in-Some-clause-effort
returns-in_ok-count_down-in-Some-clause-effort c =
    let append = c.in_ok-append.ensures in
    let down = c.in_ok-count_down-in-Some.ensures in
    let old = c.args.self.now in
    rw (down.taken, down.todo, append.left, append.taken, append.todo)
    (effort-one_of (lists_of c.args.naming.now.namers.items) old.taken.items c.args.place c.in-Some.last old.todo.items (nat_lt 1 (get_or old.left.items c.in-Some.last 0 - 1))
    (omega (arith, c.requires.place, c.requires.taking.size)) c.requires.fresh)
