use Rattle.std.proofs.Common.{◌≡◌, ◌∙◌}
use Rattle.relative_layout.proofs.orders.Counting.{CountsBelow-none, CountsBelow-up, last_few}
use Rattle.relative_layout.proofs.orders.NamingLaws.{last_in_rows}
use Rattle.relative_layout.specs.ordering.Naming.{id_at}
use Rattle.view_model.specs.SiblingRules.{last_with_id}
use Rattle.relative_layout.proofs.ordering.topological.counts.Goals as goal

pub loop-place-init : goal.loop-place-init
loop-place-init c = rw c.in_ok-left.ensures (CountsBelow-none c.args.kids.now)

pub count_up-requires-clause-inside : goal.count_up-requires-clause-inside
count_up-requires-clause-inside c =
    let id = id_at c.args.kids.now c.loop-place._place in
    let last : c.last.result ≡ last_with_id c.args.kids.now id = c.last.ensures ∙ c.requires.naming.table id in
    last_in_rows c.args.kids.now id _ c.last.result c.loop-place.invariant.size last

pub count_up-requires-clause-few : goal.count_up-requires-clause-few
count_up-requires-clause-few c =
    let kids = c.args.kids.now in
    let place = c.loop-place._place in
    let last : c.last.result ≡ last_with_id kids (id_at kids place) = c.last.ensures ∙ c.requires.naming.table (id_at kids place) in
    last_few kids place c.last.result c.loop-place.left.items c.loop-place-test.true c.requires.few last c.loop-place.invariant

pub loop-place-preserved : goal.loop-place-preserved
loop-place-preserved c =
    let kids = c.args.kids.now in
    let place = c.loop-place._place in
    let last : c.last.result ≡ last_with_id kids (id_at kids place) = c.last.ensures ∙ c.requires.naming.table (id_at kids place) in
    rw c.count_up.ensures (CountsBelow-up kids place c.last.result c.loop-place.left.items last c.loop-place.invariant)
