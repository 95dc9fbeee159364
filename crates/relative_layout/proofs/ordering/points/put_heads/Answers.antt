use Rattle.std.proofs.Common.{◌≡◌, ◌++◌, ◌<◌, ◌≤◌, length, ap, refl, rules, sym, ◌∙◌}
use Rattle.relative_layout.proofs.orders.NamingLaws.{last_in_rows}
use Rattle.relative_layout.proofs.orders.PointLaws.{heads-child, heads-id}
use Rattle.relative_layout.specs.ordering.Naming.{id_at, lists_of}
use Rattle.relative_layout.specs.ordering.Points.{id_point}
use Rattle.view_model.specs.SiblingRules.{last_with_id}
use Rattle.relative_layout.proofs.ordering.points.put_heads.Goals as goal

pub returns-then-point-kids : goal.returns-then-point-kids
returns-then-point-kids c =
    let kids = c.args.kids.now in
    let rows = lists_of c.args.naming.now.namers.items in
    let large : length kids ≤ c.args.point = search rules in
    c.in_ok-extend_from_slice.ensures.items ∙ ap (λ row. c.args.points.now.items ++ row) (c.namers.ensures ∙ sym (heads-id kids rows c.args.point large))

pub put_id-requires-clause-inside : goal.put_id-requires-clause-inside
put_id-requires-clause-inside c =
    let kids = c.args.kids.now in
    let last : c.last.result ≡ last_with_id kids (id_at kids c.args.point) = c.last.ensures ∙ c.requires.naming.table (id_at kids c.args.point) in
    last_in_rows kids (id_at kids c.args.point) (length kids) c.last.result refl last

pub returns : goal.returns
returns c =
    let kids = c.args.kids.now in
    let rows = lists_of c.args.naming.now.namers.items in
    let small : c.args.point < length kids = search rules in
    let last : c.last.result ≡ last_with_id kids (id_at kids c.args.point) = c.last.ensures ∙ c.requires.naming.table (id_at kids c.args.point) in
    c.in_ok-put_id.ensures ∙ ap (λ row. c.args.points.now.items ++ row) (ap (id_point (length kids)) last ∙ sym (heads-child kids rows c.args.point small))
