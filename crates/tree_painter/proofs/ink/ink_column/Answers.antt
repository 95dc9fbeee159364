use Rattle.std.proofs.Common.{◌-ℤ◌, arith}
use Rattle.std.proofs.lemmas.Int.{ints}
use Rattle.tree_painter.proofs.InkLaws.{column_clear}
use Rattle.tree_painter.proofs.PainterLaws.{painted_nothing}
use Rattle.tree_painter.proofs.ColumnLaws.{column_inked, column_unseen, counted_strip, last_spanned, row_spanned}
use Rattle.tree_painter.proofs.ink.ink_column.Goals as goal

pub returns-then-bits-eq0-clause-painted : goal.returns-then-bits-eq0-clause-painted
returns-then-bits-eq0-clause-painted c =
    let canvas = c.args.place.canvas in
    painted_nothing _ canvas.clip c.args.surface.now (λ x y u h.
    column_clear c.args.ink c.args.bits c.if-bits-eq0.true (x -ℤ canvas.left) (y -ℤ canvas.top) u)

pub returns-then-seen-clause-painted : goal.returns-then-seen-clause-painted
returns-then-seen-clause-painted c =
    let r = c.column_edges-seen.result in
    let e = c.column_edges-seen.ensures in
    let rows = c.args.place.rows in
    column_unseen c.args.bits c.args.place.canvas c.args.ink c.args.surface.now r.left r.right rows.top rows.bottom e.left e.right c.requires.top c.requires.bottom
    (λ across down. omega (arith, across, c.if-seen.true))

pub returns-then-rows-clause-painted : goal.returns-then-rows-clause-painted
returns-then-rows-clause-painted c =
    let r = c.column_edges-seen.result in
    let e = c.column_edges-seen.ensures in
    let rows = c.args.place.rows in
    column_unseen c.args.bits c.args.place.canvas c.args.ink c.args.surface.now r.left r.right rows.top rows.bottom e.left e.right c.requires.top c.requires.bottom
    (λ across down. omega (arith, down, c.if-rows.true))

pub rows_above-requires-clause-low : goal.rows_above-requires-clause-low
rows_above-requires-clause-low c =
    let rows = c.args.place.rows in
    (row_spanned c.args.surface.now.height c.args.place.canvas rows.top rows.bottom c.requires.top c.requires.bottom rows.top (omega arith) (omega (arith, c.if-rows.false))).begin

pub rows_above-requires-clause-high : goal.rows_above-requires-clause-high
rows_above-requires-clause-high c =
    let rows = c.args.place.rows in
    (row_spanned c.args.surface.now.height c.args.place.canvas rows.top rows.bottom c.requires.top c.requires.bottom rows.top (omega arith) (omega (arith, c.if-rows.false))).end

pub ink-requires-clause-few : goal.ink-requires-clause-few
ink-requires-clause-few c =
    let rows = c.args.place.rows in
    let first = row_spanned c.args.surface.now.height c.args.place.canvas rows.top rows.bottom c.requires.top c.requires.bottom rows.top (omega arith) (omega (arith, c.if-rows.false)) in
    let from = first.begin in
    let to = last_spanned c.args.surface.now.height c.args.place.canvas rows.top rows.bottom c.requires.top c.requires.bottom (omega (arith, c.if-rows.false)) in
    omega (arith, ints, from, to)

pub returns-clause-painted : goal.returns-clause-painted
returns-clause-painted c =
    let r = c.column_edges-seen.result in
    let e = c.column_edges-seen.ensures in
    let rows = c.args.place.rows in
    column_inked c.args.bits c.args.place.canvas c.args.ink c.args.surface.now r.left r.right rows.top rows.bottom e.left e.right c.requires.top c.requires.bottom
    c.rows_above.result c.ink.new.self (omega (arith, c.if-seen.false)) c.rows_above.ensures.value c.ink.ensures.inks

pub returns-clause-counted : goal.returns-clause-counted
returns-clause-counted c =
    let r = c.column_edges-seen.result in
    let e = c.column_edges-seen.ensures in
    let rows = c.args.place.rows in
    rw (← e.left, ← e.right, ← c.requires.top, ← c.requires.bottom)
    (counted_strip r.left r.right (record { column = r.left; top = rows.top; bottom = rows.bottom }) _ c.args.ink c.args.surface.now c.ink.new.self
    c.args.work.now c.ink.new.work (omega (arith, c.if-seen.false)) c.ink.ensures.inks c.ink.ensures.counted c.ink.ensures.grew)
