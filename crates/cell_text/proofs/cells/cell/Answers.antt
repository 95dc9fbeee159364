use Rattle.std.proofs.Common.{◌≡◌, ◌<◌, length, get_or, ap, ◌∙◌, arith}
use Rattle.view_model.specs.CellText.{cell_below}
use Rattle.cell_text.proofs.CellLaws.{cell_from-later, cell_from-other}
use Rattle.cell_text.proofs.SegmentLaws.{segments_from_start}
use Rattle.cell_text.proofs.cells.cell.Goals as goal
use Rattle.cell_text.proofs.cells.cell.Goals.{then-c-eq-NEWLINE+else-line-lines, else-c-eq-NEWLINE}

pub loop-end-init : goal.loop-end-init
loop-end-init c = record {
  value = ap (λ segments. cell_below c.args.n segments c.args.line c.args.place) (segments_from_start c.args.text.now);
  following = omega arith;
}

pub loop-end-preserved : goal.loop-end-preserved
loop-end-preserved c =
    let same = c.characters-characters.ensures.value in
    let within : c.loop-end.end < length c.args.text.now = rw same at c.loop-end-test.true in
    let here : c.index-characters-end.result ≡ get_or c.args.text.now c.loop-end.end c.index-characters-end.result = rw same at c.index-characters-end.is in
    elim c.if-c-eq-NEWLINE.branch [
      | then-c-eq-NEWLINE+else-line-lines w ↦ record {
        value = rw (w.line-is, w.begin-is) (cell_from-later c.args.n c.args.text.now c.loop-end.begin c.loop-end.end c.loop-end.line c.args.place c.index-characters-end.result w.lines_for-lines.result within here w.if-c-eq-NEWLINE.true (rw same at w.lines_for-lines.ensures.value) w.if-line-lines.false ∙ c.loop-end.invariant.value);
        following = omega (arith, w.begin-is);
      }
      | else-c-eq-NEWLINE w ↦ record {
        value = rw (w.line-is, w.begin-is) (cell_from-other c.args.n c.args.text.now c.loop-end.begin c.loop-end.end c.loop-end.line c.args.place c.index-characters-end.result c.loop-end.invariant.following within here w.if-c-eq-NEWLINE.false ∙ c.loop-end.invariant.value);
        following = omega (arith, w.begin-is, c.loop-end.invariant.following);
      }
    ]
