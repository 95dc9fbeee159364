use Rattle.std.proofs.Common.{◌≡◌, ◌≢◌, ℕ, ◌+◌, ◌<◌, ◌≤◌, min, List, length, arith, ap, sym, ◌∙◌, take, length-take}
use Rattle.script_lines.proofs.lines.FeedLaws.{held_now, fed_none-lines, fed_none-reached, fed_long-lines, fed_line-lines, fed-reached, lent_line-lines, lent_long-lines, none_held, take_take}
use Rattle.script_lines.proofs.cutting.Lines.next_line.Goals as goal

-- the bytes up to a line feed are taken with it, or all of them
used_ended : (end place len : ℕ) → end ≡ place → end < len → end + 1 ≡ min (place + 1) len
used_ended end place len same more = omega arith

used_all : (end place len : ℕ) → end ≡ place → end ≡ len → end ≡ min (place + 1) len
used_all end place len same whole = omega arith

ended : (end len : ℕ) → end ≤ len → end ≢ len → end < len
ended end len most more = omega arith

long : (n : ℕ) (xs : List ℕ) → n ≤ length xs → 1024 < n → 1024 < length (take n xs)
long n xs there more = omega (arith, length-take n xs)

short : (n : ℕ) (xs : List ℕ) → n ≤ 1024 → length (take n xs) ≤ 1024
short n xs most = omega (arith, length-take n xs)

pub returns-then-end-gt-MAX_LINE-clause-lines : goal.returns-then-end-gt-MAX_LINE-clause-lines
returns-then-end-gt-MAX_LINE-clause-lines c before s =
    lent_long-lines before c.args.piece.now c.line_end-end.result c.line_end-end.ensures.place c.if-end-piece.true
    (none_held c.self.inside.begun c.self.inside.buffer _ _ c.if-self-eq0.true (ap (λ h. h.begun) c.self.view_is) s.begun) c.if-end-gt-MAX_LINE.true

pub returns-then-end-gt-MAX_LINE-clause-reached : goal.returns-then-end-gt-MAX_LINE-clause-reached
returns-then-end-gt-MAX_LINE-clause-reached c before s = record {
  begun = ap (λ n. take n c.self.inside.buffer) c.if-self-eq0.true ∙ fed-reached before c.args.piece.now c.line_end-end.result c.line_end-end.ensures.place c.if-end-piece.true;
}

pub returns-then-end-piece-clause-lines : goal.returns-then-end-piece-clause-lines
returns-then-end-piece-clause-lines c before s =
    lent_line-lines before c.args.piece.now c.line_end-end.result c.without_return_len-len.result c.line_end-end.ensures.place c.if-end-piece.true
    (none_held c.self.inside.begun c.self.inside.buffer _ _ c.if-self-eq0.true (ap (λ h. h.begun) c.self.view_is) s.begun) c.if-end-gt-MAX_LINE.false
    c.without_return_len-len.ensures.within c.without_return_len-len.ensures.bytes

pub returns-then-end-piece-clause-reached : goal.returns-then-end-piece-clause-reached
returns-then-end-piece-clause-reached c before s = record {
  begun = ap (λ n. take n c.self.inside.buffer) c.if-self-eq0.true ∙ fed-reached before c.args.piece.now c.line_end-end.result c.line_end-end.ensures.place c.if-end-piece.true;
}

pub returns-then-end-piece-2-clause-lines : goal.returns-then-end-piece-2-clause-lines
returns-then-end-piece-2-clause-lines c before s = fed_none-lines before c.args.piece.now c.line_end-end.result c.line_end-end.ensures.place c.if-end-piece-2.true

pub returns-then-end-piece-2-clause-reached : goal.returns-then-end-piece-2-clause-reached
returns-then-end-piece-2-clause-reached c before s = record {
  begun = fed_none-reached before c.args.piece.now _ c.line_end-end.result c.line_end-end.ensures.place c.if-end-piece-2.true (held_now _ _ _ _ _ c.keep-len.ensures.front c.self.told (ap (λ h. h.begun) c.self.view_is ∙ s.begun));
}

pub returns-then-len-gt-MAX_LINE-clause-lines : goal.returns-then-len-gt-MAX_LINE-clause-lines
returns-then-len-gt-MAX_LINE-clause-lines c before s =
    fed_long-lines before c.args.piece.now (take c.keep-len.result c.keep-len.new.buffer) c.line_end-end.result c.line_end-end.ensures.place (ended _ _ c.line_end-end.ensures.within c.if-end-piece-2.false)
    (held_now _ _ _ _ _ c.keep-len.ensures.front c.self.told (ap (λ h. h.begun) c.self.view_is ∙ s.begun))
    (long _ _ c.keep-len.ensures.within c.if-len-gt-MAX_LINE.true)

pub returns-then-len-gt-MAX_LINE-clause-reached : goal.returns-then-len-gt-MAX_LINE-clause-reached
returns-then-len-gt-MAX_LINE-clause-reached c before s = record {
  begun = fed-reached before c.args.piece.now c.line_end-end.result c.line_end-end.ensures.place (ended _ _ c.line_end-end.ensures.within c.if-end-piece-2.false);
}

pub returns-clause-lines : goal.returns-clause-lines
returns-clause-lines c before s =
    fed_line-lines before c.args.piece.now (take c.keep-len.result c.keep-len.new.buffer) c.line_end-end.result _ c.line_end-end.ensures.place (ended _ _ c.line_end-end.ensures.within c.if-end-piece-2.false)
    (held_now _ _ _ _ _ c.keep-len.ensures.front c.self.told (ap (λ h. h.begun) c.self.view_is ∙ s.begun))
    (short _ _ c.if-len-gt-MAX_LINE.false)
    (sym (take_take _ _ _ c.without_return_len-self-inside.ensures.within) ∙ c.without_return_len-self-inside.ensures.bytes)

pub returns-clause-reached : goal.returns-clause-reached
returns-clause-reached c before s = record {
  begun = fed-reached before c.args.piece.now c.line_end-end.result c.line_end-end.ensures.place (ended _ _ c.line_end-end.ensures.within c.if-end-piece-2.false);
}

pub returns-then-end-gt-MAX_LINE-clause-used : goal.returns-then-end-gt-MAX_LINE-clause-used
returns-then-end-gt-MAX_LINE-clause-used c = used_ended _ _ _ c.line_end-end.ensures.place c.if-end-piece.true

pub returns-then-end-piece-clause-used : goal.returns-then-end-piece-clause-used
returns-then-end-piece-clause-used c = used_ended _ _ _ c.line_end-end.ensures.place c.if-end-piece.true

pub returns-then-end-piece-2-clause-used : goal.returns-then-end-piece-2-clause-used
returns-then-end-piece-2-clause-used c = used_all _ _ _ c.line_end-end.ensures.place c.if-end-piece-2.true

pub returns-then-len-gt-MAX_LINE-clause-used : goal.returns-then-len-gt-MAX_LINE-clause-used
returns-then-len-gt-MAX_LINE-clause-used c = used_ended _ _ _ c.line_end-end.ensures.place (ended _ _ c.line_end-end.ensures.within c.if-end-piece-2.false)

pub returns-clause-used : goal.returns-clause-used
returns-clause-used c = used_ended _ _ _ c.line_end-end.ensures.place (ended _ _ c.line_end-end.ensures.within c.if-end-piece-2.false)
