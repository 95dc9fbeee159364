-- What a piece of a script makes of the bytes before it.
use Rattle.std.proofs.Common.{◌≡◌, ℕ, ◌+◌, ◌-◌, ◌≤◌, ◌<◌, min, true, false, refl, ap, sym, subst, ◌∙◌, inl, inr, List, [], ◌∷◌, ◌++◌, length, take, drop, arith, length-take}
use Rattle.std.specs.List.{position_or_len}
use Rattle.std.specs.Prelude.{nat_lt}
use Rattle.std.proofs.lemmas.Bool.{cases_lt}
use Rattle.std.proofs.lemmas.Bool.Decides.{nat_tests}
use Rattle.std.proofs.lemmas.List.{take_all, append-nil, take-append-le, take-append-drop}
use Rattle.std.proofs.Math.Seq.{take-append-add}
use Rattle.script_lines.specs.cutting.Lines.{Line, Text, LongLine, Cut, cut_of, is_line_feed, last_line, last_of, line_of, max_line, without_return}
use Rattle.script_lines.specs.cutting.LineBuffer.{held_of}
use Rattle.script_lines.proofs.lines.LineLaws.{cut-append, after_none, after_feed, add_one, last_of-some}

take_short : (k m : ℕ) (ys : List ℕ) → m ≡ min (length ys) k → take m ys ≡ take k ys
take_short k m ys e = elim (cases_lt k (length ys)) [
  | inl h ↦ ap (λ i. take i ys) (let q : m ≡ k = omega (arith, e, h) in q)
  | inr h ↦ ap (λ i. take i ys) (let q : m ≡ length ys = omega (arith, e, h) in q) ∙ take_all (length ys) ys (omega arith) ∙ sym (take_all k ys h)
]

-- as many bytes after others as have room
pub take_room : (n m : ℕ) (xs ys : List ℕ) → length xs ≤ n → m ≡ min (length ys) (n - length xs) → xs ++ take m ys ≡ take n (xs ++ ys)
take_room n m xs ys h e =
    ap (λ l. xs ++ l) (take_short (n - length xs) m ys e) ∙ sym (take-append-add xs ys (n - length xs))
    ∙ ap (λ i. take i (xs ++ ys)) (let q : length xs + (n - length xs) ≡ n = omega (arith, h) in q)

-- what is held of a front is enough for what is held of more
take_twice : (n : ℕ) (xs ys : List ℕ) → take n (take n xs ++ ys) ≡ take n (xs ++ ys)
take_twice n xs ys = elim (cases_lt (length xs) n) [
  | inl h ↦ ap (λ l. take n (l ++ ys)) (take_all n xs (omega (arith, h)))
  | inr h ↦ take-append-le n (take n xs) ys (omega (arith, h, length-take n xs)) ∙ take_all n (take n xs) (omega (arith, length-take n xs)) ∙ sym (take-append-le n xs ys h)
]

pub take_take : (r n : ℕ) (buffer : List ℕ) → r ≤ length (take n buffer) → take r (take n buffer) ≡ take r buffer
take_take r n buffer h = sym (take-append-le r (take n buffer) (drop n buffer) h) ∙ ap (take r) (take-append-drop n buffer)

pub held_now : (n : ℕ) (now old rest body : List ℕ) → now ≡ take n (old ++ body) → n ≡ (max_line + 1) → old ≡ held_of rest → now ≡ held_of (held_of rest ++ body)
held_now n now old rest body e en eo = e ∙ ap (λ k. take k (old ++ body)) en ∙ ap (λ l. held_of (l ++ body)) eo

-- a piece without a line feed
cut-more : (before body : List ℕ) → position_or_len is_line_feed body ≡ length body → cut_of (before ++ body) ≡ record { lines = (cut_of before).lines; rest = (cut_of before).rest ++ body }
cut-more before body h =
    cut-append before body
    ∙ ap (λ (c : Cut). record { lines = (cut_of before).lines ++ c.lines; rest = c.rest }) (after_none (cut_of before).rest body h)
    ∙ ap (λ (l : List Line). record { lines = l; rest = (cut_of before).rest ++ body }) (append-nil (cut_of before).lines)

cut-more_all : (before piece : List ℕ) (at : ℕ) → at ≡ position_or_len is_line_feed piece → at ≡ length piece
    → cut_of (before ++ take at piece) ≡ record { lines = (cut_of before).lines; rest = (cut_of before).rest ++ take at piece }
cut-more_all before piece at p e =
    let all : take at piece ≡ piece = take_all at piece (omega (arith, e)) in
    ap (λ l. cut_of (before ++ l)) all ∙ cut-more before piece (sym p ∙ e)
    ∙ ap (λ (l : List ℕ). record { lines = (cut_of before).lines; rest = (cut_of before).rest ++ l }) (sym all)

-- a piece up to its first line feed
cut-ended : (before piece : List ℕ) (at : ℕ) → at ≡ position_or_len is_line_feed piece → at < length piece
    → cut_of (before ++ take (at + 1) piece) ≡ record { lines = (cut_of before).lines ++ line_of ((cut_of before).rest ++ take at piece) ∷ []; rest = [] }
cut-ended before piece at p h =
    ap (λ n. cut_of (before ++ take n piece)) (add_one at)
    ∙ cut-append before _
    ∙ ap (λ (c : Cut). record { lines = (cut_of before).lines ++ c.lines; rest = c.rest }) (after_feed (cut_of before).rest piece at p h)

-- the line that ends, by what is held of it
line_of-long : (rest body : List ℕ) → max_line < length (held_of (held_of rest ++ body)) → line_of (rest ++ body) ≡ LongLine
unfolding line_of
line_of-long rest body h =
    let e : held_of (held_of rest ++ body) ≡ held_of (rest ++ body) = take_twice (max_line + 1) rest body in
    let k : max_line < length (rest ++ body) = omega (arith, h, ap length e, length-take (max_line + 1) (rest ++ body)) in
    grind (arith, nat_tests)

line_of-text : (rest body : List ℕ) → length (held_of (held_of rest ++ body)) ≤ max_line → line_of (rest ++ body) ≡ Text (without_return (held_of (held_of rest ++ body)))
unfolding line_of
line_of-text rest body h =
    let e : held_of (held_of rest ++ body) ≡ held_of (rest ++ body) = take_twice (max_line + 1) rest body in
    let k : length (rest ++ body) ≤ max_line = omega (arith, h, ap length e, length-take (max_line + 1) (rest ++ body)) in
    let t : nat_lt max_line (length (rest ++ body)) ≡ false = grind (arith, nat_tests) in
    rw t (ap (λ l. Text (without_return l)) (sym (e ∙ take_all (max_line + 1) (rest ++ body) (omega (arith, k)))))

pub fed_none-lines : (before piece : List ℕ) (at : ℕ) → at ≡ position_or_len is_line_feed piece → at ≡ length piece → (cut_of (before ++ take at piece)).lines ≡ (cut_of before).lines ++ []
fed_none-lines before piece at p e = ap (λ (c : Cut). c.lines) (cut-more_all before piece at p e) ∙ sym (append-nil (cut_of before).lines)

pub fed_none-reached : (before piece now : List ℕ) (at : ℕ) → at ≡ position_or_len is_line_feed piece → at ≡ length piece → now ≡ held_of (held_of (cut_of before).rest ++ take at piece)
    → now ≡ held_of (cut_of (before ++ take at piece)).rest
fed_none-reached before piece now at p e k = k ∙ take_twice (max_line + 1) (cut_of before).rest (take at piece) ∙ ap (λ (c : Cut). held_of c.rest) (sym (cut-more_all before piece at p e))

pub fed_long-lines : (before piece now : List ℕ) (at : ℕ) → at ≡ position_or_len is_line_feed piece → at < length piece → now ≡ held_of (held_of (cut_of before).rest ++ take at piece) → max_line < length now
    → (cut_of (before ++ take (at + 1) piece)).lines ≡ (cut_of before).lines ++ LongLine ∷ []
fed_long-lines before piece now at p h k l =
    ap (λ (c : Cut). c.lines) (cut-ended before piece at p h)
    ∙ ap (λ r. (cut_of before).lines ++ r ∷ []) (line_of-long (cut_of before).rest (take at piece) (subst (λ b. max_line < length b) k l))

pub fed_line-lines : (before piece now : List ℕ) (at : ℕ) (line : List ℕ) → at ≡ position_or_len is_line_feed piece → at < length piece
    → now ≡ held_of (held_of (cut_of before).rest ++ take at piece) → length now ≤ max_line → line ≡ without_return now
    → (cut_of (before ++ take (at + 1) piece)).lines ≡ (cut_of before).lines ++ Text line ∷ []
fed_line-lines before piece now at line p h k l el =
    ap (λ (c : Cut). c.lines) (cut-ended before piece at p h)
    ∙ ap (λ r. (cut_of before).lines ++ r ∷ []) (line_of-text (cut_of before).rest (take at piece) (subst (λ b. length b ≤ max_line) k l))
    ∙ ap (λ b. (cut_of before).lines ++ Text b ∷ []) (sym (el ∙ ap without_return k))

pub fed-reached : (before piece : List ℕ) (at : ℕ) → at ≡ position_or_len is_line_feed piece → at < length piece → [] ≡ held_of (cut_of (before ++ take (at + 1) piece)).rest
fed-reached before piece at p h = ap (λ (c : Cut). held_of c.rest) (sym (cut-ended before piece at p h))

-- nothing is held of the line that began
pub none_held : (n : ℕ) (buffer old rest : List ℕ) → n ≡ 0 → take n buffer ≡ old → old ≡ held_of rest → [] ≡ held_of rest
none_held n buffer old rest e eo h = ap (λ i. take i buffer) (sym e) ∙ eo ∙ h

lent_now : (rest body : List ℕ) → [] ≡ held_of rest → held_of (held_of rest ++ body) ≡ held_of body
lent_now rest body e = ap (λ l. held_of (l ++ body)) (sym e)

-- a line that is whole in the piece
pub lent_long-lines : (before piece : List ℕ) (at : ℕ) → at ≡ position_or_len is_line_feed piece → at < length piece → [] ≡ held_of (cut_of before).rest → max_line < at
    → (cut_of (before ++ take (at + 1) piece)).lines ≡ (cut_of before).lines ++ LongLine ∷ []
lent_long-lines before piece at p h e l =
    fed_long-lines before piece (held_of (take at piece)) at p h (sym (lent_now (cut_of before).rest (take at piece) e)) (omega (arith, h, l, length-take at piece, length-take (max_line + 1) (take at piece)))

pub lent_line-lines : (before piece : List ℕ) (at len : ℕ) → at ≡ position_or_len is_line_feed piece → at < length piece → [] ≡ held_of (cut_of before).rest → at ≤ max_line
    → len ≤ length (take at piece) → take len (take at piece) ≡ without_return (take at piece)
    → (cut_of (before ++ take (at + 1) piece)).lines ≡ (cut_of before).lines ++ Text (take len piece) ∷ []
lent_line-lines before piece at len p h e l k el =
    let short : length (take at piece) ≤ max_line = omega (arith, h, l, length-take at piece) in
    fed_line-lines before piece (take at piece) at (take len piece) p h
    (sym (lent_now (cut_of before).rest (take at piece) e ∙ take_all (max_line + 1) (take at piece) (omega (arith, short)))) short (sym (take_take len at piece k) ∙ el)

-- the last line, by what is held of it
pub last_of-none : (rest : List ℕ) → length (held_of rest) ≡ 0 → last_of rest ≡ []
last_of-none [] h = refl
last_of-none (b ∷ bs) h = absurd (omega (arith, h, length-take (max_line + 1) (b ∷ bs)))

pub last_of-long : (rest : List ℕ) → max_line < length (held_of rest) → last_of rest ≡ LongLine ∷ []
unfolding last_line
last_of-long rest h =
    let k : max_line < length rest = omega (arith, h, length-take (max_line + 1) rest) in
    let t : nat_lt max_line (length rest) ≡ true = grind (arith, nat_tests) in
    last_of-some rest (omega (arith, k)) ∙ rw t refl

pub last_of-text : (rest : List ℕ) → 0 < length (held_of rest) → length (held_of rest) ≤ max_line → last_of rest ≡ Text (held_of rest) ∷ []
unfolding last_line
last_of-text rest l h =
    let k : length rest ≤ max_line = omega (arith, h, length-take (max_line + 1) rest) in
    let t : nat_lt max_line (length rest) ≡ false = grind (arith, nat_tests) in
    last_of-some rest (omega (arith, l, length-take (max_line + 1) rest)) ∙ rw t (ap (λ b. Text b ∷ []) (sym (take_all (max_line + 1) rest (omega (arith, k)))))
