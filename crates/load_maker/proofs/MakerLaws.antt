-- What one line more makes of a load.
use Rattle.std.proofs.Common.{◌≡◌, ℕ, List, [], ◌∷◌, ◌++◌, ap, sym, ◌∙◌, append_assoc}
use Rattle.std.specs.List.{flat_map}
use Rattle.std.specs.Prelude.{codes}
use Rattle.std.proofs.lemmas.Grind.{flat_map-append}
use Rattle.std.proofs.lemmas.List.{append-nil}
use Rattle.std.proofs.lemmas.List.Concat.{flat_map-cons}
use Rattle.text_lines.specs.Joined.{◌⧺◌, texts_of}
use Rattle.load_maker.specs.Drawing.{drawn, next_state}
use Rattle.load_maker.specs.Load.{Load, after_draw, drawn_by, text_of, with_line}
use Rattle.load_maker.specs.Made.{Makes, Puts}
use Rattle.load_maker.specs.declared.making.Maker.{Maker}

-- two texts, one after the other
pub puts_both : {old mid new : Maker} {xs ys : List ℕ} → Puts old mid xs → Puts mid new ys → Puts old new (xs ⧺ ys)
unfolding ◌⧺◌
puts_both {old = old} {xs = xs} {ys = ys} first second = record {
  state = second.state ∙ first.state;
  put = λ fine. (let b = second.put fine in let a = first.put b.0 in (a.0, b.1 ∙ ap (λ l. l ++ ys) a.1 ∙ append_assoc old.text.items xs ys));
}

infixr 4 ◌⨾◌
pub ◌⨾◌ : {old mid new : Maker} {xs ys : List ℕ} → Puts old mid xs → Puts mid new ys → Puts old new (xs ⧺ ys)
first ⨾ second = puts_both first second

abbrev ended : List ℕ → List ℕ
ended line = line ⧺ codes "\n"

pub text_of-push : (lines : List (List ℕ)) (line : List ℕ) → text_of (lines ++ line ∷ []) ≡ text_of lines ++ (line ⧺ codes "\n")
unfolding text_of texts_of
text_of-push lines line =
    flat_map-append ended lines (line ∷ [])
    ∙ ap (λ (l : List ℕ). flat_map ended lines ++ l) (flat_map-cons ended line [] ∙ append-nil (ended line))

-- one line more
pub makes_line : {old new : Maker} {load : Load} (line : List ℕ) → Makes old load → Puts old new (line ⧺ codes "\n") → Makes new (with_line load line)
makes_line {load = load} line made puts = record {
  state = puts.state ∙ made.state;
  text = λ fine. (let p = puts.put fine in p.1 ∙ ap (λ (l : List ℕ). l ++ (line ⧺ codes "\n")) (made.text p.0) ∙ sym (text_of-push load.lines line));
}

-- one draw more
pub makes_draw : {old new : Maker} {load : Load} → Makes old load → new ≡ record old { state = next_state old.state } → Makes new (after_draw load)
makes_draw {old = old} {load = load} made e = rw e (record { state = ap next_state made.state; text = made.text })

-- and what is drawn
pub draws : {old : Maker} {load : Load} (limit drawn_now : ℕ) → Makes old load → drawn_now ≡ drawn (next_state old.state) limit → drawn_now ≡ drawn_by load limit
draws limit drawn_now made e = e ∙ ap (λ (state : ℕ). drawn (next_state state) limit) made.state
