-- Text on its way to a sink.
use Rattle.std.proofs.Common.{◌≡◌, ℕ, Bool, true, false, List, [], ◌++◌, ap, sym, subst, ◌∙◌, refl, append_assoc}
use Rattle.std.proofs.lemmas.List.{append-nil}
use Rattle.std.specs.Prelude.{Result, Ok, Err, OnOk, OnErr}
use Rattle.std.specs.Io.KnownBytes.{Appends}
use Rattle.text_lines.specs.Delivered.{Delivered}
use Rattle.text_lines.specs.BufferedText.{Breaks, BufferedText, Moves, Sends}
use Rattle.text_lines.specs.Joined.{◌⧺◌}
use Rattle.text_lines.specs.Prefix.{AppendsPrefix}
use Rattle.text_lines.proofs.Prefixes.{appends_both, appends_none, prefix_of_first, prefix_of_second}
use Rattle.tool_io.specs.Counts.{raised}
use Rattle.tool_io.specs.SinkState.{SinkState}

-- nothing was sent
pub sends_none : (old : SinkState) (held : BufferedText) → Sends old old held held []
sends_none old held = record {
  moves = λ e. (e, record { written = []; gone = appends_none old.gone; whole = sym (append-nil held.bytes); count = refl });
  breaks = λ e f. absurd (let q : false ≡ true = sym e ∙ f in cc);
  silent = λ _. refl;
}

moves_both : (old mid new : SinkState) (before held after xs ys : List ℕ) → Moves old mid before held xs → Moves mid new held after ys → Moves old new before after (xs ++ ys)
moves_both old mid new before held after xs ys m n = record {
  written = m.written ++ n.written;
  gone = appends_both old.gone mid.gone new.gone m.written n.written m.gone n.gone;
  whole = append_assoc m.written n.written after ∙ ap (λ l. m.written ++ l) n.whole ∙ sym (append_assoc m.written held ys) ∙ ap (λ l. l ++ ys) m.whole ∙ append_assoc before xs ys;
  count = n.count ∙ m.count;
}

breaks_first : (old mid new : SinkState) (before xs ys : List ℕ) → Breaks old mid (before ++ xs) → new ≡ mid → Breaks old new (before ++ (xs ++ ys))
breaks_first old mid new before xs ys b same =
    subst (λ (s : SinkState). Breaks old s (before ++ (xs ++ ys))) (sym same) (record {
      prefix = subst (λ (l : List ℕ). AppendsPrefix old.gone mid.gone l) (append_assoc before xs ys) (prefix_of_first old.gone mid.gone (before ++ xs) ys b.prefix);
      count = b.count;
    })

breaks_second : (old mid new : SinkState) (before held xs ys : List ℕ) → Moves old mid before held xs → Breaks mid new (held ++ ys) → Breaks old new (before ++ (xs ++ ys))
breaks_second old mid new before held xs ys m b = record {
  prefix =
      subst (λ (l : List ℕ). AppendsPrefix old.gone new.gone l) (sym (append_assoc m.written held ys) ∙ ap (λ l. l ++ ys) m.whole ∙ append_assoc before xs ys)
      (prefix_of_second old.gone mid.gone new.gone m.written (held ++ ys) m.gone b.prefix);
  count = b.count ∙ ap raised m.count;
}

differs : true ≡ false → ⊥
differs e = cc

-- one text was sent, and another after it
both_by : (v : Bool) (old mid new : SinkState) (before held after : BufferedText) (xs ys : List ℕ) → held.failed ≡ v → Sends old mid before held xs → Sends mid new held after ys → Sends old new before after (xs ++ ys)
both_by true old mid new before held after xs ys v s t = record {
  moves = λ e. absurd (differs (sym v ∙ (t.moves e).0));
  breaks = λ e f. breaks_first old mid new before.bytes xs ys (s.breaks e v) (t.silent v);
  silent = λ e. t.silent v ∙ s.silent e;
}
both_by false old mid new before held after xs ys v s t = record {
  moves = λ e. (let a = t.moves e in let b = s.moves a.0 in (b.0, moves_both old mid new before.bytes held.bytes after.bytes xs ys b.1 a.1));
  breaks = λ e f. breaks_second old mid new before.bytes held.bytes xs ys (s.moves v).1 (t.breaks v f);
  silent = λ e. absurd (differs (sym e ∙ (s.moves v).0));
}

-- two texts, where what happens says between which moments: to be named in `using`, and its notation for an answer
pub sends_both : {old mid new : SinkState} {before held after : BufferedText} {xs ys : List ℕ} → Sends old mid before held xs → Sends mid new held after ys → Sends old new before after (xs ⧺ ys)
unfolding ◌⧺◌
sends_both {held = held} first second = both_by held.failed _ _ _ _ _ _ _ _ refl first second

infixr 4 ◌⨾◌
pub ◌⨾◌ : {old mid new : SinkState} {before held after : BufferedText} {xs ys : List ℕ} → Sends old mid before held xs → Sends mid new held after ys → Sends old new before after (xs ⧺ ys)
first ⨾ second = sends_both first second

-- nothing more was sent
pub sends_end : {old mid new : SinkState} {before held after : BufferedText} {text : List ℕ} → Sends old mid before held text → Sends mid new held after [] → Sends old new before after text
sends_end {old = old} {new = new} {before = before} {held = held} {after = after} {text = text} first second =
    subst (λ (t : List ℕ). Sends old new before after t) (append-nil text) (both_by held.failed _ _ _ _ _ _ _ _ refl first second)

-- the same text, said in another way
pub sends_as : {old new : SinkState} {before after : BufferedText} {text same : List ℕ} → text ≡ same → Sends old new before after text → Sends old new before after same
sends_as {old = old} {new = new} {before = before} {after = after} e sent = subst (λ (t : List ℕ). Sends old new before after t) e sent

-- what an empty buffer sent was written whole, once nothing is held and no write has failed
sends_whole : (old new : SinkState) (before after : BufferedText) (text : List ℕ) → before.bytes ≡ [] → after.bytes ≡ [] → Moves old new before.bytes after.bytes text → Appends old.gone new.gone text
sends_whole old new before after text empty left m =
    subst (λ (l : List ℕ). Appends old.gone new.gone l) (sym (append-nil m.written) ∙ ap (λ l. m.written ++ l) (sym left) ∙ m.whole ∙ ap (λ l. l ++ text) empty) m.gone

-- a text that was sent through a new buffer, which then has written all that it held
pub delivered : {E : Type 0} {old mid new : SinkState} {first held last : BufferedText} {text : List ℕ} (result : Result (Unit {0}) E)
    → first ≡ record { bytes = []; failed = false } → Sends old mid first held text → Sends mid new held last [] → last.bytes ≡ []
    → OnOk result (last.failed ≡ false) → OnErr result (last.failed ≡ true) → Delivered old new result text
delivered {old = old} {new = new} {first = first} {last = last} {text = text} (Ok _) empty sent ended left fine broke =
    let moved = ((sends_end sent ended).moves fine).1 in
    record {
      whole = sends_whole old new first last text (ap (λ (h : BufferedText). h.bytes) empty) left moved;
      prefix = tt;
      counted = moved.count;
    }
delivered {old = old} {new = new} {first = first} {text = text} (Err fault) empty sent ended left fine broke =
    let broken = (sends_end sent ended).breaks (ap (λ (h : BufferedText). h.failed) empty) broke in
    record {
      whole = tt;
      prefix = subst (λ (l : List ℕ). AppendsPrefix old.gone new.gone (l ++ text)) (ap (λ (h : BufferedText). h.bytes) empty) broken.prefix;
      counted = broken.count;
    }
