-- Bytes that go to a sink one after the other.
use Rattle.std.proofs.Common.{◌≡◌, ℕ, List, [], ◌++◌, Option, None, Some, true, false, ap, sym, ◌∙◌, append_assoc, ◌+◌, ◌-◌, ◌≤◌, length, take, drop, arith, length-drop}
use Rattle.std.proofs.lemmas.List.{take_all, take-append-drop, append-nil}
use Rattle.std.proofs.Math.Seq.{take-add}
use Rattle.std.specs.Io.KnownBytes.{Appends, Keeps}
use Rattle.std.specs.Prelude.{Result, Ok, Err, IsErr}
use Rattle.text_lines.specs.Delivered.{Delivered}
use Rattle.text_lines.specs.Prefix.{AppendsPrefix}
use Rattle.tool_io.specs.Counts.{raised}
use Rattle.tool_io.specs.SinkState.{SinkState}

pub appends_both : (old mid new : Option (List ℕ)) (xs ys : List ℕ) → Appends old mid xs → Appends mid new ys → Appends old new (xs ++ ys)
appends_both None mid new xs ys first second = tt
appends_both (Some a) None new xs ys first second = elim first [ ]
appends_both (Some a) (Some b) None xs ys first second = elim second [ ]
appends_both (Some a) (Some b) (Some c) xs ys first second = second ∙ ap (λ l. l ++ ys) first ∙ append_assoc a xs ys

pub appends_none : (old : Option (List ℕ)) → Appends old old []
appends_none None = tt
appends_none (Some a) = sym (append-nil a)

pub appends_kept : (old mid new : Option (List ℕ)) (xs : List ℕ) → Appends old mid xs → Keeps mid new → Appends old new xs
appends_kept None mid new xs grew kept = tt
appends_kept (Some a) None new xs grew kept = elim grew [ ]
appends_kept (Some a) (Some b) None xs grew kept = elim kept [ ]
appends_kept (Some a) (Some b) (Some c) xs grew kept = kept ∙ grew

-- a prefix of a text is a prefix of the text with more after it
pub prefix_of_first : (old new : Option (List ℕ)) (xs ys : List ℕ) → AppendsPrefix old new xs → AppendsPrefix old new (xs ++ ys)
prefix_of_first old new xs ys p =
    record { written = p.written; rest = p.rest ++ ys; whole = sym (append_assoc p.written p.rest ys) ∙ ap (λ l. l ++ ys) p.whole; gone = p.gone }

-- a text was written whole, and of the one after it a prefix
pub prefix_of_second : (old mid new : Option (List ℕ)) (xs ys : List ℕ) → Appends old mid xs → AppendsPrefix mid new ys → AppendsPrefix old new (xs ++ ys)
prefix_of_second old mid new xs ys first p =
    record { written = xs ++ p.written; rest = p.rest; whole = append_assoc xs p.written p.rest ∙ ap (λ l. xs ++ l) p.whole; gone = appends_both old mid new xs p.written first p.gone }

pub prefix_of_take : (old new : Option (List ℕ)) (n : ℕ) (xs : List ℕ) → Appends old new (take n xs) → AppendsPrefix old new xs
prefix_of_take old new n xs grew = record { written = take n xs; rest = drop n xs; whole = take-append-drop n xs; gone = grew }

-- a write failed, after a front part was written
pub stopped : {E : Type 0} (old mid new : SinkState) (result : Result (Unit {0}) E) (n : ℕ) (piece : List ℕ) → IsErr result
    → Appends old.gone mid.gone (take n piece) → mid.faults ≡ old.faults → Keeps mid.gone new.gone → new.faults ≡ raised mid.faults → Delivered old new result piece
stopped old mid new (Ok _) n piece failed grew same kept count = absurd (let never : false ≡ true = failed in cc)
stopped old mid new (Err _) n piece failed grew same kept count = record {
  whole = tt;
  prefix = prefix_of_take old.gone new.gone n piece (appends_kept old.gone mid.gone new.gone (take n piece) grew kept);
  counted = count ∙ ap raised same;
}

pub take_further : (n m : ℕ) (xs : List ℕ) → n ≤ length xs → take n xs ++ take m (take (length xs - n) (drop n xs)) ≡ take (n + m) xs
take_further n m xs within =
    ap (λ l. take n xs ++ take m l) (take_all (length xs - n) (drop n xs) (omega (arith, length-drop n xs))) ∙ sym (take-add n m xs)
