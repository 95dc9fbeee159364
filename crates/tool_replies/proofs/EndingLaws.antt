-- How a call ends with a status.
use Rattle.std.proofs.Common.{◌≡◌, ℕ, ◌≤◌, cond, List, [], ap, sym, subst, arith, inl, inr, ◌∙◌}
use Rattle.std.specs.Prelude.{true, false, ◌==◌, if◌then◌else◌, Option, Err}
use Rattle.std.specs.Io.KnownBytes.{Appends}
use Rattle.std.specs.List.{list_any}
use Rattle.std.proofs.lemmas.Bool.{cases_Bool}
use Rattle.std.proofs.lemmas.Bool.Decides.{nat_tests}
use Rattle.std.proofs.lemmas.List.{append-nil}
use Rattle.text_lines.specs.Prefix.{AppendsPrefix}
use Rattle.tool_io.specs.Fetched.{CountsFetch}
use Rattle.tool_io.specs.declared.shelf.ShelfFault.{ShelfFault}
use Rattle.tool_io.specs.declared.shelf.ShelfFault.TheVariants as fault
use Rattle.tool_io.proofs.Counting.{raised_later}
use Rattle.tool_replies.specs.Endings.{IsComplete, IsOneOf}

-- a whole text is a front part of itself
pub whole_prefix : (old new : Option (List ℕ)) (text : List ℕ) → Appends old new text → AppendsPrefix old new text
whole_prefix old new text gone = record { written = text; rest = []; whole = append-nil text; gone = gone }

-- no other status is that of a call that ended by itself
pub not_ended : (status : ℕ) → 2 ≤ status → IsComplete status → ⊥
not_ended status big (inl e) = omega arith
not_ended status big (inr e) = omega arith

-- a fetch that failed does not lower the count of failed calls
pub failed_later : (before now : ℕ) (fault : ShelfFault) → CountsFetch before now (Err fault) → before ≤ now
failed_later before now fault.Failed counted = omega (arith, counted, raised_later before)
failed_later before now fault.NoMemory counted = counted

-- a status that is one of some is no other
pub not_status : (status other : ℕ) (statuses : List ℕ) → IsOneOf status statuses → list_any (λ s. s == other) statuses ≡ false → status ≡ other → ⊥
not_status status other statuses known none e =
    let P : ℕ → Type 0 = λ n. IsOneOf n statuses in
    let both = subst P e known in
    let clash : true ≡ false = sym both ∙ none in cc

pub other_status : (status other : ℕ) (statuses : List ℕ) (x y : ℕ) → IsOneOf status statuses → list_any (λ s. s == other) statuses ≡ false → (if status == other then x else y) ≡ y
other_status status other statuses x y known none = elim (cases_Bool (status == other)) [
  | inl e ↦ absurd (not_status status other statuses known none (let same : status ≡ other = grind (arith, nat_tests) in same))
  | inr e ↦ ap (λ b. cond b x y) e
]
