-- The names of refusals are there, and short.
use Rattle.std.proofs.Common.{◌≡◌, ℕ, ◌<◌, ◌≤◌, zero, suc, Bool, true, false, nat_lt, nat_le, ◌&&◌, List, [], ◌∷◌, length, get_or, refl, ap, sym, ◌∙◌, arith, inl, inr}
use Rattle.std.specs.List.{list_all}
use Rattle.std.proofs.lemmas.Bool.{cases_Bool}
use Rattle.std.proofs.lemmas.List.Folds.{list_all_at}
use Rattle.std.proofs.lemmas.Option.{unwrap_or-slice_get}
use Rattle.std.proofs.lemmas.Bool.Decides.{nat_tests}
use Rattle.tool_replies.specs.Names.{refusal_name, refusal_names}

-- a text that is not empty, and not long
is_short_name : List ℕ → Bool
is_short_name text = nat_lt 0 (length text) && nat_le (length text) 16

all_short : list_all is_short_name refusal_names ≡ true
unfolding is_short_name refusal_names
all_short = refl

name_at : (k : ℕ) → k < length refusal_names → is_short_name (get_or refusal_names k []) ≡ true
name_at k within = elim (cases_Bool (is_short_name (get_or refusal_names k []))) [
  | inl e ↦ e
  | inr e ↦ absurd (let clash : true ≡ false = sym all_short ∙ list_all_at is_short_name refusal_names k [] within e in cc)
]

bounds : (text : List ℕ) → is_short_name text ≡ true → (0 < length text) × (length text ≤ 16)
unfolding is_short_name
bounds text e = grind (arith, nat_tests)

count_of_names : length refusal_names ≡ 43
unfolding refusal_names
count_of_names = refl

pub short_name : (number : ℕ) → 1 ≤ number → number ≤ 43 → (0 < length (refusal_name number)) × (length (refusal_name number) ≤ 16)
unfolding refusal_name
short_name zero first last = absurd (omega arith)
short_name (suc k) first last =
    let e = unwrap_or-slice_get ([] ∷ refusal_names) (suc k) [] in
    bounds _ (ap is_short_name e ∙ name_at k (omega (arith, last, count_of_names)))
