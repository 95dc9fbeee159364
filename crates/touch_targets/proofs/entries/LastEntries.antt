-- The entries of a map when the last of them is removed.
use Rattle.std.proofs.Common.{◌≡◌, ◌∙◌, ◌+◌, ◌-◌, ◌<◌, ℕ, suc, arith, List, [], ◌∷◌, ◌++◌, Some, None, length, take, cond, refl, ap, inl, inr, length-append}
use Rattle.std.specs.Prelude.{nat_eq, nat_lt, position, slice_set, slice_index_or}
use Rattle.std.specs.List.{position_or_len}
use Rattle.std.specs.Map.{keys_of, lookup}
use Rattle.std.proofs.lemmas.Bool.{cases_Bool, eq-eqb, lt-ltb}
use Rattle.std.proofs.lemmas.List.{length-map, take-set}
use Rattle.std.proofs.Math.Seq.{take-append_seam}
use Rattle.indexmap.specs.IndexMap.{swap_remove_entry}
use Rattle.indexmap.proofs.MapLemmas.{swap_remove_entry-found}
use Rattle.touch_targets.proofs.chains.Chains.{no_some}

-- a key that is in no entry but the last
last_at : {V : Type 0} (es : List (ℕ × V)) (key : ℕ) (v : V) → lookup (nat_eq key) es ≡ None → position_or_len (nat_eq key) (keys_of (es ++ (key, v) ∷ [])) ≡ length es
last_at [] key v none = rw (eq-eqb key key refl) refl
last_at (e ∷ es) key v none =
    elim (cases_Bool (nat_eq key e.0)) [
      | inl is ↦ let some : lookup (nat_eq key) (e ∷ es) ≡ Some e.1 = rw is refl in no_some none some
      | inr is ↦
          let later = last_at es key v (rw is at none) in
          let count : 1 + length es ≡ suc (length es) = omega arith in
          rw is (ap (λ n. 1 + n) later ∙ count)
    ]

pub swap_remove_entry-last : {V : Type 0} (es : List (ℕ × V)) (key : ℕ) (v : V) → lookup (nat_eq key) es ≡ None → swap_remove_entry (nat_eq key) (es ++ (key, v) ∷ []) ≡ es
swap_remove_entry-last {V} es key v none =
    let all : List (ℕ × V) = es ++ (key, v) ∷ [] in
    let count : length all ≡ length es + 1 = length-append es ((key, v) ∷ []) in
    let keys : length (keys_of all) ≡ length es + 1 = length-map all (λ e. e.0) ∙ count in
    let within : length es < length (keys_of all) = omega arith in
    let last : length all - 1 ≡ length es = omega arith in
    let at : position (nat_eq key) (keys_of all) ≡ Some (length es) =
    ap (λ n. cond (nat_lt n (length (keys_of all))) (Some n) None) (last_at es key v none) ∙ ap (λ b. cond b (Some (length es)) None) (lt-ltb (length es) (length (keys_of all)) within) in
    swap_remove_entry-found (nat_eq key) all (length es) (key, v) at
    ∙ ap (λ n. take n (slice_set all (length es) (slice_index_or all (length all - 1) (key, v)))) last
    ∙ take-set all (length es) (slice_index_or all (length all - 1) (key, v))
    ∙ take-append_seam es ((key, v) ∷ [])
