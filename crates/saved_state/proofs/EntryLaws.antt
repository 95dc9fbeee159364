-- Entries by rising ids: where an id is among them, and what an entry more makes of them.
use Rattle.std.proofs.Common.{◌≡◌, ◌≢◌, ℕ, zero, suc, ◌<◌, ◌≤◌, Some, None, Result, Ok, Err, refl, sym, subst, ap, arith, inl, inr, List, [], ◌∷◌, length, Bool, true, false, ◌||◌, ◌&&◌, slice_set, slice_index_or}
use Rattle.std.proofs.Math.Bool.{or-false}
use Rattle.std.proofs.lemmas.Bool.{cases_eq, cases_lt, eq-eqb, le-ltb, lt-ltb, ne_eqb}
use Rattle.std.proofs.lemmas.Bool.Decides.{nat_tests}
use Rattle.std.proofs.lemmas.Cmp.{ranked}
use Rattle.std.proofs.lemmas.Int.{ints}
use Rattle.std.proofs.lemmas.List.{get_or-set_same, get_or-set_other}
use Rattle.std.proofs.lemmas.List.Sorted.{IsNonDecreasingBy-from_default}
use Rattle.std.specs.BTreeMap.{insert_entry}
use Rattle.std.specs.List.Sorted.{IsBinarySearchResult, IsNonDecreasingBy, IsSearchInRange}
use Rattle.std.specs.Ordering.{nat_cmp, ordering_index}
use Rattle.std.specs.Prelude.{◌==◌, replicate, slice_get, ℤ, pos, negsuc, ◌≤ℤ◌, unsigned_abs}
use Rattle.std.specs.Result.{MatchResult}
use Rattle.saved_state.specs.Restoring.{IsEntry, entry_at, meets, suits, value_for}
use Rattle.saved_state.specs.State.{IsState, IsValue, IsValueOf, RisesFrom, StateEntry}
use Rattle.saved_state.specs.Numbers.{last_version}
use Rattle.saved_state.specs.declared.value.Value.{Value}
use Rattle.saved_state.specs.declared.value.Value.TheVariants.{Offset, Text}
use Rattle.view_model.specs.PlainTree.{PlainView}
use Rattle.view_tree.proofs.forest.Forests.{some_is}

-- the ids of entries are above the one from which they rise, and each is above those before it
pub ids_above : (version before : ℕ) (entries : List StateEntry) (j : ℕ) → RisesFrom version before entries → j < length entries → before < (entry_at entries j).0
ids_above version before [] j rises there = absurd (omega arith)
ids_above version before (entry ∷ entries) zero rises there = rises.0
ids_above version before (entry ∷ entries) (suc j) rises there = let above = ids_above version entry.0 entries j rises.3 (omega arith) in let own = rises.0 in omega arith

pub ids_rise : (version before : ℕ) (entries : List StateEntry) (i j : ℕ) → RisesFrom version before entries → i < j → j < length entries → (entry_at entries i).0 < (entry_at entries j).0
ids_rise version before [] i j rises lower there = absurd (omega arith)
ids_rise version before (entry ∷ entries) i zero rises lower there = absurd (omega arith)
ids_rise version before (entry ∷ entries) zero (suc j) rises lower there = ids_above version entry.0 entries j rises.3 (omega arith)
ids_rise version before (entry ∷ entries) (suc i) (suc j) rises lower there = ids_rise version entry.0 entries i j rises.3 (omega arith) (omega arith)

-- a value of any version is one that may be
value_fits : (version : ℕ) (value : Value) → IsValueOf version value → IsValue value
value_fits version (Offset offset) fits = fits
value_fits version (Text text) fits = fits.1

pub values_fit : (version before : ℕ) (entries : List StateEntry) (j : ℕ) → RisesFrom version before entries → j < length entries → IsValue (entry_at entries j).1
values_fit version before [] j rises there = absurd (omega arith)
values_fit version before (entry ∷ entries) zero rises there = value_fits version entry.1 rises.2
values_fit version before (entry ∷ entries) (suc j) rises there = values_fit version entry.0 entries j rises.3 (omega arith)

pub value_got : (version before : ℕ) (entries : List StateEntry) (j : ℕ) (entry : StateEntry) → RisesFrom version before entries → slice_get entries j ≡ Some entry → IsValue entry.1
value_got version before [] j entry rises is = absurd cc
value_got version before (first ∷ entries) zero entry rises is = subst (λ (entry : StateEntry). IsValue entry.1) (some_is is) (value_fits version first.1 rises.2)
value_got version before (first ∷ entries) (suc j) entry rises is = value_got version first.0 entries j entry rises.3 is

-- an id that no entry has has no value, and the first entry that has it gives its value
value_absent : (entries : List StateEntry) (id : ℕ) → ((j : ℕ) → j < length entries → (entry_at entries j).0 ≢ id) → value_for entries id ≡ None
value_absent [] id apart = refl
value_absent (entry ∷ entries) id apart = rw (ne_eqb entry.0 id (apart 0 (omega arith))) (value_absent entries id (λ j there. apart (suc j) (omega arith)))

-- no entry has the id 0
pub zero_absent : (entries : List StateEntry) (id : ℕ) → IsState last_version entries → id ≡ 0 → value_for entries id ≡ None
zero_absent entries id state none = value_absent entries id (λ j there is. let above = ids_above last_version 0 entries j state.rises there in absurd (omega arith))

value_present : (entries : List StateEntry) (id place : ℕ) → place < length entries → (entry_at entries place).0 ≡ id → ((j : ℕ) → j < place → (entry_at entries j).0 ≢ id)
    → value_for entries id ≡ Some (entry_at entries place).1
value_present [] id place there is apart = absurd (omega arith)
value_present (entry ∷ entries) id zero there is apart = rw (eq-eqb entry.0 id is) refl
value_present (entry ∷ entries) id (suc place) there is apart =
    rw (ne_eqb entry.0 id (apart 0 (omega arith))) (value_present entries id place (omega arith) is (λ j lower. apart (suc j) (omega arith)))

-- no entry has an id that has no value
absent_apart : (entries : List StateEntry) (id j : ℕ) → value_for entries id ≡ None → j < length entries → (entry_at entries j).0 ≢ id
absent_apart [] id j none there is = absurd (omega arith)
absent_apart (entry ∷ entries) id zero none there is = absurd (let e = rw (eq-eqb entry.0 id is) at none in cc)
absent_apart (entry ∷ entries) id (suc j) none there is = elim (cases_eq entry.0 id) [
  | inl e ↦ absurd (let e = rw (eq-eqb entry.0 id e) at none in cc)
  | inr ne ↦ let rest : value_for entries id ≡ None = rw (ne_eqb entry.0 id ne) at none in absent_apart entries id j rest (omega arith) is
]

module _ (version : ℕ) (entries : List StateEntry) (rises : RisesFrom version 0 entries) (id : ℕ) where
  -- the comparisons with the id rise along the entries, as a binary search requires
  comparisons_rise : IsNonDecreasingBy (λ (entry : StateEntry). ordering_index (nat_cmp entry.0 id)) entries
  comparisons_rise = IsNonDecreasingBy-from_default (λ (entry : StateEntry). ordering_index (nat_cmp entry.0 id)) entries (0, Offset 0) (λ i j le there.
      let ids : (entry_at entries i).0 ≤ (entry_at entries j).0 = grind (arith, ids_rise version 0 entries i j rises, λ (same : i ≡ j). ap (λ k. (entry_at entries k).0) same) in
      grind (arith, nat_tests))

  one_place : (place other : ℕ) → place < length entries → (entry_at entries place).0 ≡ id → other < length entries → (entry_at entries other).0 ≡ id → other ≡ place
  one_place place other there is here same = grind (arith, ids_rise version 0 entries place other rises, ids_rise version 0 entries other place rises)

  -- an entry that has the id is the only one
  pub entry_here : (place : ℕ) → place < length entries → (entry_at entries place).0 ≡ id → IsEntry entries id place
  entry_here place there is = record {
    there = there;
    id_is = is;
    value = value_present entries id place there is (λ j lower same. let below = ids_rise version 0 entries j place rises lower there in absurd (omega arith));
    alone = λ other here same. one_place place other there is here same;
  }

  -- a binary search by id ends at the entry of the id, or there is none
  pub searched : (r : Result ℕ ℕ) → IsSearchInRange r (length entries) → IsBinarySearchResult (λ (entry : StateEntry). nat_cmp entry.0 id) entries r
      → MatchResult r (IsEntry entries id) (λ _. value_for entries id ≡ None)
  searched (Ok place) there equal = entry_here place there (ranked _ id _ (sym (equal (0, Offset 0))))
  searched (Err place) there parted =
      value_absent entries id (λ j here same. elim (cases_lt j place) [
        | inl lower ↦ let below : (entry_at entries j).0 < id = ranked _ id _ (sym ((parted comparisons_rise).0 j (0, Offset 0) (omega arith) lower)) in absurd (omega arith)
        | inr upper ↦ let above : id < (entry_at entries j).0 = ranked _ id _ (sym ((parted comparisons_rise).1 j (0, Offset 0) upper here)) in absurd (omega arith)
      ])

-- before any mark
pub unmarked : (n place : ℕ) → slice_index_or (replicate n false) place false ≡ false
unmarked zero place = refl
unmarked (suc n) zero = refl
unmarked (suc n) (suc place) = unmarked n place

-- a view that lacks the id of an entry leaves its mark
unmet : (mark fits : Bool) → mark ≡ (mark || (fits && false))
unmet true fits = refl
unmet false true = refl
unmet false false = refl

-- a mark more
pub mark_set : (entries : List StateEntry) (marks : List Bool) (view : PlainView) (place : ℕ) → suits (entry_at entries place).1 view.class ≡ true → IsEntry entries view.facts.id place
    → place < length marks
    → (other : ℕ) → other < length entries → slice_index_or (slice_set marks place true) other false ≡ (slice_index_or marks other false || meets (entry_at entries other) view)
mark_set entries marks view place fits is there other here = elim (cases_eq other place) [
  | inl e ↦
      let same : (view.facts.id == (entry_at entries place).0) ≡ true = eq-eqb view.facts.id (entry_at entries place).0 (sym is.id_is) in
      rw (e, get_or-set_same marks place true false there) (rw (fits, same) (all_true (slice_index_or marks place false)))
  | inr ne ↦
      let apart : (view.facts.id == (entry_at entries other).0) ≡ false = ne_eqb view.facts.id (entry_at entries other).0 (λ e. ne (is.alone other here (sym e))) in
      rw (get_or-set_other marks place other true false ne, apart) (unmet (slice_index_or marks other false) (suits (entry_at entries other).1 view.class))
]
  where
    all_true : (b : Bool) → true ≡ (b || true)
    all_true true = refl
    all_true false = refl

-- no mark more
pub mark_kept : (entries : List StateEntry) (mark : Bool) (view : PlainView) → value_for entries view.facts.id ≡ None → (other : ℕ) → other < length entries
    → mark ≡ (mark || meets (entry_at entries other) view)
mark_kept entries mark view none other here =
    let apart : (view.facts.id == (entry_at entries other).0) ≡ false = ne_eqb view.facts.id (entry_at entries other).0 (λ e. absent_apart entries view.facts.id other none here (sym e)) in
    rw apart (unmet mark (suits (entry_at entries other).1 view.class))

-- the entry of a view's id does not suit it
pub mark_left : (entries : List StateEntry) (mark : Bool) (view : PlainView) (place : ℕ) → suits (entry_at entries place).1 view.class ≡ false → IsEntry entries view.facts.id place
    → (other : ℕ) → other < length entries → mark ≡ (mark || meets (entry_at entries other) view)
mark_left entries mark view place fits is other here = elim (cases_eq other place) [
  | inl e ↦ rw (e, fits) (sym (or-false mark))
  | inr ne ↦
      let apart : (view.facts.id == (entry_at entries other).0) ≡ false = ne_eqb view.facts.id (entry_at entries other).0 (λ e. ne (is.alone other here (sym e))) in
      rw apart (unmet mark (suits (entry_at entries other).1 view.class))
]

-- an entry that is inserted at its place
pub insert_rises : (version before : ℕ) (entries : List StateEntry) (id : ℕ) (value : Value) → RisesFrom version before entries → before < id → id < 4294967296 → IsValueOf version value
    → RisesFrom version before (insert_entry nat_cmp entries id value)
insert_rises version before [] id value rises above fits few = (above, fits, few, tt)
insert_rises version before (first ∷ entries) id value rises above fits few = elim (cases_lt id first.0) [
  | inl lower ↦ rw (lt-ltb id first.0 lower) (above, fits, few, (lower, rises.1, rises.2, rises.3))
  | inr upper ↦ elim (cases_eq id first.0) [
    | inl same ↦ rw (le-ltb id first.0 upper, eq-eqb id first.0 same) (rises.0, rises.1, few, rises.3)
    | inr ne ↦
        rw (le-ltb id first.0 upper, ne_eqb id first.0 ne)
        (rises.0, rises.1, rises.2, insert_rises version first.0 entries id value rises.3 (omega arith) fits few)
  ]
]

-- an offset that may be saved, without its sign
pub abs_few : (offset : ℤ) → pos 0 ≤ℤ offset → offset ≤ℤ pos 16777215 → unsigned_abs offset ≤ 16777215
abs_few (pos n) low high = grind (arith, ints)
abs_few (negsuc n) low high = grind (arith, ints)
