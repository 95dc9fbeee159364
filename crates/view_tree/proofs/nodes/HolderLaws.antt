-- What a table has for an id, once a view has got the id or lost it.
use Rattle.std.proofs.Common.{◌≡◌, ◌≢◌, ℕ, List, ◌+◌, ◌-◌, ◌%◌, ◌^◌, ◌<◌, ◌≤◌, true, Option, Some, None, refl, sym, ◌∙◌, ap, arith, inl, inr}
use Rattle.std.proofs.lemmas.Bool.{eq-eqb, ne_eqb, cases_eq, lt-ltb}
use Rattle.std.proofs.Math.Nat.{add-mod_right, mod-add-mod}
use Rattle.std.proofs.lemmas.Map.Made.{IfSome-lookup_key_same}
use Rattle.std.specs.Cmp.{unsigned_Decides}
use Rattle.std.specs.Map.{lookup_key}
use Rattle.std.specs.Prelude.{◌==◌, if◌then◌else◌, nat_eq, nat_lt, IfSome}
use Rattle.view_model.specs.Numbers.{max_views}
use Rattle.view_tree.specs.declared.table.ids.Holders.{Holders}
use Rattle.view_tree.proofs.forest.Forests.{some_is}
use Rattle.view_tree.specs.table.Holders.{dropped, holders, noted, renamed, with_holder, without_holder}

abbrev some_holders : ℕ → ℕ → Option Holders
some_holders count sum = Some (record { count = count; sum = sum })

holders_none : (n sum : ℕ) → n ≡ 0 → holders n sum ≡ None
holders_none n sum e = rw (eq-eqb n 0 e)

holders_some : (n sum : ℕ) → n ≢ 0 → holders n sum ≡ some_holders n (sum % 2 ^ 64)
holders_some n sum ne = rw (ne_eqb n 0 ne)

-- one view more
holders_more : (n sum key : ℕ) → (n ≡ 0 → sum ≡ 0) → key < 2 ^ 64 → Some (with_holder (holders n sum) key) ≡ holders (n + 1) (sum + key)
holders_more n sum key none small = elim (cases_eq n 0) [
  | inl e ↦
      let one : n + 1 ≡ 1 = omega arith in
      let own : (sum + key) % 2 ^ 64 ≡ key = let z = none e in omega arith in
      rw (holders_none n sum e, holders_some (n + 1) (sum + key) (λ z. absurd (omega arith)), one, own)
  | inr ne ↦ rw (holders_some n sum ne, holders_some (n + 1) (sum + key) (λ z. absurd (omega arith)), mod-add-mod sum (2 ^ 64) key)
]

-- one view fewer
back : (sum key : ℕ) → key < 2 ^ 64 → ((sum + key) % 2 ^ 64 + (2 ^ 64 - key)) % 2 ^ 64 ≡ sum % 2 ^ 64
back sum key small =
    mod-add-mod (sum + key) (2 ^ 64) (2 ^ 64 - key)
    ∙ ap (λ n. n % 2 ^ 64) (omega arith)
    ∙ add-mod_right sum (2 ^ 64)

holders_less : (n sum key : ℕ) → key < 2 ^ 64 → without_holder (holders (n + 1) (sum + key)) key ≡ holders n sum
holders_less n sum key small =
    rw (holders_some (n + 1) (sum + key) (λ z. absurd (omega arith))) (elim (cases_eq n 0) [
      | inl e ↦ let one : n + 1 ≡ 1 = omega arith in rw (holders_none n sum e, one)
      | inr ne ↦
          let more : nat_lt 1 (n + 1) ≡ true = lt-ltb 1 (n + 1) (omega arith) in
          let less : n + 1 - 1 ≡ n = omega arith in
          rw (holders_some n sum ne, more, less, back sum key small)
    ])

-- what a table has for an id, of n views with this sum
abbrev pub held_for : ℕ → ℕ → ℕ → Option Holders
held_for id n sum = if id == 0 then None else holders n sum

-- how much a view adds to the number of views of an id, and to the sum of their keys
abbrev pub own : ℕ → ℕ → ℕ → ℕ
own new id amount = if new == id then amount else 0

pub noted_is : (new id key n sum more total : ℕ) → more ≡ n + own new id 1 → total ≡ sum + own new id key → (n ≡ 0 → sum ≡ 0) → key < 2 ^ 64
    → held_for id more total ≡ noted (held_for id n sum) new key id
noted_is new id key n sum more total count keys none small = elim (cases_eq new id) [
  | inl e ↦
      let count : more ≡ n + 1 = rw (eq-eqb new id e) at count in
      let keys : total ≡ sum + key = rw (eq-eqb new id e) at keys in
      rw (eq-eqb new id e, count, keys, sym e) (elim (cases_eq new 0) [
        | inl z ↦ rw (eq-eqb new 0 z)
        | inr ne ↦ rw (ne_eqb new 0 ne) (sym (holders_more n sum key none small))
      ])
  | inr ne ↦
      let count : more ≡ n = (rw (ne_eqb new id ne) at count) ∙ omega arith in
      let keys : total ≡ sum = (rw (ne_eqb new id ne) at keys) ∙ omega arith in
      rw (ne_eqb new id ne, count, keys) (elim (cases_eq new 0) [
        | inl z ↦ rw (eq-eqb new 0 z)
        | inr ne ↦ rw (ne_eqb new 0 ne)
      ])
]

pub dropped_is : (old id key n sum fewer rest : ℕ) → n ≡ fewer + own old id 1 → sum ≡ rest + own old id key → key < 2 ^ 64
    → held_for id fewer rest ≡ dropped (held_for id n sum) old key id
dropped_is old id key n sum fewer rest count keys small = elim (cases_eq old id) [
  | inl e ↦
      let count : n ≡ fewer + 1 = rw (eq-eqb old id e) at count in
      let keys : sum ≡ rest + key = rw (eq-eqb old id e) at keys in
      rw (eq-eqb old id e, count, keys, sym e) (elim (cases_eq old 0) [
        | inl z ↦ rw (eq-eqb old 0 z)
        | inr ne ↦ rw (ne_eqb old 0 ne) (sym (holders_less fewer rest key small))
      ])
  | inr ne ↦
      let count : n ≡ fewer = (rw (ne_eqb old id ne) at count) ∙ omega arith in
      let keys : sum ≡ rest = (rw (ne_eqb old id ne) at keys) ∙ omega arith in
      rw (ne_eqb old id ne, count, keys) (elim (cases_eq old 0) [
        | inl z ↦ rw (eq-eqb old 0 z)
        | inr ne ↦ rw (ne_eqb old 0 ne)
      ])
]

pub renamed_is : (old new id key n sum count rest : ℕ) → count + own old id 1 ≡ n + own new id 1 → rest + own old id key ≡ sum + own new id key
    → (n ≡ 0 → sum ≡ 0) → key < 2 ^ 64 → held_for id count rest ≡ renamed (held_for id n sum) old new key id
renamed_is old new id key n sum count rest counts keys none small = elim (cases_eq new old) [
  | inl e ↦
      let count_is : count ≡ n = let counts = rw e at counts in omega arith in
      let keys_are : rest ≡ sum = let keys = rw e at keys in omega arith in
      rw (eq-eqb new old e, count_is, keys_are)
  | inr ne ↦
      rw (ne_eqb new old ne)
      (dropped_is old id key (n + own new id 1) (sum + own new id key) count rest (sym counts) (sym keys) small
      ∙ ap (λ held. dropped held old key id) (noted_is new id key n sum (n + own new id 1) (sum + own new id key) refl refl none small))
]

pub renamed_same : (held : Option Holders) (old new key id : ℕ) → new ≡ old → held ≡ renamed held old new key id
renamed_same held old new key id same = rw (eq-eqb new old same)

-- an id has no more views than there are
pub held_few : (id n sum : ℕ) → n ≤ max_views → IfSome (held_for id n sum) (λ held. held.count ≤ max_views)
held_few id n sum few = elim (cases_eq id 0) [
  | inl z ↦ rw (eq-eqb id 0 z) tt
  | inr ne ↦ rw (ne_eqb id 0 ne) (elim (cases_eq n 0) [
    | inl e ↦ rw (holders_none n sum e) tt
    | inr e ↦ rw (holders_some n sum e) few
  ])
]

-- an id that has no entry has no view, and if the count is 1 the sum is that of one view
pub held_none : (id n sum : ℕ) → id ≢ 0 → held_for id n sum ≡ None → n ≡ 0
held_none id n sum ne is = elim (cases_eq n 0) [
  | inl e ↦ e
  | inr e ↦ let is = rw (ne_eqb id 0 ne, holders_some n sum e) at is in cc
]

pub held_one : (id n sum : ℕ) (held : Holders) → id ≢ 0 → held_for id n sum ≡ Some held → held.count ≡ 1 → (n ≡ 1) × (held.sum ≡ sum % 2 ^ 64)
held_one id n sum held ne is one = elim (cases_eq n 0) [
  | inl e ↦ let is = rw (ne_eqb id 0 ne, holders_none n sum e) at is in absurd (cc)
  | inr e ↦
      let is : some_holders n (sum % 2 ^ 64) ≡ Some held = rw (ne_eqb id 0 ne, holders_some n sum e) at is in
      let own = some_is is in
      (ap (λ (h : Holders). h.count) own ∙ one, ap (λ (h : Holders). h.sum) (sym own))
]

-- an id is stored under itself
pub stored_id : (id : ℕ) (entries : List (ℕ × Holders)) → IfSome (lookup_key (nat_eq id) entries) (λ k. k ≡ id)
stored_id id entries = IfSome-lookup_key_same unsigned_Decides id entries
