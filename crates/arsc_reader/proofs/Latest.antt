-- The last entry with an id: among entries in another order, and among those in the order of their ids.
use Rattle.std.proofs.Common.{◌≡◌, ℕ, zero, suc, ◌+◌, ◌-◌, ◌<◌, ◌≤◌, Bool, true, false, cond, List, [], ◌∷◌, ◌++◌, length, take, get_or, inl, inr, refl, sym, ap, ◌∙◌, arith}
use Rattle.std.specs.Prelude.{◌==◌, filter}
use Rattle.std.specs.List.Sorted.{ties, IsStableByKey}
use Rattle.std.specs.Ordering.{is_lt, nat_cmp}
use Rattle.std.proofs.lemmas.Bool.{cases_lt, cases_eq, lt-ltb, le-ltb, eq-eqb, ne_eqb}
use Rattle.std.proofs.lemmas.List.{take_more, take_all}
use Rattle.arsc_reader.specs.declared.held.Entry.{Entry}
use Rattle.arsc_reader.specs.declared.held.Held.{Held}
use Rattle.arsc_reader.specs.declared.held.Held.TheVariants as held
use Rattle.arsc_reader.specs.Order.{AreOrdered, Splits}
use Rattle.arsc_reader.specs.Table.{newer, latest_after, latest}

-- one entry more in front, which a test lets through just where it has the id
one_more : (b : Bool) (before : Held) (entry : Entry) (kept all : List Entry) (id : ℕ) → (entry.id == id) ≡ b
    → ((h : Held) → latest_after h kept id ≡ latest_after h all id) → latest_after before (cond b (entry ∷ kept) kept) id ≡ latest_after before (entry ∷ all) id
unfolding latest_after
one_more true before entry kept all id e same = same (newer before entry id)
one_more false before entry kept all id e same = rw e (same before)

-- only entries with the id count
latest_after-filter : (p : Entry → Bool) (id : ℕ) → ((entry : Entry) → p entry ≡ (entry.id == id)) → (entries : List Entry) (before : Held)
    → latest_after before (filter p entries) id ≡ latest_after before entries id
latest_after-filter p id tests [] before = refl
latest_after-filter p id tests (entry ∷ rest) before =
    one_more (p entry) before entry (filter p rest) rest id (sym (tests entry)) (λ h. latest_after-filter p id tests rest h)

abbrev by_id : Entry → Entry → Bool
by_id x y = is_lt (nat_cmp x.id y.id)

-- entries tie where they have one id
tie : (x y : Entry) → ties by_id x y ≡ (y.id == x.id)
tie x y =
    elim (cases_lt x.id y.id) [
      | inl low ↦ rw (lt-ltb x.id y.id low, ne_eqb y.id x.id (λ e. omega (arith, e, low))) refl
      | inr high ↦ elim (cases_eq y.id x.id) [
        | inl same ↦ rw (le-ltb x.id y.id high, le-ltb y.id x.id (omega (arith, same)), eq-eqb y.id x.id same, eq-eqb x.id y.id (sym same)) refl
        | inr other ↦ rw (le-ltb x.id y.id high, lt-ltb y.id x.id (omega (arith, high, other)), ne_eqb y.id x.id other, ne_eqb x.id y.id (λ e. other (sym e))) refl
      ]
    ]

-- in another order, in which those with one id stay in theirs, the last one is the same
pub latest-stable : (entries moved : List Entry) → IsStableByKey (λ (entry : Entry). entry.id) nat_cmp entries moved → (id : ℕ) → latest moved id ≡ latest entries id
latest-stable entries moved stable id =
    let one : Entry = record { id = id; held = held.None } in
    sym (latest_after-filter (ties by_id one) id (λ y. tie one y) moved held.None)
    ∙ ap (λ (es : List Entry). latest_after held.None es id) (stable one)
    ∙ latest_after-filter (ties by_id one) id (λ y. tie one y) entries held.None

-- an entry more at the end
latest_after-push : (before : Held) (entries : List Entry) (entry : Entry) (id : ℕ) → latest_after before (entries ++ entry ∷ []) id ≡ newer (latest_after before entries id) entry id
unfolding latest_after
latest_after-push before [] entry id = refl
latest_after-push before (e ∷ rest) entry id = latest_after-push (newer before e id) rest entry id

latest-more : (entries : List Entry) (id n : ℕ) (d : Entry) → n < length entries → latest (take (n + 1) entries) id ≡ newer (latest (take n entries) id) (get_or entries n d) id
latest-more entries id n d lt = rw (take_more entries n d lt) (latest_after-push held.None (take n entries) (get_or entries n d) id)

abbrev Differ : List Entry → ℕ → Entry → ℕ → ℕ → Type 0
Differ entries id d low high = (k : ℕ) → low ≤ k → k < high → ((get_or entries k d).id == id) ≡ false

-- entries with other ids change nothing
others_after : (entries : List Entry) (id n : ℕ) (d : Entry) (more : ℕ) → n + more ≤ length entries → Differ entries id d n (n + more)
    → latest (take (n + more) entries) id ≡ latest (take n entries) id
others_after entries id n d zero fits differ =
    let e : n + 0 ≡ n = omega arith in
    rw e refl
others_after entries id n d (suc more) fits differ =
    let e : n + suc more ≡ (n + more) + 1 = omega arith in
    let lt : n + more < length entries = omega (arith, fits) in
    let here : ((get_or entries (n + more) d).id == id) ≡ false = differ (n + more) (omega arith) (omega arith) in
    ap (λ (k : ℕ). latest (take k entries) id) e ∙ latest-more entries id (n + more) d lt
    ∙ rw here (others_after entries id n d more (omega (arith, fits)) (λ k low high. differ k low (omega (arith, high))))

up_to_place : (entries : List Entry) (id place : ℕ) → Splits entries id place → latest entries id ≡ latest (take place entries) id
up_to_place entries id place s =
    let d : Entry = record { id = 0; held = held.None } in
    let e : place + (length entries - place) ≡ length entries = omega (arith, s.within) in
    ap (λ (es : List Entry). latest es id) (sym (take_all (length entries) entries (omega arith)))
    ∙ ap (λ (k : ℕ). latest (take k entries) id) (sym e)
    ∙ others_after entries id place d (length entries - place) (omega (arith, s.within))
    (λ k low high. ne_eqb (get_or entries k d).id id (λ same. omega (arith, same, s.high k d low (omega (arith, high, e)))))

pub none_before : (entries : List Entry) (id : ℕ) → Splits entries id 0 → latest entries id ≡ held.None
unfolding latest_after
none_before entries id s = up_to_place entries id 0 s

-- the entries before one with a smaller id have other ids
all_smaller : (entries : List Entry) (id n : ℕ) (d : Entry) → n < length entries → AreOrdered entries → (get_or entries n d).id < id
    → latest (take n entries) id ≡ held.None
unfolding latest_after
all_smaller entries id n d lt order below =
    let e : 0 + n ≡ n = omega arith in
    ap (λ (k : ℕ). latest (take k entries) id) (sym e)
    ∙ others_after entries id 0 d n (omega (arith, lt))
    (λ k low high. ne_eqb (get_or entries k d).id id (λ same. omega (arith, same, below, order k n d (omega (arith, high)) lt)))

pub last_before : (entries : List Entry) (id n : ℕ) (d : Entry) → AreOrdered entries → Splits entries id (n + 1)
    → latest entries id ≡ newer held.None (get_or entries n d) id
last_before entries id n d order s =
    let lt : n < length entries = omega (arith, s.within) in
    up_to_place entries id (n + 1) s ∙ latest-more entries id n d lt
    ∙ elim (cases_eq (get_or entries n d).id id) [
      | inl same ↦ rw (eq-eqb (get_or entries n d).id id same) refl
      | inr other ↦ rw (all_smaller entries id n d lt order (omega (arith, other, s.low n d (omega arith)))) refl
    ]
