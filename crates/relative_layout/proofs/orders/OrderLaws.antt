-- Orders that have all children, and a cycle if there is no such order.
use Rattle.std.proofs.Common.{◌≡◌, ◌≢◌, ℕ, zero, suc, ◌+◌, ◌<◌, ◌≤◌, Bool, true, false, cond, List, [], ◌∷◌, ◌++◌, ◌&&◌, ◌||◌, length, get_or, refl, sym, ◌∙◌, arith, inl, inr, length-append}
use Rattle.std.proofs.lemmas.Bool.{cases_Bool, cases_lt}
use Rattle.std.proofs.lemmas.List.{get_or_push, get_or_append_left}
use Rattle.relative_layout.proofs.orders.NamingLaws.{leads_from, leads_inside, pushed}
use Rattle.relative_layout.proofs.orders.TakingLaws.{marked-cons, marked-most}
use Rattle.relative_layout.specs.ordering.Components.{AreMarked, members_with}
use Rattle.relative_layout.specs.ordering.Sorting.{IsLongest}
use Rattle.relative_layout.specs.ordering.Topological.{is_marked, marked}
use Rattle.view_model.specs.declared.relative.Axis.{Axis}
use Rattle.view_model.specs.declared.relative.Link.{Link}
use Rattle.view_model.specs.Orders.{AreMembers, IsAcyclic, IsAnchorsFirst, IsCycle, IsOrder, Reaches, AtOnce, Through}
use Rattle.view_model.specs.SiblingRules.{leads}

-- what is reached comes before, in an order with anchors first
pub reach_before : (r : ℕ → ℕ → Bool) (order : List ℕ) → IsAnchorsFirst r order → {a b : ℕ} (p : ℕ) → p < length order → get_or order p 0 ≡ a → Reaches r a b → (q : ℕ) × (q < p) × (get_or order q 0 ≡ b)
reach_before r order is p h e (AtOnce f) = is.first p _ h (rw e f)
reach_before r order is p h e (Through f w) =
    let q = is.first p _ h (rw e f) in
    let t = reach_before r order is q.0 (omega arith) q.2 w in
    (t.0, omega arith, t.2)

taken_apart : (r : ℕ → ℕ → Bool) (order : List ℕ) → IsAnchorsFirst r order → (p : ℕ) → p < length order → Reaches r (get_or order p 0) (get_or order p 0) → ⊥
taken_apart r order is p h w =
    let t = reach_before r order is p h refl w in
    let same : t.0 ≡ p = is.once t.0 p (omega arith) h t.2 in
    omega arith

reaches_from : (axis : Axis) (kids : List Link) {a b : ℕ} → Reaches (leads axis kids) a b → a < length kids
reaches_from axis kids (AtOnce e) = leads_from axis kids _ _ e
reaches_from axis kids (Through e w) = leads_from axis kids _ _ e

-- if there is an order, no place reaches itself
pub acyclic : (axis : Axis) (kids : List Link) (order : List ℕ) → IsOrder (leads axis kids) (length kids) order → IsAcyclic (leads axis kids)
acyclic axis kids order is = λ place w.
    let p = is.each place (reaches_from axis kids w) in
    taken_apart (leads axis kids) order is.anchors p.0 p.1 (rw p.2 w)

-- all are marked if the marks are as many as the places
all_marked : (marks : List Bool) → marked marks ≡ length marks → (k : ℕ) → k < length marks → is_marked marks k ≡ true
all_marked [] e k h = absurd (omega arith)
all_marked (true ∷ marks) e zero h = refl
all_marked (true ∷ marks) e (suc k) h = all_marked marks (omega (arith, marked-cons true marks)) k (omega arith)
all_marked (false ∷ marks) e k h = absurd (omega (arith, marked-cons false marks, marked-most marks))

pub IsOrder-whole : (r : ℕ → ℕ → Bool) (count : ℕ) (order : List ℕ) → length order ≡ count → IsLongest r count order → IsOrder r count order
IsOrder-whole r count order size is = record {
  size = size;
  inside = is.partial.inside;
  each = λ place h. is.partial.each place (all_marked is.taken (sym is.partial.size ∙ size ∙ sym is.size) place (omega (arith, is.size)));
  anchors = is.partial.anchors;
}

-- a place is not marked if there are fewer marks than places
some_unmarked : (marks : List Bool) → marked marks < length marks → (k : ℕ) × (k < length marks) × (is_marked marks k ≡ false)
some_unmarked [] h = absurd (omega arith)
some_unmarked (false ∷ marks) h = (0, omega arith, refl)
some_unmarked (true ∷ marks) h = let k = some_unmarked marks (omega (arith, marked-cons true marks)) in (suc k.0, omega (arith, k.1), k.2)

-- one path after the other
pub reach_both : {r : ℕ → ℕ → Bool} {a b c : ℕ} → Reaches r a b → Reaches r b c → Reaches r a c
reach_both (AtOnce e) v = Through e v
reach_both (Through e w) v = Through e (reach_both w v)

-- a relation without one of its places: what leads there leads on to where that leads
abbrev pub around : (ℕ → ℕ → Bool) → ℕ → ℕ → ℕ → Bool
around r m a b = r a b || (r a m && r m b)

around_steps : (r : ℕ → ℕ → Bool) (m a b : ℕ) (at_once to from : Bool) → r a b ≡ at_once → r a m ≡ to → r m b ≡ from → (at_once || (to && from)) ≡ true → Reaches r a b
around_steps r m a b true to from e f g h = AtOnce e
around_steps r m a b false true true e f g h = Through f (AtOnce g)
around_steps r m a b false true false e f g h = absurd (cc)
around_steps r m a b false false from e f g h = absurd (cc)

around_reaches : (r : ℕ → ℕ → Bool) (m : ℕ) {a b : ℕ} → Reaches (around r m) a b → Reaches r a b
around_reaches r m (AtOnce e) = around_steps r m _ _ _ _ _ refl refl refl e
around_reaches r m (Through e w) = reach_both (around_steps r m _ _ _ _ _ refl refl refl e) (around_reaches r m w)

back_in : (r : ℕ → ℕ → Bool) (m : ℕ) → (c : ℕ) × (c < m) × Reaches (around r m) c c → (c : ℕ) × (c < suc m) × Reaches r c c
back_in r m c = (c.0, omega (arith, c.1), around_reaches r m c.2)

or_true : (b : Bool) → (b || true) ≡ true
or_true true = refl
or_true false = refl

-- if each place that is left below a number leads to another such, one of them reaches itself
stuck : (m : ℕ) (r : ℕ → ℕ → Bool) (gone : ℕ → Bool) → ((a : ℕ) → a < m → gone a ≡ false → (b : ℕ) × (b < m) × (gone b ≡ false) × (r a b ≡ true))
    → (a : ℕ) → a < m → gone a ≡ false → (c : ℕ) × (c < m) × Reaches r c c
stuck zero r gone on a h left = absurd (omega arith)
stuck (suc m) r gone on a h left = elim (cases_Bool (gone m)) [
  | inl t ↦
      let smaller : (b : ℕ) → b < suc m → gone b ≡ false → b < m
      = (λ b l f. elim (cases_lt b m) [ inl lt ↦ lt | inr le ↦ let same : b ≡ m = omega arith in absurd (let g = rw same at f in let bad : true ≡ false = sym t ∙ g in cc) ]) in
      let c = stuck m r gone (λ b l f. let w = on b (omega arith) f in (w.0, smaller w.0 w.1 w.2, w.2, w.3)) a (smaller a h left) left in
      (c.0, omega (arith, c.1), c.2)
  | inr f ↦
      let to = on m (omega arith) f in
      elim (cases_lt to.0 m) [
        | inr le ↦ let same : to.0 ≡ m = omega (arith, to.1) in (m, omega arith, AtOnce (rw same at to.3))
        | inl lt ↦
            back_in r m (stuck m (around r m) gone
            (λ b l e. let w = on b (omega arith) e in elim (cases_lt w.0 m) [
              | inl small ↦ (w.0, small, w.2, rw w.3 refl)
              | inr le ↦ let same : w.0 ≡ m = omega (arith, w.1) in let there : r b m ≡ true = rw same at w.3 in (to.0, lt, to.2, rw (there, to.3) (or_true (r b to.0)))
            ])
            to.0 lt to.2)
      ]
]

-- an order that is not whole and can't be made longer leaves a cycle
pub IsCycle-left : (axis : Axis) (kids : List Link) (order members : List ℕ) → length order ≢ length kids → IsLongest (leads axis kids) (length kids) order
    → AreMembers (leads axis kids) (length kids) members → IsCycle (leads axis kids) (length kids) members
IsCycle-left axis kids order members short is are = record { some = elim (cases_lt 0 (length members)) [ inl lt ↦ lt | inr le ↦ absurd (none le) ]; exact = are }
  where
    none : length members ≤ 0 → ⊥
    none empty =
        let most = marked-most is.taken in
        let few : marked is.taken < length is.taken = (let z = is.partial.size in let y = is.size in omega arith) in
        let k = some_unmarked is.taken few in
        let c = stuck (length kids) (leads axis kids) (is_marked is.taken)
        (λ a l f. let w = is.waits a l f in (w.0, leads_inside axis kids a w.0 w.1, w.2, w.1))
        k.0 (omega (arith, k.1, is.size)) k.2 in
        let p = are.whole c.0 c.1 c.2 in
        omega (arith, p.1)

pub AreMembers-skip : (r : ℕ → ℕ → Bool) (a : ℕ) (members : List ℕ) → (Reaches r a a → ⊥) → AreMembers r a members → AreMembers r (a + 1) members
AreMembers-skip r a members apart are = record {
  below = λ p h. let b = are.below p h in omega arith;
  rising = are.rising;
  sound = are.sound;
  whole = λ k h w. elim (cases_lt k a) [
    | inl lt ↦ are.whole k lt w
    | inr le ↦ let same : k ≡ a = omega arith in absurd (apart (rw same at w))
  ];
}

pub AreMembers-push : (r : ℕ → ℕ → Bool) (a : ℕ) (members : List ℕ) → Reaches r a a → AreMembers r a members → AreMembers r (a + 1) (members ++ a ∷ [])
AreMembers-push r a members reaches are =
    let long : length (members ++ a ∷ []) ≡ length members + 1 = length-append members (a ∷ []) in
    record {
      below = λ p h. elim (pushed members a p h) [ inl w ↦ let b = are.below p w.0 in rw w.1 (omega arith) | inr w ↦ rw w.1 (omega arith) ];
      rising = λ p q o h.
          let old : p < length members = omega arith in
          elim (pushed members a q h) [
            | inl w ↦ rw (w.1, get_or_append_left members (a ∷ []) 0 p old) (are.rising p q o w.0)
            | inr w ↦ rw (w.1, get_or_append_left members (a ∷ []) 0 p old) (are.below p old)
          ];
      sound = λ p h. elim (pushed members a p h) [ inl w ↦ rw w.1 (are.sound p w.0) | inr w ↦ rw w.1 reaches ];
      whole = λ k h w. elim (cases_lt k a) [
        | inl lt ↦ let p = are.whole k lt w in (p.0, omega arith, get_or_append_left members (a ∷ []) 0 p.0 p.1 ∙ p.2)
        | inr le ↦ (length members, omega arith, get_or_push members a 0 (length members) refl ∙ omega arith)
      ];
    }

-- one place more, by its mark
pub AreMembers-next : (r : ℕ → ℕ → Bool) (count place : ℕ) (marks : List Bool) (members : List ℕ) → AreMarked r count marks → place < count → AreMembers r place members
    → AreMembers r (place + 1) (members_with marks place members)
AreMembers-next r count place marks members marked small are = by_mark (is_marked marks place) refl
  where
    by_mark : (mark : Bool) → is_marked marks place ≡ mark → AreMembers r (place + 1) (cond mark (members ++ place ∷ []) members)
    by_mark true t = AreMembers-push r place members (marked.sound place t) are
    by_mark false f = AreMembers-skip r place members (λ way. let t = marked.whole place small way in let bad : true ≡ false = sym t ∙ f in cc) are

-- the order of the list is one if no place leads to a later one
pub IsOrder-listed : (r : ℕ → ℕ → Bool) (count : ℕ) (order : List ℕ) → length order ≡ count → ((place : ℕ) → place < count → get_or order place 0 ≡ place) → ((a b : ℕ) → r a b ≡ true → b < a)
    → IsOrder r count order
IsOrder-listed r count order size each back = record {
  size = size;
  inside = λ p h. let at = each p (omega arith) in omega arith;
  each = λ place h. (place, omega arith, each place h);
  anchors = record {
    once = λ p q hp hq e. sym (each p (omega arith)) ∙ e ∙ each q (omega arith);
    first = λ p anchor h led.
        let before = back (get_or order p 0) anchor led in
        let at = each p (omega arith) in
        (anchor, omega arith, each anchor (omega arith));
  };
}
