-- Orders of places, when one is removed and when one is added.
use Rattle.std.proofs.Common.{◌≡◌, ◌≢◌, ◌⊎◌, ℕ, ◌<◌, ◌≤◌, ◌+◌, ◌-◌, Bool, true, take, drop, ◌++◌, [], ◌∷◌, List, length-append, length, get_or, sym, ◌∙◌, ap, arith, inl, inr}
use Rattle.std.proofs.lemmas.Grind.{common_steps}
use Rattle.std.proofs.lemmas.Bool.{cases_lt}
use Rattle.std.proofs.lemmas.Bool.Decides.{nat_tests}
use Rattle.std.specs.List.{remove}
use Rattle.std.proofs.lemmas.List.{get_or_push, get_or_append_left}
use Rattle.std.proofs.lemmas.List.Edits.{length-remove, get_or-remove_below, get_or-remove_above}
use Rattle.view_model.specs.Orders.{IsOrder}
use Rattle.sibling_orders.specs.Indexes.{IsStraight, StaysWithin, passing}

-- the two cases of a place that stays
pub passes : (i j : ℕ) → ((j < i) × (passing i j ≡ j)) ⊎ ((i ≤ j) × (passing i j ≡ j + 1))
unfolding passing
passes i j = elim (cases_lt j i) [ inl lt ↦ inl (lt, grind (arith, nat_tests)) | inr le ↦ inr (le, grind (arith, nat_tests)) ]

pub passing_injective : (i j k : ℕ) → passing i j ≡ passing i k → j ≡ k
passing_injective i j k e = elim (passes i j) [ inl a ↦ elim (passes i k) [ inl b ↦ omega arith | inr b ↦ omega arith ] | inr a ↦ elim (passes i k) [ inl b ↦ omega arith | inr b ↦ omega arith ] ]

passing_rises : (i j k : ℕ) → passing i j < passing i k → j < k
passing_rises i j k e = elim (passes i j) [ inl a ↦ elim (passes i k) [ inl b ↦ omega arith | inr b ↦ omega arith ] | inr a ↦ elim (passes i k) [ inl b ↦ omega arith | inr b ↦ omega arith ] ]

pub passing_within : (i j n : ℕ) → i ≤ n → j < n → passing i j < n + 1
passing_within i j n h l = elim (passes i j) [ inl a ↦ omega arith | inr a ↦ omega arith ]

passing_back : (i x n : ℕ) → i ≤ n → passing i x < n + 1 → x < n
passing_back i x n h l = elim (passes i x) [ inl a ↦ omega arith | inr a ↦ omega arith ]

-- a place other than the one that is removed is that of one that stays
staying : (i k n : ℕ) → k ≢ i → k < n + 1 → i ≤ n → (j : ℕ) × (j < n) × (passing i j ≡ k)
staying i k n ne l h = elim (cases_lt k i) [
  | inl lt ↦ (k, omega arith, elim (passes i k) [ inl a ↦ a.1 | inr a ↦ absurd (omega arith) ])
  | inr le ↦ (k - 1, omega arith, elim (passes i (k - 1)) [ inl a ↦ absurd (omega arith) | inr a ↦ omega arith ])
]

pub passing_misses : (i j : ℕ) → passing i j ≢ i
passing_misses i j e = elim (passes i j) [ inl a ↦ omega arith | inr a ↦ omega arith ]

-- an order without the entry at `at`, which was `gone`, with each greater place lowered
pub record Removes (at gone : ℕ) (old new : List ℕ) : Type 0 where
  pub size : length new + 1 ≡ length old
  pub each : (q : ℕ) → q < length new → passing gone (get_or new q 0) ≡ get_or old (passing at q) 0

-- where a place that stays is now
moved : (n p i : ℕ) (old new : List ℕ) → length old ≡ n + 1 → p ≤ n → get_or old p 0 ≡ i → Removes p i old new → (k j : ℕ) → k < length old → get_or old k 0 ≡ passing i j
    → (q : ℕ) × (q < n) × (passing p q ≡ k) × (get_or new q 0 ≡ j)
moved n p i old new size at e m k j h f =
    let ne : k ≢ p = λ same. passing_misses i j (sym f ∙ ap (λ x. get_or old x 0) same ∙ e) in
    let q = staying p k n ne (omega arith) at in
    let there : q.0 < length new = (let z = m.size in let y = q.1 in omega arith) in
    (q.0, q.1, q.2, passing_injective i (get_or new q.0 0) j (m.each q.0 there ∙ ap (λ x. get_or old x 0) q.2 ∙ f))

-- what is left of an order is one
pub IsOrder-remove : (r s : ℕ → ℕ → Bool) (n p i : ℕ) (old new : List ℕ) → StaysWithin i r s
    → IsOrder r (n + 1) old → p < length old → get_or old p 0 ≡ i → Removes p i old new → IsOrder s n new
IsOrder-remove r s n p i old new kept o hp e m =
    let long : length new ≡ n = (let z = o.size in let y = m.size in omega arith) in
    let at : p ≤ n = (let z = o.size in omega arith) in
    let small : i ≤ n = (let z = o.inside p hp in omega arith) in
    let still : (q : ℕ) → q < n → passing p q < length old = λ q h. let z = passing_within p q n at h in let y = o.size in omega arith in
    record {
      size = long;
      inside = λ q h. passing_back i (get_or new q 0) n small (rw (m.each q h) (o.inside (passing p q) (still q (omega arith))));
      each = λ j h.
          let k = o.each (passing i j) (passing_within i j n small h) in
          let q = moved n p i old new o.size at e m k.0 j k.1 k.2 in
          (q.0, (let y = q.1 in omega arith), q.3);
      anchors = record {
        once = λ q k hq hk same. passing_injective p q k (o.anchors.once (passing p q) (passing p k) (still q (omega arith)) (still k (omega arith)) (sym (m.each q hq) ∙ ap (passing i) same ∙ m.each k hk));
        first = λ q j hq f.
            let g = rw (m.each q hq) at (kept (get_or new q 0) j f) in
            let k = o.anchors.first (passing p q) (passing i j) (still q (omega arith)) g in
            let far : k.0 < length old = (let y = k.1 in let z = still q (omega arith) in omega arith) in
            let t = moved n p i old new o.size at e m k.0 j far k.2 in
            (t.0, passing_rises p t.0 q (rw t.2 k.1), t.3);
      };
    }

pub take_whole : (n : ℕ) (new items : List ℕ) → n ≡ length items → length new ≡ length items → take n (new ++ drop (length new) items) ≡ new
take_whole n new items size same = grind (arith, common_steps)

pub place_passing : (xs : List ℕ) (p q : ℕ) → p < length xs → get_or (remove xs p) q 0 ≡ get_or xs (passing p q) 0
place_passing xs p q h = elim (passes p q) [
  | inl w ↦ get_or-remove_below xs p 0 q w.0 h ∙ ap (λ k. get_or xs k 0) (sym w.1)
  | inr w ↦ get_or-remove_above xs p 0 q w.0 h ∙ ap (λ k. get_or xs k 0) (sym w.1)
]

pub Removes-made : (p i : ℕ) (old mid new : List ℕ) → p < length old → mid ≡ remove old p → length new ≡ length mid
    → ((q : ℕ) → q < length mid → passing i (get_or new q 0) ≡ get_or mid q 0) → Removes p i old new
Removes-made p i old mid new h made size low = record {
  size = (let z : length mid ≡ length (remove old p) = ap length made in let y = length-remove old p h in omega arith);
  each = λ q l. low q (omega arith) ∙ ap (λ xs. get_or xs q 0) made ∙ place_passing old p q h;
}

-- without its own entry, nothing of an order is the removed place
pub mid_misses : (r : ℕ → ℕ → Bool) (n p i : ℕ) (old : List ℕ) → IsOrder r n old → p < length old → get_or old p 0 ≡ i
    → (q : ℕ) → q < length (remove old p) → get_or (remove old p) q 0 ≢ i
mid_misses r n p i old o hp e q h same =
    let size = length-remove old p hp in
    let here : get_or old (passing p q) 0 ≡ get_or old p 0 = sym (place_passing old p q hp) ∙ same ∙ sym e in
    let within = passing_within p q (length (remove old p)) (omega arith) h in
    passing_misses p q (o.anchors.once (passing p q) p (omega arith) hp here)

-- an order that has each place as its own, without one of them
pub straight_removed : (at gone : ℕ) (old mid new : List ℕ) → at < length old → get_or old at 0 ≡ gone → IsStraight old → mid ≡ remove old at → length new ≡ length mid
    → (((q : ℕ) → q < length mid → get_or mid q 0 ≢ gone) → (q : ℕ) → q < length mid → passing gone (get_or new q 0) ≡ get_or mid q 0) → IsStraight new
straight_removed at gone old mid new there is straight made same low q small =
    let own : at ≡ gone = sym (straight at there) ∙ is in
    let size = length-remove old at there in
    let all = ap length made in
    let read : (k : ℕ) → k < length mid → get_or mid k 0 ≡ passing at k =
    λ k h. ap (λ xs. get_or xs k 0) made ∙ place_passing old at k there ∙ straight (passing at k) (let within = passing_within at k (length mid) (omega arith) h in omega arith) in
    let moved = low (λ k h e. passing_misses at k (sym (read k h) ∙ e ∙ sym own)) q (omega arith) in
    passing_injective at (get_or new q 0) q (ap (λ g. passing g (get_or new q 0)) own ∙ moved ∙ read q (omega arith))

-- an order with one more place, to which no place leads, and which leads to none
pub IsOrder-add : (r s : ℕ → ℕ → Bool) (n : ℕ) (old : List ℕ) → ((a b : ℕ) → s a b ≡ true → (a < n) × (r a b ≡ true)) → IsOrder r n old → IsOrder s (n + 1) (old ++ n ∷ [])
IsOrder-add r s n old kept o =
    let long : length (old ++ n ∷ []) ≡ n + 1 = (let a = length-append old (n ∷ []) in let b = o.size in omega arith) in
    let size = o.size in
    let early : (p : ℕ) → p < n → get_or (old ++ n ∷ []) p 0 ≡ get_or old p 0 = λ p h. get_or_append_left old (n ∷ []) 0 p (omega arith) in
    let last : get_or (old ++ n ∷ []) n 0 ≡ n = (get_or_push old n 0 n size) in
    let place : (p : ℕ) → p < n + 1 → (p < n) ⊎ (p ≡ n) = λ p h. elim (cases_lt p n) [ inl lt ↦ inl lt | inr le ↦ inr (omega arith) ] in
    record {
      size = long;
      inside = λ p h. elim (place p (omega arith)) [
        | inl lt ↦ rw (early p lt) (let z = o.inside p (omega arith) in omega arith)
        | inr is ↦ rw (is, last) (omega arith)
      ];
      each = λ j h. elim (place j h) [
        | inl lt ↦ let k = o.each j lt in (k.0, (let y = k.1 in omega arith), early k.0 (let y = k.1 in omega arith) ∙ k.2)
        | inr is ↦ (n, omega arith, last ∙ sym is)
      ];
      anchors = record {
        once = λ p q hp hq same. elim (place p (omega arith)) [
          | inl lp ↦ elim (place q (omega arith)) [
            | inl lq ↦ o.anchors.once p q (omega arith) (omega arith) (sym (early p lp) ∙ same ∙ early q lq)
            | inr iq ↦ absurd (let at : get_or old p 0 ≡ n = sym (early p lp) ∙ same ∙ ap (λ q. get_or (old ++ n ∷ []) q 0) iq ∙ last in
                let z = o.inside p (omega arith) in omega arith)
          ]
          | inr ip ↦ elim (place q (omega arith)) [
            | inl lq ↦ absurd (let at : get_or old q 0 ≡ n = sym (early q lq) ∙ sym same ∙ ap (λ q. get_or (old ++ n ∷ []) q 0) ip ∙ last in
                let z = o.inside q (omega arith) in omega arith)
            | inr iq ↦ ip ∙ sym iq
          ]
        ];
        first = λ p j hp f. elim (place p (omega arith)) [
          | inl lp ↦
              let g : r (get_or old p 0) j ≡ true = rw (early p lp) at (kept _ j f).1 in
              let t = o.anchors.first p j (omega arith) g in
              (t.0, t.1, early t.0 (let y = t.1 in omega arith) ∙ t.2)
          | inr ip ↦ absurd (let small = (kept _ j f).0 in let at : get_or (old ++ n ∷ []) p 0 ≡ n = ap (λ p. get_or (old ++ n ∷ []) p 0) ip ∙ last in omega arith)
        ];
      };
    }
