-- What is gathered in the turns of an order is what is gathered place by place, if it makes no difference which comes
-- first.
use Rattle.std.proofs.Common.{◌≡◌, ◌≢◌, ◌⊎◌, ℕ, zero, suc, ◌+◌, ◌-◌, ◌<◌, ◌≤◌, Bool, true, false, List, [], ◌∷◌, ◌++◌, length, get_or, refl, sym, ap, ◌∙◌, arith, subst, inl, inr}
use Rattle.std.proofs.lemmas.Bool.{cases_Bool, cases_lt}
use Rattle.std.proofs.lemmas.Int.{int_max_is, ints}
use Rattle.std.proofs.lemmas.List.Edits.{get_or-remove_above, get_or-remove_below, length-remove}
use Rattle.std.proofs.lemmas.List.Sums.{fold_push}
use Rattle.std.specs.Int.{int_max}
use Rattle.std.specs.List.{range_with_len, remove}
use Rattle.std.specs.Prelude.{ℤ, pos, if◌then◌else◌, filter, fold, map, slice_index_or}
use Rattle.relative_layout.specs.plan.RelativePlan.{spanned_at, spanned_in}
use Rattle.view_model.specs.declared.facts.Facts.{Facts}
use Rattle.view_model.specs.declared.relative.Axis.{Axis}
use Rattle.view_model.specs.declared.relative.Axis.TheVariants.{Horizontal, Vertical}
use Rattle.view_model.specs.Course.{Child}
use Rattle.view_model.specs.Facts.{is_shown}
use Rattle.view_model.specs.Measuring.{Specs}
use Rattle.view_model.specs.Orders.{IsOrder}
use Rattle.view_model.specs.RelativeCourse.{child_at, each_from, no_child, spanned_by}
use Rattle.view_model.specs.RelativeLayout.{Spanned, greatest_reach, reach_of, relative_size}

-- it makes no difference which of two comes first
abbrev pub Commutes : {A : Type 0} → (A → ℕ → A) → Type 0
Commutes g = (x : _) (a b : ℕ) → g (g x a) b ≡ g (g x b) a

pulled : {A : Type 0} (g : A → ℕ → A) → Commutes g → (x : A) (a : ℕ) (places : List ℕ) → fold g (g x a) places ≡ g (fold g x places) a
pulled g swap x a [] = refl
pulled g swap x a (b ∷ places) = ap (λ y. fold g y places) (swap x a b) ∙ pulled g swap (g x b) a places

taken_out : {A : Type 0} (g : A → ℕ → A) → Commutes g → (x : A) (places : List ℕ) (q : ℕ) → q < length places → fold g x places ≡ g (fold g x (remove places q)) (get_or places q 0)
taken_out g swap x [] q small = absurd (omega arith)
taken_out g swap x (a ∷ places) zero small = pulled g swap x a places
taken_out g swap x (a ∷ places) (suc q) small = taken_out g swap (g x a) places q (omega arith)

-- all of `count` places, each once
record HasAll (count : ℕ) (order : List ℕ) : Type 0 where
  pub size : length order ≡ count
  pub inside : (p : ℕ) → p < length order → get_or order p 0 < count
  pub each : (place : ℕ) → place < count → (p : ℕ) × (p < length order) × (get_or order p 0 ≡ place)
  pub once : (p q : ℕ) → p < length order → q < length order → get_or order p 0 ≡ get_or order q 0 → p ≡ q

-- where a place of a list without one of its places came from
record CameFrom (order : List ℕ) (q p : ℕ) : Type 0 where
  pub at : ℕ
  pub below : at < length order
  pub is : get_or (remove order q) p 0 ≡ get_or order at 0
  pub by : ((p < q) × (at ≡ p)) ⊎ ((q ≤ p) × (at ≡ p + 1))

came_from : (order : List ℕ) (q p : ℕ) → q < length order → p < length (remove order q) → CameFrom order q p
came_from order q p there small =
    let size = length-remove order q there in
    elim (cases_lt p q) [
      | inl lt ↦ record { at = p; below = omega arith; is = get_or-remove_below order q 0 p lt there; by = inl (lt, refl) }
      | inr le ↦ record { at = p + 1; below = omega arith; is = get_or-remove_above order q 0 p le there; by = inr (le, refl) }
    ]

same_origin : (p r q a b : ℕ) → a ≡ b → ((p < q) × (a ≡ p)) ⊎ ((q ≤ p) × (a ≡ p + 1)) → ((r < q) × (b ≡ r)) ⊎ ((q ≤ r) × (b ≡ r + 1)) → p ≡ r
same_origin p r q a b same (inl x) (inl y) = omega (arith, x.0, x.1, y.0, y.1)
same_origin p r q a b same (inl x) (inr y) = omega (arith, x.0, x.1, y.0, y.1)
same_origin p r q a b same (inr x) (inl y) = omega (arith, x.0, x.1, y.0, y.1)
same_origin p r q a b same (inr x) (inr y) = omega (arith, x.0, x.1, y.0, y.1)

other_origin : (p q a : ℕ) → ((p < q) × (a ≡ p)) ⊎ ((q ≤ p) × (a ≡ p + 1)) → a ≢ q
other_origin p q a (inl x) = λ same. omega (arith, x.0, x.1)
other_origin p q a (inr x) = λ same. omega (arith, x.0, x.1)

-- without the last place
without_last : (m : ℕ) (order : List ℕ) (q : ℕ) → q < length order → get_or order q 0 ≡ m → HasAll (suc m) order → HasAll m (remove order q)
without_last m order q there last all =
    let size = length-remove order q there in
    record {
      size = omega (arith, all.size);
      inside = λ p small.
          let c = came_from order q p there small in
          let below = all.inside c.at c.below in
          let other : get_or order c.at 0 ≢ m = λ same. other_origin p q c.at c.by (all.once c.at q c.below there (same ∙ sym last)) in
          rw c.is (omega arith);
      each = λ place small.
          let o = all.each place (omega arith) in
          let other : o.0 ≢ q = λ same. (let is : place ≡ m = sym o.2 ∙ ap (λ at. get_or order at 0) same ∙ last in omega arith) in
          elim (cases_lt o.0 q) [
            | inl lt ↦ (o.0, omega (arith, o.1), get_or-remove_below order q 0 o.0 lt there ∙ o.2)
            | inr le ↦
                let back : (o.0 - 1) + 1 ≡ o.0 = omega arith in
                (o.0 - 1, omega (arith, o.1), get_or-remove_above order q 0 (o.0 - 1) (omega arith) there ∙ ap (λ at. get_or order at 0) back ∙ o.2)
          ];
      once = λ p r small short same.
          let a = came_from order q p there small in
          let b = came_from order q r there short in
          same_origin p r q a.at b.at (all.once a.at b.at a.below b.below (sym a.is ∙ same ∙ b.is)) a.by b.by;
    }

range_more : (a n : ℕ) → range_with_len a (suc n) ≡ range_with_len a n ++ (a + n) ∷ []
range_more a zero = let none : a ≡ a + 0 = omega arith in ap (λ at. at ∷ []) none
range_more a (suc n) =
    let on : (a + 1) + n ≡ a + suc n = omega arith in
    ap (λ more. a ∷ more) (range_more (a + 1) n ∙ ap (λ at. range_with_len (a + 1) n ++ at ∷ []) on)

gathered : {A : Type 0} (g : A → ℕ → A) → Commutes g → (x : A) (count : ℕ) (order : List ℕ) → HasAll count order → fold g x order ≡ fold g x (range_with_len 0 count)
gathered g swap x zero [] all = refl
gathered g swap x zero (place ∷ order) all = absurd (let size : suc (length order) ≡ 0 = all.size in omega arith)
gathered g swap x (suc count) order all =
    let q = all.each count (omega arith) in
    let rest = gathered g swap x count (remove order q.0) (without_last count order q.0 q.1 q.2 all) in
    let zero_on : 0 + count ≡ count = omega arith in
    taken_out g swap x order q.0 q.1
    ∙ ap (λ place. g (fold g x (remove order q.0)) place) q.2
    ∙ ap (λ y. g y count) rest
    ∙ sym (fold_push g x (range_with_len 0 count) count)
    ∙ ap (λ places. fold g x places) (ap (λ at. range_with_len 0 count ++ at ∷ []) (sym zero_on) ∙ sym (range_more 0 count))

-- along an order
pub in_turns : {A : Type 0} (g : A → ℕ → A) → Commutes g → (x : A) (leads : ℕ → ℕ → Bool) (count : ℕ) (order : List ℕ) → IsOrder leads count order
    → fold g x order ≡ fold g x (range_with_len 0 count)
in_turns g swap x leads count order is =
    gathered g swap x count order (record { size = is.size; inside = is.inside; each = is.each; once = is.anchors.once })

-- what is gathered of some of a list, by their places
pub by_places : {A X Y : Type 0} (h : A → Y → A) (shown : Y → Bool) (f : ℕ → X → Y) (g : A → ℕ → A) (x : A) (p : ℕ) (xs : List X) (d : X)
    → ((i : ℕ) → i < length xs → (y : A) → g y (p + i) ≡ (if shown (f (p + i) (slice_index_or xs i d)) then h y (f (p + i) (slice_index_or xs i d)) else y))
    → fold g x (range_with_len p (length xs)) ≡ fold h x (filter shown (each_from p f xs))
by_places h shown f g x p [] d step = refl
by_places {A = A} {X = X} h shown f g x p (first ∷ xs) d step =
    let zero_on : p + 0 ≡ p = omega arith in
    let own : g x p ≡ (if shown (f p first) then h x (f p first) else x) =
    subst (λ at. g x at ≡ (if shown (f at first) then h x (f at first) else x)) zero_on (step 0 (omega arith) x) in
    let next : suc p ≡ p + 1 = omega arith in
    let rest : (y : A) → fold g y (range_with_len (p + 1) (length xs)) ≡ fold h y (filter shown (each_from (suc p) f xs)) = λ y.
    ap (λ at. fold g y (range_with_len at (length xs))) (sym next)
    ∙ by_places h shown f g y (suc p) xs d (λ i small y.
    let on : p + suc i ≡ suc p + i = omega arith in
    subst (λ at. g y at ≡ (if shown (f at (slice_index_or xs i d)) then h y (f at (slice_index_or xs i d)) else y)) on (step (suc i) (omega arith) y)) in
    let opened : fold g x (range_with_len p (length (first ∷ xs))) ≡ fold g (g x p) (range_with_len (p + 1) (length xs)) = refl in
    elim (cases_Bool (shown (f p first))) [
      | inl here ↦
          let taken : g x p ≡ h x (f p first) = own ∙ ap (λ v. if v then h x (f p first) else x) here in
          let kept : filter shown (each_from p f (first ∷ xs)) ≡ f p first ∷ filter shown (each_from (suc p) f xs) = rw here refl in
          opened ∙ ap (λ y. fold g y (range_with_len (p + 1) (length xs))) taken ∙ rest (h x (f p first)) ∙ ap (fold h x) (sym kept)
      | inr gone ↦
          let passed : g x p ≡ x = own ∙ ap (λ v. if v then h x (f p first) else x) gone in
          let left : filter shown (each_from p f (first ∷ xs)) ≡ filter shown (each_from (suc p) f xs) = rw gone refl in
          opened ∙ ap (λ y. fold g y (range_with_len (p + 1) (length xs))) passed ∙ rest x ∙ ap (fold h x) (sym left)
    ]

-- what is gathered of some of the values of a list
pub of_shown : {A X Y : Type 0} (h : A → Y → A) (shown : Y → Bool) (f : X → Y) (x : A) (xs : List X)
    → fold h x (filter shown (map f xs)) ≡ fold (λ y a. if shown (f a) then h y (f a) else y) x xs
of_shown h shown f x [] = refl
of_shown h shown f x (a ∷ xs) = elim (cases_Bool (shown (f a))) [
  | inl here ↦ rw here (of_shown h shown f (h x (f a)) xs)
  | inr gone ↦ rw gone (of_shown h shown f x xs)
]

max_swaps : (v w : Bool) (x a b : ℤ) → (let one : Bool → ℤ → ℤ → ℤ = λ v x a. if v then int_max x a else x in one w (one v x a) b ≡ one v (one w x b) a)
max_swaps true true x a b = omega (arith, ints, int_max_is x a, int_max_is (int_max x a) b, int_max_is x b, int_max_is (int_max x b) a)
max_swaps true false x a b = refl
max_swaps false true x a b = refl
max_swaps false false x a b = refl

-- they reach no further than those of the list
reach_in : (axis : Axis) (kids : List Child) (spans : ℕ → ℤ × ℤ) (leads : ℕ → ℕ → Bool) (order : List ℕ) → IsOrder leads (length kids) order
    → greatest_reach axis (spanned_in kids spans order) ≡ greatest_reach axis (spanned_by kids spans)
reach_in axis kids spans leads order is =
    let reach : ℤ → Spanned → ℤ = λ most kid. int_max most (reach_of axis kid) in
    let shown : Spanned → Bool = λ kid. is_shown kid.facts in
    let one : ℤ → ℕ → ℤ = λ most place. if shown (spanned_at kids spans place) then reach most (spanned_at kids spans place) else most in
    of_shown reach shown (spanned_at kids spans) (pos 0) order
    ∙ in_turns one (λ x a b. max_swaps (shown (spanned_at kids spans a)) (shown (spanned_at kids spans b)) x (reach_of axis (spanned_at kids spans a)) (reach_of axis (spanned_at kids spans b))) (pos 0) leads (length kids) order is
    ∙ by_places reach shown (λ place (kid : Child). record { facts = kid.facts; span = spans place }) one (pos 0) 0 kids no_child (λ i small y.
    let zero_on : i ≡ 0 + i = omega arith in
    subst (λ at. one y at ≡ (let kid : Spanned = record { facts = (child_at kids i).facts; span = spans at } in if shown kid then reach y kid else y)) zero_on refl)

pub size_in_turns : (own : Facts) (specs : Specs) (kids : List Child) (across down : ℕ → ℤ × ℤ) (leads below : ℕ → ℕ → Bool) (first second : List ℕ)
    → IsOrder leads (length kids) first → IsOrder below (length kids) second
    → relative_size own specs (spanned_in kids across first) (spanned_in kids down second) ≡ relative_size own specs (spanned_by kids across) (spanned_by kids down)
size_in_turns own specs kids across down leads below first second is are =
    rw (reach_in Horizontal kids across leads first is, reach_in Vertical kids down below second are) refl
