-- The points of pointers that are down.
use Rattle.std.proofs.Common.{◌≡◌, ℕ, zero, suc, ◌+◌, ◌<◌, ◌≤◌, true, Bool, List, [], ◌∷◌, ◌++◌, All, length, length-append, take, refl, arith, inl, inr}
use Rattle.std.specs.Prelude.{pos, nat_lt, filter, slice_index_or}
use Rattle.std.specs.List.{AllPairs}
use Rattle.std.proofs.lemmas.Bool.{cases_Bool, ltb-true}
use Rattle.std.proofs.lemmas.List.Elements.{All-append, All-cons, All-filter}
use Rattle.std.proofs.lemmas.List.Kept.{AllPairs-cons, AllPairs-filter}
use Rattle.touch_event.specs.declared.event.Point.{Point}
use Rattle.touch_event.specs.Numbers.{max_pointers}
use Rattle.world_parts.specs.Pointers.{AreDown, points_above, points_below, with_point}

abbrev Rises : Point → Point → Type 0
Rises p q = p.id < q.id

-- the ids rise, so that each is at least its place
at_least : (points : List Point) → AllPairs Rises points → (k : ℕ) (d : Point) → k < length points → k ≤ (slice_index_or points k d).id
at_least points rising zero d less = omega arith
at_least points rising (suc k) d less =
    let before = at_least points rising k d (omega (arith, less)) in
    let next = rising k (suc k) d (omega arith) less in
    omega (arith, before, next)

abbrev nowhere : Point
nowhere = record { id = 0; x = pos 0; y = pos 0 }

few_by : (points : List Point) (n : ℕ) → length points ≡ n → AreDown points → n ≤ max_pointers
few_by points zero e down = omega arith
few_by points (suc n) e down =
    let less : n < length points = omega (arith, e) in
    let place = at_least points down.rising n nowhere less in
    let id = down.ids n nowhere less in
    omega (arith, place, id)

-- there are no more than there may be
pub few : (points : List Point) → AreDown points → length points ≤ max_pointers
few points down = few_by points (length points) refl down

-- a part of them
pub filtered_down : (keeps : Point → Bool) (points : List Point) → AreDown points → AreDown (filter keeps points)
filtered_down keeps points down = record {
  ids = All-filter keeps (λ (p : Point). p.id < max_pointers) points down.ids;
  rising = AllPairs-filter Rises keeps points down.rising;
}

-- all that a filter keeps passes it
passed : (keeps : Point → Bool) (P : Point → Type 0) → ((p : Point) → keeps p ≡ true → P p) → (points : List Point) → All P (filter keeps points)
passed keeps P holds [] = λ k d less. absurd (omega (arith, less))
passed keeps P holds (p ∷ points) = elim (cases_Bool (keeps p)) [
  | inl e ↦ rw e (All-cons P p (filter keeps points) (holds p e) (passed keeps P holds points))
  | inr e ↦ rw e (passed keeps P holds points)
]

pairs_tail : (p : Point) (points : List Point) → AllPairs Rises (p ∷ points) → AllPairs Rises points
pairs_tail p points rising = λ i j d a b. rising (suc i) (suc j) d (omega (arith, a)) (omega (arith, b))

pairs_head : (p : Point) (points : List Point) → AllPairs Rises (p ∷ points) → All (Rises p) points
pairs_head p points rising = λ k d less. rising 0 (suc k) d (omega arith) (omega (arith, less))

all_tail : (P : Point → Type 0) (p : Point) (points : List Point) → All P (p ∷ points) → All P points
all_tail P p points all = λ k d less. all (suc k) d (omega (arith, less))

-- rising points after rising points that are all below a point, and that below all of these
pairs_both : (point : Point) (xs ys : List Point) → AllPairs Rises xs → AllPairs Rises ys → All (λ (p : Point). Rises p point) xs → All (Rises point) ys
    → AllPairs Rises (xs ++ point ∷ ys)
pairs_both point [] ys first second below above = AllPairs-cons Rises point ys above second
pairs_both point (x ∷ xs) ys first second below above =
    let less : Rises x point = below 0 point (omega arith) in
    let later : All (Rises x) ys = λ k d n. (let far = above k d n in omega (arith, less, far)) in
    AllPairs-cons Rises x (xs ++ point ∷ ys)
    (All-append (Rises x) xs (point ∷ ys) (pairs_head x xs first) (All-cons (Rises x) point ys less later))
    (pairs_both point xs ys (pairs_tail x xs first) second (all_tail (λ (p : Point). Rises p point) x xs below) above)

-- one more pointer, or one that has moved
pub with_down : (point : Point) (points : List Point) → AreDown points → point.id < max_pointers → AreDown (with_point point points)
with_down point points down id =
    let P : Point → Type 0 = λ p. p.id < max_pointers in
    let below = filtered_down (λ (p : Point). nat_lt p.id point.id) points down in
    let above = filtered_down (λ (p : Point). nat_lt point.id p.id) points down in
    record {
      ids = All-append P (points_below point.id points) (point ∷ points_above point.id points) below.ids (All-cons P point (points_above point.id points) id above.ids);
      rising =
          pairs_both point (points_below point.id points) (points_above point.id points) below.rising above.rising
          (passed (λ (p : Point). nat_lt p.id point.id) (λ p. Rises p point) (λ p e. ltb-true _ _ e) points)
          (passed (λ (p : Point). nat_lt point.id p.id) (Rises point) (λ p e. ltb-true _ _ e) points);
    }

-- there is room for one more that passes, among those that pass
pub room_next : (keeps : Point → Bool) (points : List Point) (i : ℕ) (d : Point) → i < length points → keeps (slice_index_or points i d) ≡ true
    → length (filter keeps (take i points)) + 1 ≤ length (filter keeps points)
room_next keeps [] i d less e = absurd (omega (arith, less))
room_next keeps (p ∷ points) zero d less e = rw e (omega arith)
room_next keeps (p ∷ points) (suc i) d less e =
    let room = room_next keeps points i d (omega (arith, less)) e in
    elim (cases_Bool (keeps p)) [
      | inl e ↦ rw e (omega (arith, room))
      | inr e ↦ rw e room
    ]

-- there is room for those below a point, for it, and for those above it
pub has_room : (point : Point) (points : List Point) → AreDown points → point.id < max_pointers
    → length (points_below point.id points) + (length (points_above point.id points) + 1) ≤ max_pointers
has_room point points down id =
    let most = few (with_point point points) (with_down point points down id) in
    omega (arith, most, length-append (points_below point.id points) (point ∷ points_above point.id points))
