-- The result of mapping a list piece by piece.
use Rattle.std.proofs.Common.{◌≡◌, ℕ, ◌+◌, ◌-◌, ◌≤◌, List, ◌++◌, take, drop, map, arith, ap, sym, ◌∙◌}
use Rattle.std.specs.List.{flat_map}
use Rattle.std.proofs.lemmas.List.{take-append-drop, take-map, take-take, drop-map, drop-take}
use Rattle.std.proofs.lemmas.Grind.{flat_map-append}

take-more : {X : Type 0} (items : List X) (low more : ℕ) → take (low + more) items ≡ take low items ++ take more (drop low items)
take-more items low more =
    let whole = take-append-drop low (take (low + more) items) in
    sym (rw (take-take low (low + more) items (omega arith), drop-take low more items) at whole)

pub flat_map-next_piece : {X : Type 0} (f : X → List ℕ) (items : List X) (low high : ℕ) → low ≤ high
    → flat_map f (take low items) ++ flat_map f (take (high - low) (drop low items)) ≡ flat_map f (take high items)
flat_map-next_piece f items low high le =
    sym (flat_map-append f (take low items) (take (high - low) (drop low items)))
    ∙ ap (flat_map f) (sym (take-more items low (high - low)))
    ∙ ap (λ (n : ℕ). flat_map f (take n items)) (omega arith)

-- the same of a list that is mapped first
pub flat_map-next_mapped : {X Y : Type 0} (g : Y → List ℕ) (f : X → Y) (items : List X) (low high : ℕ) → low ≤ high
    → flat_map g (map f (take low items)) ++ flat_map g (map f (take (high - low) (drop low items))) ≡ flat_map g (map f (take high items))
flat_map-next_mapped g f items low high le =
    rw (drop-map f low items, take-map f low items, take-map f (high - low) (drop low items), take-map f high items) at (flat_map-next_piece g (map f items) low high le)
