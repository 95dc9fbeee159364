-- What a run of a list holds that is mapped in its place.
use Rattle.std.proofs.Common.{◌≡◌, ℕ, ◌+◌, ◌-◌, ◌<◌, ◌≤◌, List, map, length, take, drop, get_or, if◌then◌else◌, ap, ◌∙◌, arith, inl, inr}
use Rattle.std.specs.List.{between}
use Rattle.std.proofs.lemmas.List.{get_or-drop, get_or-take, get_or_append_left, get_or-append_right, get_or-map, length-map, length-take, length-take-le, length-drop}
use borrow.Rule.Slice.PartMut.{put_mid}
use Rattle.pixel_raster.specs.Cuts.{is_between}
use Rattle.pixel_raster.proofs.TestLaws.{beside, between_from, chosen}

module _ {X : Type 0} (f : X → X) (items : List X) (low high place : ℕ) (default : X) (ordered : low ≤ high) (inside : high ≤ length items) where
  abbrev run : List X
  run = map f (between low high items)

  length-run : length run ≡ high - low
  length-run =
      let mapped = length-map (between low high items) f in
      let taken = length-take (high - low) (drop low items) in
      let dropped = length-drop low items in
      omega arith

  before : place < low → get_or (put_mid low (high - low) items run) place default ≡ get_or items place default
  before lt =
      let taken = length-take-le low items (omega arith) in
      get_or_append_left (take low items) _ default place (omega arith) ∙ get_or-take low items place default lt

  within : low ≤ place → place < high → get_or (put_mid low (high - low) items run) place default ≡ f (get_or items place default)
  within le lt =
      let long = length-run in
      let mapped = length-map (between low high items) f in
      get_or-append_right (take low items) _ low place default (length-take-le low items (omega arith)) le
      ∙ get_or_append_left run _ default (place - low) (omega arith)
      ∙ get_or-map f (between low high items) (place - low) default default (omega arith)
      ∙ ap f (get_or-take (high - low) (drop low items) (place - low) default (omega arith)
      ∙ get_or-drop low items (place - low) default ∙ ap (λ (n : ℕ). get_or items n default) (omega arith))

  following : high ≤ place → get_or (put_mid low (high - low) items run) place default ≡ get_or items place default
  following le =
      get_or-append_right (take low items) _ low place default (length-take-le low items (omega arith)) (omega arith)
      ∙ get_or-append_right run _ (high - low) (place - low) default length-run (omega arith)
      ∙ get_or-drop (high - low) (drop low items) (place - low - (high - low)) default
      ∙ get_or-drop low items (high - low + (place - low - (high - low))) default
      ∙ ap (λ (n : ℕ). get_or items n default) (omega arith)

pub get_or-mapped_run : {X : Type 0} (f : X → X) (items : List X) (low high place : ℕ) (default : X) → low ≤ high → high ≤ length items
    → get_or (put_mid low (high - low) items (map f (between low high items))) place default
    ≡ (if is_between low high place then f (get_or items place default) else get_or items place default)
get_or-mapped_run f items low high place default ordered inside =
    chosen (is_between low high place) _ _ _
    (λ is. let at = between_from low high place is in within f items low high place default ordered inside at.0 at.1)
    (λ is. elim (beside low high place is) [
      | inl lt ↦ before f items low high place default ordered inside lt
      | inr le ↦ following f items low high place default ordered inside le
    ])
