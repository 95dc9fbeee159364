-- Children that are taken into an order one after the other, each after all to which it leads.
use Rattle.std.specs.Prelude.{◌≡◌, ◌⊎◌, ℕ, zero, suc, ◌+◌, ◌-◌, ◌*◌, ◌<◌, ◌==◌, Bool, true, false, ◌&&◌, not}
use Rattle.std.specs.Prelude.{if◌then◌else◌, nat_lt, List, length, Option, None, Some, count_by, slice_index}
use Rattle.std.specs.Prelude.{slice_index_or, slice_set, sum_by}
use Rattle.relative_layout.specs.ordering.Naming.{Has, id_at}
use Rattle.view_model.specs.declared.relative.Axis.{Axis}
use Rattle.view_model.specs.declared.relative.Link.{Link}
use Rattle.view_model.specs.Orders.{IsAnchorsFirst}
use Rattle.view_model.specs.SiblingRules.{last_with_id, leads}

-- whether a place is marked, and how many are
abbrev pub is_marked : List Bool → ℕ → Bool
is_marked marks place = slice_index_or marks place false

unfoldable pub marked : List Bool → ℕ
marked marks = count_by (λ b. b) marks

-- all to which a place leads is marked; some place to which it leads is not
abbrev pub LeadsIn : (ℕ → ℕ → Bool) → ℕ → List Bool → Type 0
LeadsIn leads place marks = (anchor : ℕ) → leads place anchor ≡ true → is_marked marks anchor ≡ true

abbrev pub Waits : (ℕ → ℕ → Bool) → List Bool → ℕ → Type 0
Waits leads marks place = (anchor : ℕ) × (leads place anchor ≡ true) × (is_marked marks anchor ≡ false)

-- some places, with anchors first, and the marks for exactly these
pub record IsPartial (leads : ℕ → ℕ → Bool) (count : ℕ) (order : List ℕ) (taken : List Bool) : Type 0 where
  pub anchors : IsAnchorsFirst leads order
  pub inside : (p : ℕ) → p < length order → slice_index order p < count
  pub there : (p : ℕ) → p < length order → is_marked taken (slice_index order p) ≡ true
  pub each : (place : ℕ) → is_marked taken place ≡ true → Has order place
  pub size : length order ≡ marked taken

-- how many places below a number pass a test
abbrev pub count_below : (ℕ → Bool) → ℕ → ℕ
count_below passes zero = 0
count_below passes (suc place) = (if passes place then 1 else 0) + count_below passes place

-- the children with an id that are not taken
abbrev pub is_left : List Link → List Bool → ℕ → ℕ → Bool
is_left kids taken id place = not (is_marked taken place) && (id_at kids place == id)

abbrev pub left_with : List Link → List Bool → ℕ → ℕ
left_with kids taken id = count_below (is_left kids taken id) (length kids)

-- whether a child of this id, itself not taken, waits for another one with an id
unfoldable pub waits_for : List Link → List Bool → ℕ → ℕ → Bool
waits_for kids taken own id = not (id == 0) && nat_lt (if id == own then 1 else 0) (left_with kids taken id)

-- for the last child with an id, how many with it are not taken
pub record AreCounts (kids : List Link) (taken : List Bool) (left : List ℕ) : Type 0 where
  pub size : length left ≡ length kids
  pub each : (q : ℕ) → last_with_id kids (id_at kids q) ≡ Some q
      → slice_index left q ≡ left_with kids taken (id_at kids q)

-- the same, of the children below a number, none of which is taken
pub record CountsBelow (kids : List Link) (below : ℕ) (left : List ℕ) : Type 0 where
  pub size : length left ≡ length kids
  pub each : (q : ℕ) → last_with_id kids (id_at kids q) ≡ Some q
      → slice_index left q ≡ count_below (λ place. id_at kids place == id_at kids q) below

-- counts with one more for a last child, if it is given
abbrev pub counted_up : Option ℕ → List ℕ → List ℕ
counted_up None left = left
counted_up (Some last) left = slice_set left last (slice_index left last + 1)

-- whether more than n are left with the id of a last child, if it is given
abbrev pub has_more : Option ℕ → ℕ → List ℕ → Bool
has_more None own left = false
has_more (Some last) own left = nat_lt own (slice_index left last)

-- each child that is not taken is still to be looked at, or waits
pub record IsTaking (axis : Axis) (kids : List Link) (left : List ℕ) (taken : List Bool) (todo order : List ℕ) : Type 0
  where
    pub size : length taken ≡ length kids
    pub partial : IsPartial (leads axis kids) (length kids) order taken
    pub counts : AreCounts kids taken left
    pub inside : (p : ℕ) → p < length todo → slice_index todo p < length kids
    pub pending : (place : ℕ) → place < length kids → is_marked taken place ≡ false
        → Has todo place ⊎ Waits (leads axis kids) taken place

-- what remains: what is to be looked at, and for each that is not taken itself and at most the longest list
unfoldable pub effort : List (List ℕ) → List Bool → ℕ → ℕ
effort rows taken todo = (length taken - marked taken) * (1 + sum_by length rows) + todo
