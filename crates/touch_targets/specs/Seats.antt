-- What contracts see of the pool: the open views, each with the children that it has captured, the newest first.
use Rattle.std.specs.Prelude.{ℕ, ◌≡◌, ◌≢◌, ◌==◌, ◌^◌, ◌-◌, Bool, not, if◌then◌else◌, bit_and, bit_or, List, [], ◌∷◌}
use Rattle.std.specs.Prelude.{◌++◌, Option, Some, None, filter, find, map, refl}
use Rattle.std.specs.Coded.{Coded, code_by, coded×, coded_ℕ, coded_list}
use Rattle.std.specs.List.{list_any}
use Rattle.touch_event.specs.Numbers.{max_pointers}
use Rattle.touch_event.specs.PointerSets.{has_id}
use Rattle.touch_targets.specs.Captures.{Target}

-- a captured child, and the number that represents the set of its pointers
pub record Caught : Type 0 where
  pub child : ℕ
  pub ids : ℕ

-- an open view
pub record Seat : Type 0 where
  pub view : ℕ
  pub caught : List Caught

-- no view is open
abbrev pub no_seats : List Seat
no_seats = []

-- one more open view, that has captured nothing
abbrev pub with_seat : ℕ → List Seat → List Seat
with_seat view seats = seats ++ record { view = view; caught = [] } ∷ []

abbrev pub caught_in : Option Seat → List Caught
caught_in None = []
caught_in (Some seat) = seat.caught

abbrev pub target_of : Caught → Target
target_of caught = record { child = caught.child; ids = has_id caught.ids }

abbrev pub is_open : List Seat → ℕ → Bool
is_open seats view = list_any (λ (seat : Seat). seat.view == view) seats

-- the same views are open as before
abbrev pub KeepsOpen : List Seat → List Seat → Type 0
KeepsOpen old new = (view : ℕ) → is_open new view ≡ is_open old view

-- the number of a set in which at least one pointer is
abbrev pub HasPointers : ℕ → Type 0
HasPointers ids = ids ≢ 0

-- what a group has captured; nothing if it is not open
abbrev pub caught_of : List Seat → ℕ → List Caught
caught_of seats group = caught_in (find (λ (seat : Seat). seat.view == group) seats)

abbrev pub targets_of : List Seat → ℕ → List Target
targets_of seats group = map target_of (caught_of seats group)

-- the numbers of the union of two sets, and of one without another
unfoldable pub mask_with : ℕ → ℕ → ℕ
mask_with ids more = bit_or ids more

unfoldable pub mask_without : ℕ → ℕ → ℕ
mask_without ids others = bit_and ids (2 ^ max_pointers - 1 - others)

abbrev pub is_caught : ℕ → List Caught → Bool
is_caught child caught = list_any (λ (c : Caught). c.child == child) caught

-- a child gets these pointers too; if it was not captured, it is the newest now
abbrev pub put_caught : ℕ → ℕ → List Caught → List Caught
put_caught child ids caught =
    if is_caught child caught
    then map (λ (c : Caught). if c.child == child then record c { ids = mask_with c.ids ids } else c) caught
    else record { child = child; ids = ids } ∷ caught

-- pointers leave all captured children, and a child without pointers is removed
abbrev pub drop_caught : ℕ → List Caught → List Caught
drop_caught ids caught =
    filter (λ (c : Caught). not (c.ids == 0)) (map (λ (c : Caught). record c { ids = mask_without c.ids ids }) caught)

abbrev caught_code : Coded Caught
caught_code =
    code_by (ℕ × ℕ) (coded× coded_ℕ coded_ℕ) (λ c. (c.child, c.ids)) (λ p. record { child = p.0; ids = p.1 })
    (λ _. refl)

abbrev seat_code : Coded Seat
seat_code =
    code_by (ℕ × List Caught) (coded× coded_ℕ (coded_list caught_code))
    (λ s. (s.view, s.caught))
    (λ p. record { view = p.0; caught = p.1 })
    (λ _. refl)

abbrev pub seats_code : Coded (List Seat)
seats_code = coded_list seat_code
