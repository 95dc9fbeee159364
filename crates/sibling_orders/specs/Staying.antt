-- What keeps the orders of a relative layout right when a child gets another id or other rules.
use Rattle.std.specs.Prelude.{◌≡◌, ℕ, ◌<◌, ◌-◌, Bool, true, List, length, slice_index}
use Rattle.sibling_orders.specs.Indexes.{IsStraight}

-- the last place of an order is that of a number
abbrev pub IsLastIn : ℕ → List ℕ → List ℕ → Type 0
IsLastIn number numbers order =
    (0 < length order) × (slice_index numbers (slice_index order (length order - 1)) ≡ number)

-- the child of a number has this place, in the list of children and in an order
pub record IsInOwnPlace (number : ℕ) (numbers order : List ℕ) (place : ℕ) : Type 0 where
  pub inside : place < length order
  pub stays : slice_index order place ≡ place
  pub is : slice_index numbers place ≡ number

-- the child of the first number comes before that of the second
pub record IsBefore (first second : ℕ) (numbers order : List ℕ) : Type 0 where
  pub early : ℕ
  pub late : ℕ
  pub less : early < late
  pub before : IsInOwnPlace first numbers order early
  pub after : IsInOwnPlace second numbers order late

-- each place of an order is its own, and the child of a number has one, and a higher number than another
pub record IsPast (low number : ℕ) (straight : Bool) (numbers order : List ℕ) : Type 0 where
  pub place : ℕ
  pub less : low < number
  pub marked : straight ≡ true
  pub after : IsInOwnPlace number numbers order place

-- a list of numbers is that of children, and an order that is marked has each place as its own
pub record IsMarkedOrder (straight : Bool) (numbers order kids : List ℕ) : Type 0 where
  pub own : numbers ≡ kids
  pub marked : straight ≡ true → IsStraight order
