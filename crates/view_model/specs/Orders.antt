-- Relations between the places of a list: what a place reaches, orders that follow a relation, and its cycles.
use Rattle.std.specs.Prelude.{◌≡◌, ℕ, zero, suc, ◌<◌, Bool, ◌||◌, ◌&&◌, true, List, filter, length, slice_index}
use Rattle.std.specs.List.{range_with_len}

-- a leads to b, directly or through others
pub data Reaches (leads : ℕ → ℕ → Bool) : ℕ → ℕ → Type 0 where
  AtOnce : {a b : ℕ} → leads a b ≡ true → Reaches leads a b
  Through : {a b c : ℕ} → leads a b ≡ true → Reaches leads b c → Reaches leads a c

-- no place reaches itself
abbrev pub IsAcyclic : (ℕ → ℕ → Bool) → Type 0
IsAcyclic leads = (place : ℕ) → Reaches leads place place → ⊥

-- some places, each once, and each after all places to which it leads
pub record IsAnchorsFirst (leads : ℕ → ℕ → Bool) (order : List ℕ) : Type 0 where
  pub once : (p q : ℕ) → p < length order → q < length order → slice_index order p ≡ slice_index order q → p ≡ q
  pub first : (p anchor : ℕ) → p < length order → leads (slice_index order p) anchor ≡ true
      → (q : ℕ) × (q < p) × (slice_index order q ≡ anchor)

-- all of `count` places, each once, and each after all places to which it leads
pub record IsOrder (leads : ℕ → ℕ → Bool) (count : ℕ) (order : List ℕ) : Type 0 where
  pub size : length order ≡ count
  pub inside : (p : ℕ) → p < length order → slice_index order p < count
  pub each : (place : ℕ) → place < count → (p : ℕ) × (p < length order) × (slice_index order p ≡ place)
  pub anchors : IsAnchorsFirst leads order

-- the members of the cycles among places below `count`: those that reach themselves, in rising order
pub record AreMembers (leads : ℕ → ℕ → Bool) (count : ℕ) (members : List ℕ) : Type 0 where
  pub below : (p : ℕ) → p < length members → slice_index members p < count
  pub rising : (p q : ℕ) → p < q → q < length members → slice_index members p < slice_index members q
  pub sound : (p : ℕ) → p < length members → Reaches leads (slice_index members p) (slice_index members p)
  pub whole : (place : ℕ) → place < count → Reaches leads place place
      → (p : ℕ) × (p < length members) × (slice_index members p ≡ place)

-- there are cycles, and these are their members
pub record IsCycle (leads : ℕ → ℕ → Bool) (count : ℕ) (members : List ℕ) : Type 0 where
  pub some : 0 < length members
  pub exact : AreMembers leads count members

-- the same in a form that can be computed: a leads to b, directly or only through others below a number
abbrev pub leads_by : (ℕ → ℕ → Bool) → ℕ → ℕ → ℕ → Bool
leads_by leads zero a b = leads a b
leads_by leads (suc other) a b =
    leads_by leads other a b || (leads_by leads other a other && leads_by leads other other b)

abbrev pub members_of : (ℕ → ℕ → Bool) → ℕ → List ℕ
members_of leads count = filter (λ place. leads_by leads count place place) (range_with_len 0 count)
