-- The points among which cycles are searched: the children, and after them the ids, each by the last child with it.
use Rattle.std.specs.Prelude.{◌≢◌, ℕ, ◌+◌, ◌-◌, ◌<◌, if◌then◌else◌, List, [], ◌∷◌, length, nat_lt, Option, None, Some}
use Rattle.relative_layout.specs.ordering.Naming.{Has, id_at, row_at}
use Rattle.view_model.specs.declared.relative.Link.{Link}
use Rattle.view_model.specs.SiblingRules.{last_with_id}

-- the point of an id, by the last child with it
abbrev pub id_point : ℕ → Option ℕ → List ℕ
id_point count None = []
id_point count (Some last) = (count + last) ∷ []

-- where a point leads: a child to its id, an id to the children that name it
unfoldable pub heads_of : List Link → List (List ℕ) → ℕ → List ℕ
heads_of kids rows point =
    if nat_lt point (length kids) then id_point (length kids) (last_with_id kids (id_at kids point))
    else row_at rows (point - length kids)

-- from one point to another, in no step or more
pub data Goes (heads : ℕ → List ℕ) : ℕ → ℕ → Type 0 where
  Stays : {a : ℕ} → Goes heads a a
  Steps : {a b c : ℕ} → Has (heads a) b → Goes heads b c → Goes heads a c

-- a point that leads to another one below a number, and back
abbrev pub Circles : (ℕ → List ℕ) → ℕ → ℕ → Type 0
Circles heads count point =
    (other : ℕ) × (other < count) × (other ≢ point) × Goes heads point other × Goes heads other point
