-- A search for cycles: a path of points, cut into parts whose points all lead to one another.
use Rattle.std.specs.Prelude.{◌≡◌, ◌≢◌, ◌⊎◌, ℕ, ◌+◌, ◌-◌, ◌*◌, ◌<◌, ◌≤◌, Bool, true, false, ◌&&◌, if◌then◌else◌, List}
use Rattle.std.specs.Prelude.{[], ◌∷◌, ◌++◌, length, Option, Some, count_by, nat_lt, slice_index, slice_index_or}
use Rattle.std.specs.Prelude.{sum_by}
use Rattle.relative_layout.specs.declared.ordering.naming.Naming.{Naming}
use Rattle.relative_layout.specs.declared.ordering.components.Part.{Part}
use Rattle.relative_layout.specs.declared.ordering.components.Search.{Search}
use Rattle.relative_layout.specs.declared.ordering.components.Status.{Status}
use Rattle.relative_layout.specs.declared.ordering.components.Status.TheVariants.{Done, Fresh, OnPath}
use Rattle.relative_layout.specs.ordering.Naming.{Has, lists_of}
use Rattle.relative_layout.specs.ordering.Points.{Circles, Goes, heads_of}
use Rattle.relative_layout.specs.ordering.Topological.{is_marked}
use Rattle.view_model.specs.declared.relative.Link.{Link}
use Rattle.view_model.specs.Orders.{Reaches}

abbrev pub status_of : List Status → ℕ → Status
status_of status point = slice_index_or status point Fresh

abbrev pub no_part : Part
no_part = record { path = 0; todo = 0 }

-- where a part begins on the path, and in the list of edges to follow
abbrev pub start_of : List Part → ℕ → ℕ
start_of parts i = (slice_index_or parts i no_part).path

abbrev pub todo_of : List Part → ℕ → ℕ
todo_of parts i = (slice_index_or parts i no_part).todo

-- a point on the path, from a place on
abbrev pub OnFrom : List Status → ℕ → ℕ → Type 0
OnFrom status start point = (place : ℕ) × (start ≤ place) × (status_of status point ≡ OnPath place)

-- what a list has from a place on
abbrev pub HasFrom : List ℕ → ℕ → ℕ → Type 0
HasFrom todo start point = (place : ℕ) × (start ≤ place) × (place < length todo) × (slice_index todo place ≡ point)

-- a point to which a part leads is done, or on the path and not before the part, or still to be followed, or current
abbrev pub Known : List Status → List ℕ → Option ℕ → ℕ → ℕ → ℕ → Type 0
Known status todo held start todo_start point =
    (status_of status point ≡ Done) ⊎ OnFrom status start point ⊎ HasFrom todo todo_start point ⊎ (held ≡ Some point)

-- an edge to follow is one of a point of the path, which is in the same part
pub record IsPending (heads : ℕ → List ℕ) (path : List ℕ) (parts : List Part) (at point : ℕ) : Type 0 where
  pub from : ℕ
  pub inside : from < length path
  pub goes : Has (heads (slice_index path from)) point
  pub after : (i : ℕ) → i < length parts → todo_of parts i ≤ at → start_of parts i ≤ from
  pub before : (i : ℕ) → i < length parts → at < todo_of parts i → from < start_of parts i

-- a search with a current point, or none
pub record IsSearch (heads : ℕ → List ℕ) (status : List Status) (path todo : List ℕ) (parts : List Part)
    (held : Option ℕ) : Type 0 where
  pub there : (place : ℕ) → place < length path → status_of status (slice_index path place) ≡ OnPath place
  pub back : (point place : ℕ) → status_of status point ≡ OnPath place
      → (place < length path) × (slice_index path place ≡ point)
  pub closed : (a b : ℕ) → status_of status a ≡ Done → Has (heads a) b → status_of status b ≡ Done
  pub inside : (i : ℕ) → i < length parts → (start_of parts i ≤ length path) × (todo_of parts i ≤ length todo)
  pub rising : (i j : ℕ) → i ≤ j → j < length parts
      → (start_of parts i ≤ start_of parts j) × (todo_of parts i ≤ todo_of parts j)
  pub covered : (place : ℕ) → place < length path → (i : ℕ) × (i < length parts) × (start_of parts i ≤ place)
  pub known : (i place point : ℕ) → i < length parts → start_of parts i ≤ place → place < length path
      → Has (heads (slice_index path place)) point
      → Known status todo held (start_of parts i) (todo_of parts i) point
  pub pending : (at : ℕ) → at < length todo → IsPending heads path parts at (slice_index todo at)
  pub forth : (p q : ℕ) → p ≤ q → q < length path → Goes heads (slice_index path p) (slice_index path q)
  pub back_in : (p q : ℕ) → p ≤ q → q < length path
      → ((i : ℕ) → i < length parts → start_of parts i ≤ q → start_of parts i ≤ p)
      → Goes heads (slice_index path q) (slice_index path p)

-- of all points that are done those are marked that lead to another child and back
pub record IsReported (heads : ℕ → List ℕ) (count : ℕ) (status : List Status) (marks : List Bool) : Type 0 where
  pub size : length marks ≡ count
  pub sound : (place : ℕ) → is_marked marks place ≡ true → Circles heads count place
  pub whole : (place : ℕ) → place < count → status_of status place ≡ Done → Circles heads count place
      → is_marked marks place ≡ true

abbrev pub heads_in : List Link → Naming → ℕ → List ℕ
heads_in kids naming point = heads_of kids (lists_of naming.namers.items) point

-- a search among the children and their ids
pub record IsSearching (kids : List Link) (naming : Naming) (search : Search) (held : Option ℕ) : Type 0 where
  pub size : length search.status.items ≡ length kids + length kids
  pub path : IsSearch (heads_in kids naming) search.status.items search.path.items search.todo.items search.parts.items
      held
  pub reported : IsReported (heads_in kids naming) (length kids) search.status.items search.members.items

-- a point that is not fresh does not become so
abbrev pub Visits : List Status → List Status → Type 0
Visits old new = (point : ℕ) → status_of old point ≢ Fresh → status_of new point ≢ Fresh

pub record IsLastPart (parts : List Part) (part : Part) : Type 0 where
  pub some : 0 < length parts
  pub is : slice_index_or parts (length parts - 1) no_part ≡ part

-- the last part has a point that leads to this one
pub record LedTo (heads : ℕ → List ℕ) (path : List ℕ) (parts : List Part) (point : ℕ) : Type 0 where
  pub from : ℕ
  pub inside : from < length path
  pub last : (i : ℕ) → i < length parts → start_of parts i ≤ from
  pub goes : Has (heads (slice_index path from)) point

-- parts of which those that begin after a place were joined to the last one before
pub record Joins (place : ℕ) (old new : List Part) : Type 0 where
  pub fewer : length new ≤ length old
  pub same : (i : ℕ) → i < length new → slice_index_or new i no_part ≡ slice_index_or old i no_part
  pub following : length new < length old → place < start_of old (length new)

-- whether the last of some parts begins after a place
unfoldable pub begins_after : ℕ → List Part → Bool
begins_after place parts = nat_lt 0 (length parts) && nat_lt place (start_of parts (length parts - 1))

-- two children on the path, from a place on
pub record HasTwo (count start : ℕ) (path : List ℕ) : Type 0 where
  pub one : ℕ
  pub other : ℕ
  pub from : start ≤ one
  pub apart : one < other
  pub inside : other < length path
  pub one_child : slice_index path one < count
  pub other_child : slice_index path other < count

-- how many points are fresh
abbrev pub is_fresh : Status → Bool
is_fresh Fresh = true
is_fresh (OnPath place) = false
is_fresh Done = false

unfoldable pub fresh : List Status → ℕ
fresh status = count_by is_fresh status

-- points of a stretch of the path that are done now, and the children among them marked if they are two
pub record Settles (two : Bool) (count start end : ℕ) (path : List ℕ) (old new : List Status)
    (old_marks new_marks : List Bool) : Type 0 where
  pub size : length new ≡ length old
  pub marks_size : length new_marks ≡ length old_marks
  pub done : (place : ℕ) → start ≤ place → place < end → status_of new (slice_index path place) ≡ Done
  pub same : (point : ℕ) → ((place : ℕ) → start ≤ place → place < end → slice_index path place ≢ point)
      → status_of new point ≡ status_of old point
  pub keeps : (point : ℕ) → is_marked old_marks point ≡ true → is_marked new_marks point ≡ true
  pub marks : (place : ℕ) → start ≤ place → place < end → two ≡ true → slice_index path place < count
      → is_marked new_marks (slice_index path place) ≡ true
  pub only : (point : ℕ) → is_marked new_marks point ≡ true
      → (is_marked old_marks point ≡ true) ⊎
      ((two ≡ true) × (place : ℕ) × (start ≤ place) × (place < end) × (slice_index path place ≡ point)
      × (point < count))
  pub fewer_fresh : fresh new ≤ fresh old

-- points of a path from a place on that are done now, and the children among them marked if they are two
pub record Leaves (count start : ℕ) (path : List ℕ) (old new : List Status) (old_marks new_marks : List Bool) : Type 0
  where
    pub two : Bool
    pub yes : two ≡ true → HasTwo count start path
    pub no : HasTwo count start path → two ≡ true
    pub settles : Settles two count start (length path) path old new old_marks new_marks

-- what remains: the edges to follow, the parts, and for each fresh point itself and at most the longest list
unfoldable pub search_effort : List (List ℕ) → List Status → ℕ → ℕ → ℕ
search_effort rows status todo parts = fresh status * (3 + sum_by length rows) + todo + parts

-- marks of the children that reach themselves
pub record AreMarked (leads : ℕ → ℕ → Bool) (count : ℕ) (marks : List Bool) : Type 0 where
  pub sound : (place : ℕ) → is_marked marks place ≡ true → Reaches leads place place
  pub whole : (place : ℕ) → place < count → Reaches leads place place → is_marked marks place ≡ true

-- some members, with a place more if it is marked
abbrev pub members_with : List Bool → ℕ → List ℕ → List ℕ
members_with marks place members = if is_marked marks place then members ++ place ∷ [] else members
