-- The pointers that are down, and the events that lines make of them.
use Rattle.std.specs.Prelude.{ℕ, ◌==◌, ◌<◌, nat_lt, Bool, not, if◌then◌else◌, All, List, ◌∷◌, ◌++◌, filter}
use Rattle.std.specs.List.{AllPairs, list_any}
use Rattle.touch_dispatch.specs.handling.Handling.{is_nil}
use Rattle.touch_event.specs.declared.event.Action.{Action}
use Rattle.touch_event.specs.declared.event.Action.TheVariants.{Down, Up, PointerDown, PointerUp}
use Rattle.touch_event.specs.declared.event.Point.{Point}
use Rattle.touch_event.specs.Numbers.{max_pointers}

-- the points of pointers that may be down: they have ids that a pointer may have, and are in the order of these
pub record AreDown (points : List Point) : Type 0 where
  pub ids : All (λ (p : Point). p.id < max_pointers) points
  pub rising : AllPairs (λ (p q : Point). p.id < q.id) points

-- the pointer of this id is down
abbrev pub is_pressed : ℕ → List Point → Bool
is_pressed id points = list_any (λ (p : Point). p.id == id) points

-- the points whose ids are below this one, and those whose ids are above it
abbrev pub points_below : ℕ → List Point → List Point
points_below id points = filter (λ (p : Point). nat_lt p.id id) points

abbrev pub points_above : ℕ → List Point → List Point
points_above id points = filter (λ (p : Point). nat_lt id p.id) points

-- a pointer is at this point now; the ids keep rising
abbrev pub with_point : Point → List Point → List Point
with_point point points = points_below point.id points ++ point ∷ points_above point.id points

-- a pointer went up
abbrev pub without_point : ℕ → List Point → List Point
without_point id points = filter (λ (p : Point). not (p.id == id)) points

-- the event of a pointer that goes down, if these are down already
abbrev pub down_action : List Point → Action
down_action others = if is_nil others then Down else PointerDown

-- the event of a pointer that goes up, if these stay down
abbrev pub up_action : List Point → Action
up_action others = if is_nil others then Up else PointerUp
