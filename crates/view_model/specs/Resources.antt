-- The resources that layout files may name by their ids.
use Rattle.std.specs.Prelude.{ℕ, nat_eq, nat_lt, not, ◌&&◌, if◌then◌else◌, Bool, List, [], ◌∷◌, length, Option, Some}
use Rattle.std.specs.Prelude.{None, is_some}
use Rattle.std.specs.Map.{lookup}
use Rattle.geom_core.specs.declared.color.Argb.{Argb}
use Rattle.view_model.specs.Numbers.{max_resources, too_many_resources}
use Rattle.view_model.specs.Refusals.{PlainRefusal, refusal_numbered}

-- what a resource is: a colour, the word of a dimension, or the characters of a text
pub data Resource : Type 0 where
  Color : (color : Argb) → Resource
  Dimen : (word : ℕ) → Resource
  Text : (characters : List ℕ) → Resource

-- resources by their ids, in the order in which they were first defined
abbrev pub Entries : Type 0
Entries = List (ℕ × Resource)

-- the resource of an id, if it is defined
abbrev pub resource_of : Entries → ℕ → Option Resource
resource_of entries id = lookup (nat_eq id) entries

-- the entries with this resource of an id: if the id has one already, in its place, and otherwise after all others
abbrev pub with_resource : Entries → ℕ → Resource → Entries
with_resource [] id resource = (id, resource) ∷ []
with_resource (entry ∷ more) id resource =
    if nat_eq id entry.0 then (entry.0, resource) ∷ more else entry ∷ with_resource more id resource

-- why an id that has a resource already, or has none, gets none if n are defined
unfoldable pub definition_refusal : ℕ → Bool → Option PlainRefusal
definition_refusal count defined =
    if not defined && not (nat_lt count max_resources) then Some (refusal_numbered too_many_resources) else None

-- why an id gets no resource: it is a new one, and there are as many as there may be
abbrev pub definition_refusal_of : Entries → ℕ → Option PlainRefusal
definition_refusal_of entries id = definition_refusal (length entries) (is_some (resource_of entries id))
