-- Ids that no rules of some children exceed.
use Rattle.std.specs.Prelude.{◌≡◌, ℕ, ◌<◌, ◌≤◌, true, List, length, slice_index_or}
use Rattle.view_model.specs.declared.facts.Rules.{Rules}
use Rattle.view_model.specs.declared.relative.Axis.{Axis}
use Rattle.view_model.specs.declared.relative.Link.{Link}
use Rattle.view_model.specs.SiblingRules.{names, no_link}

-- rules name no id above this one
abbrev pub IsAboveRules : ℕ → Rules → Type 0
IsAboveRules highest rules = (axis : Axis) (id : ℕ) → names axis rules id ≡ true → id ≤ highest

-- no child names an id above this one
abbrev pub IsAboveNamed : ℕ → List Link → Type 0
IsAboveNamed highest links =
    (place : ℕ) → place < length links → IsAboveRules highest (slice_index_or links place no_link).rules
