-- The effect of a state on a tree, and which trees it does not fit.
use Rattle.std.specs.Prelude.{◌≡◌, ℕ, ◌==◌, ◌<◌, pos, Bool, false, ◌&&◌, not, if◌then◌else◌, List, length}
use Rattle.std.specs.Prelude.{slice_index_or, Option, Some, None, MatchOption}
use Rattle.std.specs.List.{list_any}
use Rattle.std.specs.Map.{lookup}
use Rattle.saved_state.specs.State.{StateEntry}
use Rattle.saved_state.specs.declared.value.Value.{Value}
use Rattle.saved_state.specs.declared.value.Value.TheVariants.{Offset, Text}
use Rattle.view_model.specs.declared.class.Class.{Class}
use Rattle.view_model.specs.Forest.{Forest, map_rows}
use Rattle.view_model.specs.Classes.{has_text, scrolls}
use Rattle.view_model.specs.PlainTree.{PlainView}

-- whether a view of this class has such a value: a scroll view an offset, a text view a text
abbrev pub suits : Value → Class → Bool
suits (Offset offset) class = scrolls class
suits (Text text) class = has_text class

-- what a state has for an id, if it has an entry of it
abbrev pub value_for : List StateEntry → ℕ → Option Value
value_for entries id = lookup (λ (own : ℕ). own == id) entries

-- a value, to a view that it suits
abbrev pub given_by : Option Value → Class → Option Value
given_by None class = None
given_by (Some value) class = if suits value class then Some value else None

-- what a state gives a view, if it gives it something
abbrev pub given : List StateEntry → PlainView → Option Value
given entries view = given_by (value_for entries view.facts.id) view.class

-- a view with what it is given
abbrev pub with_value : Option Value → PlainView → PlainView
with_value None view = view
with_value (Some (Offset offset)) view = record view { facts = record view.facts { offset = pos offset } }
with_value (Some (Text text)) view = record view { text = text }

abbrev pub restored_view : List StateEntry → PlainView → PlainView
restored_view entries view = with_value (given entries view) view

-- the tree with the offsets and texts that a state gives
abbrev pub restored : List StateEntry → Forest PlainView → Forest PlainView
restored entries tree = map_rows (restored_view entries) tree

-- whether a view has the id of an entry and suits it
abbrev pub meets : StateEntry → PlainView → Bool
meets entry view = suits entry.1 view.class && (view.facts.id == entry.0)

-- whether a view of a list does
abbrev pub is_met : StateEntry → List PlainView → Bool
is_met entry views = list_any (meets entry) views

-- whether there is a value for an id, and no view of a list has the id and suits it
abbrev pub misses : ℕ → List PlainView → Option Value → Bool
misses id views None = false
misses id views (Some value) = not (is_met (id, value) views)

-- whether a view has the id of an entry that no view of a list meets
abbrev pub is_unmet : List StateEntry → List PlainView → PlainView → Bool
is_unmet entries views view = misses view.facts.id views (value_for entries view.facts.id)

-- whether some view has the id of an entry, and no view that suits the entry has it
abbrev pub is_for_other_class : List StateEntry → List PlainView → Bool
is_for_other_class entries views = list_any (is_unmet entries views) views

-- the entry at a place
abbrev pub entry_at : List StateEntry → ℕ → StateEntry
entry_at entries place = slice_index_or entries place (0, Offset 0)

pub record IsEntry (entries : List StateEntry) (id place : ℕ) : Type 0 where
  pub there : place < length entries
  pub id_is : (entry_at entries place).0 ≡ id
  pub value : value_for entries id ≡ Some (entry_at entries place).1
  pub alone : (other : ℕ) → other < length entries → (entry_at entries other).0 ≡ id → other ≡ place

-- the place of the entry of an id, or `None` if there is no such entry
abbrev pub FindsEntry : List StateEntry → ℕ → Option ℕ → Type 0
FindsEntry entries id place = MatchOption place (value_for entries id ≡ None) (IsEntry entries id)

-- of each entry, a mark says whether a view of a list meets it
abbrev pub AreMarks : List StateEntry → List PlainView → List Bool → Type 0
AreMarks entries views marks =
    (place : ℕ) → place < length entries → slice_index_or marks place false ≡ is_met (entry_at entries place) views
