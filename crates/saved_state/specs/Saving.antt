-- What is saved of a tree.
use Rattle.std.specs.Prelude.{◌≡◌, ℕ, ◌==◌, pos, ◌≤ℤ◌, true, if◌then◌else◌, nat_lt, List, [], length, Option, Some}
use Rattle.std.specs.Prelude.{None, unsigned_abs, encode_utf8_all}
use Rattle.std.specs.BTreeMap.{insert_entry}
use Rattle.std.specs.List.{fold}
use Rattle.std.specs.Ordering.{nat_cmp}
use Rattle.view_model.specs.Forest.{Forest, EveryRow, rows}
use Rattle.view_model.specs.Classes.{has_text, scrolls}
use Rattle.view_model.specs.PlainTree.{PlainView}
use Rattle.view_model.specs.declared.class.Class.{Class}
use Rattle.saved_state.specs.State.{StateEntry}
use Rattle.saved_state.specs.Numbers.{max_offset, max_text_bytes}
use Rattle.saved_state.specs.declared.value.Value.{Value}
use Rattle.saved_state.specs.declared.value.Value.TheVariants.{Offset, Text}

-- what is saved of a text, unless it is too long
abbrev pub text_value : List ℕ → Option Value
text_value text = if nat_lt max_text_bytes (length (encode_utf8_all text)) then None else Some (Text text)

-- what is saved of a view of this class that has an id
abbrev pub value_by : Class → PlainView → Option Value
value_by class view =
    if scrolls class
    then Some (Offset (unsigned_abs view.facts.offset))
    else if has_text class
    then text_value view.text
    else None

abbrev pub value_saved : PlainView → Option Value
value_saved view = if view.facts.id == 0 then None else value_by view.class view

-- the entries with that of an id, by rising ids, in the place of one of the same id
abbrev pub with_entry : List StateEntry → ℕ → Option Value → List StateEntry
with_entry entries id None = entries
with_entry entries id (Some value) = insert_entry nat_cmp entries id value

abbrev pub with_view : List StateEntry → PlainView → List StateEntry
with_view entries view = with_entry entries view.facts.id (value_saved view)

-- the offset of each scroll view and the text of each text view that has an id, by rising ids; of those with the same
-- id the last in preorder
abbrev pub saved_of : Forest PlainView → List StateEntry
saved_of tree = fold with_view [] (rows tree)

-- a scroll view has an offset that may be saved
abbrev pub FitsOffset : PlainView → Type 0
FitsOffset view = scrolls view.class ≡ true → (pos 0 ≤ℤ view.facts.offset) × (view.facts.offset ≤ℤ pos max_offset)

-- each scroll view of a tree has such an offset
abbrev pub OffsetsFit : Forest PlainView → Type 0
OffsetsFit tree = EveryRow FitsOffset tree
