-- Where an attribute is among those that are known, and what its row says.
use Rattle.std.specs.Prelude.{ℕ, List, Option, position, slice_get}
use Rattle.std.specs.Option.{option_map_or}
use Rattle.std.specs.Borrow.{Bor}
use Rattle.std.specs.Str.{bytes_eq}
use Rattle.attr_table.specs.declared.table.Slot.{Slot}
use Rattle.attr_table.specs.declared.table.Slot.TheVariants as slot
use Rattle.attr_table.specs.declared.table.Takes.{Takes}
use Rattle.attr_table.specs.declared.table.Takes.TheVariants as takes
use Rattle.attr_table.specs.Attributes.{Attribute, attributes, known}

-- the place of a name
abbrev pub place_in : List Attribute → List ℕ → Option ℕ
place_in all name = position (λ (known : Attribute). bytes_eq known.name name) all

abbrev pub place_of : List ℕ → Option ℕ
place_of name = place_in attributes name

-- what the value of the attribute at a place may be
abbrev pub takes_at : ℕ → Takes
takes_at place = option_map_or (λ (known : Attribute). known.takes) (slice_get attributes place) takes.Reference

-- what the attribute at a place sets
abbrev pub slot_at : ℕ → Slot
slot_at place = option_map_or (λ (known : Attribute). known.slot) (slice_get attributes place) slot.Id

-- a row of a table of the code
abbrev pub attribute : Bor (List ℕ) × Takes × Slot → Attribute
attribute row = known row.0.now row.1 row.2
