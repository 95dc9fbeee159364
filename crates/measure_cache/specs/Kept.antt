-- The sizes of a view as they are kept.
use Rattle.std.specs.Prelude.{◌==◌, ◌%◌, ◌/◌, ℕ, ℤ, List, if◌then◌else◌}
use Rattle.std.specs.Int.{cast_signed, from_le_bytes, w32}
use Rattle.geom_core.specs.declared.measuring.Mode.{Mode}
use Rattle.geom_core.specs.declared.measuring.Mode.TheVariants.{Unspecified, Exactly, AtMost}
use Rattle.measure_cache.specs.declared.cache.Entry.{Entry}
use Rattle.measure_cache.specs.declared.cache.Kept.{Kept}

-- the number of a mode, and the mode of a number
abbrev pub mode_number : Mode → ℕ
mode_number Unspecified = 0
mode_number Exactly = 1
mode_number AtMost = 2

abbrev pub numbered_mode : ℕ → Mode
numbered_mode number = if number == 0 then Unspecified else if number == 1 then Exactly else AtMost

-- the length of four bytes, the lowest first
abbrev pub length_of : List ℕ → ℤ
length_of bytes = cast_signed w32 (from_le_bytes w32 bytes)

-- the entry that is kept in this form
abbrev pub entry_of : Kept → Entry
entry_of kept = record {
  ws = record { mode = numbered_mode (kept.modes % 4); size = length_of kept.across };
  hs = record { mode = numbered_mode (kept.modes / 4); size = length_of kept.down };
  size = record { w = length_of kept.width; h = length_of kept.height };
}
