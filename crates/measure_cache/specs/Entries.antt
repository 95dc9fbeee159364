-- The last eight sizes of a view.
use Rattle.std.specs.Prelude.{◌==◌, Bool, true, false, if◌then◌else◌, List, [], ◌∷◌, ◌++◌, length, drop, Option, Some}
use Rattle.std.specs.Prelude.{None}
use Rattle.std.specs.Ordering.{int_eq}
use Rattle.geom_core.specs.declared.geometry.Size.{Size}
use Rattle.geom_core.specs.declared.measuring.Mode.{Mode}
use Rattle.geom_core.specs.declared.measuring.Mode.TheVariants.{Unspecified, Exactly, AtMost}
use Rattle.geom_core.specs.declared.measuring.Spec.{Spec}
use Rattle.measure_cache.specs.declared.cache.Entry.{Entry}
use Rattle.view_model.specs.Measuring.{Specs}

-- two modes, or two specs, are the same
abbrev pub same_mode : Mode → Mode → Bool
same_mode Unspecified Unspecified = true
same_mode Unspecified Exactly = false
same_mode Unspecified AtMost = false
same_mode Exactly Unspecified = false
same_mode Exactly Exactly = true
same_mode Exactly AtMost = false
same_mode AtMost Unspecified = false
same_mode AtMost Exactly = false
same_mode AtMost AtMost = true

abbrev pub same_spec : Spec → Spec → Bool
same_spec one other = if same_mode one.mode other.mode then int_eq one.size other.size else false

-- an entry is for these specs
abbrev pub is_of : Entry → Specs → Bool
is_of entry specs = if same_spec entry.ws specs.across then same_spec entry.hs specs.down else false

-- the size of the last entry for these specs, or what was found before the list
abbrev pub found_after : Option Size → List Entry → Specs → Option Size
found_after before [] specs = before
found_after before (entry ∷ more) specs = found_after (if is_of entry specs then Some entry.size else before) more specs

-- the newest size for these specs
abbrev pub found : List Entry → Specs → Option Size
found cache specs = found_after None cache specs

-- without the oldest of eight
abbrev pub with_room : List Entry → List Entry
with_room cache = if length cache == 8 then drop 1 cache else cache

-- with one more size, the newest
abbrev pub put_in : List Entry → Entry → List Entry
put_in cache entry = with_room cache ++ entry ∷ []
