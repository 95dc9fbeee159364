-- The views that have an id, as a table keeps them: how many these are, and the sum of their keys.
use Rattle.std.specs.Prelude.{ℕ, ◌==◌, ◌+◌, ◌-◌, ◌%◌, ◌^◌, nat_lt, Option, Some, None, if◌then◌else◌}
use Rattle.view_tree.specs.declared.table.ids.Holders.{Holders}

-- n views whose keys have this sum, if there are any
abbrev pub holders : ℕ → ℕ → Option Holders
holders count sum = if count == 0 then None else Some (record { count = count; sum = sum % 2 ^ 64 })

-- these and the view of this key
abbrev pub with_holder : Option Holders → ℕ → Holders
with_holder None key = record { count = 1; sum = key }
with_holder (Some held) key = record { count = held.count + 1; sum = (held.sum + key) % 2 ^ 64 }

-- these without the view of this key, which is among them
abbrev pub without_holder : Option Holders → ℕ → Option Holders
without_holder None key = None
without_holder (Some held) key =
    if nat_lt 1 held.count then Some (record { count = held.count - 1; sum = (held.sum + (2 ^ 64 - key)) % 2 ^ 64 })
    else None

-- what a table has for an id that had these, once the view of this key has got an id; 0 names nothing
abbrev pub noted : Option Holders → ℕ → ℕ → ℕ → Option Holders
noted held new key id = if new == 0 then held else (if new == id then Some (with_holder held key) else held)

-- the same once the view has lost an id
abbrev pub dropped : Option Holders → ℕ → ℕ → ℕ → Option Holders
dropped held old key id = if old == 0 then held else (if old == id then without_holder held key else held)

-- the same once the view has another id than before
abbrev pub renamed : Option Holders → ℕ → ℕ → ℕ → ℕ → Option Holders
renamed held old new key id = if new == old then held else dropped (noted held new key id) old key id
