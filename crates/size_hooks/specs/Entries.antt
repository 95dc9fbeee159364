-- What entries represent.
use Rattle.std.specs.Prelude.{ℕ, List, map, refl}
use Rattle.std.specs.Coded.{Coded, code_by, coded×, coded_ℕ, coded_list}
use Rattle.geom_core.specs.contracts.Size.{the_row as size_row}
use Rattle.geom_core.specs.declared.geometry.Size.{Size}
use Rattle.size_hooks.specs.Hook.{Hook}
use Rattle.size_hooks.specs.declared.entry.Entry.{Entry}
use Rattle.view_model.specs.contracts.NumEdit.{the_row as edit_row}
use Rattle.view_model.specs.declared.changes.NumEdit.{NumEdit}

abbrev pub hook_in : Entry → Hook
hook_in entry = record { view = entry.view; reported = entry.reported; edits = entry.edits.items }

abbrev pub hooks_of : List Entry → List Hook
hooks_of entries = map hook_in entries

-- hooks are stored as triples of their fields
abbrev hook_code : Coded Hook
hook_code =
    code_by (ℕ × (Size × List NumEdit)) (coded× coded_ℕ (coded× size_row.coded (coded_list edit_row.coded)))
    (λ h. (h.view, (h.reported, h.edits)))
    (λ p. record { view = p.0; reported = p.1.0; edits = p.1.1 })
    (λ _. refl)

abbrev pub hooks_code : Coded (List Hook)
hooks_code = coded_list hook_code
