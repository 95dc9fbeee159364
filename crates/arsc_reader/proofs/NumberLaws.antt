-- For its own sake: the numbers of the code are those of the definitions.
use Rattle.std.specs.Prelude.{◌≡◌, [], ◌∷◌, refl}
use Rattle.axml_reader.specs.Numbers.{pool_kind, string_kind}
use Rattle.arsc_reader.specs.declared.chunks.TheConstants.{MAX_ENTRIES, MAX_PACKAGE, PACKAGE, POOL, TYPE}
use Rattle.arsc_reader.specs.declared.entries.TheConstants.{LAST_ENTRY, NO_ENTRY}
use Rattle.arsc_reader.specs.declared.lines.TheConstants.{DIMENSION, FIRST_COLOR, LAST_COLOR, STRING}
use Rattle.arsc_reader.specs.declared.table.TheConstants.{MAX_REFERENCES, REFERENCE, TABLE}
use Rattle.arsc_reader.specs.Numbers.{dimension_kind, first_color_kind, last_color_kind, last_entry, max_entries, max_package, max_references, no_entry, package_kind, reference_kind, table_kind, type_kind}

chunks : TABLE ∷ POOL ∷ PACKAGE ∷ TYPE ∷ [] ≡ table_kind ∷ pool_kind ∷ package_kind ∷ type_kind ∷ []
chunks = refl

values :
    REFERENCE ∷ STRING ∷ DIMENSION ∷ FIRST_COLOR ∷ LAST_COLOR ∷ []
    ≡ reference_kind ∷ string_kind ∷ dimension_kind ∷ first_color_kind ∷ last_color_kind ∷ []
values = refl

limits :
    MAX_PACKAGE ∷ MAX_ENTRIES ∷ LAST_ENTRY ∷ NO_ENTRY ∷ MAX_REFERENCES ∷ []
    ≡ max_package ∷ max_entries ∷ last_entry ∷ no_entry ∷ max_references ∷ []
limits = refl
