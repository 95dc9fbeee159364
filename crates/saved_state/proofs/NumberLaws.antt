-- For its own sake: the numbers of the code are those of the definitions.
use Rattle.std.specs.Prelude.{◌≡◌, [], ◌∷◌, refl}
use Rattle.saved_state.specs.Numbers.{first_version, head_bytes, last_version, max_entries, max_offset, max_text_bytes, offset_entry_bytes, offset_kind, text_entry_bytes, text_kind}
use Rattle.saved_state.specs.declared.format.TheConstants.{FIRST_VERSION, HEAD_BYTES, MAX_ENTRIES, MAX_OFFSET, MAX_TEXT_BYTES, OFFSET_ENTRY_BYTES, OFFSET_KIND, TEXT_ENTRY_BYTES, TEXT_KIND, VERSION}

kinds : VERSION ∷ FIRST_VERSION ∷ OFFSET_KIND ∷ TEXT_KIND ∷ [] ≡ last_version ∷ first_version ∷ offset_kind ∷ text_kind ∷ []
kinds = refl

sizes : HEAD_BYTES ∷ OFFSET_ENTRY_BYTES ∷ TEXT_ENTRY_BYTES ∷ [] ≡ head_bytes ∷ offset_entry_bytes ∷ text_entry_bytes ∷ []
sizes = refl

limits : MAX_OFFSET ∷ MAX_TEXT_BYTES ∷ MAX_ENTRIES ∷ [] ≡ max_offset ∷ max_text_bytes ∷ max_entries ∷ []
limits = refl
