-- For its own sake: the limits of the code are those of the definitions.
use Rattle.std.specs.Prelude.{◌≡◌, [], ◌∷◌, refl}
use Rattle.axml_chunks.specs.declared.pool.TheConstants.{MAX_STRINGS, MAX_TEXT}
use Rattle.axml_chunks.specs.Limits.{max_strings, max_text}

limits : MAX_STRINGS ∷ MAX_TEXT ∷ [] ≡ max_strings ∷ max_text ∷ []
limits = refl
