-- For its own sake: the numbers of the code are those of the definitions.
use Rattle.std.specs.Prelude.{◌≡◌, [], ◌∷◌, refl}
use Rattle.line_words.specs.declared.words.weights.TheConstants.{MAX_PARTS, MAX_WHOLE}
use Rattle.line_words.specs.Numbers.{max_parts, max_whole}

weights : MAX_WHOLE ∷ MAX_PARTS ∷ [] ≡ max_whole ∷ max_parts ∷ []
weights = refl
