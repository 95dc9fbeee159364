-- For its own sake: the numbers of the code are those of the definitions.
use Rattle.std.specs.Prelude.{◌≡◌, [], ◌∷◌, refl}
use Rattle.script_lines.specs.declared.commands.TheConstants.{MAX_DPI, MAX_PIXELS, MAX_POINT, MAX_POINTER, MAX_TOUCH, MAX_WINDOW, MIN_DPI, MIN_TOUCH}
use Rattle.script_lines.specs.declared.reading.resources.TheConstants.{MAX_MANTISSA, MIN_MANTISSA}
use Rattle.script_lines.specs.Numbers.{max_dpi, max_mantissa, max_pixels, max_point, max_pointer, max_touch, max_window, min_dpi, min_mantissa, min_touch}

windows : MAX_WINDOW ∷ MAX_POINT ∷ MAX_PIXELS ∷ [] ≡ max_window ∷ max_point ∷ max_pixels ∷ []
windows = refl

touches : MIN_TOUCH ∷ MAX_TOUCH ∷ [] ≡ min_touch ∷ max_touch ∷ []
touches = refl

dimensions : MIN_MANTISSA ∷ MAX_MANTISSA ∷ [] ≡ min_mantissa ∷ max_mantissa ∷ []
dimensions = refl

others : MAX_POINTER ∷ MIN_DPI ∷ MAX_DPI ∷ [] ≡ max_pointer ∷ min_dpi ∷ max_dpi ∷ []
others = refl
