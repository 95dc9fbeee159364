-- What the resources of the code are as plain data.
use Rattle.std.specs.Prelude.{ℕ, List, map}
use Rattle.view_model.specs.Resources.{Entries, Resource, Color, Dimen, Text}
use Rattle.res_values.specs.declared.value.Value.{Value}
use Rattle.res_values.specs.declared.value.Value.TheVariants as value

-- the plain resource that a value represents
abbrev pub resource : Value → Resource
resource (value.Color color) = Color color
resource (value.Dimen word) = Dimen word
resource (value.Text text) = Text text

abbrev pub entries : List (ℕ × Value) → Entries
entries values = map (λ (entry : ℕ × Value). (entry.0, resource entry.1)) values
