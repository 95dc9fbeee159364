-- The names of classes in layout files.
use Rattle.std.specs.Prelude.{ℕ, List, [], ◌∷◌, ◌++◌, Option, Some, None, codes}
use Rattle.std.specs.List.{flat_map}
use Rattle.std.specs.Map.{lookup}
use Rattle.std.specs.Str.{bytes_eq}
use Rattle.view_model.specs.declared.class.Class.{Class}
use Rattle.view_model.specs.declared.class.Class.TheVariants.{View}
use Rattle.view_model.specs.Classes.{class_word, classes}

-- the package of a class, with the dot before its word
abbrev pub package_of : Class → List ℕ
package_of View = codes "android.view."
package_of class = codes "android.widget."

-- each of these by its word alone, and with its package before it
abbrev pub names_of : List Class → List (List ℕ × Class)
names_of list = flat_map (λ class. (class_word class, class) ∷ (package_of class ++ class_word class, class) ∷ []) list

-- the class that a name means, if it is known
unfoldable pub class_of : List ℕ → Option Class
class_of name = lookup (bytes_eq name) (names_of classes)

-- the class that a string names, if there is the string
abbrev pub class_in : Option (List ℕ) → Option Class
class_in None = None
class_in (Some name) = class_of name
