-- Texts one after the other.
use Rattle.std.specs.Prelude.{ℕ, List, ◌++◌}
use Rattle.std.specs.List.{flat_map}

-- a text and the text after it; an opaque word, so that a long text stays a list of its pieces
infixr 5 ◌⧺◌
unfoldable pub ◌⧺◌ : List ℕ → List ℕ → List ℕ
a ⧺ b = a ++ b

-- the texts of all items of a list
unfoldable pub texts_of : {A : Type 0} → (A → List ℕ) → List A → List ℕ
texts_of text items = flat_map text items
