-- Views that are pressed: forced from now on, with their caches emptied.
use Rattle.std.specs.Prelude.{◌≡◌, ◌⊎◌, ℕ, true, false, List, [], ◌∷◌}
use Rattle.view_model.specs.Forest.{Forest, Nothing, Branch}
use Rattle.view_tree.specs.tree.Requests.{pressed}
use Rattle.view_tree.specs.Rows.{Row, ancestors}
use Rattle.view_tree.specs.Views.{Held, specs_of}
use Rattle.kept_views.specs.Kept.{Around, HiddenView, asked, hidden_in, inside}

-- the view and all above it
abbrev pub path_of : ℕ → Forest Row → List ℕ
path_of view tree = view ∷ ancestors view tree

-- one view after the other, each with all above it
abbrev pub all_pressed : (ℕ → Held) → List ℕ → Forest Row → ℕ → Held
all_pressed held [] tree = held
all_pressed held (view ∷ views) tree = all_pressed (pressed held (path_of view tree)) views tree

-- what a pressed view keeps: its bounds, and the specs for which it was measured
pub record Touched (old new : Held) : Type 0 where
  pub specs : specs_of new.state ≡ specs_of old.state
  pub bounds : new.state.bounds ≡ old.state.bounds
  pub edges : new.state.edges ≡ old.state.edges
  pub forced : old.state.forced ≡ true → new.state.forced ≡ true
  pub hidden : HiddenView old → HiddenView new

-- it is forced below a forced view, with an empty cache
pub record IsPressed (up : Around) (own : Held) : Type 0 where
  pub forced : own.state.forced ≡ true
  pub cache : own.cache ≡ []
  pub above : up.forced ≡ true

-- some views were pressed: those that are no longer exempt, and besides these only such as are still exempt
abbrev pub Pressed : List ℕ → List ℕ → (ℕ → Held) → (ℕ → Held) → Around → Forest Row → Type 0
Pressed keys more old new up Nothing = Unit {0}
Pressed keys more old new up (Branch row kids siblings) =
    (((new row.key ≡ old row.key)
    × (asked more (Branch row kids Nothing) ≡ 0 → asked keys (Branch row kids Nothing) ≡ 0))
    ⊎
    (Touched (old row.key) (new row.key)
    × (hidden_in up row ≡ false → asked more (Branch row kids Nothing) ≡ 0 → IsPressed up (new row.key))))
    × Pressed keys more old new (inside up row (new row.key)) kids
    × Pressed keys more old new up siblings
