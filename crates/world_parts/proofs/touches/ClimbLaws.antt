-- Walks from a view up to the root.
use Rattle.std.proofs.Common.{◌≡◌, ℕ, Bool, List, [], ◌∷◌, Option, Some, None, map, sym, ◌∙◌, ap}
use Rattle.std.specs.Prelude.{MatchOption}
use Rattle.touch_dispatch.specs.gesture.Gestures.{PlainGesture, set_disallow}
use Rattle.view_model.specs.Forest.{Forest}
use Rattle.view_tree.specs.Rows.{Row, ancestors}
use Rattle.world_parts.specs.Touching.{all_disallowed}

-- the key of a view, if it is one, and those of its ancestors, the nearest first
abbrev pub path_from : Option ℕ → Forest Row → List ℕ
path_from None tree = []
path_from (Some key) tree = key ∷ ancestors key tree

-- what is left to pass above a view
pub path_above : (key : ℕ) (above : Option ℕ) (tree : Forest Row) → MatchOption above (ancestors key tree ≡ []) (λ parent. ancestors key tree ≡ parent ∷ ancestors parent tree)
    → ancestors key tree ≡ path_from above tree
path_above key None tree path = path
path_above key (Some parent) tree path = path

-- a view gets the flag, and then those above it: all have it
pub disallowed_on : (on : Bool) (named : ℕ → ℕ) (tree : Forest Row) (key : ℕ) (above : Option ℕ) (old new : PlainGesture)
    → MatchOption above (ancestors key tree ≡ []) (λ parent. ancestors key tree ≡ parent ∷ ancestors parent tree) → new ≡ set_disallow (named key) on old
    → all_disallowed on (map named (path_from above tree)) new ≡ all_disallowed on (map named (path_from (Some key) tree)) old
disallowed_on on named tree key above old new path is =
    ap (λ (keys : List ℕ). all_disallowed on (map named keys) new) (sym (path_above key above tree path))
    ∙ ap (all_disallowed on (map named (ancestors key tree))) is
