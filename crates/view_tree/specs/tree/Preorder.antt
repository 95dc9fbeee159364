-- The views of a tree in preorder, from one of them on.
use Rattle.std.specs.Prelude.{ℕ, ◌==◌, if◌then◌else◌, List, [], ◌∷◌, ◌++◌, Option, Some, None, map}
use Rattle.view_model.specs.Forest.{Forest, Nothing, Branch, rows}
use Rattle.view_model.specs.PlainTree.{PlainView}
use Rattle.view_tree.specs.Rows.{Row, count_of_key}
use Rattle.view_tree.specs.Views.{Views, held_of, scrolled}

-- the rows of a list from the one of this key on
abbrev pub from_key : ℕ → List Row → List Row
from_key key [] = []
from_key key (row ∷ list) = if row.key == key then row ∷ list else from_key key list

-- the views in preorder from the one of this key on, or none
abbrev pub rows_from : Option ℕ → Forest Row → List Row
rows_from None tree = []
rows_from (Some key) tree = from_key key (rows tree)

-- these views, with their offsets
abbrev pub views_from : Views → Option ℕ → List PlainView
views_from views next = map (scrolled (held_of views)) (rows_from next views.tree)

-- the key of the first row of a list
abbrev pub first_row_key : List Row → Option ℕ
first_row_key [] = None
first_row_key (row ∷ list) = Some row.key

-- the rows in preorder after the view of this key and all below it; `later` are those after the list
abbrev pub rows_following : List Row → ℕ → Forest Row → List Row
rows_following later key Nothing = later
rows_following later key (Branch row kids siblings) =
    if row.key == key
    then rows siblings ++ later
    else
    (if count_of_key key kids == 0 then rows_following later key siblings
    else rows_following (rows siblings ++ later) key kids)
