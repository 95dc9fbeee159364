-- Views whose layout is requested in a pass.
use Rattle.std.specs.Prelude.{◌≡◌, ℕ, true, List, [], ◌∷◌, Option, Some, None}
use Rattle.view_model.specs.Facts.{is_shown}
use Rattle.view_model.specs.Forest.{Nothing}
use Rattle.view_tree.specs.Rows.{first_key, head_view, later_siblings}
use Rattle.view_tree.specs.Views.{Views}

abbrev pub listed : Option ℕ → List ℕ
listed None = []
listed (Some view) = view ∷ []

abbrev pub with_requester : Option ℕ → List ℕ → List ℕ
with_requester None keys = keys
with_requester (Some view) keys = view ∷ keys

-- the root that is laid out: `None` if there is none, or it is gone
abbrev pub IsRootToLay : Views → Option ℕ → Type 0
IsRootToLay views None =
    (is_shown (head_view views.tree).facts ≡ true → views.tree ≡ Nothing) × (later_siblings views.tree ≡ Nothing)
IsRootToLay views (Some root) = (first_key views.tree ≡ Some root) × (is_shown (head_view views.tree).facts ≡ true)
