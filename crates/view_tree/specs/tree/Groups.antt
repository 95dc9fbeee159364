-- Which relative layouts something is kept of.
use Rattle.std.specs.Prelude.{◌≡◌, ℕ, ◌==◌, Bool, false, if◌then◌else◌, Option, None}
use Rattle.sibling_orders.specs.Ordering.{PlainGroup}
use Rattle.view_model.specs.Classes.{is_relative}
use Rattle.view_model.specs.Forest.{Forest}
use Rattle.view_model.specs.PlainTree.{PlainView}
use Rattle.view_tree.specs.Rows.{Row, count_where}

-- whether a view is the relative layout of a number
abbrev pub is_layout : ℕ → PlainView → Bool
is_layout number view = if view.number == number then is_relative view.class else false

-- nothing is kept under a number that no relative layout has
abbrev pub HasNoOther : (ℕ → Option PlainGroup) → Forest Row → Type 0
HasNoOther groups tree = (number : ℕ) → count_where (is_layout number) tree ≡ 0 → groups number ≡ None
