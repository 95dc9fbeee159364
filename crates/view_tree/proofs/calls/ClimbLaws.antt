-- A walk from a view up to the root.
use Rattle.std.proofs.Common.{ℕ, suc, Option, Some, None, length}
use Rattle.view_model.specs.Forest.{Forest}
use Rattle.view_tree.specs.Rows.{Row, ancestors}

-- how many views are still to pass: this one, if any, and its ancestors
abbrev pub left_above : Option ℕ → Forest Row → ℕ
left_above None tree = 0
left_above (Some key) tree = suc (length (ancestors key tree))
