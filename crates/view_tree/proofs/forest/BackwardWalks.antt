-- A walk over the children of a view, from the last one to the first.
use Rattle.std.proofs.Common.{ℕ, ◌+◌, ◌-◌, ◌<◌, Option, Some, None}
use Rattle.view_model.specs.Forest.{Forest, count_of}
use Rattle.view_tree.specs.Rows.{Later, Row, count_of_key, later_siblings, part_from}

-- the children after the next one
abbrev pub following : Option ℕ → Forest Row → Forest Row → Forest Row
following None list tree = list
following (Some kid) list tree = later_siblings (part_from kid tree)

-- how many views there are up to the next child
abbrev pub before : Option ℕ → Forest Row → Forest Row → ℕ
before None list tree = 0
before (Some kid) list tree = 1 + count_of list - count_of (part_from kid tree)

pub record IsChildOf (tree list : Forest Row) (kid : ℕ) : Type 0 where
  pub live : 0 < count_of_key kid tree
  pub within : Later (part_from kid tree) list
