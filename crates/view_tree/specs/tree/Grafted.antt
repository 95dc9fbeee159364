-- A tree to which a sapling was added.
use Rattle.std.specs.Prelude.{◌≡◌, ℕ, ◌+◌, ◌<◌, [], Option, Some}
use Rattle.std.specs.Option.{option_map}
use Rattle.view_model.specs.Directed.{directed}
use Rattle.view_model.specs.Forest.{Forest, Nothing, count_of}
use Rattle.view_model.specs.Growth.{grown_at}
use Rattle.view_model.specs.Sprouts.{Seed, numbered}
use Rattle.view_tree.specs.tree.Directions.{is_rtl_at}
use Rattle.view_tree.specs.Rows.{Row, count_of_key, first_key, later_siblings, with_child}
use Rattle.view_tree.specs.Views.{Views, KeepsOutside, cache_of, fresh, held_of, number_of, plain_of, state_of}

-- views were added after the children of a parent, or as the whole tree, under keys that were free; a layout has left
-- nothing with them, no size is kept of them, and everything else is the same
pub record Gained (old : Views) (parent : Option ℕ) (added : Forest Row) (new : Views) : Type 0 where
  pub unused : (key : ℕ) → 0 < count_of_key key added → count_of_key key old.tree ≡ 0
  pub tree : new.tree ≡ with_child parent added old.tree
  pub made : (key : ℕ) → 0 < count_of_key key added → state_of new key ≡ fresh
  pub bare : (key : ℕ) → 0 < count_of_key key added → cache_of new key ≡ []
  pub others : KeepsOutside (held_of old) (held_of new) added

-- the views of a sapling have come, the outermost one under this key, with the next numbers in preorder; each runs as
-- its direction says, or as its parent
pub record Grafted (old : Views) (parent : Option ℕ) (sapling : Forest Seed) (key : ℕ) (new : Views) : Type 0 where
  pub added : Forest Row
  pub first : first_key added ≡ Some key
  pub alone : later_siblings added ≡ Nothing
  pub gained : Gained old parent added new
  pub plain : plain_of new
      ≡ grown_at (option_map (number_of old) parent) (directed (is_rtl_at parent old.tree) (numbered old.next sapling))
      (plain_of old)
  pub next : new.next ≡ old.next + count_of sapling
