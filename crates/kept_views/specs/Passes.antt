-- What is kept in a pass, once all views are where it places them.
use Rattle.std.specs.Prelude.{ℕ, ◌==◌, false, if◌then◌else◌, List}
use Rattle.view_model.specs.Forest.{Forest}
use Rattle.view_tree.specs.Rows.{Row}
use Rattle.view_tree.specs.Views.{Held}
use Rattle.kept_views.specs.Kept.{Cleared, Kept, Reached, firm}

-- what was asked of a view is done
abbrev pub settled : Held → Held
settled own = record own { state = record own.state { forced = false; layout_needed = false } }

-- what is kept once the root has settled
abbrev pub settled_at : ℕ → (ℕ → Held) → ℕ → Held
settled_at root held key = if key == root then settled (held key) else held key

-- what is kept while the root has not settled yet, except for the views at or above these requesters
pub record InPass (keys : List ℕ) (root : ℕ) (held : ℕ → Held) (tree : Forest Row) : Type 0 where
  pub kept : Kept keys (settled_at root held) firm tree
  pub reached : Reached (settled_at root held) false tree
  pub cleared : Cleared (settled_at root held) tree
