-- The ranges of offsets, by the present bounds of views.
use Rattle.std.specs.Prelude.{ℕ, ℤ, Option, None}
use Rattle.geom_core.specs.declared.geometry.Rect.{Rect}
use Rattle.view_model.specs.Forest.{Forest, Nothing, Branch}
use Rattle.view_model.specs.Offsets.{range_by}
use Rattle.view_tree.specs.Rows.{Row, part_from}
use Rattle.view_tree.specs.Views.{Held, Views, held_of}

-- the bounds of the first view of a list
abbrev pub child_rect : (ℕ → Held) → Forest Row → Option Rect
child_rect held Nothing = None
child_rect held (Branch row kids siblings) = (held row.key).state.bounds

-- the range of the offset of the first view of a list
abbrev pub first_range : (ℕ → Held) → Forest Row → Option ℤ
first_range held Nothing = None
first_range held (Branch row kids siblings) =
    range_by row.view.class row.view.facts (held row.key).state.bounds (child_rect held kids)

-- that of the view of a key
abbrev pub range_at : Views → ℕ → Option ℤ
range_at views key = first_range (held_of views) (part_from key views.tree)
