-- What is seen in a canvas, if there is one, of views that are followed while they are laid.
use Rattle.std.specs.Prelude.{ℕ, Option, IfSome}
use Rattle.damage_rect.specs.Within.{LiesIn}
use Rattle.geom_core.specs.declared.geometry.Rect.{Rect}
use Rattle.seen_parts.specs.Meeting.{KeepsSight, as_seen}
use Rattle.seen_parts.specs.declared.frame.Canvas.{Canvas}
use Rattle.view_model.specs.Forest.{Forest}
use Rattle.view_tree.specs.Rows.{Row}
use Rattle.view_tree.specs.Views.{Held}
use Rattle.traversal.specs.Covering.{Covered}

-- outside of the damage the same is seen of a list
abbrev pub KeepsSightIn : Option Canvas → Rect → (ℕ → Held) → (ℕ → Held) → Forest Row → Type 0
KeepsSightIn canvas damage old new list = IfSome canvas (λ canvas. KeepsSight (as_seen canvas) damage old new list)

abbrev pub CoversIn : Option Canvas → Rect → (ℕ → Held) → (ℕ → Held) → Forest Row → Type 0
CoversIn canvas box old new list = IfSome canvas (λ canvas. Covered (as_seen canvas) box old new list)

-- damage that was in a box is still in it, if the box covers the list
abbrev pub GrowsWithin : Option Canvas → Rect → Rect → (ℕ → Held) → (ℕ → Held) → Forest Row → Type 0
GrowsWithin canvas less more old new list =
    (box : Rect) → LiesIn less box → CoversIn canvas box old new list → LiesIn more box
