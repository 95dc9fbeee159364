-- Ranges of offsets, by look-ups of a view.
use Rattle.std.proofs.Common.{◌≡◌, ℕ, ap}
use Rattle.scroll_offsets.specs.Bringing.{child_rect, range_at}
use Rattle.view_model.specs.Offsets.{range_by}
use Rattle.view_tree.specs.Rows.{children_of_first, head_view, part_from}
use Rattle.view_tree.specs.Views.{IsLive, Views, held_of}
use Rattle.view_tree.proofs.forest.KeyLaws.{located}

-- the range of the view of a key, by look-ups
pub range_as : (views : Views) (key : ℕ) → IsLive views key
    → range_at views key ≡ range_by (head_view (part_from key views.tree)).class (head_view (part_from key views.tree)).facts (held_of views key).state.bounds (child_rect (held_of views) (children_of_first (part_from key views.tree)))
range_as views key live =
    let f = located key views.tree live in
    rw f.is (ap (λ k. range_by f.row.view.class f.row.view.facts (held_of views k).state.bounds (child_rect (held_of views) f.kids)) f.key_is)
