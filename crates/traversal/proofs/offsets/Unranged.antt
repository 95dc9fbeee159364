-- The offset of a view that does not scroll has no range.
use Rattle.std.proofs.Common.{◌≡◌, ℕ, None, false, sym, ap, ◌∙◌}
use Rattle.scroll_offsets.specs.Bringing.{child_rect, range_at}
use Rattle.view_model.specs.Classes.{scrolls}
use Rattle.view_model.proofs.ClassLaws.{range_still}
use Rattle.view_model.specs.Forest.{Forest}
use Rattle.view_tree.specs.Rows.{Row, head_view}
use Rattle.view_tree.specs.Views.{IsLive, Views, class_of, held_of}
use Rattle.view_tree.proofs.forest.KeyLaws.{located}

pub unranged : (views : Views) (key : ℕ) → IsLive views key → scrolls (class_of views key) ≡ false → range_at views key ≡ None
unranged views key live stays =
    let f = located key views.tree live in
    rw f.is (range_still f.row.view.class f.row.view.facts (held_of views f.row.key).state.bounds (child_rect (held_of views) f.kids)
    (sym (ap (λ (part : Forest Row). scrolls (head_view part).class) f.is) ∙ stays))
