-- An edit that changes nothing that layout reads keeps what is kept, without a request.
use Rattle.std.proofs.Common.{◌≡◌, ℕ, ◌<◌, ◌≤◌, ◌==◌, true, false, [], Option, Some, None, arith, ap, ◌∙◌, sym, refl, subst, inl, inr}
use Rattle.geom_core.specs.declared.geometry.Rect.{Rect}
use Rattle.view_model.specs.declared.facts.Facts.{Facts}
use Rattle.view_model.specs.declared.class.Class.{Class}
use Rattle.view_model.proofs.ClassLaws.{range_layout}
use Rattle.view_model.specs.Facts.{is_shown, layout_facts}
use Rattle.view_model.specs.Forest.{Forest, Nothing, Branch, or_else}
use Rattle.view_model.specs.Layout.{Final, Placed, child_by, children_of, final_by, for_layout, placed_by, total_by}
use Rattle.view_model.specs.Offsets.{range_by}
use Rattle.view_model.specs.PlainTree.{PlainView}
use Rattle.std.specs.Prelude.{map}
use Rattle.view_tree.specs.Rows.{Row, changed_at_key, count_of_key, head_view, part_from}
use Rattle.view_tree.specs.Views.{Held}
use Rattle.view_tree.proofs.forest.KeyLaws.{absent, or_else_live, zero_or_more}
use Rattle.view_tree.proofs.forest.NumberLaws.{count_of_key-put}
use Rattle.kept_views.specs.Kept.{IsKept, loose}
use Rattle.kept_views.proofs.edits.AroundEdits.{cleared_at, cleared_each, reached_at, reached_each}
use Rattle.kept_views.proofs.edits.Quiet.{IsUnseen, Kept_unseen, Unseen}

pub same_unseen : (old new : PlainView) → for_layout new ≡ for_layout old → IsUnseen old new
same_unseen old new same = record {
  shown = ap (λ (view : PlainView). is_shown view.facts) same;
  class = ap (λ (view : PlainView). view.class) same;
  child = λ below. ap (λ view. child_by view (children_of below)) same;
  total = λ below specs. ap (λ view. total_by view (children_of below) specs) same;
  finals = λ below specs. ap (λ view. map (λ (kid : Final). kid.specs) (final_by view (children_of below) specs)) same;
  edges = λ below specs. ap (λ view. map (λ (kid : Final). kid.edges) (final_by view (children_of below) specs)) same;
  places = λ below specs room. ap (λ view. map (λ (kid : Placed). kid.rect) (placed_by view (children_of below) specs room)) same;
  range = λ rect child.
      sym (range_layout new.class new.facts rect child) ∙ ap (λ (view : PlainView). range_by view.class view.facts rect child) same ∙ range_layout old.class old.facts rect child;
}

module _ (key : ℕ) (change : PlainView → PlainView) where
  abbrev UnseenHead : Forest Row → Type 0
  UnseenHead list = IsUnseen (head_view list) (change (head_view list))

  unseen_absent : (list : Forest Row) → count_of_key key list ≡ 0 → Unseen key change list
  unseen_absent Nothing z = tt
  unseen_absent (Branch row kids siblings) z = (
    λ e. let none = rw e at z in absurd (omega arith),
    λ e. (unseen_absent kids (omega arith), unseen_absent siblings (omega arith)),
  )

  pub unseen_part : (list : Forest Row) → count_of_key key list ≤ 1 → UnseenHead (part_from key list) → Unseen key change list
  unseen_part Nothing once u = tt
  unseen_part (Branch row kids siblings) once u = (
    λ e. subst UnseenHead (here e) u,
    λ ne. elim (zero_or_more (count_of_key key kids)) [
      | inl none ↦ (
        unseen_absent kids none,
        unseen_part siblings (omega arith) (subst UnseenHead (there ne ∙ ap (λ list. or_else list (part_from key siblings)) (absent key kids none)) u),
      )
      | inr live ↦ (
        unseen_part kids (omega arith) (subst UnseenHead (there ne ∙ or_else_live key kids (part_from key siblings) live) u),
        unseen_absent siblings (omega arith),
      )
    ],
  )
    where
      here : (row.key == key) ≡ true → part_from key (Branch row kids siblings) ≡ Branch row kids siblings
      here e = rw e refl

      there : (row.key == key) ≡ false → part_from key (Branch row kids siblings) ≡ or_else (part_from key kids) (part_from key siblings)
      there e = rw e refl

  pub quiet_kept : (held : ℕ → Held) (tree : Forest Row) → count_of_key key tree ≤ 1 → for_layout (change (head_view (part_from key tree))) ≡ for_layout (head_view (part_from key tree))
      → IsKept held tree → IsKept held (changed_at_key key change tree)
  quiet_kept held tree once same k =
      let put = changed_at_key key change tree in
      record {
        kept = Kept_unseen key change held [] loose tree (unseen_part tree once (same_unseen _ _ same)) k.kept;
        reached = reached_each held put (λ other here. reached_at held tree k.reached other (put_back other here));
        cleared = cleared_each held put (λ other here. cleared_at held tree k.cleared other (put_back other here));
      }
    where
      put_back : (other : ℕ) → 0 < count_of_key other (changed_at_key key change tree) → 0 < count_of_key other tree
      put_back other here = let s = count_of_key-put other key change tree in omega arith
