-- A gesture in a tree, stated for the plain tree.
use Rattle.std.proofs.Common.{◌≡◌, ℕ, ◌+◌, ◌<◌, ◌≤◌, true, refl, sym, ◌∙◌, ap, subst, arith, eqb-true, inl, inr}
use Rattle.std.proofs.lemmas.Bool.{cases_Bool}
use Rattle.std.specs.Prelude.{if◌then◌else◌, ◌==◌}
use Rattle.touch_dispatch.specs.gesture.Kept.{Kept, gesture_of, is_open}
use Rattle.touch_dispatch.specs.reaching.TreeEvents.{AreChildren, IsGestureIn}
use Rattle.view_model.specs.Forest.{Forest, Nothing, Branch}
use Rattle.view_model.specs.PlainTree.{PlainView}
use Rattle.view_tree.proofs.forest.ForestLaws.{times_in}
use Rattle.view_tree.specs.Rows.{Row, count_of_key, count_of_number, head_view, part_from, views_of}
use Rattle.view_tree.specs.Views.{Held, IsTree, Views, held_of, plain_of, plain_rows}
use Rattle.view_tree.proofs.forest.KeyLaws.{Within, count_of_key-within, from_within, here, in_after, in_below, number_live, times_self, zero_or_more}
use Rattle.world_parts.proofs.trees.ShapeLaws.{children_alike, shape-views}

-- a gesture has a place for each view of a plain tree, and each target is a child of its group there
pub record IsCaughtIn (tree : Forest PlainView) (kept : Kept) : Type 0 where
  pub opened : (number : ℕ) → 0 < times_in number tree → is_open kept number ≡ true
  pub children : AreChildren tree (gesture_of kept)

pub times-plain : (held : ℕ → Held) (number : ℕ) (tree : Forest Row) → times_in number (plain_rows held tree) ≡ count_of_number number tree
times-plain held number Nothing = refl
times-plain held number (Branch row kids siblings) =
    ap (λ n. (if row.view.number == number then 1 else 0) + (n + times_in number (plain_rows held siblings))) (times-plain held number kids)
    ∙ ap (λ n. (if row.view.number == number then 1 else 0) + (count_of_number number kids + n)) (times-plain held number siblings)

-- a view of a number
record OfNumber (number : ℕ) (tree : Forest Row) : Type 0 where
  pub row : Row
  pub kids : Forest Row
  pub siblings : Forest Row
  pub within : Within (Branch row kids siblings) tree
  pub is : row.view.number ≡ number

of_number : (number : ℕ) (tree : Forest Row) → 0 < count_of_number number tree → OfNumber number tree
of_number number Nothing there = absurd (omega arith)
of_number number (Branch row kids siblings) there =
    elim (cases_Bool (row.view.number == number)) [
      | inl e ↦ record { row = row; kids = kids; siblings = siblings; within = here; is = eqb-true _ _ e }
      | inr e ↦
          let more : 0 < 0 + (count_of_number number kids + count_of_number number siblings) = rw e at there in
          elim (zero_or_more (count_of_number number kids)) [
            | inl z ↦ let f = of_number number siblings (omega arith) in record { row = f.row; kids = f.kids; siblings = f.siblings; within = in_after f.within; is = f.is }
            | inr l ↦ let f = of_number number kids l in record { row = f.row; kids = f.kids; siblings = f.siblings; within = in_below f.within; is = f.is }
          ]
    ]

opened_by_number : (tree : Forest Row) (kept : Kept) (number : ℕ) → ((key : ℕ) → count_of_key key tree ≤ 1)
    → ((key : ℕ) → 0 < count_of_key key tree → is_open kept (head_view (part_from key tree)).number ≡ true) → 0 < count_of_number number tree → is_open kept number ≡ true
opened_by_number tree kept number keys opened there =
    let f = of_number number tree there in
    let n = count_of_key-within f.row.key f.within in
    let live : 0 < count_of_key f.row.key tree = omega (arith, times_self f.row f.kids f.siblings) in
    let from = from_within f.row f.kids f.siblings f.within (keys f.row.key) in
    subst (λ n. is_open kept n ≡ true) (ap (λ t. (head_view t).number) from ∙ f.is) (opened f.row.key live)

-- a gesture in a tree is one in its plain tree
pub caught_plain : (views : Views) (kept : Kept) → IsTree views → IsGestureIn views.tree kept → IsCaughtIn (plain_of views) kept
caught_plain views kept is caught = record {
  opened = λ number there. opened_by_number views.tree kept number is.keys caught.opened (subst (λ n. 0 < n) (times-plain (held_of views) number views.tree) there);
  children = children_alike (views_of views.tree) (plain_of views) (gesture_of kept) (sym (shape-views (held_of views) views.tree)) caught.children;
}

pub caught_keyed : (views : Views) (kept : Kept) → IsCaughtIn (plain_of views) kept → IsGestureIn views.tree kept
caught_keyed views kept caught = record {
  opened = λ key live. caught.opened _ (subst (λ n. 0 < n) (sym (times-plain (held_of views) (head_view (part_from key views.tree)).number views.tree)) (number_live key views.tree live));
  children = children_alike (plain_of views) (views_of views.tree) (gesture_of kept) (shape-views (held_of views) views.tree) caught.children;
}
