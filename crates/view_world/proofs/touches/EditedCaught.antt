-- A gesture in a tree whose views are edited and stay.
use Rattle.std.proofs.Common.{◌≡◌, ℕ, ◌<◌, Bool, true, false, refl, sym, ◌∙◌, ap, subst, arith, inl, inr}
use Rattle.std.proofs.lemmas.Bool.{cases_Bool}
use Rattle.std.specs.Prelude.{◌==◌, if◌then◌else◌}
use Rattle.tree_edits.proofs.SpreadLaws.{count_of_key-directed, sum-directed}
use Rattle.touch_dispatch.specs.gesture.Kept.{Kept, gesture_of, is_open}
use Rattle.touch_dispatch.specs.reaching.TreeEvents.{IsGestureIn}
use Rattle.tree_edits.specs.Asking.{acted_view}
use Rattle.tree_edits.specs.Editing.{turns}
use Rattle.tree_edits.specs.Keeping.{KeepsViews, spread}
use Rattle.tree_edits.specs.declared.edits.Edit.{Edit}
use Rattle.tree_edits.specs.declared.edits.Edit.TheVariants as edit
use Rattle.view_model.specs.declared.changes.Act.{Act}
use Rattle.view_model.specs.Direction.{dir}
use Rattle.view_model.specs.Forest.{Forest, Nothing, Branch, count_of}
use Rattle.view_model.specs.PlainTree.{PlainView}
use Rattle.view_tree.specs.tree.Directions.{directed_rows}
use Rattle.view_tree.specs.Rows.{Row, changed_at_key, count_of_key, count_of_number, head_view, part_from, views_of}
use Rattle.view_tree.specs.Views.{Views}
use Rattle.view_tree.proofs.forest.KeyLaws.{absent, or_else_live, zero_or_more}
use Rattle.view_tree.proofs.forest.NumberLaws.{count-put, count_of_key-put, sum-put}
use Rattle.view_world.specs.screen.Changed.{LeavesViews}
use Rattle.world_parts.proofs.trees.ShapeLaws.{children_alike, shape_of}

-- a change of a view that keeps its number
abbrev pub KeepsNumber : (PlainView → PlainView) → Type 0
KeepsNumber change = (view : PlainView) → (change view).number ≡ view.number

shape-edited : (key : ℕ) (change : PlainView → PlainView) (tree : Forest Row) → KeepsNumber change → shape_of (views_of (changed_at_key key change tree)) ≡ shape_of (views_of tree)
shape-edited key change Nothing same = refl
shape-edited key change (Branch row kids siblings) same =
    elim (cases_Bool (row.key == key)) [
      | inl e ↦ rw (e, same row.view) refl
      | inr e ↦ rw (e, shape-edited key change kids same, shape-edited key change siblings same) refl
    ]

number-edited : (other key : ℕ) (change : PlainView → PlainView) (tree : Forest Row) → KeepsNumber change
    → (head_view (part_from other (changed_at_key key change tree))).number ≡ (head_view (part_from other tree)).number
number-edited other key change Nothing same = refl
number-edited other key change (Branch row kids siblings) same =
    elim (cases_Bool (row.key == key)) [
      | inl e ↦ elim (cases_Bool (row.key == other)) [
        | inl f ↦ rw (e, f) (same row.view)
        | inr f ↦ rw (e, f) refl
      ]
      | inr e ↦ elim (cases_Bool (row.key == other)) [
        | inl f ↦ rw (e, f) refl
        | inr f ↦
            let count = count_of_key-put other key change kids in
            elim (zero_or_more (count_of_key other kids)) [
              | inl z ↦ rw (e, f, absent other (changed_at_key key change kids) (count ∙ z), absent other kids z) (number-edited other key change siblings same)
              | inr l ↦
                  let live : 0 < count_of_key other (changed_at_key key change kids) = omega arith in
                  rw (e, f)
                  (ap (λ t. (head_view t).number) (or_else_live other (changed_at_key key change kids) (part_from other (changed_at_key key change siblings)) live)
                  ∙ number-edited other key change kids same
                  ∙ ap (λ t. (head_view t).number) (sym (or_else_live other kids (part_from other siblings) l)))
            ]
      ]
    ]

gesture_edited : (key : ℕ) (change : PlainView → PlainView) (tree : Forest Row) (kept : Kept) → KeepsNumber change → IsGestureIn tree kept → IsGestureIn (changed_at_key key change tree) kept
gesture_edited key change tree kept same caught = record {
  opened = λ other live.
      let was : 0 < count_of_key other tree = subst (λ n. 0 < n) (count_of_key-put other key change tree) live in
      subst (λ n. is_open kept n ≡ true) (sym (number-edited other key change tree same)) (caught.opened other was);
  children = children_alike (views_of tree) (views_of (changed_at_key key change tree)) (gesture_of kept) (shape-edited key change tree same) caught.children;
}

-- the views after an edit that leaves them
pub record Stays (old new : Views) (kept : Kept) : Type 0 where
  pub caught : IsGestureIn old.tree kept → IsGestureIn new.tree kept
  pub next : new.next ≡ old.next
  pub numbers : (number : ℕ) → count_of_number number new.tree ≡ count_of_number number old.tree
  pub count : count_of new.tree ≡ count_of old.tree

changed_stays : (old new : Views) (key : ℕ) (change : PlainView → PlainView) (kept : Kept) → KeepsNumber change → new.tree ≡ changed_at_key key change old.tree → new.next ≡ old.next → Stays old new kept
changed_stays old new key change kept same tree next = record {
  caught = λ caught. subst (λ (t : Forest Row). IsGestureIn t kept) (sym tree) (gesture_edited key change old.tree kept same caught);
  next = next;
  numbers = λ number.
      ap (count_of_number number) tree ∙ sum-put (λ (row : Row). if row.view.number == number then 1 else 0) key change old.tree (λ row. ap (λ (n : ℕ). if n == number then 1 else 0) (same row.view));
  count = ap count_of tree ∙ count-put key change old.tree;
}

-- a direction goes down a tree
shape-directed : (above : Bool) (tree : Forest Row) → shape_of (views_of (directed_rows above tree)) ≡ shape_of (views_of tree)
shape-directed above Nothing = refl
shape-directed above (Branch row kids siblings) =
    let rtl = dir above row.view.facts.direction in
    rw (shape-directed rtl kids, shape-directed above siblings) refl

number-directed : (other : ℕ) (above : Bool) (tree : Forest Row) → (head_view (part_from other (directed_rows above tree))).number ≡ (head_view (part_from other tree)).number
number-directed other above Nothing = refl
number-directed other above (Branch row kids siblings) =
    let rtl = dir above row.view.facts.direction in
    elim (cases_Bool (row.key == other)) [
      | inl e ↦ rw e refl
      | inr e ↦
          let count = count_of_key-directed other rtl kids in
          elim (zero_or_more (count_of_key other kids)) [
            | inl z ↦ rw (e, absent other (directed_rows rtl kids) (count ∙ z), absent other kids z) (number-directed other above siblings)
            | inr l ↦
                let live : 0 < count_of_key other (directed_rows rtl kids) = omega arith in
                rw e
                (ap (λ t. (head_view t).number) (or_else_live other (directed_rows rtl kids) (part_from other (directed_rows above siblings)) live)
                ∙ number-directed other rtl kids
                ∙ ap (λ t. (head_view t).number) (sym (or_else_live other kids (part_from other siblings) l)))
          ]
    ]

pub number-spread : (other : ℕ) (act : Act) (tree : Forest Row) → (head_view (part_from other (spread act tree))).number ≡ (head_view (part_from other tree)).number
number-spread other act tree = by (turns act)
  where
    by : (t : Bool) → (head_view (part_from other (if t then directed_rows false tree else tree))).number ≡ (head_view (part_from other tree)).number
    by true = number-directed other false tree
    by false = refl

-- which leaves the views there
record Spreads (tree spread : Forest Row) (kept : Kept) : Type 0 where
  caught : IsGestureIn tree kept → IsGestureIn spread kept
  numbers : (number : ℕ) → count_of_number number spread ≡ count_of_number number tree
  count : count_of spread ≡ count_of tree

spread_stays : (act : Act) (tree : Forest Row) (kept : Kept) → Spreads tree (spread act tree) kept
spread_stays act tree kept = by (turns act)
  where
    by : (t : Bool) → Spreads tree (if t then directed_rows false tree else tree) kept
    by true = record {
      caught = λ caught. record {
        opened = λ other live.
            let was : 0 < count_of_key other tree = subst (λ n. 0 < n) (count_of_key-directed other false tree) live in
            subst (λ n. is_open kept n ≡ true) (sym (number-directed other false tree)) (caught.opened other was);
        children = children_alike (views_of tree) (views_of (directed_rows false tree)) (gesture_of kept) (shape-directed false tree) caught.children;
      };
      numbers = λ number. sum-directed (λ (row : Row). if row.view.number == number then 1 else 0) (λ rtl row. refl) false tree;
      count = sum-directed (λ row. 1) (λ rtl row. refl) false tree;
    }
    by false = record { caught = λ caught. caught; numbers = λ number. refl; count = refl }

pub edit_stays : (old new : Views) (edit : Edit) (kept : Kept) → LeavesViews edit → KeepsViews old new edit → Stays old new kept
edit_stays old new (edit.Add parent class width height) kept leaves keeps = absurd leaves
edit_stays old new (edit.Remove view) kept leaves keeps = absurd leaves
edit_stays old new (edit.Act view act) kept leaves keeps =
    let own = changed_stays old (record old { tree = changed_at_key view (acted_view act) old.tree }) view (acted_view act) kept (λ v. refl) refl refl in
    let down = spread_stays act (changed_at_key view (acted_view act) old.tree) kept in
    record {
      caught = λ caught. subst (λ (t : Forest Row). IsGestureIn t kept) (sym keeps.tree) (down.caught (own.caught caught));
      next = keeps.next;
      numbers = λ number. ap (count_of_number number) keeps.tree ∙ down.numbers number ∙ own.numbers number;
      count = ap count_of keeps.tree ∙ down.count ∙ own.count;
    }
edit_stays old new (edit.Text view text) kept leaves keeps = changed_stays old new view _ kept (λ v. refl) keeps.tree keeps.next

pub same_stays : (old new : Views) (kept : Kept) → new ≡ old → Stays old new kept
same_stays old new kept same = subst (λ (v : Views). Stays old v kept) (sym same) (record { caught = λ caught. caught; next = refl; numbers = λ number. refl; count = refl })
