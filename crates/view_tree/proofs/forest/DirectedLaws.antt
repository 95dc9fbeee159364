-- How the views of a tree run, after edits.
use Rattle.std.proofs.Common.{◌≡◌, ℕ, ◌≤◌, Bool, Some, refl, sym, ◌∙◌, ap, subst, inl, inr}
use Rattle.std.proofs.lemmas.Bool.{cases_Bool, eqb-true}
use Rattle.std.specs.Prelude.{◌==◌}
use Rattle.view_model.specs.Direction.{dir}
use Rattle.view_model.specs.Forest.{Forest, Nothing, Branch, joined}
use Rattle.view_model.specs.PlainTree.{PlainView}
use Rattle.view_tree.specs.tree.Directions.{directed_rows, is_rtl_at}
use Rattle.view_tree.specs.Rows.{Row, changed_at_key, count_of_key, grown_at_key, head_view, leaf, part_from, pruned_at_key}
use Rattle.view_tree.specs.Views.{AreDirected}
use Rattle.view_tree.proofs.forest.KeyLaws.{Within, from_within, here, in_after, in_below}

-- a change of a view that leaves how it runs
abbrev pub KeepsRun : (PlainView → PlainView) → PlainView → Type 0
KeepsRun change view = ((change view).facts.direction ≡ view.facts.direction) × ((change view).facts.rtl ≡ view.facts.rtl)

pub directed-pruned_at_key : (above : Bool) (key : ℕ) (tree : Forest Row) → AreDirected above tree → AreDirected above (pruned_at_key key tree)
directed-pruned_at_key above key Nothing are = tt
directed-pruned_at_key above key (Branch row kids siblings) are =
    elim (cases_Bool (row.key == key)) [
      | inl e ↦ rw e are.2
      | inr e ↦ rw e (are.0, directed-pruned_at_key row.view.facts.rtl key kids are.1, directed-pruned_at_key above key siblings are.2)
    ]

pub directed-joined : (above : Bool) (list more : Forest Row) → AreDirected above list → AreDirected above more → AreDirected above (joined list more)
directed-joined above Nothing more are added = added
directed-joined above (Branch row kids siblings) more are added = (are.0, are.1, directed-joined above siblings more are.2 added)

put_by : (above : Bool) (key : ℕ) (change : PlainView → PlainView) (tree : Forest Row)
    → ((row : Row) (kids siblings : Forest Row) → Within (Branch row kids siblings) tree → row.key ≡ key → KeepsRun change row.view)
    → AreDirected above tree → AreDirected above (changed_at_key key change tree)
put_by above key change Nothing keeps are = tt
put_by above key change (Branch row kids siblings) keeps are =
    elim (cases_Bool (row.key == key)) [
      | inl e ↦
          let same = keeps row kids siblings here (eqb-true row.key key e) in
          let direction = same.0 in
          let rtl = same.1 in
          rw (e, direction, rtl) are
      | inr e ↦ rw e (
        are.0,
        put_by row.view.facts.rtl key change kids (λ r b a w. keeps r b a (in_below w)) are.1,
        put_by above key change siblings (λ r b a w. keeps r b a (in_after w)) are.2,
      )
    ]

grown_by : (above : Bool) (parent : ℕ) (new tree : Forest Row)
    → ((row : Row) (kids siblings : Forest Row) → Within (Branch row kids siblings) tree → row.key ≡ parent → AreDirected row.view.facts.rtl new)
    → AreDirected above tree → AreDirected above (grown_at_key parent new tree)
grown_by above parent new Nothing runs are = tt
grown_by above parent new (Branch row kids siblings) runs are =
    elim (cases_Bool (row.key == parent)) [
      | inl e ↦ rw e (are.0, directed-joined row.view.facts.rtl kids new are.1 (runs row kids siblings here (eqb-true row.key parent e)), are.2)
      | inr e ↦ rw e (
        are.0,
        grown_by row.view.facts.rtl parent new kids (λ r b a w. runs r b a (in_below w)) are.1,
        grown_by above parent new siblings (λ r b a w. runs r b a (in_after w)) are.2,
      )
    ]

-- the view of a key is that of its row
head_within : (key : ℕ) (tree : Forest Row) (row : Row) (kids siblings : Forest Row) → ((key : ℕ) → count_of_key key tree ≤ 1)
    → Within (Branch row kids siblings) tree → row.key ≡ key → head_view (part_from key tree) ≡ row.view
head_within key tree row kids siblings once within at =
    ap (λ k. head_view (part_from k tree)) (sym at) ∙ ap head_view (from_within row kids siblings within (once row.key))

pub directed-put : (above : Bool) (key : ℕ) (change : PlainView → PlainView) (tree : Forest Row) → ((key : ℕ) → count_of_key key tree ≤ 1)
    → KeepsRun change (head_view (part_from key tree)) → AreDirected above tree → AreDirected above (changed_at_key key change tree)
directed-put above key change tree once keeps are =
    put_by above key change tree (λ row kids siblings within at. subst (KeepsRun change) (head_within key tree row kids siblings once within at) keeps) are

pub directed-grown : (above : Bool) (parent key : ℕ) (view : PlainView) (tree : Forest Row) → ((key : ℕ) → count_of_key key tree ≤ 1)
    → view.facts.rtl ≡ dir (is_rtl_at (Some parent) tree) view.facts.direction
    → AreDirected above tree → AreDirected above (grown_at_key parent (leaf key view) tree)
directed-grown above parent key view tree once runs are =
    grown_by above parent (leaf key view) tree
    (λ row kids siblings within at.
    (runs ∙ ap (λ (above : PlainView). dir above.facts.rtl view.facts.direction) (head_within parent tree row kids siblings once within at), tt, tt)) are

-- what is below a view runs as that makes it
pub directed-within : (row : Row) (kids siblings : Forest Row) (above : Bool) {tree : Forest Row} → Within (Branch row kids siblings) tree
    → AreDirected above tree → AreDirected row.view.facts.rtl kids
directed-within row kids siblings above here are = are.1
directed-within row kids siblings above (in_below {row = r} w) are = directed-within row kids siblings r.view.facts.rtl w are.1
directed-within row kids siblings above (in_after w) are = directed-within row kids siblings above w are.2

-- trees that are directed are
pub directed-rows : (above : Bool) (tree : Forest Row) → AreDirected above (directed_rows above tree)
directed-rows above Nothing = tt
directed-rows above (Branch row kids siblings) = (refl, directed-rows (dir above row.view.facts.direction) kids, directed-rows above siblings)
