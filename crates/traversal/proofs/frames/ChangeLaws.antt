-- What changes of facts leave of a tree.
use Rattle.std.proofs.Common.{◌≡◌, ℕ, None, refl, inl, inr}
use Rattle.std.proofs.lemmas.Bool.{cases_Bool}
use Rattle.std.specs.Prelude.{◌==◌}
use Rattle.view_model.specs.declared.facts.Facts.{Facts}
use Rattle.view_model.specs.Forest.{Forest, Nothing, Branch, map_rows, or_else}
use Rattle.view_model.specs.PlainTree.{PlainView, first_view, part_of, view_in, with_facts}
use Rattle.view_tree.specs.Rows.{Row, changed_at_key}
use Rattle.traversal.specs.Changing.{bare}

-- a view that is not there is not changed
pub change_absent : (number : ℕ) (change : Facts → Facts) (tree : Forest PlainView) → view_in tree number ≡ None → with_facts number change tree ≡ tree
change_absent number change Nothing none = refl
change_absent number change (Branch view below after) none = elim (cases_Bool (view.number == number)) [
  | inl e ↦ absurd (let none = rw e at none in cc)
  | inr e ↦
      let none = rw e at none in
      let both = neither (part_of number below) (part_of number after) none in
      rw (e, change_absent number change below both.0, change_absent number change after both.1)
]
  where
    neither : (first second : Forest PlainView) → first_view (or_else first second) ≡ None → (first_view first ≡ None) × (first_view second ≡ None)
    neither Nothing second none = (refl, none)
    neither (Branch view below after) second none = absurd (cc)

-- a change of facts does not change the rows without them
pub bare_put : (key : ℕ) (change : PlainView → PlainView) (tree : Forest Row) → ((view : PlainView) → (change view).number ≡ view.number) → ((view : PlainView) → (change view).class ≡ view.class)
    → ((view : PlainView) → (change view).text ≡ view.text) → map_rows bare (changed_at_key key change tree) ≡ map_rows bare tree
bare_put key change Nothing number class text = refl
bare_put key change (Branch row kids siblings) number class text = elim (cases_Bool (row.key == key)) [
  | inl e ↦ rw (e, number row.view, class row.view, text row.view)
  | inr e ↦ rw (e, bare_put key change kids number class text, bare_put key change siblings number class text)
]
