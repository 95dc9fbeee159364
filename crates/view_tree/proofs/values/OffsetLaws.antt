-- What stays of a tree when only offsets are set.
use Rattle.std.proofs.Common.{◌≡◌, ℕ, ◌+◌, ◌<◌, ◌≤◌, ℤ, pos, refl, sym, ◌∙◌, ap, arith, inl, inr}
use Rattle.std.proofs.lemmas.Bool.{cases_Bool}
use Rattle.std.specs.Prelude.{◌==◌}
use Rattle.view_model.specs.declared.facts.Facts.{Facts}
use Rattle.view_model.specs.Facts.{unscrolled_facts}
use Rattle.view_model.specs.Forest.{Forest, Nothing, Branch}
use Rattle.view_model.specs.PlainTree.{PlainView}
use Rattle.view_tree.specs.Rows.{Row, changed_at_key, count_of_key, head_view, part_from}
use Rattle.view_tree.specs.Views.{IsLive, IsTree, Unscrolled, Views, facts_of}
use Rattle.view_tree.proofs.forest.KeyLaws.{Within, absent, here, in_after, in_below, located, or_else_live, zero_or_more}
use Rattle.view_tree.proofs.forest.NumberLaws.{put_absent}

-- facts that a view has already change nothing
same_put : (key : ℕ) (facts : Facts) (tree : Forest Row) → 0 < count_of_key key tree → count_of_key key tree ≤ 1 → facts ≡ (head_view (part_from key tree)).facts
    → changed_at_key key (λ (v : PlainView). record v { facts = facts }) tree ≡ tree
same_put key facts Nothing live once is = refl
same_put key facts (Branch row kids siblings) live once is =
    let put : PlainView → PlainView = λ v. record v { facts = facts } in
    elim (cases_Bool (row.key == key)) [
      | inl e ↦
          let own : facts ≡ row.view.facts = rw e at is in
          rw e (ap (λ (facts : Facts). Branch (record row { view = record row.view { facts = facts } }) kids siblings) own)
      | inr e ↦
          let split : 0 + (count_of_key key kids + count_of_key key siblings) ≤ 1 = rw e at once in
          let some : 0 < 0 + (count_of_key key kids + count_of_key key siblings) = rw e at live in
          elim (zero_or_more (count_of_key key kids)) [
            | inl none ↦
                let there : facts ≡ (head_view (part_from key siblings)).facts = rw (absent key kids none) at (rw e at is) in
                rw (e, put_absent key put kids none, same_put key facts siblings (omega arith) (omega arith) there)
            | inr more ↦
                let there : facts ≡ (head_view (part_from key kids)).facts = rw (or_else_live key kids (part_from key siblings) more) at (rw e at is) in
                rw (e, same_put key facts kids more (omega arith) there, put_absent key put siblings (omega arith))
          ]
    ]

flat_head : (key : ℕ) (tree : Forest Row) → 0 < count_of_key key tree → Unscrolled tree → (head_view (part_from key tree)).facts.offset ≡ pos 0
flat_head key tree live flat = let f = located key tree live in rw f.is (within_flat f.row f.kids f.siblings tree f.within flat)
  where
    within_flat : (row : Row) (kids siblings tree : Forest Row) → Within (Branch row kids siblings) tree → Unscrolled tree → row.view.facts.offset ≡ pos 0
    within_flat row kids siblings tree here flat = flat.0
    within_flat row kids siblings tree (in_below w) flat = within_flat row kids siblings _ w flat.1
    within_flat row kids siblings tree (in_after w) flat = within_flat row kids siblings _ w flat.2

-- a view of which only the offset is set keeps its row
pub offset_put : (views : Views) (key : ℕ) (facts : Facts) (offset : ℤ) → IsTree views → IsLive views key → facts ≡ record (facts_of views key) { offset = offset }
    → changed_at_key key (λ (v : PlainView). record v { facts = unscrolled_facts facts }) views.tree ≡ views.tree
offset_put views key facts offset is live set =
    let own = (head_view (part_from key views.tree)).facts in
    let flat : pos 0 ≡ own.offset = sym (flat_head key views.tree live is.unscrolled) in
    same_put key (unscrolled_facts facts) views.tree live (is.keys key) (ap unscrolled_facts set ∙ ap (λ (offset : ℤ). record own { offset = offset }) flat)
