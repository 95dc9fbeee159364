-- When two changes of facts make the same of a tree.
use Rattle.std.proofs.Common.{◌≡◌, ℕ, ◌≤◌, refl, sym, ◌∙◌, ap, arith, inl, inr}
use Rattle.std.proofs.lemmas.Bool.{cases_Bool}
use Rattle.std.specs.Prelude.{◌==◌}
use Rattle.view_model.specs.declared.facts.Facts.{Facts}
use Rattle.view_model.specs.Forest.{Forest, Nothing, Branch}
use Rattle.view_model.specs.PlainTree.{with_facts}
use Rattle.view_tree.specs.Rows.{Row, count_of_key, part_from}
use Rattle.view_tree.specs.Views.{Held, IsLive, IsTree, Views, facts_of, held_of, number_of, plain_of, plain_rows, scrolled}
use Rattle.view_tree.proofs.forest.KeyLaws.{Agree, absent, located, zero_or_more}
use Rattle.view_tree.proofs.forest.PlainLaws.{agree_live}

-- they do if they make the same of the view that is changed
pub same_rows : (held : ℕ → Held) (key number : ℕ) (f g : Facts → Facts) (tree : Forest Row) → Agree key number tree → count_of_key key tree ≤ 1
    → ((row : Row) (kids siblings : Forest Row) → part_from key tree ≡ Branch row kids siblings → f (scrolled held row).facts ≡ g (scrolled held row).facts)
    → with_facts number f (plain_rows held tree) ≡ with_facts number g (plain_rows held tree)
same_rows held key number f g Nothing agree once same = refl
same_rows held key number f g (Branch row kids siblings) agree once same =
    elim (cases_Bool (row.key == key)) [
      | inl e ↦
          let own = same row kids siblings (rw e) in
          rw (agree.0, e) (ap (λ (facts : Facts). Branch (record (scrolled held row) { facts = facts }) (plain_rows held kids) (plain_rows held siblings)) own)
      | inr e ↦
          let once = rw e at once in
          let later = λ (kid : Row) (b a : Forest Row) (is : part_from key kids ≡ Branch kid b a). same kid b a (rw (e, is)) in
          let following : (sibling : Row) (b a : Forest Row) → part_from key siblings ≡ Branch sibling b a → f (scrolled held sibling).facts ≡ g (scrolled held sibling).facts =
          λ sibling b a is. elim (zero_or_more (count_of_key key siblings)) [
            | inl z ↦ absurd (let gone = absent key siblings z in cc)
            | inr l ↦ same sibling b a (let z : count_of_key key kids ≡ 0 = omega arith in rw (e, absent key kids z, is))
          ] in
          rw (
            agree.0,
            e,
            same_rows held key number f g kids agree.1 (omega arith) later,
            same_rows held key number f g siblings agree.2 (omega arith) following,
          )
    ]

-- the same, as the calls of a tree state it
pub same_change : (views : Views) (key : ℕ) (f g : Facts → Facts) → IsTree views → IsLive views key → f (facts_of views key) ≡ g (facts_of views key)
    → with_facts (number_of views key) f (plain_of views) ≡ with_facts (number_of views key) g (plain_of views)
same_change views key f g is live same =
    same_rows (held_of views) key (number_of views key) f g views.tree (agree_live views key is live) (is.keys key)
    (λ row kids siblings at.
    let found = located key views.tree live in
    let own : found.row.key ≡ row.key = ap first_key_or (sym found.is ∙ at) in
    let key_is : row.key ≡ key = sym own ∙ found.key_is in
    let same = rw at at same in
    rw key_is same)
  where
    first_key_or : Forest Row → ℕ
    first_key_or Nothing = 0
    first_key_or (Branch row kids siblings) = row.key
