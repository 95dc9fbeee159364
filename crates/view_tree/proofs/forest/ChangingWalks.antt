-- Walks that change what is kept of each view that they pass, where changing twice is the same as changing once.
use Rattle.std.proofs.Common.{◌≡◌, ◌≢◌, ℕ, ◌+◌, ◌<◌, Option, Some, None, sym, ◌∙◌, ap, arith, inl, inr}
use Rattle.std.proofs.lemmas.Bool.{cases_eq, eq-eqb, ne_eqb}
use Rattle.std.specs.Prelude.{◌==◌, IfSome, if◌then◌else◌}
use Rattle.view_model.specs.Forest.{Forest, Nothing, Branch}
use Rattle.view_tree.specs.Rows.{Row, later_siblings, first_tree, children_of_first, part_from, rest_from, count_of_key}
use Rattle.view_tree.specs.Views.{Held}
use Rattle.view_tree.proofs.forest.KeyLaws.{located}
use Rattle.view_tree.proofs.forest.Walks.{Walk, count_of_key-parts, walk_on}

-- what is kept of a view that is passed this often
abbrev pub changed_times : (Held → Held) → ℕ → Held → Held
changed_times change count held = if count == 0 then held else change held

-- changes of the views of keys, where changing twice is the same as changing once
abbrev pub IsOnce : (ℕ → Held → Held) → Type 0
IsOnce change = (key : ℕ) (held : Held) → change key (change key held) ≡ change key held

-- so far, the children before `next` have changed
pub record ChangingWalk (change : ℕ → Held → Held) (tree kids : Forest Row) (start : ℕ → Held) (next : Option ℕ) (now : ℕ → Held) : Type 0 where
  pub walk : Walk tree kids next
  -- once the rest has changed too, all have
  pub rest : (key : ℕ) → changed_times (change key) (count_of_key key (rest_from next tree)) (now key) ≡ changed_times (change key) (count_of_key key kids) (start key)

pub changed_more : (change : Held → Held) (n : ℕ) (held : Held) → 0 < n → changed_times change n held ≡ change held
changed_more change n held more = let some : n ≢ 0 = omega arith in rw ne_eqb

changed_twice : (change : ℕ → Held → Held) → IsOnce change → (key m n : ℕ) (held : Held)
    → changed_times (change key) (m + n) held ≡ changed_times (change key) n (changed_times (change key) m held)
changed_twice change once key m n held =
    elim (cases_eq m 0) [
      | inl none ↦ rw none (ap (λ k. changed_times (change key) k held) (let e : 0 + n ≡ n = omega arith in e))
      | inr some ↦ changed_more (change key) (m + n) held (omega arith) ∙ elim (cases_eq n 0) [
        | inl none ↦ rw none (sym (changed_more (change key) m held (omega arith)))
        | inr more ↦ sym (changed_more (change key) n (changed_times (change key) m held) (omega arith) ∙ ap (change key) (changed_more (change key) m held (omega arith))
            ∙ once key held)
      ]
    ]

-- one child more has changed
pub changing_on : (change : ℕ → Held → Held) → IsOnce change → (tree kids : Forest Row) (start : ℕ → Held) (kid : ℕ) (old new : ℕ → Held) (next : Option ℕ)
    → ChangingWalk change tree kids start (Some kid) old
    → ((key : ℕ) → new key ≡ changed_times (change key) (count_of_key key (first_tree (part_from kid tree))) (old key))
    → rest_from next tree ≡ later_siblings (part_from kid tree)
    → IfSome next (λ kid. 0 < count_of_key kid tree)
    → ChangingWalk change tree kids start next new
changing_on change once tree kids start kid old new next walked changed part live =
    record {
      walk = walk_on tree kids kid next walked.walk part live;
      rest = λ key.
          ap (λ n. changed_times (change key) n (new key)) (ap (count_of_key key) part)
          ∙ ap (changed_times (change key) (count_of_key key (later_siblings (part_from kid tree)))) (changed key)
          ∙ sym (changed_twice change once key (count_of_key key (first_tree (part_from kid tree))) (count_of_key key (later_siblings (part_from kid tree))) (old key))
          ∙ ap (λ n. changed_times (change key) n (old key)) (sym (count_of_key-parts key (part_from kid tree)))
          ∙ walked.rest key;
    }

-- a view that changed first, and then those below it
own_first : (change : ℕ → Held → Held) → IsOnce change → (row : Row) (kids : Forest Row) (view key : ℕ) (start first : ℕ → Held) → row.key ≡ view
    → first view ≡ change view (start view)
    → ((key : ℕ) → key ≢ view → first key ≡ start key)
    → changed_times (change key) (count_of_key key kids) (first key) ≡ changed_times (change key) (count_of_key key (Branch row kids Nothing)) (start key)
own_first change once row kids view key start first is own others =
    elim (cases_eq row.key key) [
      | inl e ↦
          let at_view : key ≡ view = sym e ∙ is in
          let set : first key ≡ changed_times (change key) 1 (start key) = rw at_view own in
          let all : count_of_key key (Branch row kids Nothing) ≡ 1 + count_of_key key kids = rw (eq-eqb row.key key e) (omega arith) in
          ap (changed_times (change key) (count_of_key key kids)) set ∙ sym (changed_twice change once key 1 (count_of_key key kids) (start key))
          ∙ ap (λ n. changed_times (change key) n (start key)) (sym all)
      | inr ne ↦
          let kept : first key ≡ start key = others key (λ e. ne (is ∙ sym e)) in
          let all : count_of_key key (Branch row kids Nothing) ≡ count_of_key key kids = rw ne_eqb (omega arith) in
          ap (changed_times (change key) (count_of_key key kids)) kept ∙ ap (λ n. changed_times (change key) n (start key)) (sym all)
    ]

-- all children have changed
pub changing_end : (change : ℕ → Held → Held) → IsOnce change → (tree : Forest Row) (view : ℕ) (start first now : ℕ → Held) → 0 < count_of_key view tree
    → ChangingWalk change tree (children_of_first (part_from view tree)) first None now
    → first view ≡ change view (start view)
    → ((key : ℕ) → key ≢ view → first key ≡ start key)
    → (key : ℕ) → now key ≡ changed_times (change key) (count_of_key key (first_tree (part_from view tree))) (start key)
changing_end change once tree view start first now live walked own others key =
    let f = located view tree live in
    let rest : now key ≡ changed_times (change key) (count_of_key key f.kids) (first key) = rw f.is at (walked.rest key) in
    rest ∙ own_first change once f.row f.kids view key start first f.key_is own others ∙ rw f.is
