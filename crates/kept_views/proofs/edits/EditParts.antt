-- An edit of a view as it is seen along a tree: the view and what is below it, and everything else.
use Rattle.std.proofs.Common.{◌≡◌, ℕ, ◌+◌, ◌<◌, ◌≤◌, ◌==◌, true, false, List, arith, ap, ◌∙◌, sym, refl, subst, inl, inr}
use Rattle.std.specs.Prelude.{if◌then◌else◌}
use Rattle.view_model.specs.Forest.{Forest, Nothing, Branch, or_else}
use Rattle.view_tree.specs.Rows.{Row, children_of_first, count_of_key, first_tree, part_from}
use Rattle.view_tree.proofs.forest.KeyLaws.{absent, or_else_live, own_more, times_self, zero_or_more}
use Rattle.view_tree.proofs.forest.NumberLaws.{sum-first_tree, sum-or_else, sum-part_from}
use Rattle.view_tree.specs.Views.{Held}
use Rattle.kept_views.proofs.edits.Replaced.{Apart, At, Becomes}

count-first : (other : ℕ) (list : Forest Row) → count_of_key other (first_tree list) ≤ count_of_key other list
count-first other list = let s = sum-first_tree (λ (row : Row). if row.key == other then 1 else 0) list in omega arith

count-part : (other key : ℕ) (list : Forest Row) → count_of_key other (part_from key list) ≤ count_of_key other list
count-part other key list = sum-part_from (λ (row : Row). if row.key == other then 1 else 0) key list

count-either : (other : ℕ) (first second : Forest Row) → count_of_key other (or_else first second) ≤ count_of_key other first + count_of_key other second
count-either other first second = sum-or_else (λ (row : Row). if row.key == other then 1 else 0) first second

-- what is kept with the views outside of a part is the same
abbrev pub SameBut : ℕ → (ℕ → Held) → (ℕ → Held) → Forest Row → Type 0
SameBut key old new list = (other : ℕ) → 0 < count_of_key other list → count_of_key other (first_tree (part_from key list)) ≡ 0 → new other ≡ old other

pub apart_part : (key : ℕ) (old new : ℕ → Held) (list : Forest Row) → ((other : ℕ) → count_of_key other list ≤ 1) → SameBut key old new list → Apart key old new list
apart_part key old new Nothing once same = tt
apart_part key old new (Branch row kids siblings) once same = (
  λ e. λ other here.
      let part : part_from key (Branch row kids siblings) ≡ Branch row kids siblings = rw e refl in
      let none : count_of_key other (Branch row kids Nothing) ≡ 0 = let o = once other in omega arith in
      same other (omega arith) (rw part none),
  λ ne.
      let part : part_from key (Branch row kids siblings) ≡ or_else (part_from key kids) (part_from key siblings) = rw ne refl in (
        same row.key (times_self row kids siblings) (rw part own),
        apart_part key old new kids (λ other. let o = once other in omega arith) (λ other here z. same other (omega arith) (rw part (in_kids other here z))),
        apart_part key old new siblings (λ other. let o = once other in omega arith) (λ other here z. same other (omega arith) (rw part (in_siblings other here z))),
      ),
)
  where
    own : count_of_key row.key (first_tree (or_else (part_from key kids) (part_from key siblings))) ≡ 0
    own =
        let a = count-first row.key (or_else (part_from key kids) (part_from key siblings)) in
        let b = count-either row.key (part_from key kids) (part_from key siblings) in
        let c = count-part row.key key kids in
        let d = count-part row.key key siblings in
        let m = own_more row kids siblings row.key refl in
        let o = once row.key in
        omega arith

    in_kids : (other : ℕ) → 0 < count_of_key other kids → count_of_key other (first_tree (part_from key kids)) ≡ 0
        → count_of_key other (first_tree (or_else (part_from key kids) (part_from key siblings))) ≡ 0
    in_kids other here z = elim (zero_or_more (count_of_key key kids)) [
      | inl none ↦
          let a = count-first other (part_from key siblings) in
          let b = count-part other key siblings in
          let o = once other in
          rw (absent key kids none) (omega arith)
      | inr live ↦ rw (or_else_live key kids (part_from key siblings) live) z
    ]

    in_siblings : (other : ℕ) → 0 < count_of_key other siblings → count_of_key other (first_tree (part_from key siblings)) ≡ 0
        → count_of_key other (first_tree (or_else (part_from key kids) (part_from key siblings))) ≡ 0
    in_siblings other here z = elim (zero_or_more (count_of_key key kids)) [
      | inl none ↦ rw (absent key kids none) z
      | inr live ↦
          let a = count-first other (part_from key kids) in
          let b = count-part other key kids in
          let o = once other in
          rw (or_else_live key kids (part_from key siblings) live) (omega arith)
    ]

abbrev head_row : Row → Forest Row → Row
head_row other Nothing = other
head_row other (Branch row kids siblings) = row

module _ (key : ℕ) (f : Row → Row) (g : Forest Row → Forest Row) (f_key : (row : Row) → (f row).key ≡ row.key) (old new : ℕ → Held) (keys : List ℕ) where
  pub at_absent : (list : Forest Row) → count_of_key key list ≡ 0 → At key f g f_key old new keys list
  at_absent Nothing z = tt
  at_absent (Branch row kids siblings) z = (
    λ e. let no = rw e at z in absurd (omega arith),
    λ e. (at_absent kids (omega arith), at_absent siblings (omega arith)),
  )

  pub at_part : (list : Forest Row) → count_of_key key list ≤ 1 → (row : Row) (kids siblings : Forest Row) → part_from key list ≡ Branch row kids siblings → Becomes key f g f_key old new keys row kids
      → At key f g f_key old new keys list
  at_part Nothing once row kids siblings is b = tt
  at_part (Branch r k s) once row kids siblings is b = (
    λ e.
        let both : Branch r k s ≡ Branch row kids siblings = sym (here e) ∙ is in
        let same_row : row ≡ r = sym (ap (head_row r) both) in
        let same_kids : kids ≡ k = sym (ap children_of_first both) in
        subst (λ kids. Becomes key f g f_key old new keys r kids) same_kids (subst (λ row. Becomes key f g f_key old new keys row kids) same_row b),
    λ ne.
        let part : or_else (part_from key k) (part_from key s) ≡ Branch row kids siblings = sym (there ne) ∙ is in
        elim (zero_or_more (count_of_key key k)) [
          | inl none ↦
              let rest : part_from key s ≡ Branch row kids siblings = sym (ap (λ list. or_else list (part_from key s)) (absent key k none)) ∙ part in
              (at_absent k none, at_part s (omega arith) row kids siblings rest b)
          | inr live ↦
              let own : part_from key k ≡ Branch row kids siblings = sym (or_else_live key k (part_from key s) live) ∙ part in
              (at_part k (omega arith) row kids siblings own b, at_absent s (omega arith))
        ],
  )
    where
      here : (r.key == key) ≡ true → part_from key (Branch r k s) ≡ Branch r k s
      here e = rw e refl

      there : (r.key == key) ≡ false → part_from key (Branch r k s) ≡ or_else (part_from key k) (part_from key s)
      there e = rw e refl
