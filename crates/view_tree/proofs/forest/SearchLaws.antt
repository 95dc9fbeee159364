-- What a search finds in a tree once it has changed.
use Rattle.std.proofs.Common.{◌≡◌, ◌≢◌, ℕ, ◌+◌, ◌<◌, ◌≤◌, Bool, false, Option, Some, None, refl, sym, ◌∙◌, ap, subst, arith, eqb-true, inl, inr}
use Rattle.std.proofs.lemmas.Bool.{eq-eqb, ne_eqb, cases_eq, cases_Bool}
use Rattle.std.proofs.lemmas.List.Folds.{find-append}
use Rattle.std.specs.Prelude.{◌==◌, if◌then◌else◌, find, nat_eq, IfSome}
use Rattle.std.specs.Option.{option_or}
use Rattle.view_model.specs.Forest.{Forest, Nothing, Branch, joined, rows, or_else}
use Rattle.view_model.specs.PlainTree.{PlainView}
use Rattle.view_model.specs.Layout.{unscrolled}
use Rattle.view_tree.specs.Rows.{Row, count_of_key, count_of_number, part_from, head_view, children_of_first, pruned_at_key, grown_at_key, key_where, leaf, changed_at_key, with_child}
use Rattle.view_tree.proofs.forest.KeyLaws.{Agree, Within, here, in_below, in_after, absent, agreed, from_within, located, zero_or_more}
use Rattle.view_tree.proofs.forest.NumberLaws.{agree-pruned_at_key, cut_absent, agree_times, count_of_key-grown, count_of_key-own_cut, number-grown, count_of_key-leaf_own, number-leaf_own}
use Rattle.view_tree.proofs.forest.AncestorLaws.{left}
use Rattle.view_tree.proofs.forest.PlainLaws.{key_where_absent, key_where_number, option_map-or}
use Rattle.view_tree.proofs.nodes.ChildEdits.{grown_here, grown_there}
use Rattle.view_tree.proofs.nodes.PrunedPart.{cut_here, cut_there}
use Rattle.view_tree.proofs.nodes.ChangedTree.{put_here, put_there}

module _ (passes : PlainView → Bool) where
  -- a search of a tree is one of its parts
  pub search : (row : Row) (kids siblings : Forest Row)
      → key_where passes (Branch row kids siblings) ≡ (if passes row.view then Some row.key else option_or (key_where passes kids) (key_where passes siblings))
  search row kids siblings = elim (cases_Bool (passes row.view)) [
    | inl e ↦ rw e
    | inr e ↦ rw (e, find-append (λ (row : Row). passes row.view) (rows kids) (rows siblings))
        (option_map-or (λ (row : Row). row.key) (find (λ (row : Row). passes row.view) (rows kids)) (find (λ (row : Row). passes row.view) (rows siblings)))
  ]

  -- views that change nothing of what is searched for
  pub search-put : (k : ℕ) (f : PlainView → PlainView) → ((w : PlainView) → passes (f w) ≡ passes w) → (t : Forest Row) → key_where passes (changed_at_key k f t) ≡ key_where passes t
  search-put k f same Nothing = refl
  search-put k f same (Branch row kids siblings) = elim (cases_eq row.key k) [
    | inl e ↦ rw (put_here k f row kids siblings e, search (record row { view = f row.view }) kids siblings, search row kids siblings, same row.view)
    | inr ne ↦ rw (put_there k f row kids siblings ne, search row (changed_at_key k f kids) (changed_at_key k f siblings), search row kids siblings, search-put k f same kids, search-put k f same siblings)
  ]

  search-join : (list new : Forest Row) → key_where passes new ≡ None → key_where passes (joined list new) ≡ key_where passes list
  search-join Nothing new other = other
  search-join (Branch row kids siblings) new other = rw (search row kids (joined siblings new), search row kids siblings, search-join siblings new other)

  -- more views, none of which passes
  pub search-grown : (k : ℕ) (new t : Forest Row) → key_where passes new ≡ None → key_where passes (grown_at_key k new t) ≡ key_where passes t
  search-grown k new Nothing other = refl
  search-grown k new (Branch row kids siblings) other = elim (cases_eq row.key k) [
    | inl e ↦ rw (grown_here k new row kids siblings e, search row (joined kids new) siblings, search row kids siblings, search-join kids new other)
    | inr ne ↦ rw (
      grown_there k new row kids siblings ne,
      search row (grown_at_key k new kids) (grown_at_key k new siblings),
      search row kids siblings,
      search-grown k new kids other,
      search-grown k new siblings other,
    )
  ]

-- a new view is found by its number, and all others as before
new_within : (parent : ℕ) (row : Row) (t : Forest Row) → 0 < count_of_key parent t → Within (Branch row Nothing Nothing) (grown_at_key parent (Branch row Nothing Nothing) t)
new_within parent row Nothing live = absurd (omega arith)
new_within parent row (Branch r kids siblings) live = elim (cases_eq r.key parent) [
  | inl e ↦ rw (grown_here parent (Branch row Nothing Nothing) r kids siblings e) (in_below (last_within kids))
  | inr ne ↦
      let p = left parent r kids siblings ne live in
      rw (grown_there parent (Branch row Nothing Nothing) r kids siblings ne) (elim (zero_or_more (count_of_key parent kids)) [
        | inl z ↦ in_after (new_within parent row siblings (omega arith))
        | inr l ↦ in_below (new_within parent row kids l)
      ])
]
  where
    last_within : (list : Forest Row) → Within (Branch row Nothing Nothing) (joined list (Branch row Nothing Nothing))
    last_within Nothing = here
    last_within (Branch r kids siblings) = in_after (last_within siblings)

search_grown_own : (parent key : ℕ) (view : PlainView) (t : Forest Row) → 0 < count_of_key parent t → count_of_key key t ≡ 0 → ((x : ℕ) → count_of_key x t ≤ 1)
    → count_of_number view.number t ≡ 0
    → key_where (λ (w : PlainView). w.number == view.number) (grown_at_key parent (leaf key view) t) ≡ Some key
search_grown_own parent key view t live unused once earlier =
    let keys = count_of_key-grown key parent (leaf key view) t live (once parent) in
    let numbers = number-grown view.number parent (leaf key view) t live (once parent) in
    let one = count_of_key-leaf_own key view in
    let own = number-leaf_own key view in
    let at : part_from key (grown_at_key parent (leaf key view) t) ≡ leaf key view =
    from_within (record { key = key; view = unscrolled view }) Nothing Nothing (new_within parent _ t live) (omega arith) in
    key_where_number key view.number (grown_at_key parent (leaf key view) t) (omega arith)
    (agreed key view.number (grown_at_key parent (leaf key view) t) (omega arith) (omega arith) (omega arith) (ap (λ (f : Forest Row). (head_view f).number) at))

search_leaf : (key : ℕ) (view : PlainView) (n : ℕ) → key_where (λ (w : PlainView). w.number == n) (leaf key view) ≡ (if nat_eq view.number n then Some key else None)
search_leaf key view n = search (λ (w : PlainView). w.number == n) (record { key = key; view = unscrolled view }) Nothing Nothing

pub search_new : (parent : Option ℕ) (key : ℕ) (view : PlainView) (t : Forest Row) (n : ℕ) → IfSome parent (λ parent. 0 < count_of_key parent t) → (parent ≡ None → t ≡ Nothing)
    → count_of_key key t ≡ 0 → ((x : ℕ) → count_of_key x t ≤ 1) → count_of_number view.number t ≡ 0
    → key_where (λ (w : PlainView). w.number == n) (with_child parent (leaf key view) t) ≡ (if nat_eq view.number n then Some key else key_where (λ (w : PlainView). w.number == n) t)
search_new None key view t n live empty unused once earlier =
    search_leaf key view n ∙ ap (λ o. if nat_eq view.number n then Some key else o) (sym (ap (key_where (λ (w : PlainView). w.number == n)) (empty refl)))
search_new (Some parent) key view t n live empty unused once earlier = elim (cases_eq view.number n) [
  | inl e ↦ rw (eq-eqb view.number n e)
      (subst (λ n. key_where (λ (w : PlainView). w.number == n) (grown_at_key parent (leaf key view) t) ≡ Some key) e (search_grown_own parent key view t live unused once earlier))
  | inr ne ↦ rw (ne_eqb view.number n ne) (search-grown (λ (w : PlainView). w.number == n) parent (leaf key view) t (search_leaf key view n ∙ rw (ne_eqb view.number n ne)))
]

-- a leaf is no longer found, and all others are found as before
other_number : (m n : ℕ) (row : Row) (k : ℕ) → (row.view.number == m) ≡ (row.key == k) → row.key ≡ k → m ≢ n → (row.view.number == n) ≡ false
other_number m n row k agree e apart = ne_eqb row.view.number n (λ same. apart (sym (eqb-true _ _ (agree ∙ eq-eqb row.key k e)) ∙ same))

search-cut_other : (k m n : ℕ) (t : Forest Row) → 0 < count_of_key k t → count_of_key k t ≤ 1 → children_of_first (part_from k t) ≡ Nothing → Agree k m t → m ≢ n
    → key_where (λ (w : PlainView). w.number == n) (pruned_at_key k t) ≡ key_where (λ (w : PlainView). w.number == n) t
search-cut_other k m n Nothing live once leaf agree apart = refl
search-cut_other k m n (Branch row kids siblings) live once leaf agree apart = elim (cases_eq row.key k) [
  | inl e ↦
      let bare : kids ≡ Nothing = rw (eq-eqb row.key k e) at leaf in
      rw (cut_here k row kids siblings e, search (λ (w : PlainView). w.number == n) row kids siblings, other_number m n row k agree.0 e apart, bare)
  | inr ne ↦
      let p = left k row kids siblings ne live in
      let few = own_less row kids siblings k in
      elim (zero_or_more (count_of_key k kids)) [
        | inl z ↦
            let leaf' : children_of_first (part_from k siblings) ≡ Nothing = rw (ne_eqb row.key k ne, absent k kids z) at leaf in
            rw (
              cut_there k row kids siblings ne,
              cut_absent k kids z,
              search (λ (w : PlainView). w.number == n) row kids (pruned_at_key k siblings),
              search (λ (w : PlainView). w.number == n) row kids siblings,
              search-cut_other k m n siblings (omega arith) (omega arith) leaf' agree.2 apart,
            )
        | inr l ↦
            let f = located k kids l in
            let leaf0 : children_of_first (or_else (part_from k kids) (part_from k siblings)) ≡ Nothing = rw (ne_eqb row.key k ne) at leaf in
            let leaf1 : f.kids ≡ Nothing = rw f.is at leaf0 in
            let z : count_of_key k siblings ≡ 0 = omega arith in
            rw (
              cut_there k row kids siblings ne,
              cut_absent k siblings z,
              search (λ (w : PlainView). w.number == n) row (pruned_at_key k kids) siblings,
              search (λ (w : PlainView). w.number == n) row kids siblings,
              search-cut_other k m n kids l (omega arith) (rw f.is leaf1) agree.1 apart,
            )
      ]
]
  where
    own_less : (row : Row) (kids siblings : Forest Row) (k : ℕ) → count_of_key k kids + count_of_key k siblings ≤ count_of_key k (Branch row kids siblings)
    own_less row kids siblings k = omega arith

pub search-pruned_at_key : (k m n : ℕ) (t : Forest Row) → 0 < count_of_key k t → count_of_key k t ≤ 1 → children_of_first (part_from k t) ≡ Nothing → Agree k m t
    → key_where (λ (w : PlainView). w.number == n) (pruned_at_key k t) ≡ (if nat_eq m n then None else key_where (λ (w : PlainView). w.number == n) t)
search-pruned_at_key k m n t live once leaf agree = elim (cases_eq m n) [
  | inl e ↦ rw (eq-eqb m n e)
      (key_where_absent n (pruned_at_key k t) (subst (λ n. count_of_number n (pruned_at_key k t) ≡ 0) e (agree_times k m (pruned_at_key k t) (agree-pruned_at_key k m k t agree) ∙ count_of_key-own_cut k t once)))
  | inr ne ↦ rw (ne_eqb m n ne) (search-cut_other k m n t live once leaf agree ne)
]
