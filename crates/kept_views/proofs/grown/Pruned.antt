-- Removing a view keeps what is kept, except at and above its parent.
use Rattle.std.proofs.Common.{◌≡◌, ℕ, ◌<◌, ◌≤◌, ◌==◌, ◌⊎◌, true, false, List, [], ◌∷◌, arith, eqb-true, ap, ◌∙◌, sym, refl, subst, inl, inr}
use Rattle.std.proofs.lemmas.Bool.{cases_eq, eq-eqb, ne_eqb}
use Rattle.view_model.specs.Forest.{Forest, Nothing, Branch}
use Rattle.view_tree.proofs.forest.KeyLaws.{own_more}
use Rattle.view_tree.specs.Rows.{Row, around, count_of_key, first_tree, later_siblings, part_from, pruned_at_key}
use Rattle.view_tree.proofs.forest.AncestorLaws.{around_after, around_below, around_here, left}
use Rattle.view_tree.proofs.forest.NumberLaws.{count_of_key-pruned_at_key, cut_absent}
use Rattle.view_tree.specs.Views.{Held}
use Rattle.kept_views.specs.Kept.{Around, Kept}
use Rattle.kept_views.proofs.edits.EditParts.{at_absent}
use Rattle.kept_views.proofs.KeptFrames.{Kept-along, Kept-weak, Same}
use Rattle.kept_views.proofs.edits.Paths.{more_than}
use Rattle.kept_views.proofs.edits.Replaced.{Apart, At, Kept-replaced, replaced}

-- a view is among the outermost of a list
abbrev pub Top : ℕ → Forest Row → Type 0
Top view Nothing = ⊥
Top view (Branch row kids siblings) = (row.key ≡ view) ⊎ Top view siblings

-- a view of the list has another as its child
abbrev pub HasChild : ℕ → ℕ → Forest Row → Type 0
HasChild parent view Nothing = ⊥
HasChild parent view (Branch row kids siblings) = ((row.key ≡ parent) × Top view kids) ⊎ (HasChild parent view kids ⊎ HasChild parent view siblings)

top_live : (view : ℕ) (list : Forest Row) → Top view list → 0 < count_of_key view list
top_live view Nothing t = absurd t
top_live view (Branch row kids siblings) (inl e) = let m = own_more row kids siblings view e in omega arith
top_live view (Branch row kids siblings) (inr t) = let m = top_live view siblings t in omega arith

child_live : (parent view : ℕ) (list : Forest Row) → HasChild parent view list → 0 < count_of_key view list
child_live parent view Nothing h = absurd h
child_live parent view (Branch row kids siblings) (inl h) = let m = top_live view kids h.1 in omega arith
child_live parent view (Branch row kids siblings) (inr (inl h)) = let m = child_live parent view kids h in omega arith
child_live parent view (Branch row kids siblings) (inr (inr h)) = let m = child_live parent view siblings h in omega arith

pub parent_live : (parent view : ℕ) (list : Forest Row) → HasChild parent view list → 0 < count_of_key parent list
parent_live parent view Nothing h = absurd h
parent_live parent view (Branch row kids siblings) (inl h) = let m = own_more row kids siblings parent h.0 in omega arith
parent_live parent view (Branch row kids siblings) (inr (inl h)) = let m = parent_live parent view kids h in omega arith
parent_live parent view (Branch row kids siblings) (inr (inr h)) = let m = parent_live parent view siblings h in omega arith

-- the nearest view around another has it as its child
record Parent (view : ℕ) (acc : List ℕ) (list : Forest Row) : Type 0 where
  pub key : ℕ
  pub others : List ℕ
  pub is : around acc view list ≡ key ∷ others
  pub has : HasChild key view list

record HasNoneAround (view : ℕ) (acc : List ℕ) (list : Forest Row) : Type 0 where
  pub is : around acc view list ≡ acc
  pub top : Top view list

parent_or_top : (view : ℕ) (acc : List ℕ) (list : Forest Row) → 0 < count_of_key view list → HasNoneAround view acc list ⊎ Parent view acc list
parent_or_top view acc Nothing live = absurd (omega arith)
parent_or_top view acc (Branch row kids siblings) live = elim (cases_eq row.key view) [
  | inl e ↦ inl (record { is = around_here acc view row kids siblings e; top = inl e })
  | inr ne ↦ elim (cases_eq (count_of_key view kids) 0) [
    | inl z ↦
        let path = around_after acc view row kids siblings ne z in
        let p = left view row kids siblings ne live in
        elim (parent_or_top view acc siblings (omega arith)) [
          | inl t ↦ inl (record { is = path ∙ t.is; top = inr t.top })
          | inr h ↦ inr (record { key = h.key; others = h.others; is = path ∙ h.is; has = inr (inr h.has) })
        ]
    | inr nz ↦
        let path = around_below acc view row kids siblings ne nz in
        elim (parent_or_top view (row.key ∷ acc) kids (more_than _ nz)) [
          | inl t ↦ inr (record { key = row.key; others = acc; is = path ∙ t.is; has = inl (refl, t.top) })
          | inr h ↦ inr (record { key = h.key; others = h.others; is = path ∙ h.is; has = inr (inl h.has) })
        ]
  ]
]

abbrev first_of_keys : ℕ → List ℕ → ℕ
first_of_keys other [] = other
first_of_keys other (key ∷ keys) = key

-- without its root a tree is empty
pub root_pruned : (view : ℕ) (tree : Forest Row) → 0 < count_of_key view tree → later_siblings tree ≡ Nothing → around [] view tree ≡ [] → pruned_at_key view tree ≡ Nothing
root_pruned view Nothing live none is = refl
root_pruned view (Branch row kids siblings) live none is = elim (parent_or_top view [] (Branch row kids siblings) live) [
  | inl t ↦ top_root t.top
  | inr h ↦ absurd (let no : [] ≡ h.key ∷ h.others = sym is ∙ h.is in cc)
]
  where
    top_root : (row.key ≡ view) ⊎ Top view siblings → pruned_at_key view (Branch row kids siblings) ≡ Nothing
    top_root (inl e) = rw (eq-eqb row.key view e) none
    top_root (inr t) = absurd (let no : Top view Nothing = subst (λ list. Top view list) none t in no)

pub has_child : (parent view : ℕ) (others : List ℕ) (tree : Forest Row) → 0 < count_of_key view tree → around [] view tree ≡ parent ∷ others → HasChild parent view tree
has_child parent view others tree live is = elim (parent_or_top view [] tree live) [
  | inl t ↦ absurd (let no : [] ≡ parent ∷ others = sym t.is ∙ is in cc)
  | inr h ↦ subst (λ key. HasChild key view tree) (ap (first_of_keys 0) (sym h.is ∙ is)) h.has
]

abbrev pub same_row : Row → Row
same_row row = row

pub same_key : (row : Row) → (same_row row).key ≡ row.key
same_key row = refl

replaced_absent : (key : ℕ) (f : Row → Row) (g : Forest Row → Forest Row) (list : Forest Row) → count_of_key key list ≡ 0 → replaced key f g list ≡ list
replaced_absent key f g Nothing z = refl
replaced_absent key f g (Branch row kids siblings) z =
    let ne : row.key ≡ key → ⊥ = λ e. let m = own_more row kids siblings key e in absurd (omega arith) in
    let a = replaced_absent key f g kids (omega arith) in
    let b = replaced_absent key f g siblings (omega arith) in
    rw (ne_eqb row.key key ne, a, b) refl

-- the children of the parent lose the view, and nothing else changes
pub pruned_is : (parent view : ℕ) (list : Forest Row) → ((key : ℕ) → count_of_key key list ≤ 1) → HasChild parent view list
    → pruned_at_key view list ≡ replaced parent same_row (pruned_at_key view) list
pruned_is parent view Nothing once h = refl
pruned_is parent view (Branch row kids siblings) once (inl h) =
    let live = top_live view kids h.1 in
    let o = once view in
    let ne : row.key ≡ view → ⊥ = λ e. let m = own_more row kids siblings view e in absurd (omega arith) in
    let rest = cut_absent view siblings (omega arith) in
    rw (ne_eqb row.key view ne, eq-eqb row.key parent h.0, rest) refl
pruned_is parent view (Branch row kids siblings) once (inr (inl h)) =
    let live = child_live parent view kids h in
    let there = parent_live parent view kids h in
    let o = once view in
    let p = once parent in
    let ne : row.key ≡ view → ⊥ = λ e. let m = own_more row kids siblings view e in absurd (omega arith) in
    let np : row.key ≡ parent → ⊥ = λ e. let m = own_more row kids siblings parent e in absurd (omega arith) in
    let own = pruned_is parent view kids (λ key. let o = once key in omega arith) h in
    let rest = cut_absent view siblings (omega arith) in
    let rest' = replaced_absent parent same_row (pruned_at_key view) siblings (omega arith) in
    rw (ne_eqb row.key view ne, ne_eqb row.key parent np, rest, rest', own) refl
pruned_is parent view (Branch row kids siblings) once (inr (inr h)) =
    let live = child_live parent view siblings h in
    let there = parent_live parent view siblings h in
    let o = once view in
    let p = once parent in
    let ne : row.key ≡ view → ⊥ = λ e. let m = own_more row kids siblings view e in absurd (omega arith) in
    let np : row.key ≡ parent → ⊥ = λ e. let m = own_more row kids siblings parent e in absurd (omega arith) in
    let own = pruned_is parent view siblings (λ key. let o = once key in omega arith) h in
    let rest = cut_absent view kids (omega arith) in
    let rest' = replaced_absent parent same_row (pruned_at_key view) kids (omega arith) in
    rw (ne_eqb row.key view ne, ne_eqb row.key parent np, rest, rest', own) refl

-- a list without one of its outermost views
kept_dropped : (keys : List ℕ) (held : ℕ → Held) (up : Around) (view : ℕ) (list : Forest Row) → ((key : ℕ) → count_of_key key list ≤ 1) → Top view list
    → Kept keys held up list → Kept keys held up (pruned_at_key view list)
kept_dropped keys held up view Nothing once t k = tt
kept_dropped keys held up view (Branch row kids siblings) once t k = elim (cases_eq row.key view) [
  | inl e ↦ rw (eq-eqb row.key view e) k.3
  | inr ne ↦
      let top = later t ne in
      let live = top_live view siblings top in
      let o = once view in
      let same = cut_absent view kids (omega arith) in
      let is : pruned_at_key view (Branch row kids siblings) ≡ Branch row kids (pruned_at_key view siblings) = rw (ne_eqb row.key view ne, same) refl in
      rw is (k.0, k.1, k.2, kept_dropped keys held up view siblings (λ key. let o = once key in omega arith) top k.3)
]
  where
    later : (row.key ≡ view) ⊎ Top view siblings → (row.key ≡ view → ⊥) → Top view siblings
    later (inl e) ne = absurd (ne e)
    later (inr t) ne = t

pub apart_same : (key : ℕ) (held : ℕ → Held) (list : Forest Row) → Apart key held held list
apart_same key held Nothing = tt
apart_same key held (Branch row kids siblings) = (λ e other here. refl, λ e. (refl, apart_same key held kids, apart_same key held siblings))

at_parent : (parent view : ℕ) (held : ℕ → Held) (keys : List ℕ) (list : Forest Row) → ((key : ℕ) → count_of_key key list ≤ 1) → HasChild parent view list
    → At parent same_row (pruned_at_key view) same_key held held keys list
at_parent parent view held keys Nothing once h = tt
at_parent parent view held keys (Branch row kids siblings) once (inl h) = (
  λ e up hid kept. record {
    hidden = hid;
    kept = Kept-weak parent keys held _ (pruned_at_key view kids) (kept_dropped keys held _ view kids (λ key. let o = once key in omega arith) h.1 kept);
  },
  λ ne. let no : (row.key == parent) ≡ true = eq-eqb row.key parent h.0 in absurd (let n : true ≡ false = sym no ∙ ne in cc),
)
at_parent parent view held keys (Branch row kids siblings) once (inr (inl h)) = (
  λ e. let there = parent_live parent view kids h in let p = once parent in let m = own_more row kids siblings parent (eqb-true row.key parent e) in absurd (omega arith),
  λ ne. let there = parent_live parent view kids h in let p = once parent in (
    at_parent parent view held keys kids (λ key. let o = once key in omega arith) h,
    at_absent parent same_row (pruned_at_key view) same_key held held keys siblings (omega arith),
  ),
)
at_parent parent view held keys (Branch row kids siblings) once (inr (inr h)) = (
  λ e. let there = parent_live parent view siblings h in let p = once parent in let m = own_more row kids siblings parent (eqb-true row.key parent e) in absurd (omega arith),
  λ ne. let there = parent_live parent view siblings h in let p = once parent in (
    at_absent parent same_row (pruned_at_key view) same_key held held keys kids (omega arith),
    at_parent parent view held keys siblings (λ key. let o = once key in omega arith) h,
  ),
)

pub Kept_prune : (parent view : ℕ) (keys : List ℕ) (old new : ℕ → Held) (up : Around) (tree : Forest Row) → ((key : ℕ) → count_of_key key tree ≤ 1) → HasChild parent view tree
    → ((key : ℕ) → count_of_key key (first_tree (part_from view tree)) ≡ 0 → new key ≡ old key)
    → Kept keys old up tree → Kept (parent ∷ keys) new up (pruned_at_key view tree)
Kept_prune parent view keys old new up tree once h others k =
    let is = pruned_is parent view tree once h in
    let same : Same old new (pruned_at_key view tree) = λ key here. others key (let all = count_of_key-pruned_at_key key view tree (once view) in let o = once key in omega arith) in
    Kept-along (parent ∷ keys) old new up (pruned_at_key view tree) same
    (rw is (Kept-replaced parent same_row (pruned_at_key view) same_key old old keys up tree (apart_same parent old tree) (at_parent parent view old keys tree once h) k))
