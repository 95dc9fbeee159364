-- The children of a list by their places.
use Rattle.std.proofs.Common.{◌≡◌, ◌≢◌, ℕ, zero, suc, ◌+◌, ◌<◌, ◌≤◌, List, length, get_or, arith, sym, refl, subst, inl, inr}
use Rattle.std.proofs.lemmas.Bool.{cases_lt}
use Rattle.kept_views.specs.Kept.{IsSized}
use Rattle.measure_pass.specs.Siblings.{FirstHasEdges, FirstHasSize, first_child}
use Rattle.measure_pass.proofs.held.Parts.{IsSized-along, Sized-along}
use Rattle.view_model.specs.declared.relative.Edges.{Edges}
use Rattle.view_model.specs.Forest.{Forest, Nothing, Branch, count_of}
use Rattle.view_model.specs.Layout.{children_of}
use Rattle.view_model.specs.Measuring.{Specs}
use Rattle.view_model.specs.RelativeCourse.{child_at}
use Rattle.view_tree.specs.Rows.{Row, count_of_key, first_tree, later_siblings, siblings_from, views_of}
use Rattle.view_tree.specs.Views.{Held, KeepsInside, KeepsOutside}
use Rattle.view_tree.proofs.forest.Walks.{KeepsInside-kids, KeepsInside-self, count_of-parts, count_of_key-parts}
use Rattle.view_tree.proofs.forest.Forests.{count_alone}

pub kid_at : (list : Forest Row) (place : ℕ) → child_at (children_of (views_of list)) place ≡ first_child (siblings_from place list)
kid_at Nothing zero = refl
kid_at Nothing (suc place) = kid_at Nothing place
kid_at (Branch row kids siblings) zero = refl
kid_at (Branch row kids siblings) (suc place) = kid_at siblings place

-- what is in the tree of one place is in the list, and in the tree of no other place
pub in_list : (key : ℕ) (list : Forest Row) (place : ℕ) → count_of_key key (first_tree (siblings_from place list)) ≤ count_of_key key list
in_list key list zero = let parts = count_of_key-parts key list in omega arith
in_list key list (suc place) = let parts = count_of_key-parts key list in let rest = in_list key (later_siblings list) place in omega arith

apart_from : (key : ℕ) (list : Forest Row) (place other : ℕ) → place < other
    → count_of_key key (first_tree (siblings_from place list)) + count_of_key key (first_tree (siblings_from other list)) ≤ count_of_key key list
apart_from key list place zero before = absurd (omega arith)
apart_from key list zero (suc other) before =
    let parts = count_of_key-parts key list in
    let rest = in_list key (later_siblings list) other in
    omega arith
apart_from key list (suc place) (suc other) before =
    let parts = count_of_key-parts key list in
    let rest = apart_from key (later_siblings list) place other (omega arith) in
    omega arith

pub apart : (key : ℕ) (list : Forest Row) (place other : ℕ) → place ≢ other → count_of_key key list ≤ 1
    → 0 < count_of_key key (first_tree (siblings_from place list)) → count_of_key key (first_tree (siblings_from other list)) ≡ 0
apart key list place other ne once here = elim (cases_lt place other) [
  | inl lt ↦ let both = apart_from key list place other lt in omega arith
  | inr le ↦ let both = apart_from key list other place (omega arith) in omega arith
]

-- what is kept of the tree of one place stays if that of another is written
pub still_there : (old new : ℕ → Held) (list : Forest Row) (place other : ℕ) → ((key : ℕ) → count_of_key key list ≤ 1) → place ≢ other
    → KeepsOutside old new (first_tree (siblings_from other list)) → KeepsInside old new (first_tree (siblings_from place list))
still_there old new list place other once ne others = λ key here. others key (apart key list place other ne (once key) here)

-- and with it what holds of its view
pub FirstHasEdges-along : (old new : ℕ → Held) (specs : Specs) (edges : Edges) (list : Forest Row) → KeepsInside old new (first_tree list)
    → FirstHasEdges old specs edges list → FirstHasEdges new specs edges list
FirstHasEdges-along old new specs edges Nothing same h = tt
FirstHasEdges-along old new specs edges (Branch row kids siblings) same h = λ here.
    let own = KeepsInside-self old new row kids Nothing same in
    let below = KeepsInside-kids old new row kids Nothing same in
    let was = h here in
    record {
      last = rw own was.last;
      sized = subst (λ (held : Held). IsSized new held row kids) (sym own) (IsSized-along old new (old row.key) row kids below was.sized);
      below = λ whole. Sized-along old new kids below (was.below (rw own at whole));
      sides = rw own was.sides;
    }

pub FirstHasSize-along : (old new : ℕ → Held) (list : Forest Row) → KeepsInside old new (first_tree list) → FirstHasSize old list → FirstHasSize new list
FirstHasSize-along old new Nothing same h = tt
FirstHasSize-along old new (Branch row kids siblings) same h = λ here. rw (KeepsInside-self old new row kids Nothing same) (h here)

-- sizes that are kept of the children of some places, and that of one more
pub sizes_on : (old new : ℕ → Held) (list : Forest Row) (order : List ℕ) (turn : ℕ) → turn < length order
    → ((p q : ℕ) → p < length order → q < length order → get_or order p 0 ≡ get_or order q 0 → p ≡ q)
    → ((key : ℕ) → count_of_key key list ≤ 1) → KeepsOutside old new (first_tree (siblings_from (get_or order turn 0) list))
    → ((q : ℕ) → q < turn → FirstHasSize old (siblings_from (get_or order q 0) list)) → FirstHasSize new (siblings_from (get_or order turn 0) list)
    → (q : ℕ) → q < turn + 1 → FirstHasSize new (siblings_from (get_or order q 0) list)
sizes_on old new list order turn inside distinct once others before here q small = elim (cases_lt q turn) [
  | inl lt ↦
      FirstHasSize-along old new (siblings_from (get_or order q 0) list)
      (still_there old new list (get_or order q 0) (get_or order turn 0) once (λ same. let e : q ≡ turn = distinct q turn (omega arith) inside same in omega arith) others) (before q lt)
  | inr le ↦ let same : turn ≡ q = omega arith in subst (λ q. FirstHasSize new (siblings_from (get_or order q 0) list)) same here
]

pub past_kids : (list : Forest Row) (place : ℕ) → length (children_of (views_of list)) ≤ place → siblings_from place list ≡ Nothing
past_kids Nothing zero past = refl
past_kids Nothing (suc place) past = past_kids Nothing place (omega arith)
past_kids (Branch row kids siblings) zero past = absurd (omega arith)
past_kids (Branch row kids siblings) (suc place) past = past_kids siblings place (omega arith)

pub count_in_list : (list : Forest Row) (place : ℕ) → count_of (first_tree (siblings_from place list)) ≤ count_of list
count_in_list list zero = count_alone list
count_in_list list (suc place) = let parts = count_of-parts list in let rest = count_in_list (later_siblings list) place in omega arith
