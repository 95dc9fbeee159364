-- What is left of the kept orders while the children of a view are removed, one after another, and then the view
-- itself.
use Rattle.std.proofs.Common.{◌≡◌, ◌≢◌, ◌⊎◌, ℕ, ◌<◌, ◌≤◌, true, List, [], ◌∷◌, Option, Some, None, refl, sym, ◌∙◌, ap, subst, arith, inl, inr}
use Rattle.std.proofs.lemmas.Bool.{cases_Bool, cases_eq, eq-eqb, ne_eqb}
use Rattle.std.specs.Map.{lookup}
use Rattle.std.specs.Option.{unwrap_or}
use Rattle.std.specs.Prelude.{◌==◌, if◌then◌else◌, nat_eq, slice_get}
use Rattle.view_model.specs.Classes.{is_relative}
use Rattle.view_model.specs.Cycles.{numbers_in}
use Rattle.view_model.specs.Forest.{Forest, Nothing, Branch, or_else}
use Rattle.view_model.specs.PlainTree.{PlainView}
use Rattle.view_tree.specs.tree.Detached.{AreLowered, Detached, parent_of, place_below}
use Rattle.sibling_orders.specs.Ordering.{no_orders, place_in}
use Rattle.view_tree.specs.Rows.{Row, ancestors, around, children_of_first, count_of_key, count_of_number, first_tree, head_view, part_from, pruned_at_key, views_of}
use Rattle.view_tree.specs.Views.{IsLive, IsTree, Views, class_of, group_number, number_of, orders_of, orders_under}
use Rattle.view_tree.proofs.calls.EmptyingLaws.{f, from_is, g, gone, kids, step}
use Rattle.view_tree.proofs.forest.AncestorLaws.{around_after, around_below, around_here, left}
use Rattle.view_tree.proofs.forest.DepthLaws.{ancestors-pruned_at_key}
use Rattle.view_tree.proofs.forest.Forests.{some_is}
use Rattle.view_tree.proofs.forest.KeyLaws.{Located, Within, absent, count_of_key-within, from_within, here, in_after, in_below, located, number_self, or_else_live, times_self, zero_or_more, own_more}
use Rattle.view_tree.proofs.forest.NumberLaws.{agree_times, count_of_key-cut_le, count_of_key-own_part, sum-first_tree, sum-part_from}
use Rattle.view_tree.proofs.forest.PlainLaws.{agree_live}
use Rattle.view_tree.proofs.nodes.ChildEdits.{edit_absent, edit_here, edit_kids, edit_there}
use Rattle.view_tree.proofs.orders.RowLaws.{agree_within, group_number-is}

-- how often a key occurs in the tree of a view, at most as often as around it
part_less : (x k : ℕ) (tree : Forest Row) → count_of_key x (first_tree (part_from k tree)) ≤ count_of_key x tree
part_less x k tree =
    let has : Row → ℕ = λ (row : Row). if row.key == x then 1 else 0 in
    let one = sum-first_tree has (part_from k tree) in
    let all = sum-part_from has k tree in
    omega arith

-- an edit of the children of a view does not move a view that is not below it
edit_within : (k : ℕ) (change : Forest Row → Forest Row) (row : Row) (below after : Forest Row) {tree : Forest Row} → Within (Branch row below after) tree → row.key ≢ k → count_of_key k tree ≤ 1
    → count_of_key row.key (first_tree (part_from k tree)) ≡ 0 → Within (Branch row (edit_kids k change below) (edit_kids k change after)) (edit_kids k change tree)
edit_within k change row below after here ne once out = rw (edit_there k change row below after ne) here
edit_within k change row below after (in_below {row = r} {kids = b} {siblings = a} w) ne once out = elim (cases_eq r.key k) [
  | inl is ↦
      let own : count_of_key row.key (Branch r b Nothing) ≡ 0 = rw (eq-eqb r.key k is) at out in
      let there = count_of_key-within row.key w in
      absurd (omega (arith, times_self row below after))
  | inr isnt ↦
      let out : count_of_key row.key (first_tree (or_else (part_from k b) (part_from k a))) ≡ 0 = rw (ne_eqb r.key k isnt) at out in
      let lower : count_of_key row.key (first_tree (part_from k b)) ≡ 0 = elim (zero_or_more (count_of_key k b)) [
        | inl none ↦ rw (absent k b none) refl
        | inr some ↦ rw (or_else_live k b (part_from k a) some) at out
      ] in
      rw (edit_there k change r b a isnt) (in_below (edit_within k change row below after w ne (omega arith) lower))
]
edit_within k change row below after (in_after {row = r} {kids = b} {siblings = a} w) ne once out = elim (cases_eq r.key k) [
  | inl is ↦
      let own = own_more r b a k is in
      let inner = count_of_key-within k w in
      let none : count_of_key k below ≡ 0 = omega arith in
      let later : count_of_key k after ≡ 0 = omega arith in
      rw (edit_here k change r b a is, edit_absent k change below none, edit_absent k change after later) (in_after w)
  | inr isnt ↦
      let out : count_of_key row.key (first_tree (or_else (part_from k b) (part_from k a))) ≡ 0 = rw (ne_eqb r.key k isnt) at out in
      let lower : count_of_key row.key (first_tree (part_from k a)) ≡ 0 = elim (zero_or_more (count_of_key k b)) [
        | inl none ↦ rw (absent k b none) at out
        | inr some ↦ rw (absent k a (let o = once in omega arith)) refl
      ] in
      rw (edit_there k change r b a isnt) (in_after (edit_within k change row below after w ne (omega arith) lower))
]

numbers-edit : (k : ℕ) (change : Forest Row → Forest Row) (list : Forest Row) → numbers_in (views_of (edit_kids k change list)) ≡ numbers_in (views_of list)
numbers-edit k change Nothing = refl
numbers-edit k change (Branch row below after) = elim (cases_Bool (row.key == k)) [
  | inl e ↦ rw e refl
  | inr e ↦ rw e (ap (λ rest. row.view.number ∷ rest) (numbers-edit k change after))
]

-- a view and the numbers of its children are as they were
pub record SameSlot (key : ℕ) (old new : Forest Row) : Type 0 where
  pub live : 0 < count_of_key key new
  pub head : head_view (part_from key new) ≡ head_view (part_from key old)
  pub numbers : numbers_in (views_of (children_of_first (part_from key new))) ≡ numbers_in (views_of (children_of_first (part_from key old)))

slot-edit : (k key : ℕ) (change : Forest Row → Forest Row) (tree : Forest Row) → ((x : ℕ) → count_of_key x tree ≤ 1) → 0 < count_of_key k tree → 0 < count_of_key key tree
    → count_of_key key (first_tree (part_from k tree)) ≡ 0 → count_of_key key (edit_kids k change tree) ≤ 1 → SameSlot key tree (edit_kids k change tree)
slot-edit k key change tree once own live out still =
    let at = located key tree live in
    let ne : at.row.key ≢ k = λ same.
    let there = count_of_key-own_part k tree own in
    let none : count_of_key k (first_tree (part_from k tree)) ≡ 0 = subst (λ x. count_of_key x (first_tree (part_from k tree)) ≡ 0) (sym at.key_is ∙ same) out in
    absurd (omega arith) in
    let moved = edit_within k change at.row at.kids at.siblings at.within ne (once k) (subst (λ x. count_of_key x (first_tree (part_from k tree)) ≡ 0) (sym at.key_is) out) in
    let part : part_from key (edit_kids k change tree) ≡ Branch at.row (edit_kids k change at.kids) (edit_kids k change at.siblings) =
    ap (λ x. part_from x (edit_kids k change tree)) (sym at.key_is)
    ∙ from_within at.row (edit_kids k change at.kids) (edit_kids k change at.siblings) moved (subst (λ x. count_of_key x (edit_kids k change tree) ≤ 1) (sym at.key_is) still) in
    record {
      live = subst (λ x. 0 < count_of_key x (edit_kids k change tree)) at.key_is
          (let there = count_of_key-within at.row.key moved in omega (arith, times_self at.row (edit_kids k change at.kids) (edit_kids k change at.siblings)));
      head = ap head_view part ∙ ap head_view (sym at.is);
      numbers = ap (λ part. numbers_in (views_of (children_of_first part))) part ∙ numbers-edit k change at.kids ∙ ap (λ part. numbers_in (views_of (children_of_first part))) (sym at.is);
    }

-- the first view around a first child is its parent
child_above : (row first : Row) (below after siblings : Forest Row) (outer : List ℕ) {tree : Forest Row} → Within (Branch row (Branch first below after) siblings) tree → count_of_key first.key tree ≤ 1
    → slice_get (around outer first.key tree) 0 ≡ Some row.key
child_above row first below after siblings outer here once =
    let own = times_self first below after in
    let ne : row.key ≡ first.key → ⊥ = λ same. let more = own_more row (Branch first below after) siblings first.key same in absurd (omega arith) in
    let some : count_of_key first.key (Branch first below after) ≡ 0 → ⊥ = λ none. absurd (omega arith) in
    rw (around_below outer first.key row (Branch first below after) siblings ne some, around_here (row.key ∷ outer) first.key first below after refl) refl
child_above row first below after siblings outer (in_below {row = r} {kids = b} {siblings = a} w) once =
    let own = times_self first below after in
    let inner = count_of_key-within first.key w in
    let ne : r.key ≡ first.key → ⊥ = λ same. let more = own_more r b a first.key same in absurd (omega arith) in
    let some : count_of_key first.key b ≡ 0 → ⊥ = λ none. absurd (omega arith) in
    rw (around_below outer first.key r b a ne some) (child_above row first below after siblings (r.key ∷ outer) w (omega arith))
child_above row first below after siblings outer (in_after {row = r} {kids = b} {siblings = a} w) once =
    let own = times_self first below after in
    let inner = count_of_key-within first.key w in
    let ne : r.key ≡ first.key → ⊥ = λ same. let more = own_more r b a first.key same in absurd (omega arith) in
    let none : count_of_key first.key b ≡ 0 = omega arith in
    rw (around_after outer first.key r b a ne none) (child_above row first below after siblings outer w (omega arith))

-- the first view around another is not below that
above_outside : (outer : List ℕ) (k x : ℕ) (tree : Forest Row) → ((x : ℕ) → count_of_key x tree ≤ 1) → 0 < count_of_key k tree → slice_get (around outer k tree) 0 ≡ Some x
    → (slice_get outer 0 ≡ Some x) ⊎ ((0 < count_of_key x tree) × (count_of_key x (first_tree (part_from k tree)) ≡ 0))
above_outside outer k x Nothing once live is = absurd (omega arith)
above_outside outer k x (Branch row below after) once live is = elim (cases_eq row.key k) [
  | inl own ↦ inl (rw (around_here outer k row below after own) at is)
  | inr ne ↦
      let some = left k row below after ne live in
      let less = λ (y : ℕ). once y in
      elim (cases_eq (count_of_key k below) 0) [
        | inl none ↦
            let later : slice_get (around outer k after) 0 ≡ Some x = rw (around_after outer k row below after ne none) at is in
            elim (above_outside outer k x after (λ y. let o = less y in omega arith) (omega arith) later) [
              | inl out ↦ inl out
              | inr there ↦ inr ((let one = there.0 in omega arith), rw (ne_eqb row.key k ne, absent k below none) there.1)
            ]
        | inr deep ↦
            let lower : slice_get (around (row.key ∷ outer) k below) 0 ≡ Some x = rw (around_below outer k row below after ne deep) at is in
            let more : 0 < count_of_key k below = omega arith in
            elim (above_outside (row.key ∷ outer) k x below (λ y. let o = less y in omega arith) more lower) [
              | inl out ↦
                  let same : row.key ≡ x = some_is out in
                  let own = own_more row below after x same in
                  let o = once x in
                  let inside = part_less x k below in
                  inr ((omega arith), rw (ne_eqb row.key k ne, or_else_live k below (part_from k after) more) (omega arith))
              | inr there ↦ inr ((let one = there.0 in omega arith), rw (ne_eqb row.key k ne, or_else_live k below (part_from k after) more) there.1)
            ]
      ]
]

-- the parent of a view is live and not below it
pub parent_outside : (views : Views) (key parent : ℕ) → IsTree views → IsLive views key → parent_of views key ≡ Some parent
    → (0 < count_of_key parent views.tree) × (count_of_key parent (first_tree (part_from key views.tree)) ≡ 0)
parent_outside views key parent is live reported = elim (above_outside [] key parent views.tree is.keys live reported) [
  | inl none ↦ absurd (let e : None ≡ Some parent = none in cc)
  | inr there ↦ there
]

-- so its number is not below it
pub number_outside : (views : Views) (key other : ℕ) → IsTree views → IsLive views key → IsLive views other → count_of_key other (first_tree (part_from key views.tree)) ≡ 0
    → count_of_number (number_of views other) (first_tree (part_from key views.tree)) ≡ 0
number_outside views key other is live there out =
    let at = located key views.tree live in
    let agree = agree_within other (number_of views other) at.row at.kids at.siblings at.within (agree_live views other is there) in
    let keys : count_of_key other (Branch at.row at.kids Nothing) ≡ 0 = rw at.is at out in
    rw at.is (agree_times other (number_of views other) (Branch at.row at.kids Nothing) (agree.0, agree.1, tt) ∙ keys)

-- and its own number is in its part
pub number_own : (views : Views) (key : ℕ) → IsLive views key → 0 < count_of_number (number_of views key) (first_tree (part_from key views.tree))
number_own views key live =
    let at = located key views.tree live in
    let number : number_of views key ≡ at.row.view.number = ap (λ part. (head_view part).number) at.is in
    subst (λ n. 0 < count_of_number n (first_tree (part_from key views.tree))) (sym number) (rw at.is (number_self at.row at.kids Nothing))

-- what is left while the children of a view are removed
pub record Loosened (start now : Views) (key : ℕ) : Type 0 where
  pub path : ancestors key now.tree ≡ ancestors key start.tree
  pub own : number_of now key ≡ number_of start key
  pub numbers : (number : ℕ) → count_of_number number (first_tree (part_from key now.tree)) ≤ count_of_number number (first_tree (part_from key start.tree))
  pub slots : (other : ℕ) → 0 < count_of_key other start.tree → count_of_key other (first_tree (part_from key start.tree)) ≡ 0 → SameSlot other start.tree now.tree
  pub orders : (number : ℕ) → count_of_number number (first_tree (part_from key start.tree)) ≡ 0 → lookup (nat_eq number) now.orders ≡ lookup (nat_eq number) start.orders

-- one more child is removed
module _ (start now new : Views) (key kid : ℕ) (is : IsTree now) (live : IsLive now key) (there : IsLive now kid) (first : part_from kid now.tree ≡ children_of_first (part_from key now.tree))
    (tree : new.tree ≡ pruned_at_key kid now.tree) (part : (q : ℕ) → count_of_key q (first_tree (part_from key now.tree)) ≤ count_of_key q (first_tree (part_from key start.tree)))
    (cut : Detached now new kid) (before : Loosened start now key) where
  abbrev at : Located key now.tree
  at = f now.tree is.keys key kid live there first

  abbrev low : Located kid now.tree
  low = g now.tree is.keys key kid live there first

  kids_are : at.kids ≡ Branch low.row low.kids low.siblings
  kids_are = kids now.tree is.keys key kid live there first

  part_now : part_from key (pruned_at_key kid now.tree) ≡ Branch at.row low.siblings at.siblings
  part_now = from_is now.tree is.keys key kid live there first

  above : parent_of now kid ≡ Some key
  above =
      ap (λ x. slice_get (ancestors x now.tree) 0) (sym low.key_is)
      ∙ child_above at.row low.row low.kids low.siblings at.siblings [] (subst (λ below. Within (Branch at.row below at.siblings) now.tree) kids_are at.within) (is.keys low.row.key)
      ∙ ap (λ x. Some x) at.key_is

  fewer : (number : ℕ) → count_of_number number (first_tree (part_from key (pruned_at_key kid now.tree))) ≤ count_of_number number (first_tree (part_from key now.tree))
  fewer number = rw (part_now, at.is, kids_are) (omega arith)

  below_kid : (number : ℕ) → count_of_number number (first_tree (part_from kid now.tree)) ≤ count_of_number number (first_tree (part_from key now.tree))
  below_kid number = rw (low.is, at.is, kids_are) (omega arith)

  apart : (number : ℕ) → count_of_number number (first_tree (part_from key start.tree)) ≡ 0 → group_number now (parent_of now kid) ≢ Some number
  apart number none reported =
      let mine : group_number now (Some key) ≡ Some number = ap (group_number now) (sym above) ∙ reported in
      let same : number_of now key ≡ number = (group_number-is now key number mine).1 in
      let less = before.numbers number in
      let some : 0 < count_of_number number (first_tree (part_from key now.tree)) = subst (λ n. 0 < count_of_number n (first_tree (part_from key now.tree))) same (number_own now key live) in
      absurd (omega arith)

  pub loosened_on : Loosened start new key
  loosened_on = record {
    path =
        ap (ancestors key) tree
        ∙ ancestors-pruned_at_key key kid now.tree (step now.tree is.keys key kid live there first).live (is.keys key)
        ∙ before.path;
    own = ap (λ tree. (head_view (part_from key tree)).number) tree ∙ ap (λ part. (head_view part).number) (part_now ∙ refl) ∙ ap (λ part. (head_view part).number) (sym at.is) ∙ before.own;
    numbers = λ number.
        let less = fewer number in
        let was = before.numbers number in
        subst (λ tree. count_of_number number (first_tree (part_from key tree)) ≤ count_of_number number (first_tree (part_from key start.tree))) (sym tree) (omega arith);
    slots = λ other alive out.
        let was = before.slots other alive out in
        let less = part other in
        let stays = count_of_key-cut_le other kid now.tree in
        let once = is.keys other in
        let edited : pruned_at_key kid now.tree ≡ edit_kids key (pruned_at_key kid) now.tree = gone now.tree is.keys key kid live there first in
        let still : count_of_key other (edit_kids key (pruned_at_key kid) now.tree) ≤ 1 = subst (λ tree. count_of_key other tree ≤ 1) edited (omega arith) in
        let one = subst (SameSlot other now.tree) (sym (tree ∙ edited)) (slot-edit key other (pruned_at_key kid) now.tree is.keys live was.live (omega arith) still) in
        record { live = one.live; head = one.head ∙ was.head; numbers = one.numbers ∙ was.numbers };
    orders = λ number none.
        let low_numbers = below_kid number in
        let was = before.numbers number in
        cut.kept number (apart number none) (omega arith) ∙ before.orders number none;
  }

-- and then the view itself
module _ (start now new : Views) (key : ℕ) (is : IsTree start) (live : IsLive start key) (before : Loosened start now key) (cut : Detached now new key) where
  parent_same : parent_of now key ≡ parent_of start key
  parent_same = ap (λ (path : List ℕ). slice_get path 0) before.path

  slot : (parent : ℕ) → parent_of start key ≡ Some parent → SameSlot parent start.tree now.tree
  slot parent reported = let out = parent_outside start key parent is live reported in before.slots parent out.0 out.1

  group_same : (parent : Option ℕ) → parent_of start key ≡ parent → group_number now parent ≡ group_number start parent
  group_same None reported = refl
  group_same (Some parent) reported = ap (λ (view : PlainView). if is_relative view.class then Some view.number else None) (slot parent reported).head

  pub detached_whole : Detached start new key
  detached_whole = record {
    kept = λ number apart none.
        let less = before.numbers number in
        cut.kept number (λ reported. apart (sym (group_same (parent_of start key) refl) ∙ ap (group_number now) (sym parent_same) ∙ reported)) (omega arith) ∙ before.orders number none;
    lowered = λ parent reported relative.
        let out = parent_outside start key parent is live reported in
        let same = before.slots parent out.0 out.1 in
        let number : number_of now parent ≡ number_of start parent = ap (λ (view : PlainView). view.number) same.head in
        let class : is_relative (class_of now parent) ≡ true = ap (λ (view : PlainView). is_relative view.class) same.head ∙ relative in
        let place : place_below now parent key ≡ place_below start parent key =
        ap (λ own. place_in own (numbers_in (views_of (children_of_first (part_from parent now.tree))))) before.own ∙ ap (place_in (number_of start key)) same.numbers in
        let orders : orders_of now parent ≡ orders_of start parent =
        ap (orders_under now) number
        ∙ ap (λ found. unwrap_or found no_orders) (before.orders (number_of start parent) (number_outside start key parent is live out.0 out.1)) in
        subst (λ n. AreLowered (place_below start parent key) (orders_of start parent) (orders_under new n)) number
        (subst (λ old. AreLowered (place_below start parent key) old (orders_under new (number_of now parent))) orders
        (subst (λ place. AreLowered place (orders_of now parent) (orders_under new (number_of now parent))) place (cut.lowered parent (parent_same ∙ reported) class)));
    only = cut.only;
  }
