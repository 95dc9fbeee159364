-- Walks over the children of a view, and lists of views as their first tree and the trees after it.
use Rattle.std.proofs.Common.{◌≡◌, ◌≢◌, ℕ, ◌+◌, ◌<◌, ◌≤◌, Option, Some, refl, sym, ◌∙◌, subst, arith}
use Rattle.std.specs.Prelude.{IfSome}
use Rattle.view_model.specs.Forest.{Forest, Nothing, Branch, count_of}
use Rattle.view_tree.specs.Rows.{Row, count_of_key, part_from, rest_from, later_siblings, children_of_first, first_tree}
use Rattle.view_tree.specs.Views.{Held, KeepsInside, KeepsOutside}
use Rattle.view_tree.proofs.forest.Forests.{count-within, count_alone, live_after, live_below, times_from}
use Rattle.view_tree.proofs.forest.KeyLaws.{located, own_more, times_self}

pub count_of-parts : (list : Forest Row) → count_of list ≡ count_of (first_tree list) + count_of (later_siblings list)
count_of-parts Nothing = omega arith
count_of-parts (Branch row kids siblings) = omega arith

pub count_of_key-parts : (key : ℕ) (list : Forest Row) → count_of_key key list ≡ count_of_key key (first_tree list) + count_of_key key (later_siblings list)
count_of_key-parts key Nothing = omega arith
count_of_key-parts key (Branch row kids siblings) = omega arith

-- a view counts for at least one
pub count_one : (tree : Forest Row) (key : ℕ) → 0 < count_of_key key tree → 0 < count_of (first_tree (part_from key tree))
count_one tree key live = rw (located key tree live).is (omega arith)

-- below a view there are no more views than in its tree
pub count_few : (key : ℕ) (tree : Forest Row) → 0 < count_of_key key tree → count_of tree ≤ 4096 → count_of (children_of_first (part_from key tree)) ≤ 4096
count_few key tree live few =
    let x = located key tree live in
    let all = count-within x.within in
    let some : count_of x.kids ≤ 4096 = omega arith in
    rw x.is some

-- a view is not below itself, and no view of other keys
pub not_below : (row : Row) (kids siblings : Forest Row) → count_of_key row.key (Branch row kids siblings) ≤ 1 → count_of_key row.key kids ≡ 0
not_below row kids siblings once = let more = own_more row kids siblings row.key refl in omega arith

pub not_own : (row : Row) (kids siblings : Forest Row) (key : ℕ) → count_of_key key (Branch row kids siblings) ≡ 0 → key ≢ row.key
not_own row kids siblings key none e = let more = own_more row kids siblings key (sym e) in absurd (omega arith)

-- what changes in a view alone is the same below it
pub KeepsInside-below : (old new : ℕ → Held) (row : Row) (kids siblings : Forest Row) → count_of_key row.key (Branch row kids siblings) ≤ 1
    → ((key : ℕ) → key ≢ row.key → new key ≡ old key) → KeepsInside old new kids
KeepsInside-below old new row kids siblings once others key here = others key λ e.
    let none : count_of_key key kids ≡ 0 = subst (λ k. count_of_key k kids ≡ 0) (sym e) (not_below row kids siblings once) in absurd (omega arith)

-- what is the same in a list is the same for its first view, below it and after it
pub KeepsInside-self : (old new : ℕ → Held) (row : Row) (kids siblings : Forest Row) → KeepsInside old new (Branch row kids siblings) → new row.key ≡ old row.key
KeepsInside-self old new row kids siblings same = same row.key (times_self row kids siblings)

pub KeepsInside-kids : (old new : ℕ → Held) (row : Row) (kids siblings : Forest Row) → KeepsInside old new (Branch row kids siblings) → KeepsInside old new kids
KeepsInside-kids old new row kids siblings same = λ key here. same key (omega arith)

pub KeepsInside-siblings : (old new : ℕ → Held) (row : Row) (kids siblings : Forest Row) → KeepsInside old new (Branch row kids siblings) → KeepsInside old new siblings
KeepsInside-siblings old new row kids siblings same = λ key here. same key (omega arith)

-- what changes in the first tree of a list, and then after it, changes in the list
pub KeepsOutside-parts : (old mid end : ℕ → Held) (list : Forest Row) → KeepsOutside old mid (first_tree list) → KeepsOutside mid end (later_siblings list)
    → KeepsOutside old end list
KeepsOutside-parts old mid end list first rest = λ key none. let parts = count_of_key-parts key list in rest key (omega arith) ∙ first key (omega arith)

-- what changes only in the first tree leaves what is after it, and the other way round
pub KeepsInside-rest : (old mid : ℕ → Held) (list : Forest Row) → ((key : ℕ) → count_of_key key list ≤ 1) → KeepsOutside old mid (first_tree list)
    → KeepsInside old mid (later_siblings list)
KeepsInside-rest old mid list once first = λ key here. let parts = count_of_key-parts key list in let one = once key in first key (omega arith)

pub KeepsInside-first : (mid end : ℕ → Held) (list : Forest Row) → ((key : ℕ) → count_of_key key list ≤ 1) → KeepsOutside mid end (later_siblings list)
    → KeepsInside mid end (first_tree list)
KeepsInside-first mid end list once rest = λ key here. let parts = count_of_key-parts key list in let one = once key in rest key (omega arith)

-- each key occurs once in a part too
pub once_from : (tree : Forest Row) (key : ℕ) → ((other : ℕ) → count_of_key other tree ≤ 1) → 0 < count_of_key key tree → (other : ℕ) → count_of_key other (part_from key tree) ≤ 1
once_from tree key once live other = let less = times_from key other tree live in let one = once other in omega arith

-- a walk over these views of a tree, of which those from `next` on are left
pub record Walk (tree list : Forest Row) (next : Option ℕ) : Type 0 where
  pub live : IfSome next (λ key. 0 < count_of_key key tree)
  pub few : count_of (rest_from next tree) ≤ count_of list

pub walk_start : (tree list : Forest Row) (next : Option ℕ) → rest_from next tree ≡ list → IfSome next (λ key. 0 < count_of_key key tree) → Walk tree list next
walk_start tree list next is live = record { live = live; few = rw is (omega arith) }

-- the rest of a walk shrinks with each step
pub walk_falls : (tree list : Forest Row) (at next : Option ℕ) (key : ℕ) → at ≡ Some key → Walk tree list at → rest_from next tree ≡ later_siblings (part_from key tree)
    → count_of (rest_from next tree) < count_of (rest_from at tree)
walk_falls tree list at next key is walk part = let walk = rw is at walk in rw (part, is) (live_after key tree walk.live)

pub walk_on : (tree list : Forest Row) (key : ℕ) (next : Option ℕ) → Walk tree list (Some key)
    → rest_from next tree ≡ later_siblings (part_from key tree) → IfSome next (λ key. 0 < count_of_key key tree) → Walk tree list next
walk_on tree list key next walk is live =
    let fall = live_after key tree walk.live in
    let few = walk.few in
    record { live = live; few = rw is (omega arith) }

-- a child that is left has fewer views in its tree than its parent in its own
pub fewer_below : (tree : Forest Row) (view kid : ℕ) → 0 < count_of_key view tree → Walk tree (children_of_first (part_from view tree)) (Some kid)
    → count_of (first_tree (part_from kid tree)) < count_of (first_tree (part_from view tree))
fewer_below tree view kid live walk =
    let few : count_of (part_from kid tree) ≤ count_of (children_of_first (part_from view tree)) = walk.few in
    let below = live_below view tree live in
    let alone = count_alone (part_from kid tree) in
    omega arith

-- a walk that changes what is kept of these views, each as the walk passes it
pub record KeepingWalk (tree list : Forest Row) (start : ℕ → Held) (next : Option ℕ) (now : ℕ → Held) : Type 0 where
  pub walk : Walk tree list next
  pub once : (key : ℕ) → count_of_key key tree ≤ 1
  pub within : (key : ℕ) → count_of_key key (rest_from next tree) ≤ count_of_key key list
  pub others : KeepsOutside start now list
  pub still : KeepsInside start now (rest_from next tree)

pub keeping_start : (tree list : Forest Row) (start : ℕ → Held) (next : Option ℕ) → ((key : ℕ) → count_of_key key tree ≤ 1)
    → rest_from next tree ≡ list → IfSome next (λ key. 0 < count_of_key key tree) → KeepingWalk tree list start next start
keeping_start tree list start next once is live = record {
  walk = walk_start tree list next is live;
  once = once;
  within = λ key. rw is (omega arith);
  others = λ key none. refl;
  still = λ key here. refl;
}

pub keeping_on : (tree list : Forest Row) (start : ℕ → Held) (key : ℕ) (old mid : ℕ → Held) (next : Option ℕ) → KeepingWalk tree list start (Some key) old
    → KeepsOutside old mid (first_tree (part_from key tree)) → rest_from next tree ≡ later_siblings (part_from key tree)
    → IfSome next (λ key. 0 < count_of_key key tree) → KeepingWalk tree list start next mid
keeping_on tree list start key old mid next w others is live =
    let part = part_from key tree in
    let same = KeepsInside-rest old mid part (once_from tree key w.once w.walk.live) others in
    record {
      walk = walk_on tree list key next w.walk is live;
      once = w.once;
      within = λ other. rw is (let a = w.within other in let parts = count_of_key-parts other part in omega arith);
      others = λ other none. others other (let a = w.within other in let parts = count_of_key-parts other part in omega arith) ∙ w.others other none;
      still = rw is (λ other here. same other here ∙ w.still other (let parts = count_of_key-parts other part in omega arith));
    }

-- the first tree that is left is as it was at the start
pub still_first : (tree list : Forest Row) (start : ℕ → Held) (key : ℕ) (now : ℕ → Held) → KeepingWalk tree list start (Some key) now
    → KeepsInside start now (first_tree (part_from key tree))
still_first tree list start key now w = λ other here. w.still other (let parts = count_of_key-parts other (part_from key tree) in omega arith)
