-- Why a sapling's views are refused, checked one after another.
use Rattle.std.proofs.Common.{◌≡◌, ℕ, suc, ◌+◌, ◌-◌, ◌<◌, ◌≤◌, Bool, true, false, List, [], ◌∷◌, ◌++◌, Option, Some, None, refl, sym, ◌∙◌, ap, arith, append_assoc}
use Rattle.std.proofs.lemmas.List.{append-nil}
use Rattle.std.proofs.lemmas.Bool.{le-leb, lt-leb}
use Rattle.std.specs.Prelude.{nat_le}
use Rattle.std.specs.Option.{option_or}
use Rattle.view_model.specs.declared.class.Class.{Class}
use Rattle.view_model.specs.declared.sprout.Sprout.{Sprout}
use Rattle.view_model.specs.Forest.{Forest, Nothing, Branch, count_of}
use Rattle.view_model.specs.Grafts.{at_element, refusal_below}
use Rattle.view_model.specs.Growth.{growth_refusal}
use Rattle.view_model.specs.Refusals.{PlainRefusal}
use Rattle.view_model.specs.Sprouts.{Seed, preorder}
use Rattle.view_tree.proofs.forest.PlainLaws.{or_none}
use Rattle.view_tree.proofs.grafts.Paths.{last_earlier, last_own, with_last}

-- an element that has no reason
pub at_none : (element : ℕ) (reason : Option PlainRefusal) → at_element element reason ≡ None → reason ≡ None
at_none element None is = refl
at_none element (Some reported) is = absurd (cc)

pub first_none : (element : ℕ) (reason later : Option PlainRefusal) → option_or (at_element element reason) later ≡ None → (reason ≡ None) × (later ≡ None)
first_none element None later is = (refl, is)
first_none element (Some reported) later is = absurd (cc)

-- the first reason: `path` has the class of the last view of each depth, the first of which is `depth` deep; the view
-- right before has the depth `before`, and so the parent of the next one has a child if that is no deeper
abbrev pub refusal_along : (depth before : ℕ) (path : ℕ → Class) (count element : ℕ) → List Sprout → Option PlainRefusal
refusal_along depth before path count element [] = None
refusal_along depth before path count element (sprout ∷ more) =
    option_or (at_element element (growth_refusal (path (sprout.depth - 2)) (nat_le sprout.depth before) (depth + (sprout.depth - 2)) count))
    (refusal_along depth sprout.depth (with_last path (sprout.depth - 1) sprout.class) (suc count) (suc element) more)

-- what is left to check after trees whose views were checked
pub record Passed (depth place count element : ℕ) (class : Class) (occupied : Bool) (path : ℕ → Class) (list : Forest Seed) (rest : List Sprout) (whole : Option PlainRefusal) : Type 0 where
  pub last : ℕ
  pub deep : place < last
  pub ends : ℕ → Class
  pub outer : (other : ℕ) → other ≤ place → ends other ≡ path other
  pub same : whole
      ≡ option_or (refusal_below class occupied (depth + place) count element list) (refusal_along depth last ends (count + count_of list) (element + count_of list) rest)

or_assoc : (a b c : Option PlainRefusal) → option_or (option_or a b) c ≡ option_or a (option_or b c)
or_assoc None b c = refl
or_assoc (Some x) b c = refl

pub passed : (depth place before count element : ℕ) (class : Class) (occupied : Bool) (path : ℕ → Class) (list : Forest Seed) (rest : List Sprout) → path place ≡ class
    → place < before → nat_le (suc (suc place)) before ≡ occupied
    → Passed depth place count element class occupied path list rest (refusal_along depth before path count element (preorder (suc (suc place)) list ++ rest))
passed depth place before count element class occupied path Nothing rest is deep has = record {
  last = before;
  deep = deep;
  ends = path;
  outer = λ other le. refl;
  same =
      let b : count + 0 ≡ count = omega arith in
      let c : element + 0 ≡ element = omega arith in
      rw (b, c) refl;
}
passed depth place before count element class occupied path (Branch seed kids siblings) rest is deep has =
    let here : suc (suc place) - 2 ≡ place = omega arith in
    let there : suc (suc place) - 1 ≡ suc place = omega arith in
    let inner = with_last path (suc place) seed.class in
    let following = preorder (suc (suc place)) siblings ++ rest in
    let one = passed depth (suc place) (suc (suc place)) (suc count) (suc element) seed.class false inner kids following (last_own path (suc place) seed.class)
    (omega arith) (lt-leb (suc (suc (suc place))) (suc (suc place)) (omega arith)) in
    let back : (other : ℕ) → other ≤ place → one.ends other ≡ path other =
    λ other le. one.outer other (omega arith) ∙ last_earlier path (suc place) other seed.class (omega arith) in
    let two = passed depth place one.last (suc count + count_of kids) (suc element + count_of kids) class true one.ends siblings rest (back place (omega arith) ∙ is)
    (let d = one.deep in omega arith) (le-leb (suc (suc place)) one.last (let d = one.deep in omega arith)) in
    let own = at_element element (growth_refusal class occupied (depth + place) count) in
    let below = refusal_below seed.class false (suc (depth + place)) (suc count) (suc element) kids in
    let after = refusal_below class true (depth + place) (suc count + count_of kids) (suc element + count_of kids) siblings in
    let last = refusal_along depth two.last two.ends (suc count + count_of kids + count_of siblings) (suc element + count_of kids + count_of siblings) rest in
    let deeper : depth + suc place ≡ suc (depth + place) = omega arith in
    let counts : suc count + count_of kids + count_of siblings ≡ count + count_of (Branch seed kids siblings) = omega arith in
    let elements : suc element + count_of kids + count_of siblings ≡ element + count_of (Branch seed kids siblings) = omega arith in
    let first : refusal_along depth before path count element (preorder (suc (suc place)) (Branch seed kids siblings) ++ rest)
    ≡ option_or own (refusal_along depth (suc (suc place)) inner (suc count) (suc element) ((preorder (suc (suc (suc place))) kids ++ preorder (suc (suc place)) siblings) ++ rest)) =
    rw (here, there, is, has) refl in
    record {
      last = two.last;
      deep = two.deep;
      ends = two.ends;
      outer = λ other le. two.outer other le ∙ back other le;
      same = first
          ∙ ap (λ list. option_or own (refusal_along depth (suc (suc place)) inner (suc count) (suc element) list)) (append_assoc (preorder (suc (suc (suc place))) kids) (preorder (suc (suc place)) siblings) rest)
          ∙ ap (option_or own) (one.same
          ∙ ap (λ deep. option_or (refusal_below seed.class false deep (suc count) (suc element) kids) (refusal_along depth one.last one.ends (suc count + count_of kids) (suc element + count_of kids) following)) deeper
          ∙ ap (option_or below) two.same
          ∙ sym (or_assoc below after last))
          ∙ sym (or_assoc own (option_or below after) last)
          ∙ ap (λ n. option_or (option_or own (option_or below after)) (refusal_along depth two.last two.ends n (suc element + count_of kids + count_of siblings) rest)) counts
          ∙ ap (λ n. option_or (option_or own (option_or below after)) (refusal_along depth two.last two.ends (count + count_of (Branch seed kids siblings)) n rest)) elements;
    }

-- what is below the outermost view of a sapling, given the class and the depth of that view, which has no child yet
pub refusal_is : (depth count : ℕ) (class : Class) (path : ℕ → Class) (kids : Forest Seed) (sprouts : List Sprout) → path 0 ≡ class → preorder 2 kids ≡ sprouts
    → refusal_along depth 1 path count 2 sprouts ≡ refusal_below class false depth count 2 kids
refusal_is depth count class path kids sprouts is same =
    let p = passed depth 0 1 count 2 class false path kids [] is (omega arith) refl in
    let flat : depth + 0 ≡ depth = omega arith in
    ap (refusal_along depth 1 path count 2) (sym same ∙ sym (append-nil (preorder 2 kids)))
    ∙ p.same ∙ or_none (refusal_below class false (depth + 0) count 2 kids)
    ∙ ap (λ deep. refusal_below class false deep count 2 kids) flat
