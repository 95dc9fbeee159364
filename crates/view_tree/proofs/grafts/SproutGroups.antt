-- The relative layouts of a sapling, read off its views in preorder.
use Rattle.std.proofs.Common.{◌≡◌, ◌≢◌, ℕ, suc, ◌<◌, ◌≤◌, ◌+◌, Bool, true, false, List, [], ◌∷◌, ◌++◌, append_assoc, Option, Some, None, refl, sym, ◌∙◌, ap, subst, arith}
use Rattle.std.proofs.lemmas.Bool.{eq-eqb, le-ltb, lt-ltb, ne_eqb}
use Rattle.std.proofs.lemmas.List.{append-nil}
use Rattle.std.specs.Option.{option_or}
use Rattle.std.specs.Prelude.{if◌then◌else◌, nat_eq}
use Rattle.view_model.specs.declared.refusal.Member.{Member}
use Rattle.view_model.specs.declared.relative.Link.{Link}
use Rattle.view_model.specs.declared.sprout.Sprout.{Sprout}
use Rattle.view_model.specs.Classes.{is_relative}
use Rattle.view_model.specs.Cycles.{each, first_cycle, link_of, links_in, numbers_in}
use Rattle.view_model.specs.Forest.{Forest, Nothing, Branch, count_of}
use Rattle.view_model.specs.PlainTree.{PlainView}
use Rattle.view_model.specs.Refusals.{PlainRefusal}
use Rattle.view_model.specs.Sprouts.{Seed, numbered, preorder, sprout_of, view_of}
use Rattle.sibling_orders.specs.declared.groups.SiblingOrders.{SiblingOrders}
use Rattle.view_tree.specs.tree.Grafting.{AreEntries, IsOwnFor, following, cycle_after, cycle_in, links_following, numbers_following, sprout_link}
use Rattle.sibling_orders.specs.Cycles.{cycle_of}
use Rattle.sibling_orders.specs.Ordering.{noted, IsGrouped, IsKeptFor, PlainGroup, plain_group}
use Rattle.view_tree.proofs.orders.TreeLaws.{Groups}

-- the first of these is not deeper than this
abbrev pub Ends : ℕ → List Sprout → Type 0
Ends depth [] = Unit {0}
Ends depth (sprout ∷ more) = sprout.depth ≤ depth

ends_deeper : (depth : ℕ) (rest : List Sprout) → Ends depth rest → Ends (suc depth) rest
ends_deeper depth [] ends = tt
ends_deeper depth (sprout ∷ more) ends = omega arith

ends_before : (depth : ℕ) (list : Forest Seed) (rest : List Sprout) → Ends depth rest → Ends depth (preorder depth list ++ rest)
ends_before depth Nothing rest ends = ends
ends_before depth (Branch seed below after) rest ends = omega arith

module _ {X : Type 0} (f : ℕ → Sprout → X) where
  -- if the views are no deeper there are no more children
  following-end : (depth number : ℕ) (rest : List Sprout) → Ends depth rest → following f depth number rest ≡ []
  following-end depth number [] ends = refl
  following-end depth number (sprout ∷ more) ends = rw (le-ltb depth sprout.depth ends)

  -- what is below children is no child
  following-below : (depth number deeper : ℕ) (list : Forest Seed) (rest : List Sprout) → suc depth < deeper
      → following f depth number (preorder deeper list ++ rest) ≡ following f depth (number + count_of list) rest
  following-below depth number deeper Nothing rest deep = let same : number ≡ number + 0 = omega arith in ap (λ n. following f depth n rest) same
  following-below depth number deeper (Branch seed below after) rest deep =
      let same : suc number + count_of below + count_of after ≡ number + count_of (Branch seed below after) = omega arith in
      let lower : depth < deeper = omega arith in
      let other : deeper ≢ suc depth = λ e. absurd (omega arith) in
      rw (lt-ltb depth deeper lower, ne_eqb deeper (suc depth) other)
      (ap (following f depth (suc number)) (append_assoc (preorder (suc deeper) below) (preorder deeper after) rest)
      ∙ following-below depth (suc number) (suc deeper) below (preorder deeper after ++ rest) (omega arith)
      ∙ following-below depth (suc number + count_of below) deeper after rest deep
      ∙ ap (λ n. following f depth n rest) same)

  module _ (g : PlainView → X) (same : (number depth : ℕ) (seed : Seed) → f number (sprout_of depth seed) ≡ g (view_of number seed)) where
    following-each : (depth number : ℕ) (list : Forest Seed) (rest : List Sprout)
        → following f depth number (preorder (suc depth) list ++ rest) ≡ each g (numbered number list) ++ following f depth (number + count_of list) rest
    following-each depth number Nothing rest = let same : number ≡ number + 0 = omega arith in ap (λ n. following f depth n rest) same
    following-each depth number (Branch seed below after) rest =
        let count : suc number + count_of below + count_of after ≡ number + count_of (Branch seed below after) = omega arith in
        let lower : depth < suc depth = omega arith in
        rw (lt-ltb depth (suc depth) lower, eq-eqb (suc depth) (suc depth) refl)
        (ap (λ first. first ∷ following f depth (suc number) ((preorder (suc (suc depth)) below ++ preorder (suc depth) after) ++ rest)) (same number (suc depth) seed)
        ∙ ap (λ (more : List X). g (view_of number seed) ∷ more)
        (ap (following f depth (suc number)) (append_assoc (preorder (suc (suc depth)) below) (preorder (suc depth) after) rest)
        ∙ following-below depth (suc number) (suc (suc depth)) below (preorder (suc depth) after ++ rest) (omega arith)
        ∙ following-each depth (suc number + count_of below) after rest
        ∙ ap (λ n. each g (numbered (suc number + count_of below) after) ++ following f depth n rest) count))

    following-kids : (depth number : ℕ) (list : Forest Seed) (rest : List Sprout) → Ends depth rest → following f depth number (preorder (suc depth) list ++ rest) ≡ each g (numbered number list)
    following-kids depth number list rest ends =
        following-each depth number list rest
        ∙ ap (λ more. each g (numbered number list) ++ more) (following-end depth (number + count_of list) rest ends)
        ∙ append-nil (each g (numbered number list))

links-kids : (depth number : ℕ) (list : Forest Seed) (rest : List Sprout) → Ends depth rest → links_following depth number (preorder (suc depth) list ++ rest) ≡ links_in (numbered number list)
links-kids depth number list rest ends = following-kids (λ number sprout. sprout_link sprout) link_of (λ number depth seed. refl) depth number list rest ends

numbers-kids : (depth number : ℕ) (list : Forest Seed) (rest : List Sprout) → Ends depth rest → numbers_following depth number (preorder (suc depth) list ++ rest) ≡ numbers_in (numbered number list)
numbers-kids depth number list rest ends = following-kids (λ number sprout. number) (λ (view : PlainView). view.number) (λ number depth seed. refl) depth number list rest ends

-- the cycles that are reported are those of the trees
or_assoc : (a b c : Option PlainRefusal) → option_or a (option_or b c) ≡ option_or (option_or a b) c
or_assoc None b c = refl
or_assoc (Some refusal) b c = refl

pub cycle-forest : (name : ℕ → Member) (depth number : ℕ) (list : Forest Seed) (rest : List Sprout) → Ends depth rest
    → cycle_in name number (preorder depth list ++ rest) ≡ option_or (first_cycle name (numbered number list)) (cycle_in name (number + count_of list) rest)
cycle-forest name depth number Nothing rest ends = let same : number ≡ number + 0 = omega arith in ap (λ n. cycle_in name n rest) same
cycle-forest name depth number (Branch seed below after) rest ends =
    let count : suc number + count_of below + count_of after ≡ number + count_of (Branch seed below after) = omega arith in
    let ends' = ends_before depth after rest ends in
    let links = links-kids depth (suc number) below (preorder depth after ++ rest) ends' in
    let numbers = numbers-kids depth (suc number) below (preorder depth after ++ rest) ends' in
    let first = first_cycle name (numbered (suc number) below) in
    let own : Option PlainRefusal = if is_relative seed.class then cycle_of name (links_in (numbered (suc number) below)) (numbers_in (numbered (suc number) below)) else None in
    ap (λ more. option_or (cycle_after name number (sprout_of depth seed) more) (cycle_in name (suc number) more)) (append_assoc (preorder (suc depth) below) (preorder depth after) rest)
    ∙ ap (λ links. option_or (if is_relative seed.class then cycle_of name links (numbers_following depth (suc number) (preorder (suc depth) below ++ (preorder depth after ++ rest))) else None) (cycle_in name (suc number) (preorder (suc depth) below ++ (preorder depth after ++ rest)))) links
    ∙ ap (λ numbers. option_or (if is_relative seed.class then cycle_of name (links_in (numbered (suc number) below)) numbers else None) (cycle_in name (suc number) (preorder (suc depth) below ++ (preorder depth after ++ rest)))) numbers
    ∙ ap (option_or own)
    (cycle-forest name (suc depth) (suc number) below (preorder depth after ++ rest) (ends_deeper depth (preorder depth after ++ rest) ends')
    ∙ ap (option_or first) (cycle-forest name depth (suc number + count_of below) after rest ends)
    ∙ or_assoc first (first_cycle name (numbered (suc number + count_of below) after)) (cycle_in name (suc number + count_of below + count_of after) rest))
    ∙ or_assoc own (option_or first (first_cycle name (numbered (suc number + count_of below) after))) (cycle_in name (suc number + count_of below + count_of after) rest)
    ∙ ap (λ n. option_or (option_or own (option_or first (first_cycle name (numbered (suc number + count_of below) after)))) (cycle_in name n rest)) count

-- entries are under numbers from this one on
pub noted-append : (first more : List (ℕ × SiblingOrders)) (number : ℕ) (before : Option PlainGroup) → noted (first ++ more) number before ≡ noted more number (noted first number before)
noted-append [] more number before = refl
noted-append (entry ∷ first) more number before = noted-append first more number (if nat_eq entry.0 number then Some (plain_group entry.1) else before)

pub own_past : (relative : Bool) (own number : ℕ) (links : List Link) (numbers : List ℕ) (entries : List (ℕ × SiblingOrders)) (before : Option PlainGroup) → IsOwnFor relative own links numbers entries → number ≢ own
    → noted entries number before ≡ before
own_past false own number links numbers entries before is other = rw is refl
own_past true own number links numbers entries before is other = rw (is.only, ne_eqb own number (λ e. other (sym e))) refl

pub noted-early : (sprouts : List Sprout) (start number : ℕ) (entries : List (ℕ × SiblingOrders)) (before : Option PlainGroup) → AreEntries start sprouts entries → number < start
    → noted entries number before ≡ before
noted-early [] start number entries before are less = rw are refl
noted-early (sprout ∷ more) start number entries before (own, rest, is, mine, later) less =
    ap (λ entries. noted entries number before) is
    ∙ noted-append own rest number before
    ∙ noted-early more (suc start) number rest (noted own number before) later (omega arith)
    ∙ own_past (is_relative sprout.class) start number _ _ own before mine (λ e. absurd (omega arith))

-- a table has what is right of each relative layout among views in preorder
abbrev pub AllKept : Groups → ℕ → List Sprout → Type 0
AllKept groups number [] = Unit {0}
AllKept groups number (sprout ∷ more) =
    (is_relative sprout.class ≡ true → IsKeptFor (links_following sprout.depth (suc number) more) (numbers_following sprout.depth (suc number) more) (groups number))
    × AllKept groups (suc number) more

pub own_kept : (relative : Bool) (number : ℕ) (links : List Link) (numbers : List ℕ) (entries : List (ℕ × SiblingOrders)) (before : Option PlainGroup) → IsOwnFor relative number links numbers entries → relative ≡ true
    → IsKeptFor links numbers (noted entries number before)
own_kept false number links numbers entries before is relative = absurd (cc)
own_kept true number links numbers entries before is relative = rw (is.only, eq-eqb number number refl) is.right.right

pub all_kept : (groups : Groups) (before : Groups) (number : ℕ) (sprouts : List Sprout) (entries : List (ℕ × SiblingOrders)) → AreEntries number sprouts entries
    → ((k : ℕ) → number ≤ k → groups k ≡ noted entries k (before k)) → AllKept groups number sprouts
all_kept groups before number [] entries are has = tt
all_kept groups before number (sprout ∷ more) entries (own, rest, is, mine, later) has =
    let parts : (k : ℕ) → number ≤ k → groups k ≡ noted rest k (noted own k (before k)) =
    λ k le. has k le ∙ ap (λ entries. noted entries k (before k)) is ∙ noted-append own rest k (before k) in
    let here : groups number ≡ noted own number (before number) =
    parts number (omega arith) ∙ noted-early more (suc number) number rest (noted own number (before number)) later (omega arith) in (
      λ relative. subst (IsKeptFor _ _) (sym here) (own_kept (is_relative sprout.class) number _ _ own (before number) mine relative),
      all_kept groups (λ k. noted own k (before k)) (suc number) more rest later (λ k le. parts k (omega arith)),
    )

-- and so for the trees
pub grouped-forest : (groups : Groups) (depth number : ℕ) (list : Forest Seed) (rest : List Sprout) → Ends depth rest → AllKept groups number (preorder depth list ++ rest)
    → IsGrouped groups (numbered number list) × AllKept groups (number + count_of list) rest
grouped-forest groups depth number Nothing rest ends all = let same : number ≡ number + 0 = omega arith in (tt, subst (λ n. AllKept groups n rest) same all)
grouped-forest groups depth number (Branch seed below after) rest ends all =
    let count : suc number + count_of below + count_of after ≡ number + count_of (Branch seed below after) = omega arith in
    let ends' = ends_before depth after rest ends in
    let all' : AllKept groups number (sprout_of depth seed ∷ (preorder (suc depth) below ++ (preorder depth after ++ rest))) =
    subst (λ more. AllKept groups number (sprout_of depth seed ∷ more)) (append_assoc (preorder (suc depth) below) (preorder depth after) rest) all in
    let lower = grouped-forest groups (suc depth) (suc number) below (preorder depth after ++ rest) (ends_deeper depth (preorder depth after ++ rest) ends') all'.1 in
    let later = grouped-forest groups depth (suc number + count_of below) after rest ends lower.1 in (
      (
        λ relative.
            subst (λ numbers. IsKeptFor (links_in (numbered (suc number) below)) numbers (groups number)) (numbers-kids depth (suc number) below (preorder depth after ++ rest) ends')
            (subst (λ links. IsKeptFor links (numbers_following depth (suc number) (preorder (suc depth) below ++ (preorder depth after ++ rest))) (groups number)) (links-kids depth (suc number) below (preorder depth after ++ rest) ends')
            (all'.0 relative)),
        lower.0,
        later.0,
      ),
      subst (λ n. AllKept groups n rest) count later.1,
    )
