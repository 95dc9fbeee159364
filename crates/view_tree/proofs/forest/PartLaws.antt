-- What a search finds in a list of views, from that in the first of them and in the others.
use Rattle.std.proofs.Common.{◌≡◌, ℕ, ◌<◌, Bool, true, false, Option, Some, None, refl, ap}
use Rattle.std.specs.Prelude.{if◌then◌else◌}
use Rattle.std.specs.Option.{option_or}
use Rattle.view_model.specs.Forest.{Forest, Nothing}
use Rattle.view_model.specs.PlainTree.{PlainView}
use Rattle.view_tree.proofs.forest.PlainLaws.{or_none}
use Rattle.view_tree.specs.Rows.{Row, count_of_key, part_from, head_view, children_of_first, later_siblings, first_tree, key_where}
use Rattle.view_tree.proofs.forest.KeyLaws.{located}
use Rattle.view_tree.proofs.forest.SearchLaws.{search}

-- a view that passes is the first that does
pub search_first : (passes : PlainView → Bool) (k : ℕ) (t : Forest Row) → 0 < count_of_key k t → passes (head_view (part_from k t)) ≡ true
    → key_where passes (first_tree (part_from k t)) ≡ Some k
search_first passes k t live pass =
    let f = located k t live in
    let own : passes f.row.view ≡ true = rw f.is at pass in
    rw (f.is, search passes f.row f.kids Nothing, own) (ap (λ k. Some k) f.key_is)

-- otherwise the first is among the views below it
pub search_below : (passes : PlainView → Bool) (k : ℕ) (t : Forest Row) → 0 < count_of_key k t → passes (head_view (part_from k t)) ≡ false
    → key_where passes (first_tree (part_from k t)) ≡ key_where passes (children_of_first (part_from k t))
search_below passes k t live pass =
    let f = located k t live in
    let own : passes f.row.view ≡ false = rw f.is at pass in
    rw (f.is, search passes f.row f.kids Nothing, own) (or_none (key_where passes f.kids))

-- a view with all below it, and then its later siblings
pub search_siblings : (passes : PlainView → Bool) (k : ℕ) (t : Forest Row) → 0 < count_of_key k t
    → key_where passes (part_from k t) ≡ option_or (key_where passes (first_tree (part_from k t))) (key_where passes (later_siblings (part_from k t)))
search_siblings passes k t live =
    let f = located k t live in
    rw (f.is, search passes f.row f.kids f.siblings, search passes f.row f.kids Nothing) (apart (passes f.row.view) f.row.key (key_where passes f.kids) (key_where passes f.siblings))
  where
    or_or : (a b : Option ℕ) → option_or a b ≡ option_or (option_or a None) b
    or_or None b = refl
    or_or (Some x) b = refl

    apart : (pass : Bool) (own : ℕ) (kids siblings : Option ℕ)
        → (if pass then Some own else option_or kids siblings) ≡ option_or (if pass then Some own else option_or kids None) siblings
    apart true own kids siblings = refl
    apart false own kids siblings = or_or kids siblings
