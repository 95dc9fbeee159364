-- How many entries there are, and how many of them have a node, when one changes.
use Rattle.std.proofs.Common.{◌≡◌, ◌∙◌, ◌+◌, ◌<◌, ◌≤◌, ℕ, suc, arith, true, false, List, [], ◌∷◌, ◌++◌, Option, Some, None, is_some, cond, count_by, length, get_or, refl, sym, ap, inl, inr}
use Rattle.std.specs.Prelude.{nat_eq, position, slice_get}
use Rattle.std.specs.Map.{keys_of, values_of, lookup}
use Rattle.std.specs.Option.{option_flatten}
use Rattle.std.proofs.lemmas.Bool.{cases_Bool}
use Rattle.std.proofs.lemmas.List.{get_or-map, length-map}
use Rattle.std.proofs.lemmas.List.Sums.{count_by-le-length, sum_by-cons, sum_by-swap_remove, sum_by_push}
use Rattle.std.proofs.lemmas.Option.{slice_get-get_or}
use Rattle.slab.specs.Slab.{Slab, get, slab_len}
use Rattle.indexmap.specs.IndexMap.{insert_entry, swap_remove_entry}
use Rattle.indexmap.proofs.MapLemmas.{Found-position, Missing-position, swap_remove_entry-found, swap_remove_entry-missing}
use Rattle.touch_targets.specs.Nodes.{view_of}
use Rattle.touch_targets.specs.Pool.{has_node}
use Rattle.touch_targets.specs.declared.node.Node.{Node}
use Rattle.touch_targets.proofs.chains.Chains.{cases_Option, some_is}

abbrev Entries : Type 0
Entries = List (ℕ × Option ℕ)

-- 1 for an entry that has a node
abbrev counts : ℕ × Option ℕ → ℕ
counts entry = cond (has_node entry) 1 0

count-cons : (e : ℕ × Option ℕ) (es : Entries) → count_by has_node (e ∷ es) ≡ counts e + count_by has_node es
count-cons e es = sum_by-cons counts e es

-- one more view, that has no node
pub count-added : (es : Entries) (view : ℕ) → count_by has_node (es ++ (view, None) ∷ []) ≡ count_by has_node es
count-added es view = sum_by_push counts es (view, None) ∙ omega arith

-- a view that has no node leaves one entry that does not count
pub count-bare : (es : Entries) (view : ℕ) → lookup (nat_eq view) es ≡ Some None → count_by has_node es + 1 ≤ length es
count-bare [] view bare = absurd (cc)
count-bare (e ∷ es) view bare =
    elim (cases_Bool (nat_eq view e.0)) [
      | inl is ↦
          let own : counts e ≡ 0 = ap (λ o. cond (is_some o) 1 0) (some_is (rw is at bare)) in
          omega (arith, count-cons e es, own, count-by-le es)
      | inr is ↦ omega (arith, count-cons e es, small e.1, count-bare es view (rw is at bare))
    ]
  where
    count-by-le : (es : Entries) → count_by has_node es ≤ length es
    count-by-le es = count_by-le-length has_node es

    small : (o : Option ℕ) → cond (is_some o) 1 0 ≤ 1
    small None = omega arith
    small (Some p) = omega arith

-- a view that had no node gets one
pub count-noted : (es : Entries) (view slot : ℕ) → lookup (nat_eq view) es ≡ Some None
    → count_by has_node (insert_entry nat_eq es view (Some slot)) ≡ count_by has_node es + 1
count-noted [] view slot bare = absurd (cc)
count-noted (e ∷ es) view slot bare =
    elim (cases_Bool (nat_eq view e.0)) [
      | inl is ↦
          let own : counts e ≡ 0 = ap (λ o. cond (is_some o) 1 0) (some_is (rw is at bare)) in
          rw is (omega (arith, count-cons e es, count-cons (e.0, Some slot) es, own))
      | inr is ↦
          let later = count-noted es view slot (rw is at bare) in
          rw is (omega (arith, count-cons e es, count-cons e (insert_entry nat_eq es view (Some slot)), later))
    ]

pub length-noted : (es : Entries) (view : ℕ) (link : Option ℕ) → is_some (lookup (nat_eq view) es) ≡ true
    → length (insert_entry nat_eq es view link) ≡ length es
length-noted [] view link there = absurd (cc)
length-noted (e ∷ es) view link there =
    elim (cases_Bool (nat_eq view e.0)) [
      | inl is ↦ rw is refl
      | inr is ↦ rw is (ap suc (length-noted es view link (rw is at there)))
    ]

-- a view is removed, which may have had a node
pub count-forgot : (es : Entries) (view : ℕ)
    → count_by has_node (swap_remove_entry (nat_eq view) es) + cond (is_some (option_flatten (lookup (nat_eq view) es))) 1 0 ≡ count_by has_node es
count-forgot es view =
    elim (cases_Option (position (nat_eq view) (keys_of es))) [
      | inl none ↦
          let missing = Missing-position (nat_eq view) es none in
          rw (swap_remove_entry-missing (nat_eq view) es none, missing.value) (omega arith)
      | inr at ↦
          let found = Found-position (nat_eq view) es at.value at.is in
          let d : ℕ × Option ℕ = (0, None) in
          let value : lookup (nat_eq view) es ≡ Some (get_or es at.value d).1 =
          found.value ∙ slice_get-values es at.value d found.within in
          rw (swap_remove_entry-found (nat_eq view) es at.value d at.is, value) (sum_by-swap_remove counts es at.value d found.within)
    ]
  where
    slice_get-values : (es : Entries) (i : ℕ) (d : ℕ × Option ℕ) → i < length es → slice_get (values_of es) i ≡ Some (get_or es i d).1
    slice_get-values es i d within =
        slice_get-get_or (values_of es) i d.1 (omega (arith, within, length-map es (λ e. e.1))) ∙ ap Some (get_or-map (λ e. e.1) es i d d.1 within)

-- nodes of the same views are as many
pub slab_len-views : (s t : Slab Node) → ((x : ℕ) → view_of (get t x) ≡ view_of (get s x)) → slab_len t ≡ slab_len s
slab_len-views s t views = go s.slots t.slots views
  where
    taken : List (Option Node) → ℕ
    taken slots = count_by is_some slots

    same : (o p : Option Node) → view_of o ≡ view_of p → is_some o ≡ is_some p
    same None None h = refl
    same None (Some n) h = absurd (cc)
    same (Some n) None h = absurd (cc)
    same (Some n) (Some m) h = refl

    go : (xs ys : List (Option Node)) → ((x : ℕ) → view_of (get_or ys x None) ≡ view_of (get_or xs x None)) → count_by is_some ys ≡ count_by is_some xs
    go [] [] h = refl
    go [] (y ∷ ys) h =
        let first : is_some y ≡ false = same y None (h 0) in
        sum_by-cons (λ o. cond (is_some o) 1 0) y ys ∙ ap (λ b. cond b 1 0 + count_by is_some ys) first ∙ ap (λ n. 0 + n) (go [] ys (λ x. h (suc x)))
    go (x ∷ xs) [] h =
        let first : is_some x ≡ false = same x None (sym (h 0)) in
        sym (sum_by-cons (λ o. cond (is_some o) 1 0) x xs ∙ ap (λ b. cond b 1 0 + count_by is_some xs) first ∙ ap (λ n. 0 + n) (sym (go xs [] (λ x. h (suc x)))))
    go (x ∷ xs) (y ∷ ys) h =
        let first : is_some y ≡ is_some x = same y x (h 0) in
        sum_by-cons (λ o. cond (is_some o) 1 0) y ys
        ∙ ap (λ b. cond b 1 0 + count_by is_some ys) first ∙ ap (λ n. cond (is_some x) 1 0 + n) (go xs ys (λ x. h (suc x)))
        ∙ sym (sum_by-cons (λ o. cond (is_some o) 1 0) x xs)
