-- Edits and look-ups of keyed trees as those of plain trees.
use Rattle.std.proofs.Common.{◌≡◌, ◌≢◌, ℕ, ◌<◌, ◌≤◌, Bool, true, List, [], ◌∷◌, ◌++◌, Option, Some, None, map, refl, sym, ◌∙◌, ap, subst, arith, eqb-true, inl, inr}
use Rattle.std.proofs.lemmas.Bool.{eqb-false, cases_Bool}
use Rattle.std.specs.Prelude.{◌==◌, find, MatchOption, IfSome}
use Rattle.std.specs.Option.{option_map, option_or}
use Rattle.std.proofs.lemmas.Option.{same_Some}
use Rattle.std.proofs.lemmas.List.Folds.{find-append}
use mathlib.Core.Path.{fun_ext}
use Rattle.view_model.specs.declared.facts.Facts.{Facts}
use Rattle.view_model.specs.declared.facts.Rules.{Rules}
use Rattle.view_model.specs.Forest.{Forest, Nothing, Branch, count_of, or_else, rows}
use Rattle.view_model.specs.Growth.{grown_at as plain_grown_at}
use Rattle.view_model.specs.PlainTree.{PlainView, first_view, grown, number_by_id, part_of, pruned, single, view_in, with_facts, with_text}
use Rattle.view_model.specs.Facts.{unscrolled_facts}
use Rattle.view_tree.specs.Rows.{Row, first_tree, pruned_at_key, part_from, grown_at_key, head_view, key_where, leaf, changed_at_key, count_of_key, count_of_number, with_child}
use Rattle.view_tree.specs.Views.{Held, IsLive, IsTree, Views, held_of, number_of, plain_of, plain_rows, scrolled, view_at}
use Rattle.view_tree.proofs.forest.ForestLaws.{map_rows-edited, map_rows-joined, map_rows-or_else, rows-map}
use Rattle.view_tree.proofs.forest.KeyLaws.{Agree, Within, here, in_below, in_after, agreed, located, from_within, times_self, count_of_key-within}

-- a cut by the key is one by the number
pub plain-pruned_at_key : (held : ℕ → Held) (key number : ℕ) (tree : Forest Row) → Agree key number tree → plain_rows held (pruned_at_key key tree) ≡ pruned number (plain_rows held tree)
plain-pruned_at_key held key number tree agree =
    map_rows-edited (scrolled held) (λ row. row.key == key) (λ view. view.number == number) _ _ (λ row kids siblings. refl) tree agree

-- plain trees only look at the offsets of the views
pub plain_along : (old new : ℕ → Held) (tree : Forest Row) → ((key : ℕ) → 0 < count_of_key key tree → (new key).offset ≡ (old key).offset) → plain_rows new tree ≡ plain_rows old tree
plain_along old new Nothing same = refl
plain_along old new (Branch row kids siblings) same =
    let own : (new row.key).offset ≡ (old row.key).offset = same row.key (times_self row kids siblings) in
    rw (own, plain_along old new kids (λ key live. same key (omega arith)), plain_along old new siblings (λ key live. same key (omega arith)))

pub plain-grown : (held : ℕ → Held) (parent number : ℕ) (new tree : Forest Row) → Agree parent number tree
    → plain_rows held (grown_at_key parent new tree) ≡ grown number (plain_rows held new) (plain_rows held tree)
plain-grown held parent number new tree agree =
    map_rows-edited (scrolled held) (λ row. row.key == parent) (λ view. view.number == number) _ _
    (λ row kids siblings. ap (λ list. Branch (scrolled held row) list (plain_rows held siblings)) (map_rows-joined (scrolled held) kids new)) tree agree

pub plain-leaf : (held : ℕ → Held) (key : ℕ) (view : PlainView) → (held key).offset ≡ view.facts.offset → plain_rows held (leaf key view) ≡ single view
plain-leaf held key view is = rw is

-- a live key agrees with its number
pub agree_live : (views : Views) (key : ℕ) → IsTree views → IsLive views key → Agree key (number_of views key) views.tree
agree_live views key is live = agreed key (number_of views key) views.tree live (is.keys key) (is.numbers (number_of views key)) refl

-- if the plain trees of two holdings are the same except at a key that does not occur
pub plain_others : (old new : ℕ → Held) (key : ℕ) (tree : Forest Row) → count_of_key key tree ≡ 0 → ((other : ℕ) → other ≢ key → new other ≡ old other)
    → plain_rows new tree ≡ plain_rows old tree
plain_others old new key tree none others =
    plain_along old new tree (λ other live. ap (λ (h : Held). h.offset) (others other (λ e. let z : count_of_key other tree ≡ 0 = rw e none in omega arith)))

pub plain-leaf_grown : (old new : ℕ → Held) (parent number key : ℕ) (view : PlainView) (tree : Forest Row) → Agree parent number tree → count_of_key key tree ≡ 0
    → (new key).offset ≡ view.facts.offset → ((other : ℕ) → other ≢ key → new other ≡ old other)
    → plain_rows new (grown_at_key parent (leaf key view) tree) ≡ grown number (single view) (plain_rows old tree)
plain-leaf_grown old new parent number key view tree agree none own others =
    plain-grown new parent number (leaf key view) tree agree
    ∙ rw (plain-leaf new key view own, plain_others old new key tree none others)

-- a view that is attached under a new key
pub plain-with_child : (old : Views) (new : ℕ → Held) (parent : Option ℕ) (key : ℕ) (view : PlainView) → IsTree old → IfSome parent (λ parent. IsLive old parent)
    → count_of_key key old.tree ≡ 0 → (new key).offset ≡ view.facts.offset → ((other : ℕ) → other ≢ key → new other ≡ held_of old other)
    → plain_rows new (with_child parent (leaf key view) old.tree) ≡ plain_grown_at (option_map (number_of old) parent) (single view) (plain_of old)
plain-with_child old new None key view is live none own others = plain-leaf new key view own
plain-with_child old new (Some parent) key view is live none own others =
    plain-leaf_grown (held_of old) new parent (number_of old parent) key view old.tree (agree_live old parent is live) none own others

-- other facts of a view, with the offset that is held for it
pub plain-put_facts : (old new : ℕ → Held) (key number : ℕ) (facts : Facts) (tree : Forest Row) → Agree key number tree → count_of_key key tree ≤ 1
    → (new key).offset ≡ facts.offset → ((other : ℕ) → other ≢ key → (new other).offset ≡ (old other).offset)
    → plain_rows new (changed_at_key key (λ (v : PlainView). record v { facts = unscrolled_facts facts }) tree) ≡ with_facts number (λ _. facts) (plain_rows old tree)
plain-put_facts old new key number facts Nothing agree once own others = refl
plain-put_facts old new key number facts (Branch row kids siblings) agree once own others =
    elim (cases_Bool (row.key == key)) [
      | inl e ↦
          let once = rw e at once in
          let at_key : row.key ≡ key = eqb-true _ _ e in
          let mine : (new row.key).offset ≡ facts.offset = rw at_key own in
          let apart = λ (list : Forest Row) (z : count_of_key key list ≡ 0). plain_along old new list (λ other live. others other (λ e. let y : count_of_key other list ≡ 0 = rw e z in omega arith)) in
          rw (agree.0, e, mine, apart kids (omega arith), apart siblings (omega arith))
      | inr e ↦
          let once = rw e at once in
          let apart : (new row.key).offset ≡ (old row.key).offset = others row.key (eqb-false _ _ e) in
          rw (
            agree.0,
            e,
            apart,
            plain-put_facts old new key number facts kids agree.1 (omega arith) own others,
            plain-put_facts old new key number facts siblings agree.2 (omega arith) own others,
          )
    ]

-- a change of a view's facts that leaves its offset alone, and does not look at it
pub plain-change_facts : (held : ℕ → Held) (key number : ℕ) (change : PlainView → PlainView) (facts_change : Facts → Facts) (tree : Forest Row) → Agree key number tree
    → ((row : Row) → scrolled held (record row { view = change row.view }) ≡ record (scrolled held row) { facts = facts_change (scrolled held row).facts })
    → plain_rows held (changed_at_key key change tree) ≡ with_facts number facts_change (plain_rows held tree)
plain-change_facts held key number change facts_change tree agree same =
    map_rows-edited (scrolled held) (λ row. row.key == key) (λ view. view.number == number) _ _
    (λ row kids siblings. ap (λ view. Branch view (plain_rows held kids) (plain_rows held siblings)) (same row)) tree agree

-- another id and other rules
pub plain-put_rules : (held : ℕ → Held) (key number id : ℕ) (rules : Rules) (tree : Forest Row) → Agree key number tree
    → plain_rows held (changed_at_key key (λ (v : PlainView). record v { facts = record v.facts { id = id; rules = rules } }) tree)
    ≡ with_facts number (λ (facts : Facts). record facts { id = id; rules = rules }) (plain_rows held tree)
plain-put_rules held key number id rules tree agree =
    plain-change_facts held key number (λ (v : PlainView). record v { facts = record v.facts { id = id; rules = rules } })
    (λ (facts : Facts). record facts { id = id; rules = rules }) tree agree (λ row. refl)

-- another text
pub plain-put_text : (held : ℕ → Held) (key number : ℕ) (text : List ℕ) (tree : Forest Row) → Agree key number tree
    → plain_rows held (changed_at_key key (λ (v : PlainView). record v { text = text }) tree) ≡ with_text number text (plain_rows held tree)
plain-put_text held key number text tree agree =
    map_rows-edited (scrolled held) (λ row. row.key == key) (λ view. view.number == number) _ _ (λ row kids siblings. refl) tree agree

-- counts and rows
pub plain-count : (held : ℕ → Held) (tree : Forest Row) → count_of (plain_rows held tree) ≡ count_of tree
plain-count held Nothing = refl
plain-count held (Branch row kids siblings) = rw (plain-count held kids, plain-count held siblings)

pub plain-rows : (held : ℕ → Held) (tree : Forest Row) → rows (plain_rows held tree) ≡ map (scrolled held) (rows tree)
plain-rows held tree = rows-map (scrolled held) tree

-- the part of a number is the part of its key
pub first_tree-or_else : (first second : Forest Row) → first_tree (or_else first second) ≡ or_else (first_tree first) (first_tree second)
first_tree-or_else Nothing second = refl
first_tree-or_else (Branch row kids siblings) second = refl

pub plain-part : (held : ℕ → Held) (key number : ℕ) (tree : Forest Row) → Agree key number tree → part_of number (plain_rows held tree) ≡ plain_rows held (first_tree (part_from key tree))
plain-part held key number Nothing agree = refl
plain-part held key number (Branch row kids siblings) agree =
    elim (cases_Bool (row.key == key)) [
      | inl e ↦ rw (agree.0, e)
      | inr e ↦ rw (
        agree.0,
        e,
        plain-part held key number kids agree.1,
        plain-part held key number siblings agree.2,
        first_tree-or_else (part_from key kids) (part_from key siblings),
        map_rows-or_else (scrolled held) (first_tree (part_from key kids)) (first_tree (part_from key siblings)),
      )
    ]

-- the view of a live key's number is the view of the key
pub view_live : (views : Views) (key number : ℕ) → IsLive views key → Agree key number views.tree → view_in (plain_of views) number ≡ Some (view_at views key)
view_live views key number live agree =
    let f = located key views.tree live in
    ap first_view (plain-part (held_of views) key number views.tree agree) ∙ rw (f.is, f.key_is)

pub number_there : (views : Views) (key : ℕ) → IsTree views → IsLive views key → view_in (plain_of views) (number_of views key) ≡ Some (view_at views key)
number_there views key is live = view_live views key (number_of views key) live (agree_live views key is live)

-- the first of two lists of rows that passes a test
pub find-map : {X Y : Type 0} (p : Y → Bool) (f : X → Y) (xs : List X) → find p (map f xs) ≡ option_map f (find (λ x. p (f x)) xs)
find-map p f [] = refl
find-map p f (x ∷ xs) =
    elim (cases_Bool (p (f x))) [
      | inl e ↦ rw e
      | inr e ↦ rw (e, find-map p f xs)
    ]

-- the row that is found first is in the tree, and passes
pub record FoundRow (passes : Row → Bool) (tree : Forest Row) (row : Row) : Type 0 where
  pub kids : Forest Row
  pub siblings : Forest Row
  pub passed : passes row ≡ true
  pub within : Within (Branch row kids siblings) tree

-- a row found among the children or the later siblings
found_later : (passes : Row → Bool) (first : Row) (kids siblings : Forest Row) (row : Row)
    → option_or (find passes (rows kids)) (find passes (rows siblings)) ≡ Some row
    → (find passes (rows kids) ≡ Some row → FoundRow passes kids row)
    → (find passes (rows siblings) ≡ Some row → FoundRow passes siblings row)
    → FoundRow passes (Branch first kids siblings) row
found_later passes first kids siblings row =
    elim (find passes (rows kids)) as (λ o. option_or o (find passes (rows siblings)) ≡ Some row → (o ≡ Some row → FoundRow passes kids row)
    → (find passes (rows siblings) ≡ Some row → FoundRow passes siblings row) → FoundRow passes (Branch first kids siblings) row) [
      | None ↦ λ is in_kids in_siblings. let f = in_siblings is in record { kids = f.kids; siblings = f.siblings; passed = f.passed; within = in_after f.within }
      | Some r ↦ λ is in_kids in_siblings. let f = in_kids is in record { kids = f.kids; siblings = f.siblings; passed = f.passed; within = in_below f.within }
    ]

pub found_row : (passes : Row → Bool) (tree : Forest Row) (row : Row) → find passes (rows tree) ≡ Some row → FoundRow passes tree row
found_row passes Nothing row is = absurd (cc)
found_row passes (Branch first kids siblings) row is =
    elim (cases_Bool (passes first)) [
      | inl e ↦
          let same : first ≡ row = same_Some first row (rw e at is) in
          subst (λ r. FoundRow passes (Branch first kids siblings) r) same (record { kids = kids; siblings = siblings; passed = e; within = here })
      | inr e ↦
          let later : find passes (rows kids ++ rows siblings) ≡ Some row = rw e at is in
          found_later passes first kids siblings row (sym (find-append passes (rows kids) (rows siblings)) ∙ later)
          (found_row passes kids row) (found_row passes siblings row)
    ]

pub found_live : (passes : Row → Bool) (tree : Forest Row) (row : Row) → find passes (rows tree) ≡ Some row → 0 < count_of_key row.key tree
found_live passes tree row is =
    let f = found_row passes tree row is in
    let n = count_of_key-within row.key f.within in
    omega (arith, times_self row f.kids f.siblings)

pub found_from : (passes : Row → Bool) (tree : Forest Row) (row : Row) (is : find passes (rows tree) ≡ Some row) → count_of_key row.key tree ≤ 1
    → part_from row.key tree ≡ Branch row (found_row passes tree row is).kids (found_row passes tree row is).siblings
found_from passes tree row is once = let f = found_row passes tree row is in from_within row f.kids f.siblings f.within once

pub found_head : (passes : Row → Bool) (tree : Forest Row) (row : Row) → find passes (rows tree) ≡ Some row → count_of_key row.key tree ≤ 1
    → head_view (part_from row.key tree) ≡ row.view
found_head passes tree row is once = ap head_view (found_from passes tree row is once)

-- the row of a key that a search gives
pub record KeyFound (passes : PlainView → Bool) (tree : Forest Row) (key : ℕ) : Type 0 where
  pub row : Row
  pub is : find (λ (row : Row). passes row.view) (rows tree) ≡ Some row
  pub key_is : row.key ≡ key
  pub passed : passes row.view ≡ true

pub key_found : (passes : PlainView → Bool) (tree : Forest Row) (key : ℕ) → key_where passes tree ≡ Some key → KeyFound passes tree key
key_found passes tree key =
    elim (find (λ (row : Row). passes row.view) (rows tree)) as (λ o. find (λ (row : Row). passes row.view) (rows tree) ≡ o
    → option_map (λ (row : Row). row.key) o ≡ Some key → KeyFound passes tree key) [
      | None ↦ λ at is. absurd (cc)
      | Some row ↦ λ at is. record {
        row = row;
        is = at;
        key_is = same_Some row.key key is;
        passed = (found_row (λ (row : Row). passes row.view) tree row at).passed;
      }
    ] refl

-- a key that a search gives is live, and its view passes the test
pub key_where_live : (passes : PlainView → Bool) (tree : Forest Row) (key : ℕ) → key_where passes tree ≡ Some key → 0 < count_of_key key tree
key_where_live passes tree key is =
    let f = key_found passes tree key is in subst (λ k. 0 < count_of_key k tree) f.key_is (found_live (λ (row : Row). passes row.view) tree f.row f.is)

pub key_where_head : (passes : PlainView → Bool) (tree : Forest Row) (key : ℕ) (is : key_where passes tree ≡ Some key) → count_of_key key tree ≤ 1
    → head_view (part_from key tree) ≡ (key_found passes tree key is).row.view
key_where_head passes tree key is once =
    let f = key_found passes tree key is in
    ap (λ k. head_view (part_from k tree)) (sym f.key_is)
    ∙ found_head (λ (row : Row). passes row.view) tree f.row f.is (subst (λ k. count_of_key k tree ≤ 1) (sym f.key_is) once)

pub key_where_passes : (passes : PlainView → Bool) (tree : Forest Row) (key : ℕ) → key_where passes tree ≡ Some key → count_of_key key tree ≤ 1
    → passes (head_view (part_from key tree)) ≡ true
key_where_passes passes tree key is once = ap passes (key_where_head passes tree key is once) ∙ (key_found passes tree key is).passed

-- the first row of a list of trees
abbrev pub first_row : Forest Row → Option Row
first_row Nothing = None
first_row (Branch row kids siblings) = Some row

pub first_row-or_else : (first second : Forest Row) → first_row (or_else first second) ≡ option_or (first_row first) (first_row second)
first_row-or_else Nothing second = refl
first_row-or_else (Branch row kids siblings) second = refl

pub first_view-or_else : (first second : Forest PlainView) → first_view (or_else first second) ≡ option_or (first_view first) (first_view second)
first_view-or_else Nothing second = refl
first_view-or_else (Branch view kids siblings) second = refl

pub or_none : {X : Type 0} (first : Option X) → option_or first None ≡ first
or_none None = refl
or_none (Some x) = refl

pub option_map-or : {X Y : Type 0} (f : X → Y) (first second : Option X) → option_map f (option_or first second) ≡ option_or (option_map f first) (option_map f second)
option_map-or f None second = refl
option_map-or f (Some x) second = refl

-- a search for the number finds the row of the key
pub find_agreed : (key number : ℕ) (tree : Forest Row) → Agree key number tree
    → find (λ (row : Row). row.view.number == number) (rows tree) ≡ first_row (part_from key tree)
find_agreed key number Nothing agree = refl
find_agreed key number (Branch row kids siblings) agree =
    elim (cases_Bool (row.key == key)) [
      | inl e ↦ rw (agree.0, e)
      | inr e ↦ rw (
        agree.0,
        e,
        find-append (λ (row : Row). row.view.number == number) (rows kids) (rows siblings),
        find_agreed key number kids agree.1,
        find_agreed key number siblings agree.2,
        first_row-or_else (part_from key kids) (part_from key siblings),
      )
    ]

-- the key of a number is the one that a search for the number gives
pub key_where_number : (key number : ℕ) (tree : Forest Row) → 0 < count_of_key key tree → Agree key number tree → key_where (λ (view : PlainView). view.number == number) tree ≡ Some key
key_where_number key number tree live agree =
    let f = located key tree live in
    ap (option_map (λ (row : Row). row.key)) (find_agreed key number tree agree) ∙ rw f.is (ap (λ k. Some k) f.key_is)

-- a search for a number that does not occur gives nothing
pub find_absent : (number : ℕ) (tree : Forest Row) → count_of_number number tree ≡ 0 → find (λ (row : Row). row.view.number == number) (rows tree) ≡ None
find_absent number Nothing none = refl
find_absent number (Branch row kids siblings) none =
    elim (cases_Bool (row.view.number == number)) [
      | inl e ↦ absurd (let none = rw e at none in omega arith)
      | inr e ↦ rw (
        e,
        find-append (λ (row : Row). row.view.number == number) (rows kids) (rows siblings),
        find_absent number kids (omega arith),
        find_absent number siblings (omega arith),
      )
    ]

pub key_where_absent : (number : ℕ) (tree : Forest Row) → count_of_number number tree ≡ 0 → key_where (λ (view : PlainView). view.number == number) tree ≡ None
key_where_absent number tree none = ap (option_map (λ (row : Row). row.key)) (find_absent number tree none)

-- the plain view of a number is the first row of that number
pub view_in_rows : (held : ℕ → Held) (number : ℕ) (tree : Forest Row)
    → view_in (plain_rows held tree) number ≡ option_map (scrolled held) (find (λ (row : Row). row.view.number == number) (rows tree))
view_in_rows held number Nothing = refl
view_in_rows held number (Branch row kids siblings) =
    elim (cases_Bool (row.view.number == number)) [
      | inl e ↦ rw e
      | inr e ↦ rw (
        e,
        find-append (λ (row : Row). row.view.number == number) (rows kids) (rows siblings),
        first_view-or_else (part_of number (plain_rows held kids)) (part_of number (plain_rows held siblings)),
        option_map-or (scrolled held) (find (λ (row : Row). row.view.number == number) (rows kids)) (find (λ (row : Row). row.view.number == number) (rows siblings)),
        view_in_rows held number kids,
        view_in_rows held number siblings,
      )
    ]

-- how a search for a number relates to the plain tree
pub find_found : (views : Views) (number : ℕ) → ((key : ℕ) → count_of_key key views.tree ≤ 1)
    → MatchOption (key_where (λ (view : PlainView). view.number == number) views.tree) (view_in (plain_of views) number ≡ None)
    (λ key. view_in (plain_of views) number ≡ Some (view_at views key))
find_found views number once =
    elim (find (λ (row : Row). row.view.number == number) (rows views.tree)) as (λ o. find (λ (row : Row). row.view.number == number) (rows views.tree) ≡ o
    → MatchOption (option_map (λ (row : Row). row.key) o) (view_in (plain_of views) number ≡ None) (λ key. view_in (plain_of views) number ≡ Some (view_at views key))) [
      | None ↦ λ at. view_in_rows (held_of views) number views.tree ∙ ap (option_map (scrolled (held_of views))) at
      | Some row ↦ λ at. view_in_rows (held_of views) number views.tree ∙ ap (option_map (scrolled (held_of views))) at
          ∙ rw (found_head (λ (row : Row). row.view.number == number) views.tree row at (once row.key))
    ] refl

pub find_number : (views : Views) (number : ℕ) → ((key : ℕ) → count_of_key key views.tree ≤ 1)
    → IfSome (key_where (λ (view : PlainView). view.number == number) views.tree) (λ key. number_of views key ≡ number)
find_number views number once =
    elim (key_where (λ (view : PlainView). view.number == number) views.tree) as (λ o. key_where (λ (view : PlainView). view.number == number) views.tree ≡ o
    → IfSome o (λ key. number_of views key ≡ number)) [
      | None ↦ λ is. tt
      | Some key ↦ λ is. eqb-true _ _ (key_where_passes (λ (view : PlainView). view.number == number) views.tree key is (once key))
    ] refl

pub key_where_lives : (views : Views) (passes : PlainView → Bool) → IfSome (key_where passes views.tree) (λ key. IsLive views key)
key_where_lives views passes =
    elim (key_where passes views.tree) as (λ o. key_where passes views.tree ≡ o → IfSome o (λ key. IsLive views key)) [
      | None ↦ λ is. tt
      | Some key ↦ λ is. key_where_live passes views.tree key is
    ] refl

-- a search by a test that looks at no offset, on the keyed tree and on the plain one
pub find_scrolled : (held : ℕ → Held) (passes : PlainView → Bool) (tree : Forest Row) → ((row : Row) → passes (scrolled held row) ≡ passes row.view)
    → find passes (rows (plain_rows held tree)) ≡ option_map (scrolled held) (find (λ (row : Row). passes row.view) (rows tree))
find_scrolled held passes tree same =
    ap (find passes) (plain-rows held tree) ∙ find-map passes (scrolled held) (rows tree)
    ∙ ap (λ (test : Row → Bool). option_map (scrolled held) (find test (rows tree))) (fun_ext same)

by_id_rows : (views : Views) (id : ℕ) → ((key : ℕ) → count_of_key key views.tree ≤ 1) → (o : Option Row) → find (λ (row : Row). row.view.facts.id == id) (rows views.tree) ≡ o
    → option_map (number_of views) (option_map (λ (row : Row). row.key) o) ≡ option_map (λ (view : PlainView). view.number) (option_map (scrolled (held_of views)) o)
by_id_rows views id once None at = refl
by_id_rows views id once (Some row) at =
    ap (λ (view : PlainView). Some view.number) (found_head (λ (row : Row). row.view.facts.id == id) views.tree row at (once row.key))

-- how a search for an id relates to the plain tree
pub by_id_found : (views : Views) (id : ℕ) → ((key : ℕ) → count_of_key key views.tree ≤ 1)
    → option_map (number_of views) (key_where (λ (view : PlainView). view.facts.id == id) views.tree) ≡ number_by_id (plain_of views) id
by_id_found views id once =
    by_id_rows views id once (find (λ (row : Row). row.view.facts.id == id) (rows views.tree)) refl
    ∙ ap (option_map (λ (view : PlainView). view.number)) (sym (find_scrolled (held_of views) (λ (view : PlainView). view.facts.id == id) views.tree (λ row. refl)))
