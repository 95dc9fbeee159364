-- A tree of keyed views whose views are given texts, one after the other.
use Rattle.std.proofs.Common.{◌≡◌, ℕ, ◌<◌, ◌≤◌, Some, None, Option, refl, sym, ◌∙◌, ap, arith, inl, inr, List, [], ◌∷◌, ◌++◌, append_assoc, drop}
use Rattle.std.proofs.lemmas.Bool.{cases_Bool, cases_eq, eq-eqb, ne_eqb}
use Rattle.std.proofs.lemmas.List.Elements.{All-append, All-cons, All-head, All-nil, All-tail, All-weaker}
use Rattle.std.proofs.lemmas.List.Sums.{fold-append}
use Rattle.std.specs.List.{All, fold}
use Rattle.std.specs.Prelude.{◌==◌}
use Rattle.saved_state.specs.Restored.{given_values, paired, restated, wanted, with_text_at, with_text_of}
use Rattle.saved_state.specs.Restoring.{given}
use Rattle.saved_state.specs.State.{StateEntry}
use Rattle.saved_state.specs.declared.value.Value.{Value}
use Rattle.view_model.specs.Forest.{Forest, Nothing, Branch, rows}
use Rattle.view_tree.proofs.forest.Forests.{Within-children_of_first, Within-later_siblings}
use Rattle.view_tree.proofs.forest.KeyLaws.{Within, count_of_key-within, from_within, here}
use Rattle.view_tree.proofs.forest.NumberLaws.{count_of_key-put, put_absent}
use Rattle.view_tree.proofs.forest.PreorderLaws.{key_count, key_count-rows, status}
use Rattle.view_model.specs.PlainTree.{PlainView}
use Rattle.view_tree.specs.tree.Preorder.{rows_from}
use Rattle.view_tree.specs.Rows.{Row, changed_at_key, count_of_key, head_view}

-- what the views of two lists are given
given_append : (entries : List StateEntry) (tree : Forest Row) (list more : List Row)
    → given_values entries tree (list ++ more) ≡ given_values entries tree list ++ given_values entries tree more
given_append entries tree [] more = refl
given_append entries tree (row ∷ list) more =
    ap (λ (sets : List (ℕ × Value)). paired row.key (wanted entries tree row.key) ++ sets) (given_append entries tree list more)
    ∙ sym (append_assoc (paired row.key (wanted entries tree row.key)) (given_values entries tree list) (given_values entries tree more))

-- what is given is given to views of the list
abbrev IsOf : List Row → ℕ × Value → Type 0
IsOf list set = 0 < key_count set.0 list

abbrev IsIn : Forest Row → ℕ × Value → Type 0
IsIn tree set = 0 < count_of_key set.0 tree

paired_all : (P : ℕ × Value → Type 0) (key : ℕ) (given : Option Value) → ((value : Value) → P (key, value)) → All P (paired key given)
paired_all P key None each = All-nil P
paired_all P key (Some value) each = All-cons P (key, value) [] (each value) (All-nil P)

given_of : (entries : List StateEntry) (tree : Forest Row) (list : List Row) → All (IsOf list) (given_values entries tree list)
given_of entries tree [] = All-nil (IsOf [])
given_of entries tree (row ∷ more) =
    All-append (IsOf (row ∷ more)) (paired row.key (wanted entries tree row.key)) (given_values entries tree more)
    (paired_all (IsOf (row ∷ more)) row.key (wanted entries tree row.key) (λ value. rw (eq-eqb row.key row.key refl) (omega arith)))
    (All-weaker (IsOf more) (IsOf (row ∷ more)) (λ set there. omega arith) (given_values entries tree more) (given_of entries tree more))

pub given_in : (entries : List StateEntry) (tree list : Forest Row) → All (IsIn list) (given_values entries tree (rows list))
given_in entries tree list =
    All-weaker (IsOf (rows list)) (IsIn list) (λ set there. let e = key_count-rows set.0 list in omega arith) (given_values entries tree (rows list)) (given_of entries tree (rows list))

-- a text more changes no key
pub put_once : (set : ℕ × Value) (tree : Forest Row) (key : ℕ) → count_of_key key (with_text_at tree set) ≡ count_of_key key tree
put_once set tree key = count_of_key-put key set.0 (with_text_of (Some set.1)) tree

pub count_sets : (key : ℕ) (sets : List (ℕ × Value)) (tree : Forest Row) → count_of_key key (fold with_text_at tree sets) ≡ count_of_key key tree
count_sets key [] tree = refl
count_sets key (set ∷ more) tree = count_sets key more (with_text_at tree set) ∙ put_once set tree key

-- a view that is given an offset is the same in its row
pub same_put : (view : ℕ) (tree : Forest Row) → changed_at_key view (λ (own : PlainView). own) tree ≡ tree
same_put view Nothing = refl
same_put view (Branch row kids siblings) = elim (cases_Bool (row.key == view)) [
  | inl e ↦ rw e refl
  | inr e ↦ rw (e, same_put view kids, same_put view siblings) refl
]

-- what one view more is given
pub given_on : (entries : List StateEntry) (tree : Forest Row) (view : ℕ) (next : Option ℕ) (done : List (ℕ × Value)) → 0 < count_of_key view tree
    → rows_from next tree ≡ drop 1 (rows_from (Some view) tree)
    → (done ++ paired view (wanted entries tree view)) ++ given_values entries tree (rows_from next tree) ≡ done ++ given_values entries tree (rows_from (Some view) tree)
given_on entries tree view next done live is =
    let f = status view tree live in
    let parts : rows_from (Some view) tree ≡ f.row ∷ rows_from next tree = f.is ∙ ap (λ (list : List Row). f.row ∷ list) (sym is) in
    append_assoc done (paired view (wanted entries tree view)) (given_values entries tree (rows_from next tree))
    ∙ ap (λ (key : ℕ). done ++ (paired key (wanted entries tree key) ++ given_values entries tree (rows_from next tree))) (sym f.key_is)
    ∙ ap (λ (list : List Row). done ++ given_values entries tree list) (sym parts)

-- the first view has the text that it is given
set_first : (row : Row) (kids siblings : Forest Row) (given : Option Value)
    → fold with_text_at (Branch row kids siblings) (paired row.key given) ≡ Branch (record row { view = with_text_of given row.view }) kids siblings
set_first row kids siblings None = refl
set_first row kids siblings (Some value) = rw (eq-eqb row.key row.key refl) refl

-- views below it have theirs
set_below : (row : Row) (kids siblings : Forest Row) (sets : List (ℕ × Value)) → ((key : ℕ) → count_of_key key (Branch row kids siblings) ≤ 1) → All (IsIn kids) sets
    → fold with_text_at (Branch row kids siblings) sets ≡ Branch row (fold with_text_at kids sets) siblings
set_below row kids siblings [] once there = refl
set_below row kids siblings (set ∷ more) once there =
    let own : 0 < count_of_key set.0 kids = All-head (IsIn kids) set more there in
    let one = once set.0 in
    elim (cases_eq row.key set.0) [
      | inl e ↦ absurd (let n = rw (eq-eqb row.key set.0 e) at one in omega arith)
      | inr ne ↦
          let n = rw (ne_eqb row.key set.0 ne) at one in
          let none : count_of_key set.0 siblings ≡ 0 = omega arith in
          rw (ne_eqb row.key set.0 ne, put_absent set.0 (with_text_of (Some set.1)) siblings none)
          (set_below row (with_text_at kids set) siblings more (λ key. let a = put_once set kids key in let b = once key in omega arith)
          (All-weaker (IsIn kids) (IsIn (with_text_at kids set)) (λ other here. let a = put_once set kids other.0 in omega arith) more (All-tail (IsIn kids) set more there)))
    ]

-- and so do views after it
set_after : (row : Row) (kids siblings : Forest Row) (sets : List (ℕ × Value)) → ((key : ℕ) → count_of_key key (Branch row kids siblings) ≤ 1) → All (IsIn siblings) sets
    → fold with_text_at (Branch row kids siblings) sets ≡ Branch row kids (fold with_text_at siblings sets)
set_after row kids siblings [] once there = refl
set_after row kids siblings (set ∷ more) once there =
    let own : 0 < count_of_key set.0 siblings = All-head (IsIn siblings) set more there in
    let one = once set.0 in
    elim (cases_eq row.key set.0) [
      | inl e ↦ absurd (let n = rw (eq-eqb row.key set.0 e) at one in omega arith)
      | inr ne ↦
          let n = rw (ne_eqb row.key set.0 ne) at one in
          let none : count_of_key set.0 kids ≡ 0 = omega arith in
          rw (ne_eqb row.key set.0 ne, put_absent set.0 (with_text_of (Some set.1)) kids none)
          (set_after row kids (with_text_at siblings set) more (λ key. let a = put_once set siblings key in let b = once key in omega arith)
          (All-weaker (IsIn siblings) (IsIn (with_text_at siblings set)) (λ other here. let a = put_once set siblings other.0 in omega arith) more (All-tail (IsIn siblings) set more there)))
    ]

-- texts change no key
pub count-restated : (entries : List StateEntry) (key : ℕ) (list : Forest Row) → count_of_key key (restated entries list) ≡ count_of_key key list
count-restated entries key Nothing = refl
count-restated entries key (Branch row kids siblings) = let a = count-restated entries key kids in let b = count-restated entries key siblings in omega arith

module _ (entries : List StateEntry) (tree : Forest Row) (once : (key : ℕ) → count_of_key key tree ≤ 1) where
  -- each view of a part has the text that it is given
  restated_part : (list : Forest Row) → Within list tree → fold with_text_at list (given_values entries tree (rows list)) ≡ restated entries list
  restated_part Nothing w = refl
  restated_part (Branch row kids siblings) w =
      let part_once : (key : ℕ) → count_of_key key (Branch row kids siblings) ≤ 1 = λ key. (let a = count_of_key-within key w in let b = once key in omega arith) in
      let own : wanted entries tree row.key ≡ given entries row.view = ap (λ (part : Forest Row). given entries (head_view part)) (from_within row kids siblings w (once row.key)) in
      let first = paired row.key (wanted entries tree row.key) in
      let below = given_values entries tree (rows kids) in
      let after = given_values entries tree (rows siblings) in
      let reported : Row = record row { view = with_text_of (given entries row.view) row.view } in
      ap (λ (sets : List (ℕ × Value)). fold with_text_at (Branch row kids siblings) (first ++ sets)) (given_append entries tree (rows kids) (rows siblings))
      ∙ fold-append with_text_at (Branch row kids siblings) first (below ++ after)
      ∙ ap (λ (part : Forest Row). fold with_text_at part (below ++ after))
      (set_first row kids siblings (wanted entries tree row.key)
      ∙ ap (λ (given : Option Value). Branch (let own : Row = record row { view = with_text_of given row.view } in own) kids siblings) own)
      ∙ fold-append with_text_at (Branch reported kids siblings) below after
      ∙ ap (λ (part : Forest Row). fold with_text_at part after) (set_below reported kids siblings below part_once (given_in entries tree kids))
      ∙ ap (λ (below : Forest Row). fold with_text_at (Branch reported below siblings) after) (restated_part kids (Within-children_of_first w))
      ∙ set_after reported (restated entries kids) siblings after (λ key. let a = count-restated entries key kids in let b = part_once key in omega arith) (given_in entries tree siblings)
      ∙ ap (λ (after : Forest Row). Branch reported (restated entries kids) after) (restated_part siblings (Within-later_siblings w))

  pub all_restated : fold with_text_at tree (given_values entries tree (rows tree)) ≡ restated entries tree
  all_restated = restated_part tree here
