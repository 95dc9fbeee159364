-- Where views are after edits of a tree, and while some of them are hidden.
use Rattle.std.proofs.Common.{◌≡◌, ◌≢◌, ℕ, ◌+◌, ◌<◌, ◌≤◌, true, false, List, [], ◌++◌, map, Option, Some, None, refl, sym, ◌∙◌, ap, arith, eqb-true, inl, inr, append_assoc}
use Rattle.std.proofs.lemmas.Bool.{eq-eqb, cases_Bool}
use Rattle.std.proofs.lemmas.List.{append-nil, map-append}
use Rattle.std.proofs.lemmas.List.Elements.{filter-append}
use mathlib.Core.List.{map-map}
use Rattle.std.proofs.lemmas.List.Folds.{find-append, list_any-append}
use Rattle.std.specs.List.{list_any}
use Rattle.std.specs.Option.{option_map, option_or}
use Rattle.std.specs.Prelude.{◌==◌, ◌||◌, find, not}
use Rattle.geom_core.specs.declared.geometry.Rect.{Rect}
use Rattle.view_model.specs.Forest.{Forest, Nothing, Branch, joined, or_else, rows}
use Rattle.view_model.specs.Geometry.{Laid, rect_in, without}
use Rattle.view_model.specs.PlainTree.{PlainView, numbers_of, part_of}
use Rattle.view_tree.specs.tree.Grafted.{Gained}
use Rattle.view_tree.specs.tree.Hidden.{NoBounds}
use Rattle.view_tree.specs.declared.node.state.State.{State}
use Rattle.view_tree.specs.Rows.{Row, first_tree, pruned_at_key, part_from, grown_at_key, leaf, changed_at_key, count_of_key, count_of_number, with_child}
use Rattle.view_tree.specs.Views.{Held, IsLive, IsTree, Views, geometry_of, held_of, laid_at, laid_rows, number_of, plain_of, scrolled, state_of}
use Rattle.view_tree.proofs.forest.KeyLaws.{Agree, absent, number_self, or_else_live, times_self, zero_or_more}
use Rattle.view_tree.proofs.forest.NumberLaws.{agree_times, cut_absent, number-part, count_of_key-pruned_at_key}
use Rattle.view_tree.proofs.forest.ForestLaws.{rows-map}
use Rattle.view_tree.proofs.forest.PlainLaws.{agree_live, plain-part}

-- a geometry only looks at the bounds of the views
pub laid_along : (old new : ℕ → Held) (tree : Forest Row) → ((key : ℕ) → 0 < count_of_key key tree → (new key).state.bounds ≡ (old key).state.bounds) → laid_rows new tree ≡ laid_rows old tree
laid_along old new Nothing same = refl
laid_along old new (Branch row kids siblings) same =
    let own : (new row.key).state.bounds ≡ (old row.key).state.bounds = same row.key (times_self row kids siblings) in
    rw (own, laid_along old new kids (λ key live. same key (omega arith)), laid_along old new siblings (λ key live. same key (omega arith)))

-- no view of a list has bounds if none of its keys has, and then its geometry is empty
pub no_bounds : (held : ℕ → Held) (list : Forest Row) → ((key : ℕ) → 0 < count_of_key key list → (held key).state.bounds ≡ None) → NoBounds held list
no_bounds held Nothing none = tt
no_bounds held (Branch row kids siblings) none = (
  record { bounds = none row.key (times_self row kids siblings) },
  no_bounds held kids (λ key live. none key (omega arith)),
  no_bounds held siblings (λ key live. none key (omega arith)),
)

pub laid_nowhere : (held : ℕ → Held) (list : Forest Row) → NoBounds held list → laid_rows held list ≡ []
laid_nowhere held Nothing none = refl
laid_nowhere held (Branch row kids siblings) none = rw (none.0.bounds, laid_nowhere held kids none.1, laid_nowhere held siblings none.2)

-- a changed view keeps its place
pub laid-put : (held : ℕ → Held) (key : ℕ) (change : PlainView → PlainView) (tree : Forest Row) → ((view : PlainView) → (change view).number ≡ view.number)
    → laid_rows held (changed_at_key key change tree) ≡ laid_rows held tree
laid-put held key change Nothing same = refl
laid-put held key change (Branch row kids siblings) same =
    elim (cases_Bool (row.key == key)) [
      | inl e ↦ rw (e, same row.view)
      | inr e ↦ rw (e, laid-put held key change kids same, laid-put held key change siblings same)
    ]

pub geometry-put : (old new : ℕ → Held) (key : ℕ) (change : PlainView → PlainView) (tree : Forest Row) → ((view : PlainView) → (change view).number ≡ view.number)
    → ((other : ℕ) → (new other).state.bounds ≡ (old other).state.bounds) → laid_rows new (changed_at_key key change tree) ≡ laid_rows old tree
geometry-put old new key change tree numbers same = laid-put new key change tree numbers ∙ laid_along old new tree (λ other live. same other)

-- more views after a list
pub laid-joined : (held : ℕ → Held) (list more : Forest Row) → laid_rows held (joined list more) ≡ laid_rows held list ++ laid_rows held more
laid-joined held Nothing more = refl
laid-joined held (Branch row kids siblings) more =
    rw (laid-joined held siblings more)
    (simp append_assoc)

pub laid-grown : (held : ℕ → Held) (parent : ℕ) (new tree : Forest Row) → laid_rows held new ≡ [] → laid_rows held (grown_at_key parent new tree) ≡ laid_rows held tree
laid-grown held parent new Nothing none = refl
laid-grown held parent new (Branch row kids siblings) none =
    elim (cases_Bool (row.key == parent)) [
      | inl e ↦ rw (e, laid-joined held kids new, none, append-nil (laid_rows held kids))
      | inr e ↦ rw (e, laid-grown held parent new kids none, laid-grown held parent new siblings none)
    ]

-- a new view without bounds changes no geometry
pub geometry-with_child : (old : Views) (new : ℕ → Held) (parent : Option ℕ) (key : ℕ) (view : PlainView) → (parent ≡ None → old.tree ≡ Nothing) → count_of_key key old.tree ≡ 0
    → (new key).state.bounds ≡ None → ((other : ℕ) → other ≢ key → new other ≡ held_of old other)
    → laid_rows new (with_child parent (leaf key view) old.tree) ≡ geometry_of old
geometry-with_child old new None key view root none bounds others = rw (root refl, bounds)
geometry-with_child old new (Some parent) key view root none bounds others =
    laid-grown new parent (leaf key view) old.tree (rw bounds)
    ∙ laid_along (held_of old) new old.tree
    (λ other live. ap (λ (h : Held). h.state.bounds) (others other (λ e. let z : count_of_key other old.tree ≡ 0 = rw e none in omega arith)))

-- and so with views that were added without bounds
pub geometry-gained : (old new : Views) (parent : Option ℕ) (added : Forest Row) → (parent ≡ None → old.tree ≡ Nothing) → Gained old parent added new → geometry_of new ≡ geometry_of old
geometry-gained old new parent added root gained = ap (laid_rows (held_of new)) gained.tree ∙ following parent root
  where
    none : laid_rows (held_of new) added ≡ []
    none = laid_nowhere (held_of new) added (no_bounds (held_of new) added (λ key live. ap (λ (s : State). s.bounds) (gained.made key live)))

    elsewhere : (other : ℕ) → 0 < count_of_key other old.tree → count_of_key other added ≡ 0
    elsewhere other live = elim (zero_or_more (count_of_key other added)) [
      | inl none ↦ none
      | inr came ↦ absurd (let unused = gained.unused other came in omega arith)
    ]

    following : (parent : Option ℕ) → (parent ≡ None → old.tree ≡ Nothing) → laid_rows (held_of new) (with_child parent added old.tree) ≡ geometry_of old
    following None root = none ∙ sym (ap (laid_rows (held_of old)) (root refl))
    following (Some key) root =
        laid-grown (held_of new) key added old.tree none
        ∙ laid_along (held_of old) (held_of new) old.tree
        (λ other live. ap (λ (h : Held). h.state.bounds) (gained.others other (elsewhere other live)))

-- the numbers of keyed views
abbrev pub row_numbers : Forest Row → List ℕ
row_numbers list = map (λ (row : Row). row.view.number) (rows list)

-- whether a number is among those of some views
pub any_append : (number : ℕ) (xs ys : List ℕ) → list_any (λ n. n == number) (xs ++ ys) ≡ (list_any (λ n. n == number) xs || list_any (λ n. n == number) ys)
any_append number xs ys = list_any-append (λ n. n == number) xs ys

pub among_not : (number : ℕ) (list : Forest Row) → count_of_number number list ≡ 0 → list_any (λ n. n == number) (row_numbers list) ≡ false
among_not number Nothing none = refl
among_not number (Branch row kids siblings) none =
    elim (cases_Bool (row.view.number == number)) [
      | inl e ↦ absurd (let none = rw e at none in omega arith)
      | inr e ↦ rw (
        e,
        map-append (λ (row : Row). row.view.number) (rows kids) (rows siblings),
        any_append number (row_numbers kids) (row_numbers siblings),
        among_not number kids (omega arith),
        among_not number siblings (omega arith),
      )
    ]

pub among : (number : ℕ) (list : Forest Row) → 0 < count_of_number number list → list_any (λ n. n == number) (row_numbers list) ≡ true
among number Nothing some = absurd (omega arith)
among number (Branch row kids siblings) some =
    elim (cases_Bool (row.view.number == number)) [
      | inl e ↦ rw e
      | inr e ↦
          let some = rw e at some in
          rw (e, map-append (λ (row : Row). row.view.number) (rows kids) (rows siblings), any_append number (row_numbers kids) (row_numbers siblings)) (
          elim (zero_or_more (count_of_number number kids)) [
            | inl z ↦ rw (among_not number kids z, among number siblings (omega arith))
            | inr l ↦ rw (among number kids l)
          ]
          )
    ]

-- a view stays in a geometry or leaves it, by its number
pub without-at_not : (numbers : List ℕ) (number : ℕ) (bounds : Option Rect) → list_any (λ n. n == number) numbers ≡ false → without numbers (laid_at number bounds) ≡ laid_at number bounds
without-at_not numbers number None not_in = refl
without-at_not numbers number (Some rect) not_in = rw not_in

pub without-at : (numbers : List ℕ) (number : ℕ) (bounds : Option Rect) → list_any (λ n. n == number) numbers ≡ true → without numbers (laid_at number bounds) ≡ []
without-at numbers number None in_it = refl
without-at numbers number (Some rect) in_it = rw in_it

pub without-append : (numbers : List ℕ) (xs ys : List Laid) → without numbers (xs ++ ys) ≡ without numbers xs ++ without numbers ys
without-append numbers xs ys = filter-append (λ (laid : Laid). not (list_any (λ n. n == laid.number) numbers)) xs ys

pub without-branch : (numbers : List ℕ) (held : ℕ → Held) (row : Row) (kids siblings : Forest Row)
    → without numbers (laid_rows held (Branch row kids siblings))
    ≡ without numbers (laid_at row.view.number (held row.key).state.bounds) ++ (without numbers (laid_rows held kids) ++ without numbers (laid_rows held siblings))
without-branch numbers held row kids siblings =
    without-append numbers (laid_at row.view.number (held row.key).state.bounds) (laid_rows held kids ++ laid_rows held siblings)
    ∙ ap (λ more. without numbers (laid_at row.view.number (held row.key).state.bounds) ++ more) (without-append numbers (laid_rows held kids) (laid_rows held siblings))

-- views of other numbers stay
pub without-kept : (part : Forest Row) (held : ℕ → Held) (list : Forest Row) → ((number : ℕ) → 0 < count_of_number number list → count_of_number number part ≡ 0)
    → without (row_numbers part) (laid_rows held list) ≡ laid_rows held list
without-kept part held Nothing apart = refl
without-kept part held (Branch row kids siblings) apart =
    without-branch (row_numbers part) held row kids siblings
    ∙ rw (
      without-at_not (row_numbers part) row.view.number (held row.key).state.bounds
          (among_not row.view.number part (apart row.view.number (number_self row kids siblings))),
      without-kept part held kids (λ number there. apart number (omega arith)),
      without-kept part held siblings (λ number there. apart number (omega arith)),
    )

-- views of these numbers are removed
pub without-gone : (part : Forest Row) (held : ℕ → Held) (list : Forest Row) → ((number : ℕ) → 0 < count_of_number number list → 0 < count_of_number number part)
    → without (row_numbers part) (laid_rows held list) ≡ []
without-gone part held Nothing within = refl
without-gone part held (Branch row kids siblings) within =
    without-branch (row_numbers part) held row kids siblings
    ∙ rw (
      without-at (row_numbers part) row.view.number (held row.key).state.bounds
          (among row.view.number part (within row.view.number (number_self row kids siblings))),
      without-gone part held kids (λ number there. within number (omega arith)),
      without-gone part held siblings (λ number there. within number (omega arith)),
    )

-- the number of a view is not below it or after it, if it occurs once
number_apart : (row : Row) (kids siblings part : Forest Row) → count_of_number row.view.number (Branch row kids siblings) ≤ 1
    → count_of_number row.view.number part ≤ count_of_number row.view.number kids + count_of_number row.view.number siblings
    → count_of_number row.view.number part ≡ 0
number_apart row kids siblings part one less = let one = rw (eq-eqb row.view.number row.view.number refl) at one in omega arith

-- a cut takes the views of the part out of a geometry
pub laid-pruned_at_key : (held : ℕ → Held) (key : ℕ) (tree : Forest Row) → count_of_key key tree ≤ 1 → ((number : ℕ) → count_of_number number tree ≤ 1)
    → laid_rows held (pruned_at_key key tree) ≡ without (row_numbers (first_tree (part_from key tree))) (laid_rows held tree)
laid-pruned_at_key held key Nothing once numbers = refl
laid-pruned_at_key held key (Branch row kids siblings) once numbers =
    elim (cases_Bool (row.key == key)) [
      | inl e ↦ rw e (
          sym (
          without-branch (row_numbers (Branch row kids Nothing)) held row kids siblings
          ∙ rw (
            without-at (row_numbers (Branch row kids Nothing)) row.view.number (held row.key).state.bounds
                (among row.view.number (Branch row kids Nothing) (number_self row kids Nothing)),
            without-gone (Branch row kids Nothing) held kids (λ number there. omega arith),
            without-kept (Branch row kids Nothing) held siblings (λ number there. let one = numbers number in omega arith),
          )
          )
          )
      | inr e ↦
          let once = rw e at once in
          elim (zero_or_more (count_of_key key kids)) [
            | inl z ↦ rw (e, cut_absent key kids z, absent key kids z) (
                sym (
                without-branch (row_numbers (first_tree (part_from key siblings))) held row kids siblings
                ∙ rw (
                  without-at_not (row_numbers (first_tree (part_from key siblings))) row.view.number (held row.key).state.bounds
                      (among_not row.view.number (first_tree (part_from key siblings))
                      (let part = number-part row.view.number key siblings in number_apart row kids siblings (first_tree (part_from key siblings)) (numbers row.view.number) (omega arith))),
                  without-kept (first_tree (part_from key siblings)) held kids
                      (λ number there. let one = numbers number in let part = number-part number key siblings in omega arith),
                  sym (laid-pruned_at_key held key siblings (omega arith) (λ number. let one = numbers number in omega arith)),
                )
                )
                )
            | inr l ↦ rw (e, cut_absent key siblings (omega arith), or_else_live key kids (part_from key siblings) l) (
                sym (
                without-branch (row_numbers (first_tree (part_from key kids))) held row kids siblings
                ∙ rw (
                  without-at_not (row_numbers (first_tree (part_from key kids))) row.view.number (held row.key).state.bounds
                      (among_not row.view.number (first_tree (part_from key kids))
                      (let part = number-part row.view.number key kids in number_apart row kids siblings (first_tree (part_from key kids)) (numbers row.view.number) (omega arith))),
                  without-kept (first_tree (part_from key kids)) held siblings
                      (λ number there. let one = numbers number in let part = number-part number key kids in omega arith),
                  sym (laid-pruned_at_key held key kids (omega arith) (λ number. let one = numbers number in omega arith)),
                )
                )
                )
          ]
    ]

-- a cut of views that have no bounds changes no geometry
pub laid-cut_nowhere : (held : ℕ → Held) (key : ℕ) (tree : Forest Row) → count_of_key key tree ≤ 1 → NoBounds held (first_tree (part_from key tree))
    → laid_rows held (pruned_at_key key tree) ≡ laid_rows held tree
laid-cut_nowhere held key Nothing once none = refl
laid-cut_nowhere held key (Branch row kids siblings) once none =
    elim (cases_Bool (row.key == key)) [
      | inl e ↦ let none = rw e at none in rw (e, none.0.bounds, laid_nowhere held kids none.1)
      | inr e ↦
          let once = rw e at once in
          let none : NoBounds held (first_tree (or_else (part_from key kids) (part_from key siblings))) = rw e at none in
          elim (zero_or_more (count_of_key key kids)) [
            | inl z ↦ rw (e, cut_absent key kids z, laid-cut_nowhere held key siblings (omega arith) (rw (absent key kids z) at none))
            | inr l ↦ rw (e, cut_absent key siblings (omega arith), laid-cut_nowhere held key kids (omega arith) (rw (or_else_live key kids (part_from key siblings) l) at none))
          ]
    ]

-- the numbers of the part of a live key
pub part_numbers : (views : Views) (key : ℕ) → IsTree views → IsLive views key
    → numbers_of (part_of (number_of views key) (plain_of views)) ≡ row_numbers (first_tree (part_from key views.tree))
part_numbers views key is live =
    ap numbers_of (plain-part (held_of views) key (number_of views key) views.tree (agree_live views key is live))
    ∙ ap (map (λ (view : PlainView). view.number)) (rows-map (scrolled (held_of views)) (first_tree (part_from key views.tree)))
    ∙ map-map (λ (view : PlainView). view.number) (scrolled (held_of views)) (rows (first_tree (part_from key views.tree)))

-- where views are once a view and all below it are cut off, and what is kept of the others is the same
pub geometry-pruned_at_key : (views : Views) (new : ℕ → Held) (key : ℕ) → IsTree views → IsLive views key
    → ((other : ℕ) → count_of_key other (first_tree (part_from key views.tree)) ≡ 0 → new other ≡ held_of views other)
    → laid_rows new (pruned_at_key key views.tree) ≡ without (numbers_of (part_of (number_of views key) (plain_of views))) (geometry_of views)
geometry-pruned_at_key views new key is live same =
    laid_along (held_of views) new (pruned_at_key key views.tree)
    (λ other stays.
    let both = count_of_key-pruned_at_key other key views.tree (is.keys key) in
    let one = is.keys other in
    ap (λ (h : Held). h.state.bounds) (same other (omega arith)))
    ∙ laid-pruned_at_key (held_of views) key views.tree (is.keys key) is.numbers
    ∙ ap (λ numbers. without numbers (geometry_of views)) (sym (part_numbers views key is live))

-- where views are once a view and all below it have no bounds, and what is kept of the others is the same
pub geometry-hidden : (views : Views) (new : ℕ → Held) (key : ℕ) → IsTree views → IsLive views key
    → ((other : ℕ) → 0 < count_of_key other (first_tree (part_from key views.tree)) → (new other).state.bounds ≡ None)
    → ((other : ℕ) → count_of_key other (first_tree (part_from key views.tree)) ≡ 0 → new other ≡ held_of views other)
    → laid_rows new views.tree ≡ without (numbers_of (part_of (number_of views key) (plain_of views))) (geometry_of views)
geometry-hidden views new key is live none same =
    sym (laid-cut_nowhere new key views.tree (is.keys key) (no_bounds new (first_tree (part_from key views.tree)) none))
    ∙ geometry-pruned_at_key views new key is live same

-- a number that is not there has no rectangle
pub find-laid_absent : (held : ℕ → Held) (number : ℕ) (tree : Forest Row) → count_of_number number tree ≡ 0
    → find (λ (laid : Laid). laid.number == number) (laid_rows held tree) ≡ None
find-laid_absent held number Nothing none = refl
find-laid_absent held number (Branch row kids siblings) none =
    elim (cases_Bool (row.view.number == number)) [
      | inl e ↦ absurd (let none = rw e at none in omega arith)
      | inr e ↦
          find-append (λ (laid : Laid). laid.number == number) (laid_at row.view.number (held row.key).state.bounds) (laid_rows held kids ++ laid_rows held siblings)
          ∙ rw (
            find_at_other number row.view.number (held row.key).state.bounds e,
            find-append (λ (laid : Laid). laid.number == number) (laid_rows held kids) (laid_rows held siblings),
            find-laid_absent held number kids (omega arith),
            find-laid_absent held number siblings (omega arith),
          )
    ]
  where
    find_at_other : (number own : ℕ) (bounds : Option Rect) → (own == number) ≡ false → find (λ (laid : Laid). laid.number == number) (laid_at own bounds) ≡ None
    find_at_other number own None other = refl
    find_at_other number own (Some rect) other = rw other

rect_own : (number own : ℕ) (bounds : Option Rect) (rest : List Laid) → (own == number) ≡ true → find (λ (laid : Laid). laid.number == number) rest ≡ None
    → rect_in (laid_at own bounds ++ rest) number ≡ bounds
rect_own number own None rest is none = rw none
rect_own number own (Some rect) rest is none = rw is

rect_other : (number own : ℕ) (bounds : Option Rect) (rest : List Laid) → (own == number) ≡ false → rect_in (laid_at own bounds ++ rest) number ≡ rect_in rest number
rect_other number own None rest other = refl
rect_other number own (Some rect) rest other = rw other

-- the rectangle of a live key's number is its bounds
pub rect_is : (held : ℕ → Held) (key number : ℕ) (tree : Forest Row) → 0 < count_of_key key tree → count_of_key key tree ≤ 1 → Agree key number tree
    → rect_in (laid_rows held tree) number ≡ (held key).state.bounds
rect_is held key number Nothing live once agree = absurd (omega arith)
rect_is held key number (Branch row kids siblings) live once agree =
    let test = λ (laid : Laid). laid.number == number in
    let later = find-append test (laid_rows held kids) (laid_rows held siblings) in
    elim (cases_Bool (row.key == key)) [
      | inl e ↦
          let once = rw e at once in
          let own : row.key ≡ key = eqb-true _ _ e in
          rect_own number row.view.number (held row.key).state.bounds (laid_rows held kids ++ laid_rows held siblings) (agree.0 ∙ e)
          (later ∙ rw (find-laid_unkeyed held key number kids (omega arith) agree.1, find-laid_unkeyed held key number siblings (omega arith) agree.2))
          ∙ ap (λ k. (held k).state.bounds) own
      | inr e ↦
          let live = rw e at live in
          let once = rw e at once in
          rect_other number row.view.number (held row.key).state.bounds (laid_rows held kids ++ laid_rows held siblings) (agree.0 ∙ e)
          ∙ ap (option_map (λ (laid : Laid). laid.rect)) later
          ∙ elim (zero_or_more (count_of_key key kids)) [
            | inl z ↦ rw (find-laid_unkeyed held key number kids z agree.1) (rect_is held key number siblings (omega arith) (omega arith) agree.2)
            | inr l ↦ rw (find-laid_unkeyed held key number siblings (omega arith) agree.2)
                (option_or_none (option_map (λ (laid : Laid). laid.rect)) (find test (laid_rows held kids)) ∙ rect_is held key number kids l (omega arith) agree.1)
          ]
    ]
  where
    find-laid_unkeyed : (held : ℕ → Held) (key number : ℕ) (list : Forest Row) → count_of_key key list ≡ 0 → Agree key number list
        → find (λ (laid : Laid). laid.number == number) (laid_rows held list) ≡ None
    find-laid_unkeyed held key number list none agree = find-laid_absent held number list (agree_times key number list agree ∙ none)

    option_or_none : {X Y : Type 0} (f : Option X → Y) (o : Option X) → f (option_or o None) ≡ f o
    option_or_none f None = refl
    option_or_none f (Some x) = refl

pub rect_live : (views : Views) (key : ℕ) → IsTree views → IsLive views key → rect_in (geometry_of views) (number_of views key) ≡ (state_of views key).bounds
rect_live views key is live = rect_is (held_of views) key (number_of views key) views.tree live (is.keys key) (agree_live views key is live)
