-- The views that an edit has no reason to lay out, by their keys and by their numbers.
use Rattle.std.proofs.Common.{◌≡◌, ℕ, ◌+◌, ◌<◌, ◌≤◌, Bool, true, false, List, [], ◌∷◌, ◌++◌, map, Option, Some, None, refl, sym, ◌∙◌, ap, subst, arith, inl, inr}
use Rattle.std.proofs.lemmas.Bool.{cases_Bool, cases_eq, eq-eqb, ne_eqb}
use Rattle.std.proofs.lemmas.List.{map-append}
use Rattle.std.proofs.lemmas.List.Folds.{list_any-append}
use Rattle.std.specs.Prelude.{◌≢◌, ◌⊎◌, ◌==◌, ◌||◌, if◌then◌else◌, not, IfSome}
use Rattle.std.specs.Option.{option_map}
use Rattle.damage_rect.specs.Within.{LiesIn}
use Rattle.geom_core.specs.declared.geometry.Rect.{Rect}
use Rattle.touch_dispatch.specs.reaching.TreeEvents.{OnlyScrolls}
use Rattle.tree_edits.specs.Applied.{IsEdit}
use Rattle.tree_edits.specs.Asking.{LeavesUnasked as EditLeaves, acted_view, asked_by_act as asked_key, asked_by_turn, excused, is_in_part, is_on_paths as are_on_paths, listed as listed_key, nearest as nearest_key, requests_layout}
use Rattle.tree_edits.specs.Editing.{hides, turns}
use Rattle.tree_edits.specs.declared.edits.Edit.{Edit}
use Rattle.tree_edits.specs.declared.edits.Edit.TheVariants as edit
use Rattle.kept_views.specs.Pressing.{path_of}
use Rattle.view_model.specs.declared.changes.Act.{Act}
use Rattle.view_model.specs.declared.changes.Act.TheVariants as act
use Rattle.view_model.specs.declared.placing.Direction.{Direction}
use Rattle.view_model.specs.Changes.{facts_after_act}
use Rattle.view_model.specs.Directed.{turned}
use Rattle.view_model.specs.Direction.{dir}
use Rattle.view_model.specs.Forest.{Forest, Nothing, Branch, EveryRow, rows}
use Rattle.view_model.specs.PlainTree.{PlainView, numbers_of, part_of, with_facts}
use Rattle.view_tree.proofs.forest.ForestLaws.{every-edited}
use Rattle.view_tree.proofs.forest.KeyLaws.{Within, here, in_below, in_after, located, times_self, zero_or_more}
use Rattle.view_tree.proofs.forest.NumberLaws.{count_of_key-put}
use Rattle.view_tree.proofs.forest.PlainLaws.{agree_live, plain-change_facts}
use Rattle.view_tree.specs.tree.Directions.{turned_keys}
use Rattle.view_tree.specs.tree.Requests.{among}
use Rattle.view_tree.specs.Rows.{Row, ancestors, around, changed_at_key, count_of_key, first_tree, part_from, views_of}
use Rattle.view_tree.specs.Views.{Held, IsLive, IsTree, Views, held_of, number_of, plain_of, plain_rows, scrolled}
use Rattle.world_parts.proofs.trees.AncestorLaws.{ancestors_named, numbers_named}
use Rattle.world_parts.proofs.edits.RemovalLaws.{part_numbers}
use Rattle.view_world.proofs.edits.GrowingLaws.{addable_live}
use Rattle.view_world.proofs.frames.RestLaws.{scrolls_cache, scrolls_state}
use Rattle.view_world.specs.frames.Asked.{LeavesBut, asked_by_act, gone_by_act, is_excused, is_in_parts, is_on_paths, listed, numbers_asked, numbers_gone}
use Rattle.view_world.specs.screen.KeyedScreen.{KeyedScreen}
use Rattle.view_world.specs.frames.Resting.{KeepsBut}
use Rattle.view_world.specs.declared.world.marks.Effect.TheVariants.{Asks}
use Rattle.world_parts.specs.Touching.{ancestors_of, is_among, nearest, parent_of}

among_named : (named : ℕ → ℕ) (key : ℕ) (keys : List ℕ) → among key keys ≡ true → is_among (named key) (map named keys) ≡ true
among_named named key [] there = absurd cc
among_named named key (first ∷ more) there = elim (cases_eq first key) [
  | inl e ↦ rw (eq-eqb (named key) (named first) (ap named (sym e))) refl
  | inr ne ↦ let later : among key more ≡ true = rw (ne_eqb first key ne) at there in or_true (named key == named first) _ (among_named named key more later)
]
  where
    or_true : (one other : Bool) → other ≡ true → (one || other) ≡ true
    or_true true other e = refl
    or_true false other e = e

pub unless : (one other : Bool) → (if one then true else other) ≡ false → (one ≡ false) × (other ≡ false)
unless true other e = absurd cc
unless false other e = (refl, e)

-- a view around another, or the other itself, has one of these numbers
path_named : (views : Views) (asked key : ℕ) → IsTree views → IsLive views asked → among key (path_of asked views.tree) ≡ true
    → is_among (number_of views key) (number_of views asked ∷ ancestors_of (number_of views asked) (plain_of views)) ≡ true
path_named views asked key is live there =
    ap (λ (numbers : List ℕ). is_among (number_of views key) (number_of views asked ∷ numbers)) (ancestors_named views asked is live)
    ∙ among_named (number_of views) key (path_of asked views.tree) there

pub off_key : (views : Views) (asked key : ℕ) → IsTree views → IsLive views asked
    → is_among (number_of views key) (number_of views asked ∷ ancestors_of (number_of views asked) (plain_of views)) ≡ false → among key (path_of asked views.tree) ≡ false
off_key views asked key is live none = elim (cases_Bool (among key (path_of asked views.tree))) [
  | inr e ↦ e
  | inl e ↦ absurd (let there = path_named views asked key is live e in cc)
]

abbrev pub AllLive : Views → List ℕ → Type 0
AllLive views [] = Unit {0}
AllLive views (key ∷ keys) = IsLive views key × AllLive views keys

-- a number that is on no path of some numbers has a key that is on no path of their keys
pub off_paths : (views : Views) (asked : List ℕ) (key : ℕ) → IsTree views → AllLive views asked
    → is_on_paths (map (number_of views) asked) (plain_of views) (number_of views key) ≡ false → are_on_paths asked views.tree key ≡ false
off_paths views [] key is live none = refl
off_paths views (asked ∷ more) key is live none =
    let both = unless _ _ none in
    rw (off_key views asked key is live.0 both.0) (off_paths views more key is live.1 both.1)

-- a view of a list has its number among those of the list

every_within : (P : Row → Type 0) {part tree : Forest Row} → Within part tree → EveryRow P tree → EveryRow P part
every_within P here every = every
every_within P (in_below within) every = every_within P within every.1
every_within P (in_after within) every = every_within P within every.2

either : (one first second : Bool) → (one ≡ true) ⊎ ((first ≡ true) ⊎ (second ≡ true)) → (one || (first || second)) ≡ true
either true first second e = refl
either false true second e = refl
either false false true e = refl
either false false false (inl e) = absurd cc
either false false false (inr (inl e)) = absurd cc
either false false false (inr (inr e)) = absurd cc

number_among : (named : ℕ → ℕ) (key : ℕ) (list : Forest Row) → EveryRow (λ (row : Row). named row.key ≡ row.view.number) list → 0 < count_of_key key list
    → is_among (named key) (numbers_of (views_of list)) ≡ true
number_among named key Nothing every live = absurd (omega arith)
number_among named key (Branch row kids siblings) every live =
    let number : PlainView → ℕ = λ view. view.number in
    let is : is_among (named key) (map number (rows (views_of kids) ++ rows (views_of siblings))) ≡ (is_among (named key) (numbers_of (views_of kids)) || is_among (named key) (numbers_of (views_of siblings))) =
    ap (is_among (named key)) (map-append number (rows (views_of kids)) (rows (views_of siblings)))
    ∙ list_any-append (λ (n : ℕ). named key == n) (numbers_of (views_of kids)) (numbers_of (views_of siblings)) in
    ap (λ (b : Bool). (named key == row.view.number) || b) is ∙ either (named key == row.view.number) _ _ (elim (cases_eq row.key key) [
      | inl e ↦ inl (eq-eqb (named key) row.view.number (ap named (sym e) ∙ every.0))
      | inr ne ↦
          let live : 0 + (count_of_key key kids + count_of_key key siblings) ≢ 0 = let l = rw (ne_eqb row.key key ne) at live in omega (arith, l) in
          elim (zero_or_more (count_of_key key kids)) [
            | inl none ↦ inr (inr (number_among named key siblings every.2 (omega (arith, live, none))))
            | inr some ↦ inr (inl (number_among named key kids every.1 some))
          ]
    ])

-- a view in the part of another has one of the numbers of that part
in_part : (views : Views) (gone key : ℕ) → IsTree views → IsLive views gone → 0 < count_of_key key (first_tree (part_from gone views.tree))
    → is_among (number_of views key) (numbers_of (part_of (number_of views gone) (plain_of views))) ≡ true
in_part views gone key is live there =
    let place = located gone views.tree live in
    let own : EveryRow (λ (row : Row). number_of views row.key ≡ row.view.number) (Branch place.row place.kids place.siblings) =
    every_within (λ (row : Row). number_of views row.key ≡ row.view.number) place.within (numbers_named views is) in
    let part : first_tree (part_from gone views.tree) ≡ Branch place.row place.kids Nothing = ap first_tree place.is in
    let there : 0 < count_of_key key (Branch place.row place.kids Nothing) = subst (λ (list : Forest Row). 0 < count_of_key key list) part there in
    ap (is_among (number_of views key)) (sym (part_numbers views gone is live) ∙ ap (λ (list : Forest Row). numbers_of (views_of list)) part)
    ∙ number_among (number_of views) key (Branch place.row place.kids Nothing) (own.0, own.1, tt) there

off_part : (views : Views) (gone key : ℕ) → IsTree views → IsLive views gone → is_among (number_of views key) (numbers_of (part_of (number_of views gone) (plain_of views))) ≡ false
    → is_in_part gone views.tree key ≡ false
off_part views gone key is live none = elim (zero_or_more (count_of_key key (first_tree (part_from gone views.tree)))) [
  | inl zero ↦ rw zero refl
  | inr some ↦ absurd (let there = in_part views gone key is live some in cc)
]

-- the views around a view of a tree are there

all_around : (views : Views) (outer : List ℕ) (key : ℕ) (list : Forest Row) → AllLive views outer → EveryRow (λ (row : Row). IsLive views row.key) list → AllLive views (around outer key list)
all_around views outer key Nothing live every = live
all_around views outer key (Branch row kids siblings) live every = elim (cases_Bool (row.key == key)) [
  | inl e ↦ rw e live
  | inr e ↦ elim (cases_Bool (count_of_key key kids == 0)) [
    | inl f ↦ rw (e, f) (all_around views outer key siblings live every.2)
    | inr f ↦ rw (e, f) (all_around views (row.key ∷ outer) key kids (every.0, live) every.1)
  ]
]

pub every_live : (views : Views) (list : Forest Row) → ((key : ℕ) → count_of_key key list ≤ count_of_key key views.tree) → EveryRow (λ (row : Row). IsLive views row.key) list
every_live views Nothing within = tt
every_live views (Branch row kids siblings) within = (
  let own = times_self row kids siblings in let most = within row.key in omega (arith, own, most),
  every_live views kids (λ key. let most = within key in omega (arith, most)),
  every_live views siblings (λ key. let most = within key in omega (arith, most)),
)

ancestors_live : (views : Views) (view : ℕ) → AllLive views (ancestors view views.tree)
ancestors_live views view = all_around views [] view views.tree tt (every_live views views.tree (λ key. omega arith))

-- a view that is not excused by numbers is not excused by keys

off_parent : (views : Views) (view key : ℕ) → IsTree views → IsLive views view
    → is_on_paths (listed (parent_of (number_of views view) (plain_of views))) (plain_of views) (number_of views key) ≡ false → are_on_paths (nearest_key (ancestors view views.tree)) views.tree key ≡ false
off_parent views view key is live none =
    let parent : parent_of (number_of views view) (plain_of views) ≡ nearest (map (number_of views) (ancestors view views.tree)) = ap nearest (ancestors_named views view is live) in
    up (ancestors view views.tree) (ancestors_live views view) (rw parent at none)
  where
    up : (above : List ℕ) → AllLive views above → is_on_paths (listed (nearest (map (number_of views) above))) (plain_of views) (number_of views key) ≡ false
        → are_on_paths (nearest_key above) views.tree key ≡ false
    up [] live none = refl
    up (parent ∷ more) live none = off_paths views (parent ∷ []) key is (live.0, tt) none

off_place : (views : Views) (parent : Option ℕ) (key : ℕ) → IsTree views → IfSome parent (λ (parent : ℕ). IsLive views parent)
    → is_on_paths (listed (option_map (number_of views) parent)) (plain_of views) (number_of views key) ≡ false → are_on_paths (listed_key parent) views.tree key ≡ false
off_place views None key is live none = refl
off_place views (Some parent) key is live none = off_paths views (parent ∷ []) key is (live, tt) none

pub live_append : (views : Views) (first second : List ℕ) → AllLive views first → AllLive views second → AllLive views (first ++ second)
live_append views [] second one other = other
live_append views (key ∷ first) second one other = (one.0, live_append views first second one.1 other)

-- the numbers of the views that run another way
turned_numbers : (ℕ → Held) → Bool → Forest Row → List ℕ
turned_numbers held above list = map (λ (view : PlainView). view.number) (turned (λ (view : PlainView). view.facts) above (plain_rows held list))

turned_named : (named : ℕ → ℕ) (held : ℕ → Held) (above : Bool) (list : Forest Row) → EveryRow (λ (row : Row). named row.key ≡ row.view.number) list
    → turned_numbers held above list ≡ map named (turned_keys above list)
unfolding turned_numbers
turned_named named held above Nothing every = refl
turned_named named held above (Branch row kids siblings) every =
    let number : PlainView → ℕ = λ view. view.number in
    let key : Row → ℕ = λ row. row.key in
    let rtl = dir above row.view.facts.direction in
    let below = turned (λ (view : PlainView). view.facts) rtl (plain_rows held kids) in
    let after = turned (λ (view : PlainView). view.facts) above (plain_rows held siblings) in
    let below_rows = turned (λ (row : Row). row.view.facts) rtl kids in
    let after_rows = turned (λ (row : Row). row.view.facts) above siblings in
    let rest : map number (below ++ after) ≡ map named (map key (below_rows ++ after_rows)) =
    map-append number below after
    ∙ ap (λ (numbers : List ℕ). numbers ++ map number after) (turned_named named held rtl kids every.1)
    ∙ ap (λ (numbers : List ℕ). map named (map key below_rows) ++ numbers) (turned_named named held above siblings every.2)
    ∙ sym (map-append named (map key below_rows) (map key after_rows))
    ∙ ap (map named) (sym (map-append key below_rows after_rows)) in
    by (if rtl then row.view.facts.rtl else not row.view.facts.rtl) (below ++ after) (below_rows ++ after_rows) rest
  where
    by : (t : Bool) (views : List PlainView) (list : List Row) → map (λ (view : PlainView). view.number) views ≡ map named (map (λ (row : Row). row.key) list)
        → map (λ (view : PlainView). view.number) ((if t then [] else scrolled held row ∷ []) ++ views) ≡ map named (map (λ (row : Row). row.key) ((if t then [] else row ∷ []) ++ list))
    by true views list rest = rest
    by false views list rest = ap (λ (numbers : List ℕ). row.view.number ∷ numbers) rest ∙ ap (λ (number : ℕ). number ∷ map named (map (λ (row : Row). row.key) list)) (sym every.0)

turned_live : (views : Views) (above : Bool) (list : Forest Row) → EveryRow (λ (row : Row). IsLive views row.key) list → AllLive views (turned_keys above list)
turned_live views above Nothing every = tt
turned_live views above (Branch row kids siblings) every =
    let key : Row → ℕ = λ row. row.key in
    let rtl = dir above row.view.facts.direction in
    let below = turned (λ (row : Row). row.view.facts) rtl kids in
    let after = turned (λ (row : Row). row.view.facts) above siblings in
    by (if rtl then row.view.facts.rtl else not row.view.facts.rtl) (below ++ after)
    (subst (AllLive views) (sym (map-append key below after))
    (live_append views (map key below) (map key after) (turned_live views rtl kids every.1) (turned_live views above siblings every.2)))
  where
    by : (t : Bool) (list : List Row) → AllLive views (map (λ (row : Row). row.key) list) → AllLive views (map (λ (row : Row). row.key) ((if t then [] else row ∷ []) ++ list))
    by true list rest = rest
    by false list rest = (every.0, rest)

-- an act that sets a direction
turns_is : (a : Act) → turns a ≡ true → (direction : Direction) × (a ≡ act.Direction direction)
turns_is (act.Direction direction) is = (direction, refl)
turns_is _ is = absurd cc

off_turned : (views : Views) (view key : ℕ) (direction : Direction) → IsTree views → IsLive views view
    → is_on_paths (asked_by_act (plain_of views) (Some (number_of views view)) (act.Direction direction)) (plain_of views) (number_of views key) ≡ false
    → are_on_paths (asked_by_turn views.tree view (act.Direction direction)) views.tree key ≡ false
unfolding turned_numbers
off_turned views view key direction is live none =
    let turn = act.Direction direction in
    let tree = changed_at_key view (acted_view turn) views.tree in
    let plain : plain_rows (held_of views) tree ≡ with_facts (number_of views view) (facts_after_act turn) (plain_of views) =
    plain-change_facts (held_of views) view (number_of views view) (acted_view turn) (facts_after_act turn) views.tree (agree_live views view is live) (λ row. refl) in
    let named : EveryRow (λ (row : Row). number_of views row.key ≡ row.view.number) tree =
    every-edited (λ (row : Row). number_of views row.key ≡ row.view.number) (λ (row : Row). row.key == view)
    (λ row kids siblings. Branch (record row { view = acted_view turn row.view }) kids siblings) (λ row kids siblings own below later. (own, below, later)) views.tree (numbers_named views is) in
    let there = every_live views tree (λ other. let count = count_of_key-put other view (acted_view turn) views.tree in omega (arith, count)) in
    let numbers : map (λ (view : PlainView). view.number) (turned (λ (view : PlainView). view.facts) false (with_facts (number_of views view) (facts_after_act turn) (plain_of views))) ≡ map (number_of views) (turned_keys false tree) =
    ap (λ (list : Forest PlainView). map (λ (view : PlainView). view.number) (turned (λ (view : PlainView). view.facts) false list)) (sym plain)
    ∙ turned_named (number_of views) (held_of views) false tree named in
    off_paths views (view ∷ turned_keys false tree) key is (live, turned_live views false tree there)
    (subst (λ (list : List ℕ). is_on_paths (number_of views view ∷ list) (plain_of views) (number_of views key) ≡ false) numbers none)

off_asked : (views : Views) (view key : ℕ) (a : Act) → IsTree views → IsLive views view
    → is_on_paths (asked_by_act (plain_of views) (Some (number_of views view)) a) (plain_of views) (number_of views key) ≡ false
    → are_on_paths (if turns a then asked_by_turn views.tree view a else asked_key view a) views.tree key ≡ false
off_asked views view key a is live none = elim (cases_Bool (turns a)) [
  | inl e ↦
      let turn = turns_is a e in
      let none : is_on_paths (asked_by_act (plain_of views) (Some (number_of views view)) (act.Direction turn.0)) (plain_of views) (number_of views key) ≡ false =
      subst (λ (a : Act). is_on_paths (asked_by_act (plain_of views) (Some (number_of views view)) a) (plain_of views) (number_of views key) ≡ false) turn.1 none in
      rw e (subst (λ (a : Act). are_on_paths (asked_by_turn views.tree view a) views.tree key ≡ false) (sym turn.1) (off_turned views view key turn.0 is live none))
  | inr still ↦ elim (cases_Bool (requests_layout a)) [
    | inl e ↦ let none : is_on_paths (number_of views view ∷ []) (plain_of views) (number_of views key) ≡ false = rw (e, still) at none in rw (still, e) (off_paths views (view ∷ []) key is (live, tt) none)
    | inr e ↦ rw (still, e) refl
  ]
]

off_act : (views : Views) (view key : ℕ) (act : Act) → IsTree views → IsLive views view
    → is_excused (asked_by_act (plain_of views) (Some (number_of views view)) act) (gone_by_act (Some (number_of views view)) act) (plain_of views) (number_of views key) ≡ false
    → excused views (edit.Act view act) key ≡ false
off_act views view key act is live none =
    let number = number_of views view in
    let both =
    unless (is_on_paths (asked_by_act (plain_of views) (Some number) act) (plain_of views) (number_of views key)) (is_in_parts (gone_by_act (Some number) act) (plain_of views) (number_of views key)) none in
    let asked = off_asked views view key act is live both.0 in
    let gone : (if hides act then is_in_part view views.tree key else false) ≡ false = elim (cases_Bool (hides act)) [
      | inl e ↦
          let none : is_in_parts (number_of views view ∷ []) (plain_of views) (number_of views key) ≡ false = rw e at both.1 in
          rw e (off_part views view key is live (unless (is_among (number_of views key) (numbers_of (part_of (number_of views view) (plain_of views)))) false none).0)
      | inr e ↦ rw e refl
    ] in
    rw (asked, gone) refl

pub off_edit : (views : Views) (edit : Edit) (key : ℕ) → IsTree views → IsEdit views edit
    → is_excused (numbers_asked views edit) (numbers_gone views edit) (plain_of views) (number_of views key) ≡ false → excused views edit key ≡ false
off_edit views (edit.Add parent class width height) key is live none =
    rw (off_place views parent key is (addable_live views parent live) (unless _ _ none).0) refl
off_edit views (edit.Remove view) key is live none = rw (off_parent views view key is live (unless _ _ none).0) refl
off_edit views (edit.Act view act) key is live none = off_act views view key act is live.0 none
off_edit views (edit.Text view text) key is live none = rw (off_paths views (view ∷ []) key is (live.0, tt) (unless _ _ none).0) refl

excused_same : (old mid : Views) (edit : Edit) (key : ℕ) → mid.tree ≡ old.tree → excused mid edit key ≡ excused old edit key
excused_same old mid (edit.Add parent class width height) key same = ap (λ (tree : Forest Row). if are_on_paths (listed_key parent) tree key then true else false) same
excused_same old mid (edit.Remove view) key same = ap (λ (tree : Forest Row). if are_on_paths (nearest_key (ancestors view tree)) tree key then true else false) same
excused_same old mid (edit.Act view act) key same =
    ap (λ (tree : Forest Row). if are_on_paths (if turns act then asked_by_turn tree view act else asked_key view act) tree key then true else (if hides act then is_in_part view tree key else false)) same
excused_same old mid (edit.Text view text) key same = ap (λ (tree : Forest Row). if are_on_paths (view ∷ []) tree key then true else false) same

-- the views of a file leave all views except those around them
pub graft_keeps : (old new : KeyedScreen) (place : Option ℕ) → IsTree old.views → IfSome place (λ (view : ℕ). IsLive old.views view)
    → ((key : ℕ) → IsLive old.views key → are_on_paths (listed_key place) old.views.tree key ≡ false → held_of new.views key ≡ held_of old.views key) → new.views.counts ≡ old.views.counts
    → new.damage ≡ old.damage → new.stage ≡ old.stage → new.surface ≡ old.surface → KeepsBut Asks (listed (option_map (number_of old.views) place)) [] [] old new
graft_keeps old new place is live leaves counts damage stage surface = record {
  measures = ap (λ counts. counts.measures) counts;
  rests = λ quiet. absurd cc;
  within = λ ne box lies seen. subst (λ (damage : Rect). LiesIn damage box) (sym damage) lies;
  scrolled = λ touches. absurd cc;
  stage = λ ne. stage;
  surface = λ ne. surface;
  opened = λ opens. absurd cc;
  leaves = λ key there still free.
      let same = leaves key there (off_place old.views place key is live (unless _ _ free).0) in
      (ap (λ (held : Held). held.state) same, ap (λ (held : Held). held.cache) same);
}

-- what an edit leaves of a tree that was scrolled before
pub leaves_edit : (old mid new : Views) (edit : Edit) → IsTree old → IsEdit old edit → OnlyScrolls old mid → EditLeaves mid new edit
    → LeavesBut (numbers_asked old edit) (numbers_gone old edit) (plain_of old) old new
leaves_edit old mid new edit is made scrolls leaves = λ key live still none.
    let there : IsLive mid key = subst (λ (tree : Forest Row). 0 < count_of_key key tree) (sym scrolls.same.tree) live in
    let same = leaves key there still (excused_same old mid edit key scrolls.same.tree ∙ off_edit old edit key is made none) in
    (same.0 ∙ scrolls_state old mid scrolls key, same.1 ∙ scrolls_cache old mid scrolls key)
