-- Requests for layout at a view and at each that turns with it, one after the other.
use Rattle.std.proofs.Common.{◌≡◌, ℕ, ◌<◌, ◌≤◌, Bool, true, false, List, [], ◌∷◌, ◌++◌, refl, sym, ◌∙◌, ap, subst, arith, inl, inr}
use mathlib.Core.Path.{fun_ext}
use Rattle.std.proofs.lemmas.Bool.{cases_Bool, eq-eqb, ne_eqb}
use Rattle.std.specs.Prelude.{◌==◌}
use Rattle.view_model.specs.declared.placing.Direction.{Direction}
use Rattle.view_model.specs.Direction.{dir}
use Rattle.view_model.specs.Forest.{Forest, Nothing, Branch}
use Rattle.view_tree.specs.tree.Directions.{turned_keys, with_direction}
use Rattle.view_tree.specs.tree.Requests.{among, asking, pressed, requested, unforced}
use Rattle.view_tree.specs.Rows.{Row, ancestors, around, changed_at_key, count_of_key, first_tree, part_from}
use Rattle.view_tree.specs.node.Turning.{runs_so}
use Rattle.view_tree.specs.Views.{AreDirected, Held}
use Rattle.std.proofs.lemmas.List.{append-nil}
use Rattle.view_tree.proofs.forest.DirectedLaws.{directed-within}
use Rattle.view_tree.proofs.forest.KeyLaws.{absent, count_of_key-within, located, or_else_live, times_self, zero_or_more}
use Rattle.view_tree.proofs.forest.NumberLaws.{put_absent}
use Rattle.view_tree.proofs.nodes.TurnedHeld.{among-append, keys_parts, own_keys}
use Rattle.view_tree.proofs.nodes.TurnedNodes.{runs_same, same_runs}
use Rattle.view_tree.proofs.nodes.TurnedWhole.{above_in, part_few, part_with}

requested-append : (held : ℕ → Held) (xs ys : List ℕ) (tree : Forest Row) → requested held (xs ++ ys) tree ≡ requested (requested held xs tree) ys tree
requested-append held [] ys tree = refl
requested-append held (x ∷ xs) ys tree = requested-append (pressed held (asking held x tree)) xs ys tree

pressed-append : (held : ℕ → Held) (xs ys : List ℕ) → pressed (pressed held xs) ys ≡ pressed held (xs ++ ys)
pressed-append held xs ys = fun_ext (λ key. elim (cases_Bool (among key xs)) [
  | inl is ↦ rw (among-append key xs ys, is) (elim (cases_Bool (among key ys)) [ inl there ↦ rw there refl | inr isnt ↦ rw isnt refl ])
  | inr isnt ↦ rw (among-append key xs ys, isnt) refl
])

-- nothing is left to force above views of which the nearest is forced
unforced_pressed : (held : ℕ → Held) (keys outer : List ℕ) → unforced held outer ≡ [] → unforced (pressed held keys) outer ≡ []
unforced_pressed held keys [] none = refl
unforced_pressed held keys (first ∷ more) none = elim (cases_Bool (held first).state.forced) [
  | inl is ↦
      let still : (pressed held keys first).state.forced ≡ true = elim (cases_Bool (among first keys)) [ inl there ↦ rw there refl | inr isnt ↦ rw isnt is ] in
      rw still refl
  | inr isnt ↦ absurd (let some : first ∷ unforced held more ≡ [] = rw isnt at none in cc)
]

-- what runs as its direction says has none that turns
keys_none : (above : Bool) (t : Forest Row) → AreDirected above t → turned_keys above t ≡ []
keys_none above Nothing are = refl
keys_none above (Branch row kids siblings) are =
    let rtl = dir above row.view.facts.direction in
    let below : turned_keys rtl kids ≡ [] = keys_none rtl kids (subst (λ (way : Bool). AreDirected way kids) are.0 are.1) in
    keys_parts above row kids siblings
    ∙ rw (runs_same rtl row.view.facts.rtl are.0, below, keys_none above siblings are.2) refl

-- each view of a list has below it what runs as it makes it
abbrev AllRunBelow : Forest Row → Type 0
AllRunBelow Nothing = Unit {0}
AllRunBelow (Branch row kids siblings) = AreDirected row.view.facts.rtl kids × AllRunBelow siblings

all_run : (above : Bool) (t : Forest Row) → AreDirected above t → AllRunBelow t
all_run above Nothing are = tt
all_run above (Branch row kids siblings) are = (are.1, all_run above siblings are.2)

-- requests at those that turn, below views of which the nearest is forced
requested_list : (tree : Forest Row) (outer : List ℕ) (above : Bool) (t : Forest Row) (held : ℕ → Held) → ((key : ℕ) → count_of_key key t ≤ 1)
    → ((key : ℕ) → 0 < count_of_key key t → ancestors key tree ≡ around outer key t) → AllRunBelow t → unforced held outer ≡ []
    → requested held (turned_keys above t) tree ≡ pressed held (turned_keys above t)
requested_list tree outer above Nothing held once path run none = refl
requested_list tree outer above (Branch row kids siblings) held once path run none =
    let rtl = dir above row.view.facts.direction in
    let later : (key : ℕ) → 0 < count_of_key key siblings → ancestors key tree ≡ around outer key siblings =
    λ key live. path key (omega arith) ∙ on_later key live in
    elim (cases_Bool (runs_so rtl row.view.facts.rtl)) [
      | inl so ↦
          let below : turned_keys rtl kids ≡ [] = keys_none rtl kids (subst (λ (way : Bool). AreDirected way kids) (same_runs rtl row.view.facts.rtl so) run.0) in
          let all : turned_keys above (Branch row kids siblings) ≡ turned_keys above siblings = keys_parts above row kids siblings ∙ rw (so, below) refl in
          ap (λ keys. requested held keys tree) all
          ∙ requested_list tree outer above siblings held (λ key. let one = once key in omega arith) later run.1 none
          ∙ ap (pressed held) (sym all)
      | inr other ↦
          let below = turned_keys rtl kids in
          let after = turned_keys above siblings in
          let all : turned_keys above (Branch row kids siblings) ≡ row.key ∷ (below ++ after) = keys_parts above row kids siblings ∙ rw other refl in
          let own : ancestors row.key tree ≡ outer = path row.key (times_self row kids siblings) ∙ rw (eq-eqb row.key row.key refl) refl in
          let asked : asking held row.key tree ≡ row.key ∷ [] = ap (λ list. row.key ∷ list) (ap (unforced held) own ∙ none) in
          let one = pressed held (row.key ∷ []) in
          let forced : (one row.key).state.forced ≡ true = rw (eq-eqb row.key row.key refl) refl in
          let inner : unforced one (row.key ∷ outer) ≡ [] = rw forced refl in
          let two : requested one below tree ≡ pressed one below =
          requested_list tree (row.key ∷ outer) rtl kids one (λ key. let one = once key in omega arith) (λ key live. path key (omega arith) ∙ on_below key live) (all_run row.view.facts.rtl kids run.0) inner in
          let outside : unforced (pressed one below) outer ≡ [] = unforced_pressed one below outer (unforced_pressed held (row.key ∷ []) outer none) in
          let three : requested (pressed one below) after tree ≡ pressed (pressed one below) after =
          requested_list tree outer above siblings (pressed one below) (λ key. let one = once key in omega arith) later run.1 outside in
          ap (λ keys. requested held keys tree) all
          ∙ ap (λ keys. requested (pressed held keys) (below ++ after) tree) asked
          ∙ requested-append one below after tree
          ∙ ap (λ held. requested held after tree) two
          ∙ three
          ∙ ap (λ held. pressed held after) (pressed-append held (row.key ∷ []) below)
          ∙ pressed-append held (row.key ∷ below) after
          ∙ ap (pressed held) (sym all)
    ]
  where
    on_later : (key : ℕ) → 0 < count_of_key key siblings → around outer key (Branch row kids siblings) ≡ around outer key siblings
    on_later key live =
        let one = once key in
        let none : count_of_key key kids ≡ 0 = omega arith in
        elim (cases_Bool (row.key == key)) [
          | inl is ↦ absurd (let one = rw is at one in omega arith)
          | inr isnt ↦ rw (isnt, none) refl
        ]

    on_below : (key : ℕ) → 0 < count_of_key key kids → around outer key (Branch row kids siblings) ≡ around (row.key ∷ outer) key kids
    on_below key live =
        let one = once key in
        let some : (count_of_key key kids == 0) ≡ false = ne_eqb (count_of_key key kids) 0 (λ is. absurd (omega arith)) in
        elim (cases_Bool (row.key == key)) [
          | inl is ↦ absurd (let one = rw is at one in omega arith)
          | inr isnt ↦ rw (isnt, some) refl
        ]

-- the ancestors of a view below another one are those between and those of that one
around_part : (view key : ℕ) (outer : List ℕ) (t : Forest Row) → ((key : ℕ) → count_of_key key t ≤ 1) → 0 < count_of_key view t → 0 < count_of_key key (first_tree (part_from view t))
    → around outer key t ≡ around (around outer view t) key (first_tree (part_from view t))
around_part view key outer Nothing once live there = absurd (omega arith)
around_part view key outer (Branch row kids siblings) once live there =
    elim (cases_Bool (row.key == view)) [
      | inl e ↦
          let there = rw e at there in
          let one = once key in
          rw e (elim (cases_Bool (row.key == key)) [
            | inl is ↦ rw is refl
            | inr isnt ↦
                let there = rw isnt at there in
                let some : (count_of_key key kids == 0) ≡ false = ne_eqb (count_of_key key kids) 0 (λ is. absurd (omega arith)) in
                rw (isnt, some) refl
          ])
      | inr e ↦
          let live = rw e at live in
          let one = once key in
          elim (zero_or_more (count_of_key view kids)) [
            | inl z ↦
                let there = rw (e, absent view kids z) at there in
                let after : 0 < count_of_key view siblings = omega arith in
                let few = part_few view key siblings after in
                let apart : (row.key == key) ≡ false = elim (cases_Bool (row.key == key)) [ inl is ↦ absurd (let one = rw is at one in omega arith) | inr isnt ↦ isnt ] in
                let none : count_of_key key kids ≡ 0 = omega arith in
                rw (e, absent view kids z, z, apart, none) (around_part view key outer siblings (λ key. let one = once key in omega arith) after there)
            | inr below ↦
                let there = rw (e, or_else_live view kids (part_from view siblings) below) at there in
                let few = part_few view key kids below in
                let apart : (row.key == key) ≡ false = elim (cases_Bool (row.key == key)) [ inl is ↦ absurd (let one = rw is at one in omega arith) | inr isnt ↦ isnt ] in
                let some : (count_of_key key kids == 0) ≡ false = ne_eqb (count_of_key key kids) 0 (λ is. absurd (omega arith)) in
                let own : (count_of_key view kids == 0) ≡ false = ne_eqb (count_of_key view kids) 0 (λ is. absurd (omega arith)) in
                rw (e, or_else_live view kids (part_from view siblings) below, own, apart, some)
                (around_part view key (row.key ∷ outer) kids (λ key. let one = once key in omega arith) below there)
          ]
    ]

-- only in the part of a view that gets a direction do views turn
keys_part : (view : ℕ) (direction : Direction) (above : Bool) (t : Forest Row) → ((key : ℕ) → count_of_key key t ≤ 1) → 0 < count_of_key view t → AreDirected above t
    → turned_keys above (changed_at_key view (with_direction direction) t) ≡ turned_keys (above_in above view t) (first_tree (part_with direction (part_from view t)))
keys_part view direction above Nothing once live are = absurd (omega arith)
keys_part view direction above (Branch row kids siblings) once live are =
    elim (cases_Bool (row.key == view)) [
      | inl e ↦
          let own : Row = record row { view = with_direction direction row.view } in
          rw e (
          keys_parts above own kids siblings
          ∙ ap (λ after. own_keys (runs_so (dir above direction) row.view.facts.rtl) row.key ++ (turned_keys (dir above direction) kids ++ after)) (keys_none above siblings are.2)
          ∙ sym (keys_parts above own kids Nothing)
          )
      | inr e ↦
          let live = rw e at live in
          let rtl = dir above row.view.facts.direction in
          let way : AreDirected rtl kids = subst (λ (way : Bool). AreDirected way kids) are.0 are.1 in
          elim (zero_or_more (count_of_key view kids)) [
            | inl z ↦
                rw (e, put_absent view (with_direction direction) kids z, absent view kids z, z) (
                keys_parts above row kids (changed_at_key view (with_direction direction) siblings)
                ∙ rw (runs_same rtl row.view.facts.rtl are.0, keys_none rtl kids way)
                (keys_part view direction above siblings (λ key. let one = once key in omega arith) (omega arith) are.2)
                )
            | inr there ↦
                let none : count_of_key view siblings ≡ 0 = let one = once view in omega arith in
                let some : (count_of_key view kids == 0) ≡ false = ne_eqb (count_of_key view kids) 0 (λ is. absurd (omega arith)) in
                rw (e, put_absent view (with_direction direction) siblings none, or_else_live view kids (part_from view siblings) there, some) (
                keys_parts above row (changed_at_key view (with_direction direction) kids) siblings
                ∙ rw (runs_same rtl row.view.facts.rtl are.0, keys_none above siblings are.2)
                (append-nil (turned_keys rtl (changed_at_key view (with_direction direction) kids))
                ∙ keys_part view direction rtl kids (λ key. let one = once key in omega arith) there way
                ∙ ap (λ way. turned_keys (above_in way view kids) (first_tree (part_with direction (part_from view kids)))) (sym are.0))
                )
          ]
    ]

-- what a request leaves above the view at which layout is requested
unforced_asked : (held : ℕ → Held) (view : ℕ) (outer : List ℕ) → unforced (pressed held (view ∷ unforced held outer)) outer ≡ []
unforced_asked held view [] = refl
unforced_asked held view (first ∷ more) = elim (cases_Bool (held first).state.forced) [
  | inl is ↦
      let still : (pressed held (view ∷ unforced held (first ∷ more)) first).state.forced ≡ true = elim (cases_Bool (among first (view ∷ unforced held (first ∷ more)))) [ inl there ↦ rw there refl | inr isnt ↦ rw isnt is ] in
      rw still refl
  | inr isnt ↦
      let there : among first (view ∷ unforced held (first ∷ more)) ≡ true =
      rw isnt (elim (cases_Bool (view == first)) [ inl same ↦ rw same refl | inr apart ↦ rw (apart, eq-eqb first first refl) refl ]) in
      let still : (pressed held (view ∷ unforced held (first ∷ more)) first).state.forced ≡ true = rw there refl in
      rw still refl
]

-- requests at a view and at each that turns with it
pub requested_turned : (view : ℕ) (direction : Direction) (tree : Forest Row) (held : ℕ → Held) → ((key : ℕ) → count_of_key key tree ≤ 1) → 0 < count_of_key view tree → AreDirected false tree
    → requested held (view ∷ turned_keys false (changed_at_key view (with_direction direction) tree)) tree
    ≡ pressed (pressed held (asking held view tree)) (turned_keys false (changed_at_key view (with_direction direction) tree))
requested_turned view direction tree held once live are =
    let keys = keys_part view direction false tree once live are in
    let f = located view tree live in
    let own : Row = record f.row { view = with_direction direction f.row.view } in
    let part : first_tree (part_with direction (part_from view tree)) ≡ Branch own f.kids Nothing = ap (λ part. first_tree (part_with direction part)) f.is in
    let tree_of : first_tree (part_from view tree) ≡ Branch f.row f.kids Nothing = ap first_tree f.is in
    let above = above_in false view tree in
    let list : turned_keys false (changed_at_key view (with_direction direction) tree) ≡ turned_keys above (Branch own f.kids Nothing) = keys ∙ ap (turned_keys above) part in
    let first = pressed held (asking held view tree) in
    let once_in : (key : ℕ) → count_of_key key (Branch own f.kids Nothing) ≤ 1 =
    λ key. let less = count_of_key-within key f.within in let one = once key in omega arith in
    let path : (key : ℕ) → 0 < count_of_key key (Branch own f.kids Nothing) → ancestors key tree ≡ around (ancestors view tree) key (Branch own f.kids Nothing) =
    λ key there. around_part view key [] tree once live (subst (λ part. 0 < count_of_key key part) (sym tree_of) there)
    ∙ ap (around (ancestors view tree) key) tree_of in
    ap (λ keys. requested first keys tree) list
    ∙ requested_list tree (ancestors view tree) above (Branch own f.kids Nothing) first once_in path (directed-within f.row f.kids f.siblings false f.within are, tt)
    (unforced_asked held view (ancestors view tree))
    ∙ ap (pressed first) (sym list)

-- a request moves nothing
pub pressed_offset : (held : ℕ → Held) (keys : List ℕ) (key : ℕ) → (pressed held keys key).offset ≡ (held key).offset
pressed_offset held keys key = elim (cases_Bool (among key keys)) [
  | inl is ↦ rw is refl
  | inr isnt ↦ rw isnt refl
]
