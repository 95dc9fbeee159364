-- A tree of which one view has got a direction, once the views that inherit from it have turned.
use Rattle.std.proofs.Common.{◌≡◌, ℕ, ◌<◌, ◌≤◌, Bool, false, List, ◌∷◌, Option, Some, None, refl, sym, ◌∙◌, ap, subst, arith, inl, inr}
use Rattle.std.proofs.lemmas.Bool.{cases_Bool, cases_eq, eq-eqb, ne_eqb}
use Rattle.std.specs.Prelude.{◌==◌, if◌then◌else◌, option_map}
use Rattle.view_model.specs.declared.placing.Direction.{Direction}
use Rattle.view_model.specs.Direction.{dir}
use Rattle.view_model.specs.Forest.{Forest, Nothing, Branch, or_else}
use Rattle.view_tree.specs.tree.Directions.{first_runs, with_direction}
use Rattle.view_tree.specs.node.Nodes.{PlainNode, RepresentsPart, plain_node_for, plain_node_in}
use Rattle.view_tree.specs.Rows.{Row, around, changed_at_key, count_of_key, first_tree, head_view, part_from}
use Rattle.view_tree.specs.node.Turning.{HaveTurned, turned_node}
use Rattle.view_tree.specs.Views.{AreDirected}
use Rattle.view_tree.specs.declared.node.Node.{Node}
use Rattle.view_tree.proofs.forest.Forests.{Within-children_of_first, Within-later_siblings, times_from}
use Rattle.view_tree.proofs.forest.KeyLaws.{Within, absent, from_within, or_else_live, times_self, zero_or_more, own_more}
use Rattle.view_tree.proofs.forest.NumberLaws.{put_absent}
use Rattle.view_tree.proofs.forest.Walks.{count_of_key-parts}
use Rattle.view_tree.proofs.nodes.NodeReads.{says}
use Rattle.view_tree.proofs.nodes.TurnedNodes.{still_turned, turned_still}

-- whether the parent of a view runs from right to left, in a list below a parent that does so or not
abbrev pub above_in : Bool → ℕ → Forest Row → Bool
above_in above view Nothing = above
above_in above view (Branch row kids siblings) =
    if row.key == view
    then above
    else (if count_of_key view kids == 0 then above_in above view siblings else above_in row.view.facts.rtl view kids)

pub above_is : (tree : Forest Row) → ((key : ℕ) → count_of_key key tree ≤ 1) → (outer : List ℕ) (view : ℕ) (t : Forest Row) → Within t tree
    → first_runs (around outer view t) tree ≡ above_in (first_runs outer tree) view t
above_is tree once outer view Nothing within = refl
above_is tree once outer view (Branch row kids siblings) within =
    elim (cases_Bool (row.key == view)) [
      | inl e ↦ rw e refl
      | inr e ↦ elim (cases_eq (count_of_key view kids) 0) [
        | inl z ↦ rw (e, eq-eqb (count_of_key view kids) 0 z) (above_is tree once outer view siblings (Within-later_siblings within))
        | inr some ↦ rw (e, ne_eqb (count_of_key view kids) 0 some)
            (above_is tree once (row.key ∷ outer) view kids (Within-children_of_first within)
            ∙ ap (λ above. above_in above view kids) (ap (λ part. (head_view part).facts.rtl) (from_within row kids siblings within (once row.key))))
      ]
    ]

-- a part whose first view has this direction
abbrev pub part_with : Direction → Forest Row → Forest Row
part_with direction Nothing = Nothing
part_with direction (Branch row kids siblings) = Branch (record row { view = with_direction direction row.view }) kids siblings

part_with-or_else : (direction : Direction) (first second : Forest Row) → or_else (part_with direction first) (part_with direction second) ≡ part_with direction (or_else first second)
part_with-or_else direction Nothing second = refl
part_with-or_else direction (Branch row kids siblings) second = refl

pub part_from-directed : (view : ℕ) (direction : Direction) (t : Forest Row) → part_from view (changed_at_key view (with_direction direction) t) ≡ part_with direction (part_from view t)
part_from-directed view direction Nothing = refl
part_from-directed view direction (Branch row kids siblings) =
    elim (cases_Bool (row.key == view)) [
      | inl e ↦ rw (e, e) refl
      | inr e ↦ rw (e, e, part_from-directed view direction kids, part_from-directed view direction siblings)
          (part_with-or_else direction (part_from view kids) (part_from view siblings))
    ]

-- a part of a list has no more views of a key than the list
pub part_few : (view key : ℕ) (t : Forest Row) → 0 < count_of_key view t → count_of_key key (first_tree (part_from view t)) ≤ count_of_key key t
part_few view key t live =
    let parts = count_of_key-parts key (part_from view t) in
    let less = times_from view key t live in
    omega arith

module _ (old new : ℕ → Option Node) (view : ℕ) (direction : Direction) where
  -- a view that runs as it is to
  own_still : (above : Bool) (p q : Option ℕ) (row : Row) (kids siblings : Forest Row)
      → plain_node_in (old row.key) ≡ Some (plain_node_for row p q kids siblings) → row.view.facts.rtl ≡ dir above row.view.facts.direction → new row.key ≡ old row.key
      → new row.key ≡ option_map (turned_node (dir above row.view.facts.direction)) (old row.key)
  own_still above p q row kids siblings represents runs same =
      let rtl = dir above row.view.facts.direction in
      let node = says (old row.key) (plain_node_for row p q kids siblings) represents in
      let way : node.node.facts.rtl ≡ rtl = ap (λ (n : PlainNode). n.view.facts.rtl) node.all ∙ runs in
      same ∙ node.at ∙ ap (λ (n : Node). Some n) (sym (turned_still rtl node.node way)) ∙ ap (option_map (turned_node rtl)) (sym node.at)

  pub whole_turned : (above : Bool) (p q : Option ℕ) (t : Forest Row) → ((key : ℕ) → count_of_key key t ≤ 1) → 0 < count_of_key view t → AreDirected above t
      → RepresentsPart (λ key. plain_node_in (old key)) p q (changed_at_key view (with_direction direction) t)
      → HaveTurned old new (above_in above view t) (first_tree (part_with direction (part_from view t)))
      → ((key : ℕ) → count_of_key key (first_tree (part_from view t)) ≡ 0 → new key ≡ old key)
      → HaveTurned old new above (changed_at_key view (with_direction direction) t)
  whole_turned above p q Nothing once live are s turned out = tt
  whole_turned above p q (Branch row kids siblings) once live are s turned out =
      elim (cases_Bool (row.key == view)) [
        | inl e ↦
            let represents = rw e at s in
            let own = rw e at turned in
            let rest = rw e at out in
            rw e (own.0, own.1, still_turned old new above p (Some row.key) siblings represents.2 are.2 (λ key h. rest key (let one = once key in omega arith)))
        | inr e ↦
            let represents = rw e at s in
            let live = rw e at live in
            elim (zero_or_more (count_of_key view kids)) [
              | inl z ↦
                  let there : 0 < count_of_key view siblings = omega arith in
                  let apart : (row.key == view) ≡ false = e in
                  let own = rw (e, absent view kids z, z) at turned in
                  let rest = rw (e, absent view kids z) at out in
                  let below = rw (put_absent view (with_direction direction) kids z) at represents.1 in
                  rw (e, put_absent view (with_direction direction) kids z) (
                    own_still above p q row (changed_at_key view (with_direction direction) kids) (changed_at_key view (with_direction direction) siblings) represents.0 are.0
                        (rest row.key (let one = once row.key in let self = times_self row kids siblings in let few = part_few view row.key siblings there in let own = own_more row kids siblings row.key refl in omega arith)),
                    still_turned old new (dir above row.view.facts.direction) (Some row.key) None kids below (subst (λ (way : Bool). AreDirected way kids) are.0 are.1)
                        (λ key h. rest key (let one = once key in let few = part_few view key siblings there in omega arith)),
                    whole_turned above p (Some row.key) siblings (λ key. let one = once key in omega arith) there are.2 represents.2 own rest,
                  )
              | inr there ↦
                  let none : count_of_key view siblings ≡ 0 = let one = once view in omega arith in
                  let some : (count_of_key view kids == 0) ≡ false = ne_eqb (count_of_key view kids) 0 (λ is. absurd (omega arith)) in
                  let own = rw (e, or_else_live view kids (part_from view siblings) there, some) at turned in
                  let rest = rw (e, or_else_live view kids (part_from view siblings) there) at out in
                  let after = rw (put_absent view (with_direction direction) siblings none) at represents.2 in
                  let way : AreDirected (dir above row.view.facts.direction) kids = subst (λ (way : Bool). AreDirected way kids) are.0 are.1 in
                  let moved : HaveTurned old new (above_in (dir above row.view.facts.direction) view kids) (first_tree (part_with direction (part_from view kids))) =
                  subst (λ (way : Bool). HaveTurned old new (above_in way view kids) (first_tree (part_with direction (part_from view kids)))) are.0 own in
                  rw (e, put_absent view (with_direction direction) siblings none) (
                    own_still above p q row (changed_at_key view (with_direction direction) kids) (changed_at_key view (with_direction direction) siblings) represents.0 are.0
                        (rest row.key (let one = once row.key in let few = part_few view row.key kids there in let own = own_more row kids siblings row.key refl in omega arith)),
                    whole_turned (dir above row.view.facts.direction) (Some row.key) None kids (λ key. let one = once key in omega arith) there way represents.1 moved rest,
                    still_turned old new above p (Some row.key) siblings after are.2 (λ key h. rest key (let one = once key in let few = part_few view key kids there in omega arith)),
                  )
            ]
      ]
