-- What nodes say once they have turned with their parents.
use Rattle.std.proofs.Common.{◌≡◌, ◌≢◌, ℕ, ◌<◌, ◌≤◌, Bool, true, false, Option, Some, None, refl, sym, ◌∙◌, ap, subst, arith, inl, inr}
use Rattle.std.proofs.lemmas.Bool.{cases_Bool}
use Rattle.std.specs.Prelude.{option_map}
use Rattle.view_model.specs.Direction.{dir}
use Rattle.view_model.specs.Directed.{running}
use Rattle.view_model.specs.Forest.{Forest, Nothing, Branch}
use Rattle.view_tree.specs.tree.Directions.{directed_rows, row_running}
use Rattle.view_tree.specs.node.Nodes.{PlainNode, RepresentsPart, plain_node_for, plain_node_in, plain_node_of}
use Rattle.view_tree.specs.Rows.{Row, count_of_key, first_key, last_key_or}
use Rattle.view_tree.specs.node.Turning.{HaveTurned, running_node, runs_so, turned_node}
use Rattle.view_tree.specs.Views.{AreDirected}
use Rattle.view_tree.specs.declared.node.Node.{Node}
use Rattle.view_tree.proofs.forest.KeyLaws.{times_self}
use Rattle.view_tree.proofs.nodes.NodeReads.{says}

-- a way in which a view runs is the one that it is to run in, or not
pub runs_same : (rtl own : Bool) → own ≡ rtl → runs_so rtl own ≡ true
runs_same true own is = is
runs_same false own is = rw is refl

pub same_runs : (rtl own : Bool) → runs_so rtl own ≡ true → own ≡ rtl
same_runs true own is = is
same_runs false true is = absurd (cc)
same_runs false false is = refl

pub runs_other : (rtl own : Bool) → own ≢ rtl → runs_so rtl own ≡ false
runs_other rtl own ne = elim (cases_Bool (runs_so rtl own)) [
  | inl is ↦ absurd (ne (same_runs rtl own is))
  | inr isnt ↦ isnt
]

-- a node that turns is the same except the way in which its view runs
pub links-turned : (rtl : Bool) (n : Node) → plain_node_of (turned_node rtl n) ≡ record (plain_node_of n) { view = running rtl (plain_node_of n).view }
links-turned rtl n = elim (cases_Bool (runs_so rtl n.facts.rtl)) [
  | inl is ↦ rw is (ap (λ (way : Bool). record (plain_node_of n) { view = running way (plain_node_of n).view }) (same_runs rtl n.facts.rtl is))
  | inr isnt ↦ rw isnt refl
]

pub turned_still : (rtl : Bool) (n : Node) → n.facts.rtl ≡ rtl → turned_node rtl n ≡ n
turned_still rtl n is = rw (runs_same rtl n.facts.rtl is) refl

pub turned_other : (rtl : Bool) (n : Node) → n.facts.rtl ≢ rtl → turned_node rtl n ≡ running_node rtl n
turned_other rtl n ne = rw (runs_other rtl n.facts.rtl ne) refl

-- the first and the last key
pub first_key-directed : (above : Bool) (list : Forest Row) → first_key (directed_rows above list) ≡ first_key list
first_key-directed above Nothing = refl
first_key-directed above (Branch row kids siblings) = refl

pub last_key-directed : (above : Bool) (before : Option ℕ) (list : Forest Row) → last_key_or before (directed_rows above list) ≡ last_key_or before list
last_key-directed above before Nothing = refl
last_key-directed above before (Branch row kids siblings) = last_key-directed above (Some row.key) siblings

module _ (old new : ℕ → Option Node) where
  -- the nodes represent the trees that have turned
  pub represents_turned : (above : Bool) (p q : Option ℕ) (t : Forest Row) → RepresentsPart (λ key. plain_node_in (old key)) p q t → HaveTurned old new above t
      → RepresentsPart (λ key. plain_node_in (new key)) p q (directed_rows above t)
  represents_turned above p q Nothing s turned = tt
  represents_turned above p q (Branch row kids siblings) s turned =
      let rtl = dir above row.view.facts.direction in
      let node = says (old row.key) (plain_node_for row p q kids siblings) s.0 in
      let own : plain_node_in (new row.key) ≡ Some (plain_node_for (row_running rtl row) p q (directed_rows rtl kids) (directed_rows above siblings)) =
      ap plain_node_in (turned.0 ∙ ap (option_map (turned_node rtl)) node.at)
      ∙ ap (λ (n : PlainNode). Some n) (links-turned rtl node.node)
      ∙ ap (λ (n : PlainNode). Some (record n { view = running rtl n.view })) node.all
      ∙ rw (first_key-directed rtl kids, last_key-directed rtl None kids, first_key-directed above siblings) refl in (
        own,
        represents_turned rtl (Some row.key) None kids s.1 turned.1,
        represents_turned above p (Some row.key) siblings s.2 turned.2,
      )

  -- what runs as it is to stays
  pub still_turned : (above : Bool) (p q : Option ℕ) (t : Forest Row) → RepresentsPart (λ key. plain_node_in (old key)) p q t → AreDirected above t
      → ((key : ℕ) → 0 < count_of_key key t → new key ≡ old key) → HaveTurned old new above t
  still_turned above p q Nothing s are same = tt
  still_turned above p q (Branch row kids siblings) s are same =
      let rtl = dir above row.view.facts.direction in
      let node = says (old row.key) (plain_node_for row p q kids siblings) s.0 in
      let runs : node.node.facts.rtl ≡ rtl = ap (λ (n : PlainNode). n.view.facts.rtl) node.all ∙ are.0 in (
        same row.key (times_self row kids siblings) ∙ node.at
            ∙ ap (λ (n : Node). Some n) (sym (turned_still rtl node.node runs))
            ∙ ap (option_map (turned_node rtl)) (sym node.at),
        still_turned rtl (Some row.key) None kids s.1 (subst (λ (way : Bool). AreDirected way kids) are.0 are.1) (λ key h. same key (omega arith)),
        still_turned above p (Some row.key) siblings s.2 are.2 (λ key h. same key (omega arith)),
      )

-- nodes that are the same have turned alike
pub turned_along : (old old' new new' : ℕ → Option Node) (above : Bool) (t : Forest Row) → ((key : ℕ) → 0 < count_of_key key t → old' key ≡ old key)
    → ((key : ℕ) → 0 < count_of_key key t → new' key ≡ new key) → HaveTurned old new above t → HaveTurned old' new' above t
turned_along old old' new new' above Nothing olds news turned = tt
turned_along old old' new new' above (Branch row kids siblings) olds news turned =
    let rtl = dir above row.view.facts.direction in (
      news row.key (times_self row kids siblings) ∙ turned.0 ∙ ap (option_map (turned_node rtl)) (sym (olds row.key (times_self row kids siblings))),
      turned_along old old' new new' rtl kids (λ key h. olds key (omega arith)) (λ key h. news key (omega arith)) turned.1,
      turned_along old old' new new' above siblings (λ key h. olds key (omega arith)) (λ key h. news key (omega arith)) turned.2,
    )

-- a list of trees of which those before the rest have turned
pub data TurnedUntil (old new : ℕ → Option Node) (above : Bool) (rest : Forest Row) : Forest Row → Type 0 where
  At_rest : TurnedUntil old new above rest rest
  Past : {row : Row} {kids siblings : Forest Row} → HaveTurned old new above (Branch row kids Nothing) → TurnedUntil old new above rest siblings
      → TurnedUntil old new above rest (Branch row kids siblings)

pub until_count : {old new : ℕ → Option Node} {above : Bool} {rest list : Forest Row} (key : ℕ) → TurnedUntil old new above rest list
    → count_of_key key rest ≤ count_of_key key list
until_count key At_rest = omega arith
until_count key (Past turned u) = let h = until_count key u in omega arith

-- once one more has turned
pub until_on : (old new new' : ℕ → Option Node) (above : Bool) (row : Row) (kids siblings : Forest Row) {list : Forest Row} → ((key : ℕ) → count_of_key key list ≤ 1)
    → TurnedUntil old new above (Branch row kids siblings) list → HaveTurned old new' above (Branch row kids Nothing)
    → ((key : ℕ) → count_of_key key (Branch row kids Nothing) ≡ 0 → new' key ≡ new key) → TurnedUntil old new' above siblings list
until_on old new new' above row kids siblings once At_rest own others = Past own At_rest
until_on old new new' above row kids siblings once (Past {row = r} {kids = b} {siblings = a} turned u) own others =
    Past
    (turned_along old old new new' above (Branch r b Nothing) (λ key h. refl)
    (λ key h. others key (let one = once key in let le = until_count key u in omega arith)) turned)
    (until_on old new new' above row kids siblings (λ key. let one = once key in omega arith) u own others)

-- once all have turned
pub until_end : (old new : ℕ → Option Node) (above : Bool) {list : Forest Row} → TurnedUntil old new above Nothing list → HaveTurned old new above list
until_end old new above At_rest = tt
until_end old new above (Past turned u) = (turned.0, turned.1, until_end old new above u)
