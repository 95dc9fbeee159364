-- What is kept of views that turn: layout is requested at each that runs another way.
use Rattle.std.proofs.Common.{◌≡◌, ◌≢◌, ℕ, ◌<◌, ◌≤◌, Bool, true, false, List, [], ◌∷◌, ◌++◌, Option, Some, None, refl, sym, ◌∙◌, ap, subst, arith, inl, inr}
use Rattle.std.proofs.lemmas.Bool.{cases_Bool, cases_eq, eq-eqb, ne_eqb}
use Rattle.std.specs.Prelude.{◌==◌, if◌then◌else◌, map, not, option_map}
use Rattle.view_model.specs.Direction.{dir}
use Rattle.view_model.specs.Directed.{turned}
use Rattle.view_model.specs.Forest.{Forest, Nothing, Branch}
use Rattle.view_tree.specs.node.Nodes.{PlainNode, RepresentsPart, held_by, held_in, plain_node_for, plain_node_in}
use Rattle.view_tree.specs.tree.Directions.{turned_keys}
use Rattle.view_tree.specs.tree.Requests.{among, forced_one}
use Rattle.view_tree.specs.Rows.{Row, count_of_key}
use Rattle.view_tree.specs.node.Turning.{HaveTurned, running_node, runs_so, turned_node}
use Rattle.view_tree.specs.Views.{Held}
use Rattle.view_tree.specs.declared.node.Node.{Node}
use Rattle.view_tree.proofs.forest.KeyLaws.{zero_or_more}
use Rattle.view_tree.proofs.nodes.NodeReads.{says}

-- the own key of a view that does not run as it is to
abbrev pub own_keys : Bool → ℕ → List ℕ
own_keys runs key = if runs then [] else key ∷ []

map-append : (xs ys : List Row) → map (λ (row : Row). row.key) (xs ++ ys) ≡ map (λ (row : Row). row.key) xs ++ map (λ (row : Row). row.key) ys
map-append [] ys = refl
map-append (x ∷ xs) ys = ap (λ list. x.key ∷ list) (map-append xs ys)

own_map : (runs : Bool) (row : Row) → map (λ (row : Row). row.key) (if runs then [] else row ∷ []) ≡ own_keys runs row.key
own_map true row = refl
own_map false row = refl

pub keys_parts : (above : Bool) (row : Row) (kids siblings : Forest Row) → turned_keys above (Branch row kids siblings)
    ≡ own_keys (runs_so (dir above row.view.facts.direction) row.view.facts.rtl) row.key ++ (turned_keys (dir above row.view.facts.direction) kids ++ turned_keys above siblings)
keys_parts above row kids siblings =
    let rtl = dir above row.view.facts.direction in
    let facts = λ (row : Row). row.view.facts in
    let own : List Row = if runs_so rtl row.view.facts.rtl then [] else row ∷ [] in
    map-append own (turned facts rtl kids ++ turned facts above siblings)
    ∙ ap (λ list. list ++ map (λ (row : Row). row.key) (turned facts rtl kids ++ turned facts above siblings)) (own_map (runs_so rtl row.view.facts.rtl) row)
    ∙ ap (λ list. own_keys (runs_so rtl row.view.facts.rtl) row.key ++ list) (map-append (turned facts rtl kids) (turned facts above siblings))

pub among-append : (key : ℕ) (xs ys : List ℕ) → among key (xs ++ ys) ≡ (if among key xs then true else among key ys)
among-append key [] ys = refl
among-append key (x ∷ xs) ys = elim (cases_Bool (x == key)) [
  | inl is ↦ rw is refl
  | inr isnt ↦ rw isnt (among-append key xs ys)
]

-- a key that is not there is among none
pub among_absent : (key : ℕ) (above : Bool) (t : Forest Row) → count_of_key key t ≡ 0 → among key (turned_keys above t) ≡ false
among_absent key above Nothing none = refl
among_absent key above (Branch row kids siblings) none =
    let rtl = dir above row.view.facts.direction in
    let apart : (row.key == key) ≡ false = elim (cases_Bool (row.key == key)) [ inl is ↦ absurd (let none = rw is at none in omega arith) | inr isnt ↦ isnt ] in
    let own : among key (own_keys (runs_so rtl row.view.facts.rtl) row.key) ≡ false = own_none (runs_so rtl row.view.facts.rtl) row.key apart in
    ap (among key) (keys_parts above row kids siblings)
    ∙ among-append key (own_keys (runs_so rtl row.view.facts.rtl) row.key) (turned_keys rtl kids ++ turned_keys above siblings)
    ∙ rw own (among-append key (turned_keys rtl kids) (turned_keys above siblings)
    ∙ rw (among_absent key rtl kids (omega arith)) (among_absent key above siblings (omega arith)))
  where
    own_none : (runs : Bool) (own : ℕ) → (own == key) ≡ false → among key (own_keys runs own) ≡ false
    own_none true own isnt = refl
    own_none false own isnt = rw isnt refl

-- a view is among those that turn by itself, or below it, or after it
among_own : (key : ℕ) (above : Bool) (row : Row) (kids siblings : Forest Row) → row.key ≡ key → count_of_key key kids ≡ 0 → count_of_key key siblings ≡ 0
    → among key (turned_keys above (Branch row kids siblings)) ≡ not (runs_so (dir above row.view.facts.direction) row.view.facts.rtl)
among_own key above row kids siblings is below after =
    let rtl = dir above row.view.facts.direction in
    ap (among key) (keys_parts above row kids siblings)
    ∙ among-append key (own_keys (runs_so rtl row.view.facts.rtl) row.key) (turned_keys rtl kids ++ turned_keys above siblings)
    ∙ rw (among-append key (turned_keys rtl kids) (turned_keys above siblings), among_absent key rtl kids below, among_absent key above siblings after)
    (by_test (runs_so rtl row.view.facts.rtl))
  where
    by_test : (runs : Bool) → (if among key (own_keys runs row.key) then true else false) ≡ not runs
    by_test true = refl
    by_test false = rw (eq-eqb row.key key is) refl

among_other : (key : ℕ) (above : Bool) (row : Row) (kids siblings : Forest Row) → row.key ≢ key
    → among key (turned_keys above (Branch row kids siblings))
    ≡ (if among key (turned_keys (dir above row.view.facts.direction) kids) then true else among key (turned_keys above siblings))
among_other key above row kids siblings ne =
    let rtl = dir above row.view.facts.direction in
    ap (among key) (keys_parts above row kids siblings)
    ∙ among-append key (own_keys (runs_so rtl row.view.facts.rtl) row.key) (turned_keys rtl kids ++ turned_keys above siblings)
    ∙ ap (λ v. if v then true else among key (turned_keys rtl kids ++ turned_keys above siblings)) (by_test (runs_so rtl row.view.facts.rtl))
    ∙ among-append key (turned_keys rtl kids) (turned_keys above siblings)
  where
    by_test : (runs : Bool) → among key (own_keys runs row.key) ≡ false
    by_test true = refl
    by_test false = rw (ne_eqb row.key key ne) refl

-- what is kept of a view that turns, or not
abbrev pub forced_if : Bool → Option Held → Option Held
forced_if turns held = if turns then option_map forced_one held else held

held-turned : (rtl own : Bool) (n : Node) → n.facts.rtl ≡ own → held_in (Some (turned_node rtl n)) ≡ forced_if (not (runs_so rtl own)) (Some (held_by n))
held-turned rtl own n is =
    ap (λ own. held_in (Some (if runs_so rtl own then n else running_node rtl n))) is ∙ by_test (runs_so rtl own)
  where
    by_test : (runs : Bool) → held_in (Some (if runs then n else running_node rtl n)) ≡ forced_if (not runs) (Some (held_by n))
    by_test true = refl
    by_test false = refl

module _ (old new : ℕ → Option Node) where
  pub held_turned : (above : Bool) (p q : Option ℕ) (t : Forest Row) → ((key : ℕ) → count_of_key key t ≤ 1) → RepresentsPart (λ key. plain_node_in (old key)) p q t
      → HaveTurned old new above t → (key : ℕ) → 0 < count_of_key key t → held_in (new key) ≡ forced_if (among key (turned_keys above t)) (held_in (old key))
  held_turned above p q Nothing once s turned key live = absurd (omega arith)
  held_turned above p q (Branch row kids siblings) once s turned key live =
      let rtl = dir above row.view.facts.direction in
      let one = once key in
      elim (cases_eq row.key key) [
        | inl e ↦
            let one = rw (eq-eqb row.key key e) at one in
            let node = says (old row.key) (plain_node_for row p q kids siblings) s.0 in
            let own : held_in (new row.key) ≡ forced_if (not (runs_so rtl row.view.facts.rtl)) (held_in (old row.key)) =
            ap held_in (turned.0 ∙ ap (option_map (turned_node rtl)) node.at)
            ∙ held-turned rtl row.view.facts.rtl node.node (ap (λ (n : PlainNode). n.view.facts.rtl) node.all)
            ∙ ap (λ o. forced_if (not (runs_so rtl row.view.facts.rtl)) (held_in o)) (sym node.at) in
            rw (among_own key above row kids siblings e (omega arith) (omega arith)) (subst (λ k. held_in (new k) ≡ forced_if (not (runs_so rtl row.view.facts.rtl)) (held_in (old k))) e own)
        | inr ne ↦
            let one = rw (ne_eqb row.key key ne) at one in
            let live = rw (ne_eqb row.key key ne) at live in
            rw (among_other key above row kids siblings ne) (elim (zero_or_more (count_of_key key kids)) [
              | inl z ↦ rw (among_absent key rtl kids z)
                  (held_turned above p (Some row.key) siblings (λ key. let one = once key in omega arith) s.2 turned.2 key (omega arith))
              | inr there ↦ rw (among_absent key above siblings (omega arith)) (subst (λ v. held_in (new key) ≡ forced_if v (held_in (old key))) (or_false (among key (turned_keys rtl kids)))
                  (held_turned rtl (Some row.key) None kids (λ key. let one = once key in omega arith) s.1 turned.1 key there))
            ])
      ]
    where
      or_false : (v : Bool) → v ≡ (if v then true else false)
      or_false true = refl
      or_false false = refl
