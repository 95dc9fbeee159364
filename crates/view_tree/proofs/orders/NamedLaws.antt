-- Which ids the rules of a list of views name, and which of its views come before another, by what is kept of them.
use Rattle.std.proofs.Common.{◌≡◌, ◌≢◌, ℕ, suc, ◌<◌, Bool, true, false, List, length, get_or, Some, None, sym, ◌∙◌, ap, arith, inl, inr}
use Rattle.std.proofs.lemmas.Bool.{cases_Bool}
use Rattle.sibling_orders.proofs.LatestLaws.{place_less}
use Rattle.sibling_orders.specs.Highest.{IsAboveNamed, IsAboveRules}
use Rattle.sibling_orders.specs.Indexes.{IsStraight}
use Rattle.sibling_orders.specs.Latest.{IsLatest}
use Rattle.sibling_orders.specs.Staying.{IsBefore, IsPast}
use Rattle.view_model.specs.Cycles.{links_in, numbers_in}
use Rattle.view_model.specs.declared.facts.Rules.{Rules}
use Rattle.view_model.specs.declared.relative.Axis.{Axis}
use Rattle.view_model.specs.declared.relative.Axis.TheVariants.{Horizontal, Vertical}
use Rattle.view_model.specs.Forest.{Forest, Nothing, Branch}
use Rattle.view_model.specs.SiblingRules.{names, no_link}
use Rattle.view_tree.specs.Rows.{Row, views_of}
use Rattle.view_tree.specs.tree.Staying.{AreBefore, NamesNone}

-- an id above all that are named is not named
not_named : (axis : Axis) (rules : Rules) (highest id : ℕ) → IsAboveRules highest rules → highest < id → names axis rules id ≡ false
not_named axis rules highest id above high = elim (cases_Bool (names axis rules id)) [
  | inl e ↦ absurd (let less = above axis id e in omega arith)
  | inr e ↦ e
]

pub none_above : (id highest : ℕ) (list : Forest Row) → IsAboveNamed highest (links_in (views_of list)) → highest < id → NamesNone id list
none_above id highest Nothing above high = tt
none_above id highest (Branch row kids siblings) above high = (
  not_named Horizontal row.view.facts.rules highest id (above 0 (omega arith)) high,
  not_named Vertical row.view.facts.rules highest id (above 0 (omega arith)) high,
  none_above id highest siblings (λ place small. above (suc place) (omega arith)) high,
)

-- each child with an id comes before another
are_before : (id number : ℕ) (numbers order : List ℕ) (list : Forest Row)
    → ((p : ℕ) → p < length (links_in (views_of list)) → (get_or (links_in (views_of list)) p no_link).id ≡ id → IsBefore (get_or (numbers_in (views_of list)) p 0) number numbers order)
    → AreBefore id number numbers order list
are_before id number numbers order Nothing each = tt
are_before id number numbers order (Branch row kids siblings) each =
    (each 0 (omega arith), are_before id number numbers order siblings (λ p small is. each (suc p) (omega arith) is))

-- no child has an id
pub before_none : (id number : ℕ) (numbers order : List ℕ) (list : Forest Row) → id ≢ 0 → IsLatest id (links_in (views_of list)) (numbers_in (views_of list)) None
    → AreBefore id number numbers order list
before_none id number numbers order list named latest = are_before id number numbers order list (λ p small is. absurd (latest.reached named p small is))

-- a child that has a number above those of the children with an id comes after them, in an order that has each place as its own
pub before_past : (id number last : ℕ) (straight : Bool) (numbers order : List ℕ) (list : Forest Row) → length (links_in (views_of list)) ≡ length (numbers_in (views_of list)) → id ≢ 0
    → IsLatest id (links_in (views_of list)) (numbers_in (views_of list)) (Some last) → numbers ≡ numbers_in (views_of list) → (straight ≡ true → IsStraight order)
    → IsPast last number straight numbers order → AreBefore id number numbers order list
before_past id number last straight numbers order list alike named latest same marked past =
    are_before id number numbers order list (λ p small is.
    let under = latest.reached named p small is in
    let above = past.less in
    let there = sym (ap (λ (n : List ℕ). get_or n past.place 0) same) ∙ past.after.is in
    let less : p < past.place = place_less (numbers_in (views_of list)) p past.place latest.rising (omega arith) (omega arith) in
    let inside = past.after.inside in
    record {
      early = p;
      late = past.place;
      less = less;
      before = record { inside = omega arith; stays = marked past.marked p (omega arith); is = ap (λ (n : List ℕ). get_or n p 0) same };
      after = past.after;
    })
