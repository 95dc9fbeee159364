-- A walk over the children of a view, while each turns with it.
use Rattle.std.proofs.Common.{◌≡◌, ◌≢◌, ℕ, suc, ◌<◌, ◌≤◌, Bool, Option, Some, None, refl, sym, ◌∙◌, ap, subst, arith}
use Rattle.std.specs.Prelude.{option_map}
use Rattle.slab.specs.Slab.{ContainsKey, Slab, get}
use Rattle.view_model.specs.Numbers.{max_views}
use Rattle.view_model.specs.Direction.{dir}
use Rattle.view_model.specs.Forest.{Forest, Nothing, Branch, count_of}
use Rattle.view_tree.specs.node.Nodes.{PlainNode, RepresentsPart, forest, plain_node_at, plain_node_for, plain_node_in}
use Rattle.view_tree.specs.Rows.{Row, children_of_first, count_of_key, first_key, first_tree, rest_from}
use Rattle.view_tree.specs.node.Turning.{HaveTurned, IsPart, RunsBelow, part_at, running_node, turned_node}
use Rattle.view_tree.specs.Views.{AreDirected}
use Rattle.view_tree.specs.declared.node.Node.{Node}
use Rattle.view_tree.proofs.forest.Forests.{count-within, forest_is, part, some_is}
use Rattle.view_tree.proofs.forest.KeyLaws.{Within, count_of_key-within, here, in_after, in_below, times_self, own_more}
use Rattle.view_tree.proofs.nodes.ChildEdits.{RepresentsPart-along}
use Rattle.view_tree.proofs.nodes.NodeReads.{Says, says}
use Rattle.view_tree.proofs.nodes.TurnedNodes.{At_rest, Past, TurnedUntil, still_turned, turned_other, turned_still, until_end, until_on}

-- a part by its first view
pub record First (part : Forest Row) (view : ℕ) : Type 0 where
  pub row : Row
  pub kids : Forest Row
  pub siblings : Forest Row
  pub is : part ≡ Branch row kids siblings
  pub key_is : row.key ≡ view

pub first_of : (part : Forest Row) (view : ℕ) → first_key part ≡ Some view → First part view
first_of Nothing view is = absurd (cc)
first_of (Branch row kids siblings) view is = record { row = row; kids = kids; siblings = siblings; is = refl; key_is = some_is is }

pub no_first : (part : Forest Row) → first_key part ≡ None → part ≡ Nothing
no_first Nothing is = refl
no_first (Branch row kids siblings) is = absurd (cc)

until_within : {old new : ℕ → Option Node} {above : Bool} {rest list : Forest Row} → TurnedUntil old new above rest list → Within rest list
until_within At_rest = here
until_within (Past turned u) = in_after (until_within u)

-- the children of a view so far
pub record TurnWalk (old now : ℕ → Option Node) (rtl : Bool) (view : ℕ) (kids : Forest Row) (next : Option ℕ) : Type 0 where
  pub rest : Forest Row
  pub first : first_key rest ≡ next
  pub done : TurnedUntil old now rtl rest kids
  pub before : Option ℕ
  pub represented : RepresentsPart (λ key. plain_node_in (now key)) (Some view) before rest
  pub still : (key : ℕ) → 0 < count_of_key key rest → now key ≡ old key
  pub out : (key : ℕ) → count_of_key key kids ≡ 0 → key ≢ view → now key ≡ old key
  pub own : now view ≡ option_map (running_node rtl) (old view)

-- a view with what its node says
module _ (nodes : Slab Node) (view : ℕ) (is : IsPart (plain_node_at nodes) view (part_at nodes view)) where
  pub at : First (part_at nodes view) view
  at = first_of (part_at nodes view) view is.first

  abbrev pub kids : Forest Row
  kids = children_of_first (part_at nodes view)

  kids_is : kids ≡ at.kids
  kids_is = ap children_of_first at.is

  once_at : (key : ℕ) → count_of_key key (Branch at.row at.kids at.siblings) ≤ 1
  once_at key = subst (λ part. count_of_key key part ≤ 1) at.is (is.once key)

  represented_at : RepresentsPart (plain_node_at nodes) is.parent is.before (Branch at.row at.kids at.siblings)
  represented_at = subst (RepresentsPart (plain_node_at nodes) is.parent is.before) at.is is.represented

  pub node : Says (get nodes view) (plain_node_for at.row is.parent is.before at.kids at.siblings)
  node = subst (λ k. Says (get nodes k) (plain_node_for at.row is.parent is.before at.kids at.siblings)) at.key_is
      (says (get nodes at.row.key) (plain_node_for at.row is.parent is.before at.kids at.siblings) represented_at.0)

  pub there : ContainsKey nodes view
  there = rw node.at

  same_node : (n : Node) → get nodes view ≡ Some n → n ≡ node.node
  same_node n found = some_is (sym found ∙ node.at)

  pub first_kid : (n : Node) → get nodes view ≡ Some n → n.links.first ≡ first_key kids
  first_kid n found =
      ap (λ (n : Node). n.links.first) (same_node n found) ∙ ap (λ (n : PlainNode). n.first) node.all ∙ ap first_key (sym kids_is)

  not_view : (key : ℕ) → 0 < count_of_key key kids → key ≢ view
  not_view key live same =
      let live : 0 < count_of_key key at.kids = subst (λ list. 0 < count_of_key key list) kids_is live in
      let one = once_at key in
      let more = own_more at.row at.kids at.siblings key (at.key_is ∙ sym same) in
      absurd (omega arith)

  pub once_kids : (key : ℕ) → count_of_key key kids ≤ 1
  once_kids key = subst (λ list. count_of_key key list ≤ 1) (sym kids_is) (let one = once_at key in omega arith)

  pub kids_fewer : count_of kids < count_of (first_tree (part_at nodes view))
  kids_fewer = rw at.is (omega arith)

  kids_few : count_of kids ≤ max_views
  kids_few =
      let few : count_of (Branch at.row at.kids at.siblings) ≤ max_views = subst (λ part. count_of part ≤ max_views) at.is is.few in
      subst (λ list. count_of list ≤ max_views) (sym kids_is) (omega arith)

  directed_at : AreDirected at.row.view.facts.rtl kids
  directed_at = subst (AreDirected at.row.view.facts.rtl) (sym kids_is) (subst RunsBelow at.is is.below)

  -- how its node runs
  facts_rtl : (n : Node) → get nodes view ≡ Some n → n.facts.rtl ≡ at.row.view.facts.rtl
  facts_rtl n found = ap (λ (n : Node). n.facts.rtl) (same_node n found) ∙ ap (λ (n : PlainNode). n.view.facts.rtl) node.all

  facts_way : (n : Node) (above : Bool) → get nodes view ≡ Some n → dir above n.facts.direction ≡ dir above at.row.view.facts.direction
  facts_way n above found =
      ap (λ (n : Node). dir above n.facts.direction) (same_node n found) ∙ ap (λ (n : PlainNode). dir above n.view.facts.direction) node.all

  -- where it runs as it is to, all below it does
  pub turned_none : (n : Node) (above : Bool) → get nodes view ≡ Some n → n.facts.rtl ≡ dir above n.facts.direction
      → HaveTurned (get nodes) (get nodes) above (first_tree (part_at nodes view))
  turned_none n above found runs =
      let way : at.row.view.facts.rtl ≡ dir above at.row.view.facts.direction = sym (facts_rtl n found) ∙ runs ∙ facts_way n above found in
      let own : get nodes view ≡ option_map (turned_node (dir above at.row.view.facts.direction)) (get nodes view) =
      found ∙ ap (λ (n : Node). Some n) (sym (turned_still (dir above at.row.view.facts.direction) n (runs ∙ facts_way n above found)))
      ∙ ap (option_map (turned_node (dir above at.row.view.facts.direction))) (sym found) in
      let below : HaveTurned (get nodes) (get nodes) (dir above at.row.view.facts.direction) at.kids =
      still_turned (get nodes) (get nodes) (dir above at.row.view.facts.direction) (Some at.row.key) None at.kids represented_at.1
      (subst (λ (way : Bool). AreDirected way at.kids) way (subst (AreDirected at.row.view.facts.rtl) kids_is directed_at)) (λ key h. refl) in
      rw at.is (subst (λ k. get nodes k ≡ option_map (turned_node (dir above at.row.view.facts.direction)) (get nodes k)) (sym at.key_is) own, below, tt)

  -- once it has turned itself
  pub walk_begins : (rtl : Bool) (now : Slab Node) → get now view ≡ option_map (running_node rtl) (get nodes view) → ((key : ℕ) → key ≢ view → get now key ≡ get nodes key)
      → TurnWalk (get nodes) (get now) rtl view kids (first_key kids)
  walk_begins rtl now own others = record {
    rest = kids;
    first = refl;
    done = At_rest;
    before = None;
    represented = RepresentsPart-along (plain_node_at nodes) (plain_node_at now) (Some view) None kids (λ key live. ap plain_node_in (others key (not_view key live)))
        (subst (λ list. RepresentsPart (plain_node_at nodes) (Some view) None list) (sym kids_is) (subst (λ k. RepresentsPart (plain_node_at nodes) (Some k) None at.kids) at.key_is represented_at.1));
    still = λ key live. others key (not_view key live);
    out = λ key none ne. others key ne;
    own = own;
  }

  -- one of its children
  module _ (rtl : Bool) (now : Slab Node) (kid : ℕ) (w : TurnWalk (get nodes) (get now) rtl view kids (Some kid)) where
    pub kid_at : First w.rest kid
    kid_at = first_of w.rest kid w.first

    kid_represented : RepresentsPart (plain_node_at now) (Some view) w.before (Branch kid_at.row kid_at.kids kid_at.siblings)
    kid_represented = subst (RepresentsPart (plain_node_at now) (Some view) w.before) kid_at.is w.represented

    kid_node : Says (get now kid) (plain_node_for kid_at.row (Some view) w.before kid_at.kids kid_at.siblings)
    kid_node = subst (λ k. Says (get now k) (plain_node_for kid_at.row (Some view) w.before kid_at.kids kid_at.siblings)) kid_at.key_is
        (says (get now kid_at.row.key) (plain_node_for kid_at.row (Some view) w.before kid_at.kids kid_at.siblings) kid_represented.0)

    pub kid_there : ContainsKey now kid
    kid_there = rw kid_node.at

    rest_within : Within w.rest kids
    rest_within = until_within w.done

    rest_few : count_of w.rest ≤ max_views
    rest_few = let few = count-within rest_within in let all = kids_few in omega arith

    kid_part : part_at now kid ≡ w.rest
    kid_part =
        let few = rest_few in
        ap (forest (suc max_views) (plain_node_at now)) (sym w.first)
        ∙ forest_is (suc max_views) (plain_node_at now) (Some view) w.before w.rest w.represented (omega arith)

    rest_directed : {rest list : Forest Row} (above : Bool) → TurnedUntil (get nodes) (get now) rtl rest list → AreDirected above list → AreDirected above rest
    rest_directed above At_rest are = are
    rest_directed above (Past turned u) are = rest_directed above u are.2

    pub kid_can : IsPart (plain_node_at now) kid (part_at now kid)
    kid_can =
        let below : RunsBelow w.rest =
        subst RunsBelow (sym kid_at.is) (subst (AreDirected at.row.view.facts.rtl) kid_at.is (rest_directed at.row.view.facts.rtl w.done directed_at)).1 in
        subst (IsPart (plain_node_at now) kid) (sym kid_part) (record {
          parent = Some view;
          before = w.before;
          represented = w.represented;
          first = w.first;
          once = λ key. let one = once_kids key in let less = count_of_key-within key rest_within in omega arith;
          few = rest_few;
          below = below;
        })

    pub kid_fewer : count_of (first_tree (part_at now kid)) < count_of (first_tree (part_at nodes view))
    kid_fewer =
        let all = kids_fewer in
        let few : count_of w.rest ≤ count_of kids = count-within rest_within in
        let own : count_of (first_tree (part_at now kid)) ≤ count_of w.rest = rw (kid_part, kid_at.is) (omega arith) in
        omega arith

    -- the next one, and what is left then
    pub next_kid : (n : Node) → get now kid ≡ Some n → n.links.next ≡ first_key kid_at.siblings
    next_kid n found = ap (λ (n : Node). n.links.next) (some_is (sym found ∙ kid_node.at)) ∙ ap (λ (n : PlainNode). n.next) kid_node.all

    rest_from_is : (rest : Forest Row) → Within rest kids → rest_from (first_key rest) (part_at nodes view) ≡ rest
    rest_from_is rest within = (part (part_at nodes view) is.once rest (subst (Within rest) (sym at.is) (in_below (subst (Within rest) kids_is within)))).is

    pub walk_falls : (n : Node) → get now kid ≡ Some n → count_of (rest_from n.links.next (part_at nodes view)) < count_of (rest_from (Some kid) (part_at nodes view))
    walk_falls n found =
        let within : Within (Branch kid_at.row kid_at.kids kid_at.siblings) kids = subst (λ rest. Within rest kids) kid_at.is rest_within in
        let after : rest_from n.links.next (part_at nodes view) ≡ kid_at.siblings =
        ap (λ next. rest_from next (part_at nodes view)) (next_kid n found) ∙ rest_from_is kid_at.siblings (later_within within) in
        let now_is : rest_from (Some kid) (part_at nodes view) ≡ Branch kid_at.row kid_at.kids kid_at.siblings =
        ap (λ next. rest_from next (part_at nodes view)) (ap (λ k. Some k) (sym kid_at.key_is)) ∙ rest_from_is (Branch kid_at.row kid_at.kids kid_at.siblings) within in
        rw (after, now_is) (omega arith)
      where
        later_within : {row : Row} {below after list : Forest Row} → Within (Branch row below after) list → Within after list
        later_within here = in_after here
        later_within (in_below w) = in_below (later_within w)
        later_within (in_after w) = in_after (later_within w)

    -- once it has turned
    pub walk_goes : (n : Node) (end : Slab Node) → get now kid ≡ Some n → HaveTurned (get now) (get end) rtl (first_tree (part_at now kid))
        → ((key : ℕ) → count_of_key key (first_tree (part_at now kid)) ≡ 0 → get end key ≡ get now key)
        → TurnWalk (get nodes) (get end) rtl view kids n.links.next
    walk_goes n end found turned others =
        let tree : first_tree (part_at now kid) ≡ Branch kid_at.row kid_at.kids Nothing = ap first_tree (kid_part ∙ kid_at.is) in
        let out : (key : ℕ) → count_of_key key (Branch kid_at.row kid_at.kids Nothing) ≡ 0 → get end key ≡ get now key =
        λ key none. others key (ap (count_of_key key) tree ∙ none) in
        let whole : (key : ℕ) → count_of_key key (Branch kid_at.row kid_at.kids kid_at.siblings) ≤ 1 =
        λ key. subst (λ rest. count_of_key key rest ≤ 1) kid_at.is (let one = once_kids key in let less = count_of_key-within key rest_within in omega arith) in
        let same : (key : ℕ) → 0 < count_of_key key (Branch kid_at.row kid_at.kids kid_at.siblings) → get now key ≡ get nodes key =
        λ key live. w.still key (subst (λ rest. 0 < count_of_key key rest) (sym kid_at.is) live) in
        let has : HaveTurned (get now) (get end) rtl (Branch kid_at.row kid_at.kids Nothing) = subst (HaveTurned (get now) (get end) rtl) tree turned in
        let done : TurnedUntil (get nodes) (get now) rtl (Branch kid_at.row kid_at.kids kid_at.siblings) kids = subst (λ rest. TurnedUntil (get nodes) (get now) rtl rest kids) kid_at.is w.done in
        let away : (key : ℕ) → count_of_key key kids ≡ 0 → count_of_key key (Branch kid_at.row kid_at.kids Nothing) ≡ 0 =
        λ key none. let less : count_of_key key (Branch kid_at.row kid_at.kids kid_at.siblings) ≤ count_of_key key kids = subst (λ rest. count_of_key key rest ≤ count_of_key key kids) kid_at.is (count_of_key-within key rest_within) in omega arith in
        record {
          rest = kid_at.siblings;
          first = sym (next_kid n found);
          done = until_on (get nodes) (get now) (get end) rtl kid_at.row kid_at.kids kid_at.siblings once_kids done
              (from_now (Branch kid_at.row kid_at.kids Nothing) (λ key live. same key (omega arith)) rtl has) out;
          before = Some kid_at.row.key;
          represented = RepresentsPart-along (plain_node_at now) (plain_node_at end) (Some view) (Some kid_at.row.key) kid_at.siblings
              (λ key live. ap plain_node_in (out key (let one = whole key in omega arith))) kid_represented.2;
          still = λ key live. out key (let one = whole key in omega arith) ∙ same key (omega arith);
          out = λ key none ne. out key (away key none) ∙ w.out key none ne;
          own = out view (let none : count_of_key view kids ≡ 0 = view_apart in away view none) ∙ w.own;
        }
      where
        from_now : (list : Forest Row) → ((key : ℕ) → 0 < count_of_key key list → get now key ≡ get nodes key) → (above : Bool)
            → HaveTurned (get now) (get end) above list → HaveTurned (get nodes) (get end) above list
        from_now Nothing same above turned = tt
        from_now (Branch row below after) same above turned = (
          turned.0 ∙ ap (option_map (turned_node (dir above row.view.facts.direction))) (same row.key (times_self row below after)),
          from_now below (λ key h. same key (omega arith)) (dir above row.view.facts.direction) turned.1,
          from_now after (λ key h. same key (omega arith)) above turned.2,
        )

        view_apart : count_of_key view kids ≡ 0
        view_apart =
            let one = once_at view in
            let more = own_more at.row at.kids at.siblings view at.key_is in
            subst (λ list. count_of_key view list ≡ 0) (sym kids_is) (omega arith)

  -- once all have turned
  pub turned_all : (n : Node) (above : Bool) (now : Slab Node) → get nodes view ≡ Some n → n.facts.rtl ≢ dir above n.facts.direction
      → TurnWalk (get nodes) (get now) (dir above n.facts.direction) view kids None → HaveTurned (get nodes) (get now) above (first_tree (part_at nodes view))
  turned_all n above now found other w =
      let rtl = dir above n.facts.direction in
      let way : rtl ≡ dir above at.row.view.facts.direction = facts_way n above found in
      let own : get now view ≡ option_map (turned_node rtl) (get nodes view) =
      w.own ∙ ap (option_map (running_node rtl)) found ∙ ap (λ (n : Node). Some n) (sym (turned_other rtl n other)) ∙ ap (option_map (turned_node rtl)) (sym found) in
      let done : TurnedUntil (get nodes) (get now) rtl Nothing kids = subst (λ rest. TurnedUntil (get nodes) (get now) rtl rest kids) (no_first w.rest w.first) w.done in
      let below : HaveTurned (get nodes) (get now) rtl at.kids = subst (HaveTurned (get nodes) (get now) rtl) kids_is (until_end (get nodes) (get now) rtl done) in
      rw at.is (
        subst (λ rtl. get now at.row.key ≡ option_map (turned_node rtl) (get nodes at.row.key)) way
            (subst (λ k. get now k ≡ option_map (turned_node rtl) (get nodes k)) (sym at.key_is) own),
        subst (λ rtl. HaveTurned (get nodes) (get now) rtl at.kids) way below,
        tt,
      )

  pub others_same : (rtl : Bool) (now : Slab Node) (next : Option ℕ) → TurnWalk (get nodes) (get now) rtl view kids next
      → (key : ℕ) → count_of_key key (first_tree (part_at nodes view)) ≡ 0 → get now key ≡ get nodes key
  others_same rtl now next w key none =
      let none : count_of_key key (Branch at.row at.kids Nothing) ≡ 0 = ap (λ part. count_of_key key (first_tree part)) (sym at.is) ∙ none in
      let apart : count_of_key key kids ≡ 0 = subst (λ list. count_of_key key list ≡ 0) (sym kids_is) (omega arith) in
      w.out key apart (λ is. let more = own_more at.row at.kids Nothing key (at.key_is ∙ sym is) in absurd (omega arith))
