-- The fields of a tree once a view has got a direction, and what inherits from it has turned.
use Rattle.std.proofs.Common.{◌≡◌, ℕ, suc, ◌<◌, ◌≤◌, Bool, true, false, [], Option, Some, None, refl, sym, ◌∙◌, ap, subst, arith, inl, inr}
use Rattle.std.proofs.lemmas.Bool.{cases_eq}
use Rattle.std.specs.Prelude.{◌==◌, if◌then◌else◌}
use Rattle.slab.specs.Slab.{Slab, Updates, get, slab_len, with_value}
use Rattle.slab.proofs.SlabLemmas.{Updates-with_value}
use Rattle.view_model.specs.Numbers.{max_views}
use Rattle.view_model.specs.declared.facts.Facts.{Facts}
use Rattle.view_model.specs.declared.placing.Direction.{Direction}
use Rattle.view_model.specs.Directed.{directed, with_direction as plain_with_direction}
use Rattle.view_model.specs.Direction.{dir}
use Rattle.view_model.specs.Forest.{Forest, Nothing, Branch, count_of}
use Rattle.view_model.specs.PlainTree.{PlainView}
use Rattle.view_tree.proofs.nodes.NodeWrites.{len_write}
use Rattle.view_tree.specs.tree.Directions.{directed_rows, is_rtl_above, turned_keys, with_direction}
use Rattle.view_tree.specs.node.Nodes.{IsPlanted, IsSoundTree, PlainNode, RepresentsTree, forest, held_in, plain_node_at, plain_node_in, tree_of, value_of}
use Rattle.view_tree.specs.tree.Groups.{HasNoOther}
use Rattle.sibling_orders.specs.Ordering.{IsGrouped, group_at}
use Rattle.view_tree.specs.Rows.{Row, changed_at_key, count_of_key, first_tree, key_where, part_from}
use Rattle.view_tree.specs.node.Turning.{HaveTurned, IsPart, RunsBelow, part_at}
use Rattle.view_tree.specs.tree.Requests.{among, forced_one, pressed}
use Rattle.view_tree.specs.Views.{AreDirected, Held, IsLive, IsTree, Views, held_of, held_or, number_of, plain_of, plain_rows}
use Rattle.view_tree.specs.declared.node.Node.{Node}
use Rattle.view_tree.specs.declared.tree.ViewTree.TheInside.{Inside}
use Rattle.view_tree.proofs.forest.DirectedLaws.{directed-rows, directed-within}
use Rattle.view_tree.proofs.forest.Forests.{RepresentsPart-within, count-within, forest_is, some_is, tree_is}
use Rattle.view_tree.proofs.forest.KeyLaws.{count_of_key-within, here, located, zero_or_more}
use Rattle.view_tree.proofs.forest.NumberLaws.{count_of_key-put}
use Rattle.view_tree.proofs.forest.PlainLaws.{agree_live, plain-change_facts, plain_along}
use Rattle.view_tree.proofs.nodes.ChangedTree.{put_represents}
use Rattle.view_tree.proofs.nodes.NodeReads.{held_view, is_tree, link_for, named_for, represents_for}
use Rattle.view_tree.proofs.nodes.TurnedHeld.{among_absent, forced_if, held_turned}
use Rattle.view_tree.proofs.nodes.TurnedNodes.{first_key-directed, represents_turned}
use Rattle.view_tree.proofs.nodes.TurnedTree.{Alike, alike_directed, alike_put, count-alike, count_of_key-alike, grouped-alike, holders_of-alike, is_tree-alike, key_where-alike, later_siblings-alike, only-alike}
use Rattle.view_tree.proofs.nodes.TurnedWhole.{above_in, above_is, part_few, part_from-directed, part_with, whole_turned}

-- a node with this direction
abbrev pub node_with : Direction → Node → Node
node_with direction node = record node { facts = record node.facts { direction = direction } }

module _ (a : Inside) (v : Views) (view : ℕ) (direction : Direction) (n : Node) (planted : IsPlanted a) (e : value_of a ≡ v) (live : IsLive v view) (at : get a.nodes view ≡ Some n) where
  abbrev pub first_nodes : Slab Node
  first_nodes = with_value a.nodes view (node_with direction n)

  abbrev pub first_tree_of : Forest Row
  first_tree_of = changed_at_key view (with_direction direction) v.tree

  abbrev pub last_tree : Forest Row
  last_tree = directed_rows false first_tree_of

  is : IsTree v
  is = is_tree a v planted e

  u : Updates a.nodes first_nodes view (Some (node_with direction n))
  u = Updates-with_value a.nodes view (node_with direction n) (rw at)

  first_represented : RepresentsTree (plain_node_at first_nodes) a.root a.next first_tree_of
  first_represented =
      put_represents view (with_direction direction) (plain_node_at a.nodes) (plain_node_at first_nodes)
      (λ s says.
      ap plain_node_in u.changed
      ∙ ap (λ (s : PlainNode). Some (record s { view = with_direction direction s.view })) (some_is (ap plain_node_in (sym at) ∙ says)))
      (λ x ne. ap plain_node_in (u.others x ne))
      a.root a.next v.tree (represents_for a v planted e)

  alike : Alike v.tree last_tree
  alike = alike_directed false (alike_put view direction v.tree)

  -- the part of the view
  abbrev part : Forest Row
  part = part_from view first_tree_of

  part_is : part ≡ part_with direction (part_from view v.tree)
  part_is = part_from-directed view direction v.tree

  live_first : 0 < count_of_key view first_tree_of
  live_first = rw (count_of_key-put view view (with_direction direction) v.tree) live

  below : RunsBelow part
  below =
      let f = located view v.tree live in
      let own : RunsBelow (part_with direction (Branch f.row f.kids f.siblings)) = directed-within f.row f.kids f.siblings false f.within is.directed in
      subst RunsBelow (sym part_is) (subst (λ part. RunsBelow (part_with direction part)) (sym f.is) own)

  few_first : count_of first_tree_of ≤ max_views
  few_first = rw (count-alike (alike_put view direction v.tree)) is.few

  first_part : IsPart (plain_node_at first_nodes) view part
  first_part =
      let f = located view first_tree_of live_first in
      let w = RepresentsPart-within (plain_node_at first_nodes) None None f.within first_represented.represented in
      let few = count-within f.within in
      let all = few_first in
      let whole : IsPart (plain_node_at first_nodes) view (Branch f.row f.kids f.siblings) = record {
        parent = w.parent;
        before = w.before;
        represented = w.represented;
        first = ap (λ k. Some k) f.key_is;
        once = λ key. let one = first_represented.distinct key in let less = count_of_key-within key f.within in omega arith;
        few = omega arith;
        below = subst RunsBelow f.is below;
      } in
      subst (IsPart (plain_node_at first_nodes) view) (sym f.is) whole

  part_same : part_at first_nodes view ≡ part
  part_same =
      let p = first_part in
      let few = p.few in
      ap (forest (suc max_views) (plain_node_at first_nodes)) (sym p.first)
      ∙ forest_is (suc max_views) (plain_node_at first_nodes) p.parent p.before part p.represented (omega arith)

  -- what a turn wants
  pub can_turn : IsPart (plain_node_at first_nodes) view (part_at first_nodes view)
  can_turn = subst (IsPart (plain_node_at first_nodes) view) (sym part_same) first_part

  module _ (above : Bool) (runs : above ≡ is_rtl_above v view) (nodes : Slab Node)
      (turned : HaveTurned (get first_nodes) (get nodes) above (first_tree (part_at first_nodes view)))
      (others : (key : ℕ) → count_of_key key (first_tree (part_at first_nodes view)) ≡ 0 → get nodes key ≡ get first_nodes key)
      (len : slab_len nodes ≡ slab_len first_nodes) where
    whole : HaveTurned (get first_nodes) (get nodes) false first_tree_of
    whole =
        let way : above ≡ above_in false view v.tree = runs ∙ above_is v.tree is.keys [] view v.tree here in
        whole_turned (get first_nodes) (get nodes) view direction false None None v.tree is.keys live is.directed first_represented.represented
        (subst (λ above. HaveTurned (get first_nodes) (get nodes) above (first_tree (part_with direction (part_from view v.tree)))) way
        (subst (λ part. HaveTurned (get first_nodes) (get nodes) above (first_tree part)) (part_same ∙ part_is) turned))
        (λ key none. others key (ap (λ part. count_of_key key (first_tree part)) (part_same ∙ part_is) ∙ same key (part_from view v.tree) ∙ none))
      where
        same : (key : ℕ) (part : Forest Row) → count_of_key key (first_tree (part_with direction part)) ≡ count_of_key key (first_tree part)
        same key Nothing = refl
        same key (Branch row kids siblings) = refl

    last_represents : RepresentsTree (plain_node_at nodes) a.root a.next last_tree
    last_represents = record {
      outer = first_key-directed false first_tree_of ∙ first_represented.outer;
      single = later_siblings-alike (alike_directed false (alike_put view direction v.tree)) is.root;
      represented = represents_turned (get first_nodes) (get nodes) false None None first_tree_of first_represented.represented whole;
      distinct = λ key. rw (count_of_key-alike key alike) (is.keys key);
      few = rw (count-alike alike) (represents_for a v planted e).few;
    }

    abbrev pub turned_inside : Inside
    turned_inside = record a { nodes = nodes }

    pub tree-turned : tree_of turned_inside ≡ last_tree
    tree-turned = tree_is (plain_node_at nodes) a.root a.next _ last_represents

    pub planted-turned : IsPlanted turned_inside
    planted-turned =
        let now : Alike v.tree (tree_of turned_inside) = subst (Alike v.tree) (sym tree-turned) alike in
        record {
          represents = subst (RepresentsTree (plain_node_at nodes) a.root a.next) (sym tree-turned) last_represents;
          kept = is_tree-alike v (value_of turned_inside) is now (subst (AreDirected false) (sym tree-turned) (directed-rows false first_tree_of)) (ap (λ (v : Views). v.next) e);
          full = len ∙ len_write a.nodes.slots view (node_with direction n) (rw at) ∙ planted.full ∙ ap (λ (v : Views). count_of v.tree) e ∙ sym (count-alike now);
          found = λ number.
              planted.found number ∙ ap (λ (v : Views). key_where (λ (view : PlainView). view.number == number) v.tree) e
              ∙ sym (key_where-alike (λ (view : PlainView). view.number == number) (λ row other s. ap (λ x. x == number) s.number) now);
          named = λ id. named_for a v planted e id ∙ sym (holders_of-alike id now);
          small = λ key there. link_for a v planted e key (rw (count_of_key-alike key now) at there);
        }

    pub sound-turned : IsSoundTree a → IsSoundTree turned_inside
    sound-turned sound =
        let now : Alike v.tree (tree_of turned_inside) = subst (Alike v.tree) (sym tree-turned) alike in
        record {
          planted = planted-turned;
          grouped = grouped-alike (group_at a.groups) (held_of v) (held_of (value_of turned_inside)) now
              (subst (λ (v : Views). IsGrouped (group_at a.groups) (plain_of v)) e sound.grouped);
          only = only-alike (group_at a.groups) now (subst (λ (v : Views). HasNoOther (group_at a.groups) v.tree) e sound.only);
        }

    -- layout is requested at each view that turns
    pub held-turned-all : (key : ℕ) → held_of (value_of turned_inside) key ≡ pressed (held_of v) (turned_keys false first_tree_of) key
    held-turned-all key = elim (zero_or_more (count_of_key key first_tree_of)) [
      | inl none ↦
          let away : count_of_key key (first_tree (part_at first_nodes view)) ≡ 0 = outside key none in
          let none : among key (turned_keys false first_tree_of) ≡ false = among_absent key false first_tree_of none in
          rw none (held_view turned_inside key ∙ ap (λ (o : Option Node). held_or (held_in o)) (others key away) ∙ ap held_or (first_held key) ∙ sym (held_view a key)
          ∙ ap (λ (v : Views). held_of v key) e)
      | inr there ↦
          held_view turned_inside key
          ∙ ap held_or (held_turned (get first_nodes) (get nodes) false None None first_tree_of (λ key. rw (count_of_key-put key view (with_direction direction) v.tree) (is.keys key)) first_represented.represented whole key there)
          ∙ ap (λ (o : Option Held). held_or (forced_if (among key (turned_keys false first_tree_of)) o)) (first_held key)
          ∙ forced_or (among key (turned_keys false first_tree_of)) (held_in (get a.nodes key))
          ∙ ap (λ (h : Held). if among key (turned_keys false first_tree_of) then forced_one h else h) (sym (held_view a key) ∙ ap (λ (v : Views). held_of v key) e)
    ]
      where
        outside : (key : ℕ) → count_of_key key first_tree_of ≡ 0 → count_of_key key (first_tree (part_at first_nodes view)) ≡ 0
        outside key none =
            let less = part_few view key first_tree_of live_first in
            let same : count_of_key key (first_tree (part_at first_nodes view)) ≡ count_of_key key (first_tree part) = ap (λ part. count_of_key key (first_tree part)) part_same in
            omega arith

        first_held : (key : ℕ) → held_in (get first_nodes key) ≡ held_in (get a.nodes key)
        first_held key = elim (cases_eq key view) [
          | inl same ↦ rw same (ap held_in u.changed ∙ ap held_in (sym at))
          | inr ne ↦ ap held_in (u.others key ne)
        ]

        forced_or : (turns : Bool) (o : Option Held) → held_or (forced_if turns o) ≡ (if turns then forced_one (held_or o) else held_or o)
        forced_or true None = refl
        forced_or true (Some held) = refl
        forced_or false None = refl
        forced_or false (Some held) = refl

    -- its plain tree
    pub plain-turned : plain_of (value_of turned_inside) ≡ directed false (plain_with_direction (number_of v view) direction (plain_of v))
    plain-turned =
        let held = held_of (value_of turned_inside) in
        ap (plain_rows held) tree-turned
        ∙ plain_directed held false first_tree_of
        ∙ ap (directed false)
        (plain-change_facts held view (number_of v view) (with_direction direction) (λ (facts : Facts). record facts { direction = direction }) v.tree (agree_live v view is live) (λ row. refl)
        ∙ ap (plain_with_direction (number_of v view) direction)
        (plain_along (held_of v) held v.tree (λ key there. ap (λ (h : Held). h.offset) (held-turned-all key) ∙ offset_stays (among key (turned_keys false first_tree_of)) (held_of v key))))
      where
        offset_stays : (turns : Bool) (held : Held) → (if turns then forced_one held else held).offset ≡ held.offset
        offset_stays true held = refl
        offset_stays false held = refl

        plain_directed : (held : ℕ → Held) (above : Bool) (t : Forest Row) → plain_rows held (directed_rows above t) ≡ directed above (plain_rows held t)
        plain_directed held above Nothing = refl
        plain_directed held above (Branch row kids siblings) =
            rw (plain_directed held (dir above row.view.facts.direction) kids, plain_directed held above siblings) refl
