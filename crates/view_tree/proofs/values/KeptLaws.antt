-- What every tree keeps, after edits.
use Rattle.std.proofs.Common.{◌≡◌, ℕ, suc, ◌+◌, ◌<◌, ◌≤◌, pos, Bool, true, false, List, [], ◌∷◌, length, Option, Some, None, refl, sym, ◌∙◌, ap, subst, arith, inl, inr}
use Rattle.std.proofs.lemmas.Bool.{eq-eqb, ne_eqb, cases_eq, cases_Bool, ltb-true, not-false, true≢false}
use Rattle.std.specs.Prelude.{◌==◌, ◌&&◌, if◌then◌else◌, IfSome, nat_lt, not}
use Rattle.std.specs.Option.{option_map}
use Rattle.view_model.specs.Numbers.{max_depth, max_views, not_group, scroll_full, too_deep, too_many_views}
use Rattle.view_model.specs.declared.class.Class.{Class}
use Rattle.view_model.specs.Direction.{dir}
use Rattle.view_model.specs.Forest.{Forest, Nothing, Branch, count_of, edited_where, joined, or_else}
use Rattle.view_model.specs.Classes.{is_group, takes_one_child}
use Rattle.view_model.specs.Growth.{growth_refusal, growth_refusal_of, refusal_at}
use Rattle.view_model.specs.Refusals.{PlainRefusal, refusal_numbered}
use Rattle.view_model.specs.PlainTree.{PlainView, depth_of, has_child}
use Rattle.view_tree.specs.tree.Directions.{is_rtl_at}
use Rattle.view_tree.specs.Rows.{Row, later_siblings, ancestors, around, children_of_first, pruned_at_key, part_from, grown_at_key, has_kids, head_view, leaf, changed_at_key, count_of_key, count_of_number, with_child}
use Rattle.view_tree.specs.Views.{GroupsOnly, IsLive, IsTree, Unscrolled, Views, held_of, number_of, plain_of}
use Rattle.view_tree.proofs.forest.ChildLaws.{has_child_live}
use Rattle.view_tree.proofs.forest.DepthLaws.{ancestors-pruned_at_key, ancestors-grown, ancestors-leaf, depth_live}
use Rattle.view_tree.proofs.forest.DirectedLaws.{KeepsRun, directed-grown, directed-pruned_at_key, directed-put}
use Rattle.view_tree.proofs.forest.ForestLaws.{every-edited, every-joined, every_branch-edited, every_branch-joined}
use Rattle.view_tree.proofs.forest.KeyLaws.{absent, or_else_live, zero_or_more}
use Rattle.view_tree.proofs.forest.NumberLaws.{count-cut_le, count-put, grown_absent, number-cut_le, number-leaf_other, number-leaf_own, number-put, number-grown, count-grown, count-leaf, count_of_key-grown, count_of_key-cut_le, count_of_key-leaf_other, count_of_key-leaf_own, count_of_key-put}
use Rattle.view_tree.proofs.forest.PlainLaws.{number_there, plain-count}

-- there is one root
pub later_siblings-edited : (passes : Row → Bool) (edit : Row → Forest Row → Forest Row → Forest Row) → ((row : Row) (kids : Forest Row) → later_siblings (edit row kids Nothing) ≡ Nothing)
    → (tree : Forest Row) → later_siblings tree ≡ Nothing → later_siblings (edited_where passes edit tree) ≡ Nothing
later_siblings-edited passes edit single Nothing root = refl
later_siblings-edited passes edit single (Branch row kids siblings) root =
    elim (cases_Bool (passes row)) [
      | inl e ↦ rw (e, root) (single row kids)
      | inr e ↦ rw e (ap (edited_where passes edit) root)
    ]

pub later_siblings-pruned_at_key : (key : ℕ) (tree : Forest Row) → later_siblings tree ≡ Nothing → later_siblings (pruned_at_key key tree) ≡ Nothing
later_siblings-pruned_at_key key tree root = later_siblings-edited (λ row. row.key == key) _ (λ row kids. refl) tree root

pub later_siblings-grown : (parent : ℕ) (new tree : Forest Row) → later_siblings tree ≡ Nothing → later_siblings (grown_at_key parent new tree) ≡ Nothing
later_siblings-grown parent new tree root = later_siblings-edited (λ row. row.key == parent) _ (λ row kids. refl) tree root

pub later_siblings-put : (key : ℕ) (change : PlainView → PlainView) (tree : Forest Row) → later_siblings tree ≡ Nothing → later_siblings (changed_at_key key change tree) ≡ Nothing
later_siblings-put key change tree root = later_siblings-edited (λ row. row.key == key) _ (λ row kids. refl) tree root

-- rows are unscrolled
pub unscrolled-pruned_at_key : (key : ℕ) (tree : Forest Row) → Unscrolled tree → Unscrolled (pruned_at_key key tree)
unscrolled-pruned_at_key key tree flat =
    every-edited (λ row. row.view.facts.offset ≡ pos 0) (λ row. row.key == key) _ (λ row kids siblings own below after. after) tree flat

pub unscrolled-grown : (parent : ℕ) (new tree : Forest Row) → Unscrolled tree → Unscrolled new → Unscrolled (grown_at_key parent new tree)
unscrolled-grown parent new tree flat added =
    every-edited (λ row. row.view.facts.offset ≡ pos 0) (λ row. row.key == parent) _
    (λ row kids siblings own below after. (own, every-joined (λ row. row.view.facts.offset ≡ pos 0) kids new below added, after)) tree flat

pub unscrolled-put : (key : ℕ) (change : PlainView → PlainView) (tree : Forest Row) → ((view : PlainView) → view.facts.offset ≡ pos 0 → (change view).facts.offset ≡ pos 0)
    → Unscrolled tree → Unscrolled (changed_at_key key change tree)
unscrolled-put key change tree keeps flat =
    every-edited (λ row. row.view.facts.offset ≡ pos 0) (λ row. row.key == key) _
    (λ row kids siblings own below after. (keeps row.view own, below, after)) tree flat

-- only groups have children
pub groups-pruned_at_key : (key : ℕ) (tree : Forest Row) → GroupsOnly tree → GroupsOnly (pruned_at_key key tree)
groups-pruned_at_key key tree groups =
    every_branch-edited (λ row kids. is_group row.view.class ≡ false → kids ≡ Nothing) (λ row. row.key == key) _
    (λ row kids siblings own below after. after) (λ row kids own leaf. ap (pruned_at_key key) (own leaf)) tree groups

pub groups-put : (key : ℕ) (change : PlainView → PlainView) (tree : Forest Row) → ((view : PlainView) → (change view).class ≡ view.class)
    → GroupsOnly tree → GroupsOnly (changed_at_key key change tree)
groups-put key change tree same groups =
    every_branch-edited (λ row kids. is_group row.view.class ≡ false → kids ≡ Nothing) (λ row. row.key == key) _
    (λ row kids siblings own below after. (rw (same row.view) own, below, after)) (λ row kids own leaf. ap (changed_at_key key change) (own leaf)) tree groups

pub groups-joined : (list more : Forest Row) → GroupsOnly list → GroupsOnly more → GroupsOnly (joined list more)
groups-joined list more groups added = every_branch-joined (λ row kids. is_group row.view.class ≡ false → kids ≡ Nothing) list more groups added

pub groups-grown : (parent : ℕ) (new tree : Forest Row) → count_of_key parent tree ≤ 1 → is_group (head_view (part_from parent tree)).class ≡ true
    → GroupsOnly tree → GroupsOnly new → GroupsOnly (grown_at_key parent new tree)
groups-grown parent new Nothing once group groups added = tt
groups-grown parent new (Branch row kids siblings) once group groups added =
    elim (cases_Bool (row.key == parent)) [
      | inl e ↦ let group : is_group row.view.class ≡ true = rw e at group in
          rw e (λ leaf. absurd (true≢false (sym group ∙ leaf)), groups-joined kids new groups.1 added, groups.2)
      | inr e ↦
          let once = rw e at once in
          let group : is_group (head_view (or_else (part_from parent kids) (part_from parent siblings))).class ≡ true = rw e at group in
          elim (zero_or_more (count_of_key parent kids)) [
            | inl z ↦ rw (e, grown_absent parent new kids z)
                (groups.0, groups.1, groups-grown parent new siblings (omega arith) (rw (absent parent kids z) at group) groups.2 added)
            | inr l ↦ rw (e, grown_absent parent new siblings (omega arith)) (
              λ leaf. ap (grown_at_key parent new) (groups.0 leaf),
              groups-grown parent new kids (omega arith) (rw (or_else_live parent kids (part_from parent siblings) l) at group) groups.1 added,
              groups.2,
            )
          ]
    ]

pub groups-or_else : (first second : Forest Row) → GroupsOnly first → GroupsOnly second → GroupsOnly (or_else first second)
groups-or_else Nothing second one two = two
groups-or_else (Branch row kids siblings) second one two = one

pub groups-part_from : (key : ℕ) (tree : Forest Row) → GroupsOnly tree → GroupsOnly (part_from key tree)
groups-part_from key Nothing groups = tt
groups-part_from key (Branch row kids siblings) groups =
    elim (cases_Bool (row.key == key)) [
      | inl e ↦ rw e groups
      | inr e ↦ rw e (groups-or_else (part_from key kids) (part_from key siblings) (groups-part_from key kids groups.1) (groups-part_from key siblings groups.2))
    ]

-- the first view of a list has no children if it is no group
pub no_children : (list : Forest Row) → GroupsOnly list → is_group (head_view list).class ≡ false → children_of_first list ≡ Nothing
no_children Nothing groups leaf = refl
no_children (Branch row kids siblings) groups leaf = groups.0 leaf

pub no_children_of : (views : Views) (key : ℕ) → IsTree views → is_group (head_view (part_from key views.tree)).class ≡ false → children_of_first (part_from key views.tree) ≡ Nothing
no_children_of views key is leaf = no_children (part_from key views.tree) (groups-part_from key views.tree is.groups) leaf

-- a changed view has its ancestors
pub around-put : (outer : List ℕ) (other key : ℕ) (change : PlainView → PlainView) (tree : Forest Row) → around outer other (changed_at_key key change tree) ≡ around outer other tree
around-put outer other key change Nothing = refl
around-put outer other key change (Branch row kids siblings) =
    elim (cases_Bool (row.key == key)) [
      | inl e ↦ rw e
      | inr e ↦ rw (e, count_of_key-put other key change kids, around-put (row.key ∷ outer) other key change kids, around-put outer other key change siblings)
    ]

pub ancestors-put : (other key : ℕ) (change : PlainView → PlainView) (tree : Forest Row) → ancestors other (changed_at_key key change tree) ≡ ancestors other tree
ancestors-put other key change tree = around-put [] other key change tree

-- a tree with the same views is one too
pub is_tree-same : (old new : Views) → IsTree old → new.tree ≡ old.tree → new.next ≡ old.next → IsTree new
is_tree-same old new is tree next =
    let held : IsTree (record { tree = old.tree; held = new.held; orders = new.orders; next = old.next; counts = new.counts }) = record {
      root = is.root;
      keys = is.keys;
      numbers = is.numbers;
      earlier = is.earlier;
      few = is.few;
      shallow = is.shallow;
      unscrolled = is.unscrolled;
      groups = is.groups;
      directed = is.directed;
    } in
    subst (λ (t : Forest Row). IsTree (record { tree = t; held = new.held; orders = new.orders; next = new.next; counts = new.counts })) (sym tree)
    (subst (λ (n : ℕ). IsTree (record { tree = old.tree; held = new.held; orders = new.orders; next = n; counts = new.counts })) (sym next) held)

-- a cut
pub is_tree-pruned_at_key : (old new : Views) (key : ℕ) → IsTree old → new.tree ≡ pruned_at_key key old.tree → new.next ≡ old.next → IsTree new
is_tree-pruned_at_key old new key is tree next = is_tree-same (record old { tree = pruned_at_key key old.tree }) new (record {
  root = later_siblings-pruned_at_key key old.tree is.root;
  keys = λ other. let less = count_of_key-cut_le other key old.tree in let one = is.keys other in omega arith;
  numbers = λ number. let less = number-cut_le number key old.tree in let one = is.numbers number in omega arith;
  earlier = λ number later. let less = number-cut_le number key old.tree in let none = is.earlier number later in omega arith;
  few = let less = count-cut_le key old.tree in let few = is.few in omega arith;
  shallow = λ other live.
      let less = count_of_key-cut_le other key old.tree in
      let deep = is.shallow other (omega arith) in
      rw (ancestors-pruned_at_key other key old.tree live (is.keys other)) deep;
  unscrolled = unscrolled-pruned_at_key key old.tree is.unscrolled;
  groups = groups-pruned_at_key key old.tree is.groups;
  directed = directed-pruned_at_key false key old.tree is.directed;
}) tree next

-- a changed view
pub is_tree-put : (old new : Views) (key : ℕ) (change : PlainView → PlainView) → IsTree old → ((view : PlainView) → (change view).number ≡ view.number)
    → ((view : PlainView) → (change view).class ≡ view.class) → ((view : PlainView) → view.facts.offset ≡ pos 0 → (change view).facts.offset ≡ pos 0)
    → KeepsRun change (head_view (part_from key old.tree))
    → new.tree ≡ changed_at_key key change old.tree → new.next ≡ old.next → IsTree new
is_tree-put old new key change is number class offset runs tree next = is_tree-same (record old { tree = changed_at_key key change old.tree }) new (record {
  root = later_siblings-put key change old.tree is.root;
  keys = λ other. rw (count_of_key-put other key change old.tree) (is.keys other);
  numbers = λ n. rw (number-put n key change old.tree number) (is.numbers n);
  earlier = λ n later. rw (number-put n key change old.tree number) (is.earlier n later);
  few = rw (count-put key change old.tree) is.few;
  shallow = λ other live.
      let same = count_of_key-put other key change old.tree in
      rw (ancestors-put other key change old.tree) (is.shallow other (omega arith));
  unscrolled = unscrolled-put key change old.tree offset is.unscrolled;
  groups = groups-put key change old.tree class is.groups;
  directed = directed-put false key change old.tree is.keys runs is.directed;
}) tree next

-- a parent that takes a child
pub record Grows (views : Views) (parent : ℕ) : Type 0 where
  pub group : is_group (head_view (part_from parent views.tree)).class ≡ true
  pub high : suc (length (ancestors parent views.tree)) < max_depth
  pub room : count_of views.tree < max_views

passed : (test : Bool) (refusal : PlainRefusal) (later : Option PlainRefusal) → (if test then Some refusal else later) ≡ None → (test ≡ false) × (later ≡ None)
passed true refusal later none = absurd (cc)
passed false refusal later none = (refl, none)

pub grows : (class : Class) (occupied : Bool) (depth count : ℕ) → growth_refusal class occupied depth count ≡ None → (is_group class ≡ true) × (depth < max_depth) × (count < max_views)
unfolding growth_refusal
grows class occupied depth count none =
    let group = passed (not (is_group class)) (refusal_numbered not_group) _ none in
    let vacant = passed (takes_one_child class && occupied) (refusal_numbered scroll_full) _ group.1 in
    let high = passed (not (nat_lt depth max_depth)) (refusal_numbered too_deep) _ vacant.1 in
    let room = passed (not (nat_lt count max_views)) (refusal_numbered too_many_views) None high.1 in
    (not-false (is_group class) group.0, ltb-true depth max_depth (not-false _ high.0), ltb-true count max_views (not-false _ room.0))

-- why a live parent takes no child
pub refusal_live : (views : Views) (parent : ℕ) → IsTree views → IsLive views parent
    → refusal_at (plain_of views) (Some (number_of views parent))
    ≡ growth_refusal (head_view (part_from parent views.tree)).class (has_kids parent views.tree) (suc (length (ancestors parent views.tree))) (count_of views.tree)
refusal_live views parent is live =
    ap (λ view. growth_refusal_of view (has_child (number_of views parent) (plain_of views)) (depth_of (number_of views parent) (plain_of views)) (count_of (plain_of views))) (number_there views parent is live)
    ∙ ap (λ has. growth_refusal (head_view (part_from parent views.tree)).class has (depth_of (number_of views parent) (plain_of views)) (count_of (plain_of views)))
    (has_child_live views parent is live)
    ∙ ap (λ depth. growth_refusal (head_view (part_from parent views.tree)).class (has_kids parent views.tree) depth (count_of (plain_of views))) (depth_live views parent is live)
    ∙ ap (λ count. growth_refusal (head_view (part_from parent views.tree)).class (has_kids parent views.tree) (suc (length (ancestors parent views.tree))) count) (plain-count (held_of views) views.tree)

pub grows_at : (views : Views) (parent : ℕ) → IsTree views → IsLive views parent → refusal_at (plain_of views) (Some (number_of views parent)) ≡ None → Grows views parent
grows_at views parent is live taken =
    let all = grows (head_view (part_from parent views.tree)).class (has_kids parent views.tree) (suc (length (ancestors parent views.tree))) (count_of views.tree) (sym (refusal_live views parent is live) ∙ taken) in
    record { group = all.0; high = all.1; room = all.2 }

-- a new view under a parent that takes it
pub is_tree-child : (old new : Views) (parent key : ℕ) (view : PlainView) → IsTree old → IsLive old parent → Grows old parent → count_of_key key old.tree ≡ 0
    → view.number ≡ old.next → view.facts.rtl ≡ dir (is_rtl_at (Some parent) old.tree) view.facts.direction
    → new.tree ≡ grown_at_key parent (leaf key view) old.tree → new.next ≡ old.next + 1 → IsTree new
is_tree-child old new parent key view is live grows unused number runs tree next =
    is_tree-same (record old { tree = grown_at_key parent (leaf key view) old.tree; next = old.next + 1 }) new (record {
      root = later_siblings-grown parent (leaf key view) old.tree is.root;
      keys = λ other.
          let all = count_of_key-grown other parent (leaf key view) old.tree live (is.keys parent) in
          let one = is.keys other in
          elim (cases_eq other key) [
            | inl e ↦ rw e (let all = count_of_key-grown key parent (leaf key view) old.tree live (is.keys parent) in let own = count_of_key-leaf_own key view in omega arith)
            | inr ne ↦ let none = count_of_key-leaf_other other key view ne in omega arith
          ];
      numbers = λ n.
          let all = number-grown n parent (leaf key view) old.tree live (is.keys parent) in
          let one = is.numbers n in
          elim (cases_eq n view.number) [
            | inl e ↦
                let none = is.earlier n (omega arith) in
                let own : count_of_number n (leaf key view) ≡ 1 = rw e (number-leaf_own key view) in
                omega arith
            | inr ne ↦ let none = number-leaf_other n key view ne in omega arith
          ];
      earlier = λ n later.
          let all = number-grown n parent (leaf key view) old.tree live (is.keys parent) in
          let none = is.earlier n (omega arith) in
          let apart = number-leaf_other n key view (λ e. absurd (omega arith)) in
          omega arith;
      few = let all = count-grown parent (leaf key view) old.tree live (is.keys parent) in let one = count-leaf key view in let room = grows.room in omega arith;
      shallow = λ other there.
          elim (cases_eq other key) [
            | inl e ↦ rw (e, ancestors-leaf key parent view old.tree live unused) grows.high
            | inr ne ↦
                let all = count_of_key-grown other parent (leaf key view) old.tree live (is.keys parent) in
                let none = count_of_key-leaf_other other key view ne in
                rw (ancestors-grown other parent (leaf key view) old.tree none) (is.shallow other (omega arith))
          ];
      unscrolled = unscrolled-grown parent (leaf key view) old.tree is.unscrolled (refl, tt, tt);
      groups = groups-grown parent (leaf key view) old.tree (is.keys parent) grows.group is.groups (λ leaf. refl, tt, tt);
      directed = directed-grown false parent key view old.tree is.keys runs is.directed;
    }) tree next

-- a root if there was nothing
pub is_tree-root : (old new : Views) (key : ℕ) (view : PlainView) → view.number ≡ old.next → view.facts.rtl ≡ dir false view.facts.direction → new.tree ≡ leaf key view
    → new.next ≡ old.next + 1 → IsTree new
is_tree-root old new key view number runs tree next =
    is_tree-same (record old { tree = leaf key view; next = old.next + 1 }) new (record {
      root = refl;
      keys = λ other. elim (cases_eq other key) [
        | inl e ↦ rw e (let own = count_of_key-leaf_own key view in omega arith)
        | inr ne ↦ let none = count_of_key-leaf_other other key view ne in omega arith
      ];
      numbers = λ n. elim (cases_eq n view.number) [
        | inl e ↦ rw e (let own = number-leaf_own key view in omega arith)
        | inr ne ↦ let none = number-leaf_other n key view ne in omega arith
      ];
      earlier = λ n later. number-leaf_other n key view (λ e. absurd (omega arith));
      few = omega arith;
      shallow = λ other there. elim (cases_eq key other) [
        | inl e ↦ rw (eq-eqb key other e) (omega arith)
        | inr ne ↦ rw (ne_eqb key other ne) (omega arith)
      ];
      unscrolled = (refl, tt, tt);
      groups = (λ leaf. refl, tt, tt);
      directed = (runs, tt, tt);
    }) tree next

-- a view that is attached
pub is_tree-with_child : (old new : Views) (parent : Option ℕ) (key : ℕ) (view : PlainView) → IsTree old → IfSome parent (λ parent. IsLive old parent)
    → refusal_at (plain_of old) (option_map (number_of old) parent) ≡ None → count_of_key key old.tree ≡ 0 → view.number ≡ old.next
    → view.facts.rtl ≡ dir (is_rtl_at parent old.tree) view.facts.direction
    → new.tree ≡ with_child parent (leaf key view) old.tree → new.next ≡ old.next + 1 → IsTree new
is_tree-with_child old new None key view is live taken unused number runs tree next = is_tree-root old new key view number runs tree next
is_tree-with_child old new (Some parent) key view is live taken unused number runs tree next =
    is_tree-child old new parent key view is live (grows_at old parent is live taken) unused number runs tree next
