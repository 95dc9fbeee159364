-- What a tree shows of an event's place in it.
use Rattle.std.proofs.Common.{◌≡◌, ℕ, ℤ, ◌<◌, Bool, true, false, Option, Some, None, refl, sym, ◌∙◌, ap, subst, arith, eqb-true, inl, inr}
use mathlib.Core.Path.{fun_ext}
use Rattle.std.proofs.lemmas.Bool.{cases_Bool, eq-eqb}
use Rattle.std.specs.Prelude.{◌==◌, ◌||◌}
use Rattle.geom_core.specs.declared.geometry.Rect.{Rect}
use Rattle.view_model.specs.Forest.{Forest, Nothing, Branch, count_of, or_else}
use Rattle.view_model.specs.Classes.{is_group}
use Rattle.view_model.specs.PlainTree.{PlainView, part_of}
use Rattle.view_tree.specs.Rows.{At_first, Later, Later_on, Row, first_tree, part_from, head_view, key_where, views_of, children_of_first}
use Rattle.view_tree.specs.Views.{Held, IsLive, IsTree, Views, class_of, held_of, number_of, offset_of, state_of}
use Rattle.view_tree.proofs.forest.KeyLaws.{Agree, located, times_self, count_of_key-within}
use Rattle.view_tree.proofs.forest.PlainLaws.{agree_live, first_tree-or_else, key_where_number}
use Rattle.touch_event.specs.declared.event.Event.{Event}
use Rattle.view_tree.proofs.forest.Backwards.{count-later, from_later, kids-within, later-within, within_within}
use Rattle.touch_dispatch.specs.Dispatch.{EventChild, Scene, child_of, event_children, group_reached, reach, reached_by}
use Rattle.touch_dispatch.specs.handling.Handling.{Progress}
use Rattle.touch_dispatch.specs.reaching.TreeEvents.{IsKidAt, OnlyScrolls, below_first, child_at, handled_at, held_at, held_under, is_root, kids_of, offsets_in, own_of, scene_of}

-- scrolling moves no view
same_rect : (old new : Views) → OnlyScrolls old new → (o : Option ℕ) → (held_under new o).state.bounds ≡ (held_under old o).state.bounds
same_rect old new s None = refl
same_rect old new s (Some key) = ap (λ (h : Held). h.state.bounds) (s.held key)

pub same_scene : (old new : Views) (slop : ℤ) → OnlyScrolls old new → scene_of new slop ≡ scene_of old slop
unfolding scene_of
same_scene old new slop s =
    ap (λ (r : ℕ → Option Rect). let p : Scene = record { rects = r; slop = slop } in p)
    (fun_ext (λ number.
    ap (λ (t : Forest Row). (held_under new (key_where (λ (view : PlainView). view.number == number) t)).state.bounds) s.same.tree
    ∙ same_rect old new s (key_where (λ (view : PlainView). view.number == number) old.tree)))

pub same_kids : (old new : Views) (slop : ℤ) (view : ℕ) → OnlyScrolls old new → kids_of new slop view ≡ kids_of old slop view
same_kids old new slop view s =
    ap (λ (p : Scene). event_children p (views_of (children_of_first (part_from view new.tree)))) (same_scene old new slop s)
    ∙ ap (λ (t : Forest Row). event_children (scene_of old slop) (views_of (children_of_first (part_from view t)))) s.same.tree

pub same_own : (old new : Views) (view : ℕ) → OnlyScrolls old new → own_of new view ≡ own_of old view
same_own old new view s = ap (λ (t : Forest Row). head_view (part_from view t)) s.same.tree

pub same_child : (old new : Views) (slop : ℤ) (view : ℕ) → OnlyScrolls old new → child_at new slop view ≡ child_at old slop view
same_child old new slop view s =
    ap (λ (p : Scene). let c : EventChild = record { view = own_of new view; reach = reached_by p (own_of new view) (kids_of new slop view) } in c) (same_scene old new slop s)
    ∙ ap (λ (v : PlainView). let c : EventChild = record { view = v; reach = reached_by (scene_of old slop) v (kids_of new slop view) } in c) (same_own old new view s)
    ∙ ap (λ kids. let c : EventChild = record { view = own_of old view; reach = reached_by (scene_of old slop) (own_of old view) kids } in c) (same_kids old new slop view s)

pub only_scrolls_on : (first second third : Views) → OnlyScrolls first second → OnlyScrolls second third → OnlyScrolls first third
only_scrolls_on first second third a b = record {
  same = record { tree = b.same.tree ∙ a.same.tree; orders = b.same.orders ∙ a.same.orders; next = b.same.next ∙ a.same.next };
  counts = b.counts ∙ a.counts;
  held = λ key. b.held key ∙ ap (λ (h : Held). record h { offset = (held_of third key).offset }) (a.held key);
  fits = λ key side. b.fits key (a.fits key side);
  consistent = λ kept. b.consistent (a.consistent kept);
}

-- what is kept of a view, by its number
pub held_live : (views : Views) (key : ℕ) → IsTree views → IsLive views key → held_at views (number_of views key) ≡ held_of views key
held_live views key is live = ap (held_under views) (key_where_number key (number_of views key) views.tree live (agree_live views key is live))

pub rect_live : (views : Views) (slop : ℤ) (key : ℕ) → IsTree views → IsLive views key → (scene_of views slop).rects (number_of views key) ≡ (state_of views key).bounds
unfolding scene_of
rect_live views slop key is live = ap (λ (h : Held). h.state.bounds) (held_live views key is live)

pub slop_is : (views : Views) (slop : ℤ) → (scene_of views slop).slop ≡ slop
unfolding scene_of
slop_is views slop = refl

pub offset_live : (views : Views) (key : ℕ) → IsTree views → IsLive views key → offsets_in views (number_of views key) ≡ offset_of views key
unfolding offsets_in
offset_live views key is live = ap (λ (h : Held). h.offset) (held_live views key is live)

-- a view as the first of a list
pub reach_at : (views : Views) (slop : ℤ) (key : ℕ) (event : Event) (progress : Progress) → IsLive views key
    → reach (scene_of views slop) (views_of (first_tree (part_from key views.tree))) event progress ≡ (child_at views slop key).reach event progress
reach_at views slop key event progress live = let f = located key views.tree live in rw f.is refl

pub reach_group : (views : Views) (slop : ℤ) (key : ℕ) (event : Event) (progress : Progress) → IsLive views key → is_group (class_of views key) ≡ true
    → reach (scene_of views slop) (views_of (first_tree (part_from key views.tree))) event progress ≡ group_reached (scene_of views slop) (own_of views key) (kids_of views slop key) event progress
reach_group views slop key event progress live group = reach_at views slop key event progress live ∙ rw group refl

pub reach_own : (views : Views) (slop : ℤ) (key : ℕ) (event : Event) (progress : Progress) → IsLive views key → is_group (class_of views key) ≡ false
    → reach (scene_of views slop) (views_of (first_tree (part_from key views.tree))) event progress ≡ handled_at views slop key event progress
reach_own views slop key event progress live own = reach_at views slop key event progress live ∙ rw own refl

-- a child has fewer views below it
pub fewer_kid : (views : Views) (view kid : ℕ) → IsLive views view → IsKidAt views view kid
    → count_of (first_tree (part_from kid views.tree)) < count_of (first_tree (part_from view views.tree))
fewer_kid views view kid live is =
    let f = located view views.tree live in
    let k = located kid views.tree is.live in
    let less = count-later is.within in
    let less = rw (f.is, k.is) at less in
    rw (f.is, k.is) (omega arith)

-- a rest of a list of children, as a list of children
pub later_root : (row : Row) (kids siblings : Forest Row) {list : Forest Row} → Later (Branch row kids siblings) list → is_root row.view.number (views_of list) ≡ true
later_root row kids siblings At_first = rw (eq-eqb row.view.number row.view.number refl) refl
later_root row kids siblings (Later_on {row = r} l) =
    rw (later_root row kids siblings l) (or_true (r.view.number == row.view.number))
  where
    or_true : (b : Bool) → (b || true) ≡ true
    or_true true = refl
    or_true false = refl

pub kid_root : (views : Views) (view kid : ℕ) → IsKidAt views view kid → is_root (number_of views kid) (views_of (children_of_first (part_from view views.tree))) ≡ true
kid_root views view kid is =
    let k = located kid views.tree is.live in
    let l : Later (Branch k.row k.kids k.siblings) (children_of_first (part_from view views.tree)) = rw k.is at is.within in
    let number : number_of views kid ≡ k.row.view.number = ap (λ t. (head_view t).number) k.is in
    ap (λ n. is_root n (views_of (children_of_first (part_from view views.tree)))) number ∙ later_root k.row k.kids k.siblings l

-- the part of a number is the part of its key
or_else_views : (first second : Forest Row) → views_of (or_else first second) ≡ or_else (views_of first) (views_of second)
or_else_views Nothing second = refl
or_else_views (Branch row kids siblings) second = refl

pub views_part : (key number : ℕ) (tree : Forest Row) → Agree key number tree → part_of number (views_of tree) ≡ views_of (first_tree (part_from key tree))
views_part key number Nothing agree = refl
views_part key number (Branch row kids siblings) agree =
    elim (cases_Bool (row.key == key)) [
      | inl e ↦ rw (agree.0, e) refl
      | inr e ↦ rw (
        agree.0,
        e,
        views_part key number kids agree.1,
        views_part key number siblings agree.2,
        first_tree-or_else (part_from key kids) (part_from key siblings),
        or_else_views (first_tree (part_from key kids)) (first_tree (part_from key siblings)),
      ) refl
    ]

pub kids_part : (views : Views) (view : ℕ) → IsTree views → IsLive views view → below_first (part_of (number_of views view) (views_of views.tree)) ≡ views_of (children_of_first (part_from view views.tree))
kids_part views view is live =
    ap below_first (views_part view (number_of views view) views.tree (agree_live views view is live))
    ∙ (let f = located view views.tree live in rw f.is refl)

-- a child that is there by its number
pub record RootFound (scene : Scene) (child : ℕ) (list : Forest Row) : Type 0 where
  pub row : Row
  pub kids : Forest Row
  pub siblings : Forest Row
  pub there : Later (Branch row kids siblings) list
  pub number_is : row.view.number ≡ child
  pub is : child_of child (event_children scene (views_of list)) ≡ Some (record { view = row.view; reach = reached_by scene row.view (event_children scene (views_of kids)) })

pub root_found : (scene : Scene) (child : ℕ) (list : Forest Row) → is_root child (views_of list) ≡ true → RootFound scene child list
root_found scene child Nothing there = absurd (cc)
root_found scene child (Branch row kids siblings) there =
    elim (cases_Bool (row.view.number == child)) [
      | inl e ↦ record { row = row; kids = kids; siblings = siblings; there = At_first; number_is = eqb-true _ _ e; is = rw e refl }
      | inr e ↦ on scene child row kids siblings e (root_found scene child siblings (let there = rw e at there in there))
    ]
  where
    on : (scene : Scene) (child : ℕ) (row : Row) (kids siblings : Forest Row) → (row.view.number == child) ≡ false → RootFound scene child siblings
        → RootFound scene child (Branch row kids siblings)
    on scene child row kids siblings e f = record { row = f.row; kids = f.kids; siblings = f.siblings; there = Later_on f.there; number_is = f.number_is; is = rw e f.is }

pub record KidFound (views : Views) (slop : ℤ) (view child : ℕ) : Type 0 where
  pub key : ℕ
  pub kid : IsKidAt views view key
  pub key_is : key_where (λ (v : PlainView). v.number == child) views.tree ≡ Some key
  pub is : child_of child (kids_of views slop view) ≡ Some (child_at views slop key)

kid_from : (views : Views) (slop : ℤ) (view child : ℕ) → IsTree views → IsLive views view
    → RootFound (scene_of views slop) child (children_of_first (part_from view views.tree)) → KidFound views slop view child
kid_from views slop view child is live f =
    let w = kids-within view views.tree live in
    let from_is : part_from f.row.key views.tree ≡ Branch f.row f.kids f.siblings = from_later views.tree (children_of_first (part_from view views.tree)) f.row f.kids f.siblings is.keys w f.there in
    let n = count_of_key-within f.row.key (within_within (later-within f.there) w) in
    let key_live : IsLive views f.row.key = omega (arith, times_self f.row f.kids f.siblings) in
    let number : number_of views f.row.key ≡ child = ap (λ t. (head_view t).number) from_is ∙ f.number_is in
    record {
      key = f.row.key;
      kid = record { live = key_live; within = subst (λ t. Later t (children_of_first (part_from view views.tree))) (sym from_is) f.there };
      key_is = ap (λ n. key_where (λ (v : PlainView). v.number == n) views.tree) (sym number) ∙ key_where_number f.row.key (number_of views f.row.key) views.tree key_live (agree_live views f.row.key is key_live);
      is =
          f.is
          ∙ ap (λ t. let c : EventChild = record { view = head_view t; reach = reached_by (scene_of views slop) (head_view t) (event_children (scene_of views slop) (views_of (children_of_first t))) } in Some c) (sym from_is);
    }

pub kid_found : (views : Views) (slop : ℤ) (view child : ℕ) → IsTree views → IsLive views view
    → is_root child (below_first (part_of (number_of views view) (views_of views.tree))) ≡ true → KidFound views slop view child
kid_found views slop view child is live there =
    kid_from views slop view child is live
    (root_found (scene_of views slop) child (children_of_first (part_from view views.tree)) (sym (ap (is_root child) (kids_part views view is live)) ∙ there))

-- a child that is found by its number
pub kid_named : (views : Views) (slop : ℤ) (view child kid : ℕ) → IsTree views → IsLive views view
    → is_root child (below_first (part_of (number_of views view) (views_of views.tree))) ≡ true → key_where (λ (v : PlainView). v.number == child) views.tree ≡ Some kid
    → IsKidAt views view kid × (child_of child (kids_of views slop view) ≡ Some (child_at views slop kid))
kid_named views slop view child kid is live there found =
    let k = kid_found views slop view child is live there in
    let found_is = k.key_is in
    let key : k.key ≡ kid = cc in
    (subst (IsKidAt views view) key k.kid, k.is ∙ ap (λ key. Some (child_at views slop key)) key)
