-- What dispatch sees of a tree, by the plain tree, and what scrolling leaves of a tree.
use Rattle.std.proofs.Common.{◌≡◌, ℕ, ℤ, pos, Option, Some, None, ◌⊎◌, inl, inr, refl, sym, ◌∙◌, ap, subst, arith}
use Rattle.std.proofs.lemmas.Bool.{cases_Bool}
use Rattle.std.proofs.lemmas.List.Folds.{find-append}
use Rattle.std.specs.Prelude.{◌==◌, find, IfSome}
use Rattle.std.specs.Option.{option_map, option_or}
use mathlib.Core.Path.{fun_ext}
use Rattle.geom_core.specs.declared.geometry.Rect.{Rect}
use Rattle.touch_dispatch.proofs.steps.SceneLaws.{held_live}
use Rattle.touch_dispatch.specs.Dispatch.{Scene}
use Rattle.touch_dispatch.specs.reaching.TreeEvents.{OnlyScrolls, held_at, held_under, offsets_in as offsets_kept, scene_of}
use Rattle.view_model.specs.Forest.{Forest, Nothing, Branch, count_of, map_rows, rows}
use Rattle.view_model.specs.Geometry.{Laid, rect_in}
use Rattle.view_model.specs.Layout.{unscrolled}
use Rattle.view_model.specs.PlainTree.{PlainView}
use Rattle.view_tree.specs.Rows.{Row, count_of_number, head_view, key_where, views_of}
use Rattle.view_tree.specs.Views.{Held, IsLive, IsTree, Unscrolled, Views, geometry_of, held_of, laid_rows, number_of, plain_of, plain_rows, scrolled}
use Rattle.view_tree.proofs.forest.KeyLaws.{Within, count_of_key-within, from_within, here, in_after, in_below, times_self}
use Rattle.view_tree.proofs.forest.PlainLaws.{find_absent, find_number, key_where_absent, key_where_lives, number_there, view_in_rows}
use Rattle.view_tree.proofs.values.GeometryLaws.{find-laid_absent, laid_along, rect_live}
use Rattle.view_tree.proofs.values.KeptLaws.{is_tree-same}
use Rattle.world_parts.specs.Touching.{offset_or, offsets_in, scrolled_to, unscrolled_tree}

-- a number that a search does not find does not occur
or_none : {X : Type 0} (first second : Option X) → option_or first second ≡ None → (first ≡ None) × (second ≡ None)
or_none None second none = (refl, none)
or_none (Some x) second none = absurd cc

map_none : {X Y : Type 0} (f : X → Y) (o : Option X) → option_map f o ≡ None → o ≡ None
map_none f None none = refl
map_none f (Some x) none = absurd cc

not_found : (number : ℕ) (tree : Forest Row) → find (λ (row : Row). row.view.number == number) (rows tree) ≡ None → count_of_number number tree ≡ 0
not_found number Nothing none = refl
not_found number (Branch row kids siblings) none =
    let test = λ (row : Row). row.view.number == number in
    elim (cases_Bool (row.view.number == number)) [
      | inl e ↦ absurd (let none = rw e at none in cc)
      | inr e ↦
          let later = or_none (find test (rows kids)) (find test (rows siblings)) (sym (find-append test (rows kids) (rows siblings)) ∙ (rw e at none)) in
          rw e (omega (arith, not_found number kids later.0, not_found number siblings later.1))
    ]

-- the view of a number
record NumberedView (views : Views) (number : ℕ) : Type 0 where
  pub key : ℕ
  pub live : IsLive views key
  pub number_is : number_of views key ≡ number

-- a number is that of a view, or does not occur
numbered_or_absent : (views : Views) (number : ℕ) → IsTree views → (count_of_number number views.tree ≡ 0) ⊎ NumberedView views number
numbered_or_absent views number is =
    let test = λ (view : PlainView). view.number == number in
    elim (key_where test views.tree) as (λ o. key_where test views.tree ≡ o → IfSome o (λ key. number_of views key ≡ number) → IfSome o (λ key. IsLive views key)
    → (count_of_number number views.tree ≡ 0) ⊎ NumberedView views number) [
      | None ↦ λ none named live. inl (not_found number views.tree (map_none (λ (row : Row). row.key) _ none))
      | Some key ↦ λ some named live. inr (record { key = key; live = live; number_is = named })
    ] refl (find_number views number is.keys) (key_where_lives views test)

-- the bounds of views
rects_same : (views : Views) → IsTree views → (number : ℕ) → (held_at views number).state.bounds ≡ rect_in (geometry_of views) number
rects_same views is number =
    elim (numbered_or_absent views number is) [
      | inl absent ↦
          ap (λ (key : Option ℕ). (held_under views key).state.bounds) (key_where_absent number views.tree absent)
          ∙ sym (ap (option_map (λ (laid : Laid). laid.rect)) (find-laid_absent (held_of views) number views.tree absent))
      | inr there ↦
          subst (λ number. (held_at views number).state.bounds ≡ rect_in (geometry_of views) number) there.number_is
          (ap (λ (held : Held). held.state.bounds) (held_live views there.key is there.live) ∙ sym (rect_live views there.key is there.live))
    ]

pub scene_plain : (views : Views) (slop : ℤ) → IsTree views → (let scene : Scene = record { rects = rect_in (geometry_of views); slop = slop } in scene_of views slop ≡ scene)
unfolding scene_of
scene_plain views slop is = ap (λ (rects : ℕ → Option Rect). let scene : Scene = record { rects = rects; slop = slop } in scene) (fun_ext (rects_same views is))

-- how far they are scrolled
offset_same : (views : Views) → IsTree views → (number : ℕ) → (held_at views number).offset ≡ offsets_in (plain_of views) number
offset_same views is number =
    elim (numbered_or_absent views number is) [
      | inl absent ↦
          ap (λ (key : Option ℕ). (held_under views key).offset) (key_where_absent number views.tree absent)
          ∙ sym (ap offset_or (view_in_rows (held_of views) number views.tree ∙ ap (option_map (scrolled (held_of views))) (find_absent number views.tree absent)))
      | inr there ↦
          subst (λ number. (held_at views number).offset ≡ offsets_in (plain_of views) number) there.number_is
          (ap (λ (held : Held). held.offset) (held_live views there.key is there.live) ∙ sym (ap offset_or (number_there views there.key is there.live)))
    ]

pub offsets_plain : (views : Views) → IsTree views → offsets_kept views ≡ offsets_in (plain_of views)
unfolding offsets_kept
offsets_plain views is = fun_ext (offset_same views is)

-- the tree as if nothing was scrolled
unscrolled_same : (view : PlainView) → view.facts.offset ≡ pos 0 → unscrolled view ≡ view
unscrolled_same view none = sym (ap (λ (offset : ℤ). let v : PlainView = record view { facts = record view.facts { offset = offset } } in v) none)

unscrolled_rows : (held : ℕ → Held) (tree : Forest Row) → Unscrolled tree → unscrolled_tree (plain_rows held tree) ≡ views_of tree
unscrolled_rows held Nothing none = refl
unscrolled_rows held (Branch row kids siblings) none =
    rw (unscrolled_same row.view none.0, unscrolled_rows held kids none.1, unscrolled_rows held siblings none.2)

pub views_plain : (views : Views) → IsTree views → views_of views.tree ≡ unscrolled_tree (plain_of views)
views_plain views is = sym (unscrolled_rows (held_of views) views.tree is.unscrolled)

-- scrolling moves no view
scrolls_bounds : (old new : Views) → OnlyScrolls old new → (key : ℕ) → (held_of new key).state.bounds ≡ (held_of old key).state.bounds
scrolls_bounds old new scrolls key = ap (λ (held : Held). held.state.bounds) (scrolls.held key)

pub scrolls_geometry : (old new : Views) → OnlyScrolls old new → geometry_of new ≡ geometry_of old
scrolls_geometry old new scrolls =
    ap (laid_rows (held_of new)) scrolls.same.tree
    ∙ laid_along (held_of old) (held_of new) old.tree (λ key live. scrolls_bounds old new scrolls key)

pub scrolls_count : (old new : Views) → OnlyScrolls old new → count_of new.tree ≡ count_of old.tree
scrolls_count old new scrolls = ap count_of scrolls.same.tree

scrolls_tree : (old new : Views) → OnlyScrolls old new → IsTree old → IsTree new
scrolls_tree old new scrolls is = is_tree-same old new is scrolls.same.tree scrolls.same.next

-- the plain tree has the new offsets
scrolled_rows : (offsets : ℕ → ℤ) (old new : ℕ → Held) (list : Forest Row)
    → ((row : Row) (kids siblings : Forest Row) → Within (Branch row kids siblings) list → offsets row.view.number ≡ (new row.key).offset)
    → map_rows (scrolled_to offsets) (plain_rows old list) ≡ plain_rows new list
scrolled_rows offsets old new Nothing same = refl
scrolled_rows offsets old new (Branch row kids siblings) same =
    rw (
      same row kids siblings here,
      scrolled_rows offsets old new kids (λ r k s within. same r k s (in_below within)),
      scrolled_rows offsets old new siblings (λ r k s within. same r k s (in_after within)),
    ) refl

-- the offset of a row is that of its number
offset_within : (views : Views) → IsTree views → (row : Row) (kids siblings : Forest Row) → Within (Branch row kids siblings) views.tree
    → (held_at views row.view.number).offset ≡ (held_of views row.key).offset
offset_within views is row kids siblings within =
    let number : number_of views row.key ≡ row.view.number = ap (λ (part : Forest Row). (head_view part).number) (from_within row kids siblings within (is.keys row.key)) in
    let count = count_of_key-within row.key within in
    let live : IsLive views row.key = omega (arith, times_self row kids siblings) in
    ap (λ number. (held_at views number).offset) (sym number) ∙ ap (λ (held : Held). held.offset) (held_live views row.key is live)

pub scrolls_plain : (old new : Views) → IsTree old → OnlyScrolls old new → plain_of new ≡ map_rows (scrolled_to (offsets_kept new)) (plain_of old)
unfolding offsets_kept
scrolls_plain old new is scrolls =
    let offsets : ℕ → ℤ = λ number. (held_at new number).offset in
    sym (scrolled_rows offsets (held_of old) (held_of new) new.tree (offset_within new (scrolls_tree old new scrolls is)))
    ∙ ap (λ (tree : Forest Row). map_rows (scrolled_to offsets) (plain_rows (held_of old) tree)) scrolls.same.tree
