-- What the code reads of a view that handles an event, and what becomes of the offsets.
use Rattle.std.proofs.Common.{◌≡◌, ◌≢◌, ℕ, ℤ, Bool, true, false, Option, Some, None, refl, sym, ◌∙◌, ap, subst, eqb-true, inl, inr}
use mathlib.Core.Path.{fun_ext}
use Rattle.std.proofs.lemmas.Bool.{cases_eq, eq-eqb, ne_eqb}
use Rattle.std.specs.Prelude.{◌==◌, is_some, not}
use Rattle.view_model.specs.declared.answer.Answer.{Answer}
use Rattle.geom_core.specs.Limits.{IsSide}
use Rattle.geom_core.specs.declared.geometry.Rect.{Rect}
use Rattle.kept_views.specs.Kept.{IsConsistent, first_place}
use Rattle.touch_dispatch.proofs.steps.SceneLaws.{rect_live}
use Rattle.touch_dispatch.specs.Dispatch.{Scene, event_children, first_rect}
use Rattle.touch_dispatch.specs.gesture.Gestures.{at_number}
use Rattle.touch_dispatch.specs.handling.Handling.{Progress, is_nil, is_same_offset, moved_by, noted_with, offset_after}
use Rattle.touch_dispatch.specs.reaching.TreeEvents.{OnlyScrolls, held_under, kids_of, offsets_in, scene_of}
use Rattle.touch_dispatch.specs.declared.log.Kind.TheVariants.{Scroll}
use Rattle.touch_dispatch.specs.declared.handling.receiver.Receiver.{Receiver}
use Rattle.touch_event.specs.declared.event.Event.{Event}
use Rattle.view_model.specs.Forest.{Branch, Forest, Nothing}
use Rattle.view_model.specs.PlainTree.{PlainView}
use Rattle.view_tree.proofs.forest.KeyLaws.{located}
use Rattle.view_tree.proofs.forest.PlainLaws.{agree_live, key_where_number, key_where_passes}
use Rattle.view_tree.specs.Rows.{Row, children_of_first, first_key, head_view, key_where, part_from, views_of}
use Rattle.view_tree.specs.Views.{Held, IsLive, IsTree, SameTree, Views, held_of, number_of, state_of}

pub moved_same : (own : Receiver) (event : Event) (progress : Progress) (by : Option ℤ) (way : ℤ) → by ≡ Some way
    → is_same_offset (progress.offsets own.number) (offset_after own.range (progress.offsets own.number) way) ≡ true
    → progress ≡ moved_by by own event progress
moved_same own event progress by way e same = rw (e, same) refl

pub moved_other : (own : Receiver) (event : Event) (progress : Progress) (by : Option ℤ) (way offset : ℤ) → by ≡ Some way → offset ≡ offset_after own.range (progress.offsets own.number) way
    → is_same_offset (progress.offsets own.number) (offset_after own.range (progress.offsets own.number) way) ≡ false
    → noted_with offset own.number Scroll event true (record progress { offsets = at_number own.number offset progress.offsets }) ≡ moved_by by own event progress
moved_other own event progress by way offset e is other = rw (e, other, is) refl

-- another offset of one view
pub offset_set : (old new : Views) (key : ℕ) (offset : ℤ) → IsTree old → IsLive old key → new.tree ≡ old.tree → (held_of new key).offset ≡ offset
    → ((other : ℕ) → other ≢ key → held_of new other ≡ held_of old other)
    → offsets_in new ≡ at_number (number_of old key) offset (offsets_in old)
unfolding offsets_in
offset_set old new key offset is live tree own others = fun_ext (λ n.
    ap (λ (t : Forest Row). (held_under new (key_where (λ (view : PlainView). view.number == n) t)).offset) tree
    ∙ elim (cases_eq n (number_of old key)) [
      | inl e ↦
          rw (eq-eqb n (number_of old key) e)
          (ap (λ m. (held_under new (key_where (λ (view : PlainView). view.number == m) old.tree)).offset) e
          ∙ ap (λ o. (held_under new o).offset) (key_where_number key (number_of old key) old.tree live (agree_live old key is live)) ∙ own)
      | inr ne ↦
          rw (ne_eqb n (number_of old key) ne)
          (by_key (key_where (λ (view : PlainView). view.number == n) old.tree)
          (λ k found same. ne (sym (eqb-true _ _ (key_where_passes (λ (view : PlainView). view.number == n) old.tree k found (is.keys k))) ∙ ap (number_of old) same)))
    ])
  where
    by_key : (o : Option ℕ) → ((k : ℕ) → o ≡ Some k → k ≢ key) → (held_under new o).offset ≡ (held_under old o).offset
    by_key None ne = refl
    by_key (Some k) ne = ap (λ (h : Held). h.offset) (others k (ne k refl))

first_head : (scene : Scene) (list : Forest Row) (row : Row) (kids siblings : Forest Row) → list ≡ Branch row kids siblings
    → first_rect scene (event_children scene (views_of list)) ≡ scene.rects (head_view list).number
first_head scene Nothing row kids siblings is = absurd (cc)
first_head scene (Branch r b a) row kids siblings is = refl

pub first_rect_is : (views : Views) (slop : ℤ) (view kid : ℕ) → IsTree views → IsLive views kid → part_from kid views.tree ≡ children_of_first (part_from view views.tree)
    → (state_of views kid).bounds ≡ first_rect (scene_of views slop) (kids_of views slop view)
first_rect_is views slop view kid is live part =
    let f = located kid views.tree live in
    sym (
    first_head (scene_of views slop) (children_of_first (part_from view views.tree)) f.row f.kids f.siblings (sym part ∙ f.is)
    ∙ ap (λ (t : Forest Row). (scene_of views slop).rects (head_view t).number) (sym part) ∙ rect_live views slop kid is live
    )

-- the bounds of the first child of a view, by its key
pub first_lies : (views : Views) (view kid : ℕ) → IsLive views kid → part_from kid views.tree ≡ children_of_first (part_from view views.tree)
    → (state_of views kid).bounds ≡ first_place (held_of views) (children_of_first (part_from view views.tree))
first_lies views view kid live part =
    let f = located kid views.tree live in
    subst (λ (list : Forest Row). (state_of views kid).bounds ≡ first_place (held_of views) list) (sym f.is ∙ part)
    (ap (λ (key : ℕ). (state_of views key).bounds) (sym f.key_is))

-- a list that has no first view has none with bounds
pub first_nowhere : (held : ℕ → Held) (list : Forest Row) → None ≡ first_key list → None ≡ first_place held list
first_nowhere held Nothing none = refl
first_nowhere held (Branch row kids siblings) none = absurd (cc)

pub no_kids : (scene : Scene) (list : Forest Row) (first : Option ℕ) (b : Bool) → is_some first ≡ not b → first ≡ first_key list → b ≡ is_nil (event_children scene (views_of list))
no_kids scene Nothing first true some is = refl
no_kids scene Nothing first false some is = absurd (let some = rw is at some in cc)
no_kids scene (Branch r b a) first true some is = absurd (let some = rw is at some in cc)
no_kids scene (Branch r b a) first false some is = refl

pub receiver_same : (n1 n2 : ℕ) (s1 s2 : Bool) (a1 a2 : Answer) (i1 i2 : ℕ) (r1 r2 : Option Rect) (g1 g2 : ℤ) (c1 c2 : Bool) (l1 l2 : ℤ)
    → n1 ≡ n2 → s1 ≡ s2 → a1 ≡ a2 → i1 ≡ i2 → r1 ≡ r2 → g1 ≡ g2 → c1 ≡ c2 → l1 ≡ l2
    → let one : Receiver = record { number = n1; scrolls = s1; answer = a1; intercept = i1; rect = r1; range = g1; childless = c1; slop = l1 } in
    let two : Receiver = record { number = n2; scrolls = s2; answer = a2; intercept = i2; rect = r2; range = g2; childless = c2; slop = l2 } in
    one ≡ two
receiver_same n1 n2 s1 s2 a1 a2 i1 i2 r1 r2 g1 g2 c1 c2 l1 l2 e1 e2 e3 e4 e5 e6 e7 e8 = rw (e1, e2, e3, e4, e5, e6, e7, e8) refl

-- the offset of a view that is set
pub only_offset : (old new : Views) (key : ℕ) (offset : ℤ) → SameTree old new → new.counts ≡ old.counts → held_of new key ≡ record (held_of old key) { offset = offset }
    → ((other : ℕ) → other ≢ key → held_of new other ≡ held_of old other) → IsSide offset → (IsConsistent old → IsConsistent new) → OnlyScrolls old new
only_offset old new key offset same counts own others side kept = record {
  same = same;
  counts = counts;
  held = λ k. elim (cases_eq k key) [
    | inl e ↦
        subst (λ k. held_of new k ≡ record (held_of old k) { offset = (held_of new k).offset }) (sym e)
        (own ∙ ap (λ (o : ℤ). record (held_of old key) { offset = o }) (sym (ap (λ (h : Held). h.offset) own)))
    | inr ne ↦ others k ne ∙ ap (λ (o : ℤ). record (held_of old k) { offset = o }) (sym (ap (λ (h : Held). h.offset) (others k ne)))
  ];
  fits = λ k was. elim (cases_eq k key) [
    | inl e ↦ subst (λ k. IsSide (held_of new k).offset) (sym e) (subst IsSide (sym (ap (λ (h : Held). h.offset) own)) side)
    | inr ne ↦ subst IsSide (sym (ap (λ (h : Held). h.offset) (others k ne))) was
  ];
  consistent = kept;
}
