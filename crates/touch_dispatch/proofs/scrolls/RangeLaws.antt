-- An offset that is set within its range keeps what every tree keeps between lines.
use Rattle.std.proofs.Common.{◌≡◌, ℕ, ℤ, Option, Some, refl, sym, ◌∙◌, ap, subst, inl, inr}
use mathlib.Core.Path.{fun_ext}
use Rattle.std.proofs.lemmas.Bool.{cases_Bool, cases_eq}
use Rattle.geom_core.specs.declared.geometry.Rect.{Rect}
use Rattle.kept_views.proofs.laid.Brought.{brought_again}
use Rattle.kept_views.proofs.edits.Dragged.{InRanges, offsets_kept, with_offsets}
use Rattle.kept_views.specs.Kept.{IsConsistent, IsKept, first_place}
use Rattle.touch_dispatch.specs.Dispatch.{range_for}
use Rattle.touch_dispatch.specs.reaching.TreeEvents.{own_range}
use Rattle.view_model.specs.declared.facts.Facts.{Facts}
use Rattle.view_model.specs.declared.class.Class.{Class}
use Rattle.view_model.specs.Forest.{Forest, Nothing, Branch}
use Rattle.view_model.specs.Classes.{scrolls}
use Rattle.view_model.specs.Offsets.{brought, range_by}
use Rattle.view_model.specs.ScrollView.{offset_within}
use Rattle.view_tree.proofs.forest.Forests.{Within-children_of_first, Within-later_siblings}
use Rattle.view_tree.proofs.forest.KeyLaws.{Within, from_within, here}
use Rattle.view_tree.specs.Rows.{Row, children_of_first, head_view, part_from}
use Rattle.view_tree.specs.Views.{Held, IsTree, KeepsOthers, Views, held_of, state_of}

-- an offset that was brought into a range is in it
pub range_within : (range own : ℤ) (offset before : ℤ) → own ≡ range → offset ≡ offset_within own before → offset_within range offset ≡ offset
range_within range own offset before same is =
    ap (offset_within range) is
    ∙ ap (λ (own : ℤ). offset_within range (offset_within own before)) same
    ∙ brought_again (Some range) before
    ∙ ap (λ (range : ℤ). offset_within range before) (sym same)
    ∙ sym is

-- an offset that a view in this rectangle may have stays as it is
range_brought : (class : Class) (own : Facts) (rect : Rect) (child : Option Rect) (offset : ℤ) → offset_within (range_for (scrolls class) own (Some rect) child) offset ≡ offset
    → brought (range_by class own (Some rect) child) offset ≡ offset
range_brought class own rect child offset within = elim (cases_Bool (scrolls class)) [
  | inl moves ↦ rw moves (rw moves at within)
  | inr stays ↦ rw stays refl
]

module _ (old new : Views) (view : ℕ) (offset : ℤ) (is : IsTree old) (own : held_of new view ≡ record (held_of old view) { offset = offset })
    (others : KeepsOthers old new view) (within : offset_within (own_range old view) offset ≡ offset) where
  abbrev offsets : ℕ → ℤ
  offsets key = (held_of new key).offset

  -- the view that is set, as a row of the tree
  row_brought : (row : Row) (kids siblings : Forest Row) → Within (Branch row kids siblings) old.tree → row.key ≡ view → (rect : Rect) → (state_of old row.key).bounds ≡ Some rect
      → brought (range_by row.view.class row.view.facts (Some rect) (first_place (held_of old) kids)) offset ≡ offset
  row_brought row kids siblings w key rect lies =
      let part : part_from view old.tree ≡ Branch row kids siblings = ap (λ (key : ℕ). part_from key old.tree) (sym key) ∙ from_within row kids siblings w (is.keys row.key) in
      let bounds : (state_of old view).bounds ≡ Some rect = ap (λ (key : ℕ). (state_of old key).bounds) (sym key) ∙ lies in
      range_brought row.view.class row.view.facts rect (first_place (held_of old) kids) offset
      (subst (λ (list : Forest Row). offset_within (range_for (scrolls (head_view list).class) (head_view list).facts (Some rect) (first_place (held_of old) (children_of_first list))) offset ≡ offset) part
      (subst (λ (place : Option Rect). offset_within (range_for (scrolls (head_view (part_from view old.tree)).class) (head_view (part_from view old.tree)).facts place
      (first_place (held_of old) (children_of_first (part_from view old.tree)))) offset ≡ offset) bounds within))

  in_ranges : (list : Forest Row) → Within list old.tree → InRanges offsets (held_of old) list
  in_ranges Nothing w = tt
  in_ranges (Branch row kids siblings) w = (
    λ rect lies was. elim (cases_eq row.key view) [
      | inl e ↦
          let set : (held_of new row.key).offset ≡ offset = ap (λ (key : ℕ). (held_of new key).offset) e ∙ ap (λ (held : Held). held.offset) own in
          subst (λ (offset : ℤ). brought (range_by row.view.class row.view.facts (Some rect) (first_place (held_of old) kids)) offset ≡ offset) (sym set) (row_brought row kids siblings w e rect lies)
      | inr ne ↦
          subst (λ (offset : ℤ). brought (range_by row.view.class row.view.facts (Some rect) (first_place (held_of old) kids)) offset ≡ offset)
          (sym (ap (λ (held : Held). held.offset) (others row.key ne))) was
    ],
    in_ranges kids (Within-children_of_first w),
    in_ranges siblings (Within-later_siblings w),
  )

  -- nothing else is kept of the views
  moved_alone : (key : ℕ) → held_of new key ≡ with_offsets offsets (held_of old) key
  moved_alone key = elim (cases_eq key view) [
    | inl e ↦
        subst (λ (key : ℕ). held_of new key ≡ with_offsets offsets (held_of old) key) (sym e)
        (own ∙ ap (λ (offset : ℤ). record (held_of old view) { offset = offset }) (sym (ap (λ (held : Held). held.offset) own)))
    | inr ne ↦ others key ne ∙ ap (λ (offset : ℤ). record (held_of old key) { offset = offset }) (sym (ap (λ (held : Held). held.offset) (others key ne)))
  ]

  pub offset_kept : new.tree ≡ old.tree → IsConsistent old → IsConsistent new
  offset_kept same kept =
      subst (IsKept (held_of new)) (sym same)
      (subst (λ (held : ℕ → Held). IsKept held old.tree) (sym (fun_ext moved_alone)) (offsets_kept offsets (held_of old) old.tree (in_ranges old.tree here) kept))
