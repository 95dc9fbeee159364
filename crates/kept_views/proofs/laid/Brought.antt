-- Offsets that are in range.
use Rattle.std.proofs.Common.{◌≡◌, ℕ, ◌<◌, ℤ, Bool, true, false, inl, inr, Option, Some, None, List, [], refl, sym, ◌∙◌, ap, subst, arith}
use Rattle.std.proofs.lemmas.Int.{ints}
use Rattle.std.proofs.lemmas.Bool.{cases_Bool, false_from_ne_true}
use Rattle.std.specs.Prelude.{if◌then◌else◌}
use Rattle.geom_core.specs.declared.geometry.Rect.{Rect}
use Rattle.view_model.proofs.ClassLaws.{range_nowhere}
use Rattle.view_model.specs.Facts.{is_shown}
use Rattle.view_model.specs.Forest.{Forest, Nothing, Branch}
use Rattle.view_model.specs.Offsets.{brought, range_by}
use Rattle.view_model.specs.ScrollView.{offset_within}
use Rattle.view_tree.specs.Rows.{Row, count_of_key}
use Rattle.view_tree.proofs.forest.KeyLaws.{times_self}
use Rattle.view_tree.specs.Views.{Held}
use Rattle.kept_views.specs.Kept.{Around, Kept, Reached, firm, first_place, hidden_in, inside}
use Rattle.kept_views.specs.Laying.{Brought}
use Rattle.kept_views.proofs.KeptFrames.{Same, first-along, same_kids, same_self, same_siblings}
use Rattle.kept_views.proofs.laid.LaidCalm.{shown_in, to_firm, unforced_in}

-- an offset in range stays
pub brought_again : (range : Option ℤ) (offset : ℤ) → brought range (brought range offset) ≡ brought range offset
unfolding offset_within
brought_again None offset = refl
brought_again (Some range) offset = grind (arith, ints)

pub brought-along : (old mid new : ℕ → Held) (list : Forest Row) → Same mid new list → Brought old mid list → Brought old new list
brought-along old mid new Nothing same b = tt
brought-along old mid new (Branch row kids siblings) same b =
    let own = same_self mid new row kids siblings same in
    let below = same_kids mid new row kids siblings same in (
      ap (λ (own : Held). own.offset) own ∙ b.0
          ∙ ap (λ first. brought (range_by row.view.class row.view.facts (mid row.key).state.bounds first) (old row.key).offset) (sym (first-along mid new kids below))
          ∙ ap (λ (own : Held). brought (range_by row.view.class row.view.facts own.state.bounds (first_place new kids)) (old row.key).offset) (sym own),
      brought-along old mid new kids below b.1,
      brought-along old mid new siblings (same_siblings mid new row kids siblings same) b.2,
    )

pub brought-start : (old mid new : ℕ → Held) (list : Forest Row) → ((key : ℕ) → 0 < count_of_key key list → (mid key).offset ≡ (old key).offset) → Brought mid new list → Brought old new list
brought-start old mid new Nothing same b = tt
brought-start old mid new (Branch row kids siblings) same b = (
  b.0 ∙ ap (brought (range_by row.view.class row.view.facts (new row.key).state.bounds (first_place new kids))) (same row.key (times_self row kids siblings)),
  brought-start old mid new kids (λ key here. same key (omega arith)) b.1,
  brought-start old mid new siblings (λ key here. same key (omega arith)) b.2,
)

-- hidden views have no range
pub brought_hidden : (keys : List ℕ) (held : ℕ → Held) (up : Around) (list : Forest Row) → up.hidden ≡ true → Kept keys held up list → Brought held held list
brought_hidden keys held up Nothing h k = tt
brought_hidden keys held up (Branch row kids siblings) h k = (
  sym (ap (λ bounds. brought (range_by row.view.class row.view.facts bounds (first_place held kids)) (held row.key).offset) (k.0 here).bounds
      ∙ ap (λ range. brought range (held row.key).offset) (range_nowhere row.view.class row.view.facts (first_place held kids))),
  brought_hidden keys held (inside up row (held row.key)) kids here k.2,
  brought_hidden keys held up siblings h k.3,
)
  where
    here : hidden_in up row ≡ true
    here = by_test (is_shown row.view.facts)
      where
        by_test : (v : Bool) → (if v then up.hidden else true) ≡ true
        by_test true = h
        by_test false = refl

own_brought : (held : ℕ → Held) (row : Row) (kids : Forest Row) → ((rect : Rect) → (held row.key).state.bounds ≡ Some rect
    → brought (range_by row.view.class row.view.facts (Some rect) (first_place held kids)) (held row.key).offset ≡ (held row.key).offset)
    → (held row.key).offset ≡ brought (range_by row.view.class row.view.facts (held row.key).state.bounds (first_place held kids)) (held row.key).offset
own_brought held row kids lies = by_bounds (held row.key).state.bounds refl
  where
    by_bounds : (bounds : Option Rect) → (held row.key).state.bounds ≡ bounds
        → (held row.key).offset ≡ brought (range_by row.view.class row.view.facts bounds (first_place held kids)) (held row.key).offset
    by_bounds None e = sym (ap (λ range. brought range (held row.key).offset) (range_nowhere row.view.class row.view.facts (first_place held kids)))
    by_bounds (Some rect) e = sym (lies rect e)

-- below a view that has nothing to do, all are in range
pub brought_calm : (held : ℕ → Held) (list : Forest Row) → Kept [] held firm list → Reached held false list → Brought held held list
brought_calm held Nothing k r = tt
brought_calm held (Branch row kids siblings) k r = elim (cases_Bool (is_shown row.view.facts)) [
  | inl here ↦
      let v = k.1 (shown_in row here) in
      let f = unforced_in (held row.key).state.forced false refl (v.flags refl) in
      let n = false_from_ne_true (held row.key).state.layout_needed (λ e. let no : false ≡ true = (r.0 e).1 in absurd (cc)) in (
        own_brought held row kids (λ rect lies. v.ranged refl f n rect lies),
        brought_calm held kids (to_firm [] held _ _ kids (shown_in row here) f k.2) (subst (λ b. Reached held b kids) n r.2),
        brought_calm held siblings k.3 r.3,
      )
  | inr gone ↦
      let here : hidden_in firm row ≡ true = ap (λ v. if v then false else true) gone in (
        sym (ap (λ bounds. brought (range_by row.view.class row.view.facts bounds (first_place held kids)) (held row.key).offset) (k.0 here).bounds
            ∙ ap (λ range. brought range (held row.key).offset) (range_nowhere row.view.class row.view.facts (first_place held kids))),
        brought_hidden [] held (inside firm row (held row.key)) kids here k.2,
        brought_calm held siblings k.3 r.3,
      )
]
