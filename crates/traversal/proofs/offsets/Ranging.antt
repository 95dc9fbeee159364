-- The plain tree once each view that has bounds has its offset in range.
use Rattle.std.proofs.Common.{◌≡◌, ℕ, ◌<◌, ℤ, true, false, Option, None, [], refl, sym, ◌∙◌, ap, arith, inl, inr}
use Rattle.std.proofs.lemmas.Bool.{cases_Bool, false_from_ne_true}
use Rattle.geom_core.specs.declared.geometry.Rect.{Rect}
use Rattle.kept_views.proofs.KeptFrames.{outer}
use Rattle.kept_views.specs.Kept.{Around, Cleared, Kept, first_place, hidden_in, inside}
use Rattle.kept_views.specs.Laying.{Brought}
use Rattle.view_model.proofs.ClassLaws.{range_nowhere, range_unscrolled}
use Rattle.view_model.specs.Facts.{is_shown}
use Rattle.view_model.specs.Forest.{Forest, Nothing, Branch}
use Rattle.view_model.specs.Geometry.{rect_in}
use Rattle.view_model.specs.Offsets.{brought, first_rect, range_by, ranged}
use Rattle.view_model.specs.PlainTree.{PlainView}
use Rattle.view_tree.specs.Rows.{Row, count_of_key, head_view}
use Rattle.view_tree.specs.Views.{Held, IsTree, Views, geometry_of, held_of, number_of, plain_rows}
use Rattle.view_tree.proofs.forest.KeyLaws.{Within, count_of_key-within, from_within, here, in_after, in_below, times_self}
use Rattle.view_tree.proofs.values.GeometryLaws.{rect_live}

pub within_kids : {row : Row} {kids siblings tree : Forest Row} → Within (Branch row kids siblings) tree → Within kids tree
within_kids here = in_below here
within_kids (in_below w) = in_below (within_kids w)
within_kids (in_after w) = in_after (within_kids w)

pub within_siblings : {row : Row} {kids siblings tree : Forest Row} → Within (Branch row kids siblings) tree → Within siblings tree
within_siblings here = in_after here
within_siblings (in_below w) = in_below (within_siblings w)
within_siblings (in_after w) = in_after (within_siblings w)

module _ (new : Views) (is : IsTree new) (old : ℕ → Held) where
  live : (row : Row) (kids siblings : Forest Row) → Within (Branch row kids siblings) new.tree → 0 < count_of_key row.key new.tree
  live row kids siblings w = let a = count_of_key-within row.key w in let b = times_self row kids siblings in omega arith

  rect_of : (row : Row) (kids siblings : Forest Row) → Within (Branch row kids siblings) new.tree → rect_in (geometry_of new) row.view.number ≡ (held_of new row.key).state.bounds
  rect_of row kids siblings w =
      let number : number_of new row.key ≡ row.view.number = ap (λ (part : Forest Row). (head_view part).number) (from_within row kids siblings w (is.keys row.key)) in
      ap (rect_in (geometry_of new)) (sym number) ∙ rect_live new row.key is (live row kids siblings w)

  first_rect_is : (list : Forest Row) → Within list new.tree → first_rect (geometry_of new) (plain_rows old list) ≡ first_place (held_of new) list
  first_rect_is Nothing w = refl
  first_rect_is (Branch row kids siblings) w = rect_of row kids siblings w

  rows_brought : (list : Forest Row) → Within list new.tree → Brought old (held_of new) list → plain_rows (held_of new) list ≡ ranged (geometry_of new) (plain_rows old list)
  rows_brought Nothing w b = refl
  rows_brought (Branch row kids siblings) w b =
      let offset = (old row.key).offset in
      let G = geometry_of new in
      let last = brought (range_by row.view.class (record row.view.facts { offset = offset }) (rect_in G row.view.number) (first_rect G (plain_rows old kids))) offset in
      let same : range_by row.view.class row.view.facts (held_of new row.key).state.bounds (first_place (held_of new) kids)
      ≡ range_by row.view.class (record row.view.facts { offset = offset }) (rect_in G row.view.number) (first_rect G (plain_rows old kids)) =
      sym (range_unscrolled row.view.class row.view.facts offset (rect_in G row.view.number) (first_rect G (plain_rows old kids))
      ∙ ap (λ (rect : Option Rect). range_by row.view.class row.view.facts rect (first_rect G (plain_rows old kids))) (rect_of row kids siblings w)
      ∙ ap (range_by row.view.class row.view.facts (held_of new row.key).state.bounds) (first_rect_is kids (within_kids w))) in
      let set : (held_of new row.key).offset ≡ last = b.0 ∙ ap (λ (range : Option ℤ). brought range offset) same in
      let view : ℤ → PlainView = λ offset. record row.view { facts = record row.view.facts { offset = offset } } in
      ap (λ (offset : ℤ). Branch (view offset) (plain_rows (held_of new) kids) (plain_rows (held_of new) siblings)) set
      ∙ ap (λ (below : Forest PlainView). Branch (view last) below (plain_rows (held_of new) siblings)) (rows_brought kids (within_kids w) b.1)
      ∙ ap (λ (after : Forest PlainView). Branch (view last) (ranged G (plain_rows old kids)) after) (rows_brought siblings (within_siblings w) b.2)

  pub plain_brought : Brought old (held_of new) new.tree → plain_rows (held_of new) new.tree ≡ ranged (geometry_of new) (plain_rows old new.tree)
  plain_brought b = rows_brought new.tree here b

-- if no view that takes part in layout is forced, each forced one has an empty cache
pub cleared_firm : (held : ℕ → Held) (up : Around) (list : Forest Row) → (up.hidden ≡ false → up.forced ≡ false) → Kept [] held up list → Cleared held list
cleared_firm held up Nothing c k = tt
cleared_firm held up (Branch row kids siblings) c k = (
  λ f. elim (cases_Bool (hidden_in up row)) [
    | inl h ↦ (k.0 h).cache
    | inr h ↦ none_forced h f
  ],
  cleared_firm held (inside up row (held row.key)) kids (λ h. false_from_ne_true _ (λ f. none_forced h f)) k.2,
  cleared_firm held up siblings c k.3,
)
  where
    none_forced : {A : Type 0} → hidden_in up row ≡ false → (held row.key).state.forced ≡ true → A
    none_forced h f = absurd (let n : true ≡ false = sym ((k.1 h).flags refl f) ∙ c (outer (is_shown row.view.facts) up.hidden h) in cc)

-- views that have no bounds have no range
pub ranged_nowhere : (tree : Forest PlainView) → ranged [] tree ≡ tree
ranged_nowhere Nothing = refl
ranged_nowhere (Branch view below after) =
    let none : first_rect [] below ≡ None = first_none below in
    let range : range_by view.class view.facts None (first_rect [] below) ≡ None = range_nowhere view.class view.facts (first_rect [] below) in
    let own : brought (range_by view.class view.facts None (first_rect [] below)) view.facts.offset ≡ view.facts.offset = ap (λ range. brought range view.facts.offset) range in
    let b = ranged_nowhere below in
    let a = ranged_nowhere after in
    ap (λ (offset : ℤ). Branch (let v : PlainView = record view { facts = record view.facts { offset = offset } } in v) (ranged [] below) (ranged [] after)) own
    ∙ ap (λ below. Branch view below (ranged [] after)) b ∙ ap (λ after. Branch view below after) a
  where
    first_none : (tree : Forest PlainView) → first_rect [] tree ≡ None
    first_none Nothing = refl
    first_none (Branch view below after) = refl
