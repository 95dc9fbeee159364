-- What one child more makes of a cursor, and the size of a rectangle at a corner.
use Rattle.std.proofs.Common.{◌≡◌, ◌+◌, ◌+ℤ◌, ◌-ℤ◌, ℤ, pos, Bool, List, [], ◌∷◌, ◌++◌, refl, sym, ap, ◌∙◌, arith, length-append}
use Rattle.std.proofs.lemmas.Int.{ints}
use Rattle.std.proofs.lemmas.List.Sums.{fold_push}
use Rattle.geom_core.specs.declared.geometry.Size.{Size}
use Rattle.linear_layout.specs.declared.cursor.Cursor.{Cursor}
use Rattle.linear_layout.specs.declared.mark.Mark.{Mark}
use Rattle.linear_layout.specs.Cursor.{PlacesLinear}
use Rattle.view_model.specs.declared.facts.Facts.{Facts}
use Rattle.view_model.specs.Geometry.{rect_at, size_of_rect}
use Rattle.view_model.specs.LinearLayout.{alignment_on, line_begin, low_padding, margins_on, passed, size_on}
use Rattle.view_model.specs.Measuring.{Measured}
use Rattle.view_model.specs.Placing.{started}

pub size_of_rect-rect_at : (left top : ℤ) (size : Size) → size_of_rect (rect_at left top size) ≡ size
size_of_rect-rect_at left top size =
    let w : left +ℤ size.w -ℤ left ≡ size.w = omega (arith, ints) in
    let h : top +ℤ size.h -ℤ top ≡ size.h = omega (arith, ints) in
    rw (w, h) refl

following : (begin sum size margins : ℤ) → begin +ℤ sum +ℤ (size +ℤ margins) ≡ begin +ℤ (sum +ℤ size +ℤ margins)
following begin sum size margins = omega (arith, ints)

passed-push : (vertical : Bool) (kids : List Measured) (kid : Measured)
    → passed vertical (kids ++ kid ∷ []) ≡ passed vertical kids +ℤ size_on vertical kid.size +ℤ margins_on vertical kid.facts
passed-push vertical kids kid = fold_push (λ sum (kid : Measured). sum +ℤ size_on vertical kid.size +ℤ margins_on vertical kid.facts) (pos 0) kids kid

pub PlacesLinear-push : (cursor : Cursor) (mark : Mark) (own : Facts) (room : Size) (total : ℤ) (before : List Measured) (kid : Measured)
    → mark.count ≡ cursor.mark.count + 1
    → mark.at ≡ cursor.mark.at +ℤ (size_on own.vertical kid.size +ℤ margins_on own.vertical kid.facts)
    → PlacesLinear cursor own room total before
    → PlacesLinear (record cursor { mark = mark }) own room total (before ++ kid ∷ [])
PlacesLinear-push cursor mark own room total before kid one more s =
    let long = length-append before (kid ∷ []) in
    let count = s.count in
    let begin = line_begin (alignment_on own.vertical own.rtl (started own.gravity)) (low_padding own.vertical own) (size_on own.vertical room) total in
    record {
      vertical = s.vertical;
      rtl = s.rtl;
      alignment = s.alignment;
      padding_low = s.padding_low;
      padding_high = s.padding_high;
      breadth = s.breadth;
      count = omega arith;
      at = more ∙ ap (λ at. at +ℤ (size_on own.vertical kid.size +ℤ margins_on own.vertical kid.facts)) s.at
          ∙ following begin (passed own.vertical before) (size_on own.vertical kid.size) (margins_on own.vertical kid.facts)
          ∙ ap (λ sum. begin +ℤ sum) (sym (passed-push own.vertical before kid));
    }
