-- A painter's work in a clip, done piece by piece.
use Rattle.std.proofs.Common.{◌≡◌, ℕ, ◌+◌, ◌-◌, ◌<◌, ◌≤◌, ◌^◌, ℤ, pos, Bool, true, false, if◌then◌else◌, refl, sym, ap, ◌∙◌, arith}
use Rattle.geom_core.specs.Rects.{holds}
use Rattle.geom_core.specs.declared.color.Argb.{Argb}
use Rattle.geom_core.specs.declared.geometry.Rect.{Rect}
use Rattle.pixel_raster.specs.Raster.{Raster, color_at}
use Rattle.view_model.specs.declared.work.Work.{Work}
use Rattle.view_model.specs.Painting.{Painter}
use Rattle.tree_painter.specs.Painted.{IsCounted, IsPainted}

-- a part of the work of a painter is done: once the rest of it is done too, all is. What has been counted, and what the
-- rest may count yet, is no more than the whole may count
pub record IsUnderWay (rest all : Painter) (clip : Rect) (least most : ℕ) (start now : Raster) (before after : Work) : Type 0 where
  pub width : now.width ≡ start.width
  pub height : now.height ≡ start.height
  pub colors : (x y : ℕ) → x < start.width → y < start.height
      → (if holds clip (pos x) (pos y) then rest (pos x) (pos y) (color_at now x y) else color_at now x y)
      ≡ (if holds clip (pos x) (pos y) then all (pos x) (pos y) (color_at start x y) else color_at start x y)
  pub grew : before.painted ≤ after.painted
  pub filled_grew : start.filled ≤ now.filled
  pub bound : after.painted + least ≤ before.painted + most
  pub alike : after.painted < 2 ^ 64 - 1 → now.filled < 2 ^ 64 - 1 → after.painted + start.filled ≡ before.painted + now.filled
  pub measured : after.measured ≡ before.measured

same_within : (t : Bool) (p q u : Argb) → (t ≡ true → p ≡ q) → (if t then p else u) ≡ (if t then q else u)
same_within true p q u same = same refl
same_within false p q u same = refl

-- nothing is done yet
pub way_start : (rest all : Painter) (clip : Rect) (least most : ℕ) (at : Raster) (work : Work) → ((x y : ℤ) (u : Argb) → holds clip x y ≡ true → rest x y u ≡ all x y u)
    → least ≤ most → IsUnderWay rest all clip least most at at work work
way_start rest all clip least most at work same le = record {
  width = refl;
  height = refl;
  colors = λ x y xw yh. same_within (holds clip (pos x) (pos y)) (rest (pos x) (pos y) (color_at at x y)) (all (pos x) (pos y) (color_at at x y)) (color_at at x y)
      (same (pos x) (pos y) (color_at at x y));
  grew = omega arith;
  filled_grew = omega arith;
  bound = omega arith;
  alike = λ p q. omega arith;
  measured = refl;
}

step_color : (t : Bool) (rest next one : Argb → Argb) (all old mid : Argb) → ((u : Argb) → rest u ≡ next (one u)) → mid ≡ (if t then one old else old)
    → (if t then rest old else old) ≡ all → (if t then next mid else mid) ≡ all
step_color true rest next one all old mid parts m e = ap next m ∙ sym (parts old) ∙ e
step_color false rest next one all old mid parts m e = m ∙ e

-- one piece more is done
pub way_on : (rest next one all : Painter) (clip : Rect) (cost least later most : ℕ) (start old new : Raster) (before here there : Work)
    → IsUnderWay rest all clip least most start old before here → IsPainted one clip old new → IsCounted cost old new here there
    → ((x y : ℤ) (u : Argb) → rest x y u ≡ next x y (one x y u)) → cost + later ≤ least → IsUnderWay next all clip later most start new before there
way_on rest next one all clip cost least later most start old new before here there way step count parts le = record {
  width = step.width ∙ way.width;
  height = step.height ∙ way.height;
  colors = λ x y xw yh. step_color (holds clip (pos x) (pos y)) (rest (pos x) (pos y)) (next (pos x) (pos y)) (one (pos x) (pos y)) _ (color_at old x y) (color_at new x y)
      (parts (pos x) (pos y)) (step.colors x y (rw (sym way.width) at xw) (rw (sym way.height) at yh)) (way.colors x y xw yh);
  grew = let h = way.grew in let k = count.grew in omega arith;
  filled_grew = let h = way.filled_grew in let k = count.filled_grew in omega arith;
  bound = let h = way.bound in let k = count.bound in omega arith;
  alike = λ p q.
      let g = count.grew in
      let f = count.filled_grew in
      let h = way.alike (omega arith) (omega arith) in
      let k = count.alike p q in
      omega arith;
  measured = count.measured ∙ way.measured;
}

done : (t : Bool) (p u all : Argb) → (t ≡ true → p ≡ u) → (if t then p else u) ≡ all → u ≡ all
done true p u all none e = sym (none refl) ∙ e
done false p u all none e = e

-- what is left does nothing
pub way_end : (rest all : Painter) (clip : Rect) (least most : ℕ) (start now : Raster) (before after : Work) → IsUnderWay rest all clip least most start now before after
    → ((x y : ℤ) (u : Argb) → holds clip x y ≡ true → rest x y u ≡ u) → IsPainted all clip start now
way_end rest all clip least most start now before after way none = record {
  width = way.width;
  height = way.height;
  colors = λ x y xw yh. done (holds clip (pos x) (pos y)) (rest (pos x) (pos y) (color_at now x y)) (color_at now x y) _ (none (pos x) (pos y) (color_at now x y)) (way.colors x y xw yh);
}
