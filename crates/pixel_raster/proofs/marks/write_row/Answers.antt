use Rattle.std.proofs.Common.{◌≡◌, ◌≢◌, ◌<◌, ℕ, get_or, List, [], ◌∷◌, false, map, length, refl, sym, ap, ◌∙◌, arith}
use Rattle.std.specs.Prelude.{◌==◌}
use Rattle.std.proofs.lemmas.Bool.Decides.{nat_tests}
use Rattle.std.proofs.lemmas.List.{get_or_default}
use Rattle.geom_core.specs.Color.{alpha_of}
use Rattle.geom_core.specs.declared.color.Argb.{Argb}
use Rattle.geom_core.specs.Numbers.{unpainted}
use Rattle.pixel_raster.proofs.MarkLaws.{seen_of-unmarked}
use Rattle.pixel_raster.specs.Marks.{seen_of}
use Rattle.pixel_raster.proofs.marks.write_row.Goals as goal

of_mark : (first pixel other : Argb) → alpha_of first ≡ 0 → seen_of first pixel ≡ seen_of first other
unfolding seen_of
of_mark first pixel other is = rw is refl

map-mark : (first pixel : Argb) (row : List Argb) → alpha_of first ≡ 0 → map (λ (_ : Argb). seen_of first pixel) row ≡ map (seen_of first) row
map-mark first pixel [] is = refl
map-mark first pixel (other ∷ row) is = rw (of_mark first pixel other is, map-mark first pixel row is) refl

map-pixels : (first : Argb) (row : List Argb) → (alpha_of first == 0) ≡ false → map (seen_of first) row ≡ row
map-pixels first [] is = refl
map-pixels first (pixel ∷ row) is = rw (seen_of-unmarked first pixel is, map-pixels first row is) refl

some : (row : List Argb) → (length row == 0) ≡ false → 0 < length row
some row is = grind (arith, nat_tests)

differs : (n : ℕ) → n ≢ 0 → (n == 0) ≡ false
differs n other = grind (arith, nat_tests)

pub returns-then-alpha-eq0 : goal.returns-then-alpha-eq0
returns-then-alpha-eq0 c =
    let row = c.args.row.now in
    let same = get_or_default row 0 (record { 0 = 0 }) unpainted (some row (sym c.is_empty.ensures ∙ c.if-is_empty.false)) in
    c.cover_run.ensures
    ∙ ap (λ (color : Argb). map (λ (_ : Argb). color) row) (c.seen_of.ensures ∙ ap (λ (first : Argb). seen_of first first) same)
    ∙ map-mark (get_or row 0 unpainted) (get_or row 0 unpainted) row (rw same at (sym c.alpha.ensures ∙ c.if-alpha-eq0.true))

pub returns-else-alpha-eq0 : goal.returns-else-alpha-eq0
returns-else-alpha-eq0 c =
    let row = c.args.row.now in
    let same = get_or_default row 0 (record { 0 = 0 }) unpainted (some row (sym c.is_empty.ensures ∙ c.if-is_empty.false)) in
    let other : alpha_of (get_or row 0 unpainted) ≢ 0 = λ none. c.if-alpha-eq0.false (c.alpha.ensures ∙ ap (λ (first : Argb). alpha_of first) same ∙ none) in
    sym (map-pixels (get_or row 0 unpainted) row (differs (alpha_of (get_or row 0 unpainted)) other))
