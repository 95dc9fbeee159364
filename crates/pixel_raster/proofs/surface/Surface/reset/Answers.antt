use Rattle.std.proofs.Common.{rules, ◌≡◌, ◌*◌, ℕ, List, length, replicate, refl, ap, sym, ◌∙◌, arith}
use Rattle.geom_core.specs.declared.color.Argb.{Argb}
use Rattle.geom_core.specs.Numbers.{unpainted}
use Rattle.pixel_raster.specs.Cuts.{from_zero}
use Rattle.pixel_raster.specs.Raster.{Raster}
use Rattle.pixel_raster.specs.declared.surface.Surface.TheInside.{Inside}
use Rattle.std.proofs.lemmas.List.{length-replicate}
use Rattle.pixel_raster.proofs.BlackLaws.{black-is_raster}
use Rattle.pixel_raster.proofs.MarkLaws.{seen_pixels-black, unmarked-none}
use Rattle.pixel_raster.proofs.surface.Surface.reset.Goals.{then-not-is_black+in_ok-cover_black, else-not-is_black}
use Rattle.pixel_raster.proofs.surface.Surface.reset.Goals as goal

items : (c : goal.After-self-5-1) → c.if-not-is_black.self-inside.pixels.items ≡ replicate (c.from_zero-width.result * c.from_zero-height.result) unpainted
items c =
    elim c.if-not-is_black.branch [
      | then-not-is_black+in_ok-cover_black w ↦ rw w.self-inside-is (search rules)
      | else-not-is_black w ↦ (let same = c.is_black.ensures w.if-not-is_black.false in
          let count : c.self.inside.width * c.self.inside.height ≡ c.from_zero-width.result * c.from_zero-height.result =
          sym c.self.invariant.size ∙ ap (λ (pixels : List Argb). length pixels) (sym c.deref.ensures.value) ∙ same.1 in
          ap (λ (s : Inside). s.pixels.items) w.self-inside-is ∙ c.self.invariant.black same.0 ∙ ap (λ (n : ℕ). replicate n unpainted) count)
    ]

pub invariant_of-self-2 : goal.invariant_of-self-2
invariant_of-self-2 c =
    let black = items c in
    let seen = seen_pixels-black c.from_zero-width.result (c.from_zero-width.result * c.from_zero-height.result) c.if-not-is_black.self-inside.pixels.items black in
    record {
      size = rw black (length-replicate (c.from_zero-width.result * c.from_zero-height.result) unpainted);
      raster = black-is_raster _ _ _ seen (omega arith) (omega arith);
      unmarked = unmarked-none _ _;
      digest = elim c.if-not-is_black.branch [
        | then-not-is_black+in_ok-cover_black w ↦ rw w.self-inside-is tt
        | else-not-is_black w ↦ (let same = c.is_black.ensures w.if-not-is_black.false in
            let inside = c.self.inside in
            let was = seen_pixels-black inside.width (inside.width * inside.height) inside.pixels.items (c.self.invariant.black same.0) in
            let is = seen_pixels-black c.from_zero-width.result (inside.width * inside.height) inside.pixels.items (c.self.invariant.black same.0) in
            rw w.self-inside-is (rw (was ∙ sym is) at c.self.invariant.digest))
      ];
      black = λ _. black;
    }

pub returns-clause-raster : goal.returns-clause-raster
returns-clause-raster c = (invariant_of-self-2 c).raster

raster_is : (width height wide high : ℕ) (pixels : List Argb) → width ≡ wide → height ≡ high → pixels ≡ replicate (width * height) unpainted
    → (let raster : Raster = record { width = width; height = height; pixels = pixels; filled = 0 } in raster)
    ≡ record { width = wide; height = high; pixels = replicate (wide * high) unpainted; filled = 0 }
raster_is width height wide high pixels w h is = rw (is, w, h) refl

pub returns-clause-value : goal.returns-clause-value
returns-clause-value c =
    let many = c.from_zero-width.result * c.from_zero-height.result in
    let wide : c.from_zero-width.result ≡ from_zero c.args.size.w = search rules in
    let high : c.from_zero-height.result ≡ from_zero c.args.size.h = search rules in
    raster_is _ _ _ _ _ wide high
    (seen_pixels-black c.from_zero-width.result many c.if-not-is_black.self-inside.pixels.items (items c))
