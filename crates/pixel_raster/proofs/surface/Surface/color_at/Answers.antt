use Rattle.std.proofs.Common.{◌≡◌, suc, ◌+◌, ◌*◌, ◌<◌, ◌≤◌, ℕ, get_or, refl, sym, ap, ◌∙◌, arith, mul-le-mul_right}
use Rattle.std.proofs.lemmas.List.{get_or_read_under}
use Rattle.geom_core.specs.declared.color.Argb.{Argb}
use Rattle.geom_core.specs.Numbers.{unpainted}
use Rattle.pixel_raster.specs.Marks.{seen_of}
use Rattle.pixel_raster.proofs.MarkLaws.{pixel_at-seen}
use Rattle.pixel_raster.proofs.surface.Surface.color_at.Goals as goal

place : (row column width height many : ℕ) → row < height → column < width → many ≡ width * height → row * width + column < many
place row column width height many r c size =
    let rows : suc row * width ≤ height * width = mul-le-mul_right width r in
    omega arith

pub index-requires : goal.index-requires
index-requires c =
    let column : c.args.column < c.self.inside.width = rw (← c.self.view_is) at c.requires.column in
    let row : c.args.row < c.self.inside.height = rw (← c.self.view_is) at c.requires.row in
    let inside = place c.args.row 0 c.self.inside.width c.self.inside.height _ row (omega arith) c.self.invariant.size in
    omega (arith, inside)

pub index-requires-2 : goal.index-requires-2
index-requires-2 c =
    let column : c.args.column < c.self.inside.width = rw (← c.self.view_is) at c.requires.column in
    let row : c.args.row < c.self.inside.height = rw (← c.self.view_is) at c.requires.row in
    let inside = place c.args.row c.args.column c.self.inside.width c.self.inside.height _ row column c.self.invariant.size in
    omega (arith, inside)

pub returns : goal.returns
returns c =
    let width = c.self.inside.width in
    let items = c.self.inside.pixels.items in
    let column : c.args.column < width = rw (← c.self.view_is) at c.requires.column in
    let row : c.args.row < c.self.inside.height = rw (← c.self.view_is) at c.requires.row in
    let start = place c.args.row 0 width c.self.inside.height _ row (omega arith) c.self.invariant.size in
    let first : c.index.result.now ≡ get_or items (c.args.row * width + 0) unpainted =
    get_or_read_under items (c.args.row * width) _ c.index.result.now unpainted c.index.ensures (omega (arith, start)) refl ∙ ap (λ (n : ℕ). get_or items n unpainted) (omega arith) in
    let own = get_or_read_under items (c.args.row * width + c.args.column) _ c.index-2.result.now unpainted c.index-2.ensures
    (place c.args.row c.args.column width c.self.inside.height _ row column c.self.invariant.size) refl in
    rw (← c.self.view_is)
    (c.seen_of.ensures
    ∙ ap (λ (first : Argb). seen_of first c.index-2.result.now) first
    ∙ ap (λ (pixel : Argb). seen_of (get_or items (c.args.row * width + 0) unpainted) pixel) own
    ∙ sym (pixel_at-seen width c.self.inside.height items c.args.column c.args.row c.self.invariant.size column row))
