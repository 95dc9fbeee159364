-- Worked pictures, by computation.
use Rattle.std.specs.Prelude.{◌≡◌, ℕ, ℤ, pos, negsuc, refl, false, List, [], ◌∷◌, ◌++◌, codes, replicate}
use Rattle.geom_core.specs.Color.{alpha_of, blend_of, blue_of, green_of, mixed, opaque_of, red_of}
use Rattle.geom_core.specs.Limits.{clamp_coordinate}
use Rattle.geom_core.specs.Rects.{larger_of, meet_of, smaller_of}
use Rattle.geom_core.specs.Spec.{child_spec_of, default_size_of, remaining_of, resolve_of}
use Rattle.geom_core.specs.declared.color.Argb.{Argb}
use Rattle.geom_core.specs.declared.geometry.Size.{Size}
use Rattle.view_model.proofs.ExampleViews.{view}
use Rattle.view_model.specs.declared.facts.Facts.{Facts}
use Rattle.view_model.specs.declared.class.Class.TheVariants as class
use Rattle.view_model.specs.declared.visibility.Visibility.TheVariants.{Invisible}
use Rattle.view_model.specs.CellText.{cell_in, lines_for}
use Rattle.view_model.specs.Facts.{new_facts}
use Rattle.view_model.specs.Forest.{Forest, Nothing, Branch}
use Rattle.view_model.specs.FrameLayout.{second_spec}
use Rattle.view_model.specs.Geometry.{Laid}
use Rattle.view_model.specs.Glyphs.{glyph_of}
use Rattle.view_model.specs.Layout.{full_layout}
use Rattle.view_model.specs.Painting.{picture}
use Rattle.view_model.specs.PlainTree.{PlainView}
use Rattle.view_model.specs.TextView.{cells_in}
use Rattle.view_model.specs.Visible.{visible_rect}
use Rattle.view_model.specs.Font.{font}

-- glyphs: of the first character of the font, of the last, of those beside them, and right of a glyph
a_space_is_empty : glyph_of 32 2 ≡ 0
unfolding glyph_of font
a_space_is_empty = refl

an_exclamation_mark_has_one_column : glyph_of 33 2 ≡ 0x5f
unfolding glyph_of font
an_exclamation_mark_has_one_column = refl

an_i_has_a_column : glyph_of 73 2 ≡ 0x7f
unfolding glyph_of font
an_i_has_a_column = refl

a_tilde_is_the_last : glyph_of 126 4 ≡ 0x08
unfolding glyph_of font
a_tilde_is_the_last = refl

the_next_character_is_a_box : glyph_of 127 0 ≡ 0x7f
unfolding glyph_of font
the_next_character_is_a_box = refl

a_control_character_is_a_box : glyph_of 31 1 ≡ 0x41
unfolding glyph_of font
a_control_character_is_a_box = refl

the_sixth_column_is_empty : glyph_of 126 5 ≡ 0
unfolding glyph_of font
the_sixth_column_is_empty = refl

match : ℤ
match = negsuc 0

at : ℕ → ℤ → ℤ → ℤ → ℤ → Laid
at number left top right bottom = record { number = number; rect = record { left = left; top = top; right = right; bottom = bottom } }

color : ℕ → Argb
color code = record { 0 = code }

-- a blue group of 4 by 3 pixels with a padding of 1 pixel on each side
group : Facts
group = record (new_facts match match) { background = color 0xff00_00ff; padding = record { left = pos 1; top = pos 1; right = pos 1; bottom = pos 1 } }

-- a red view of 10 by 10 pixels in it, half transparent, which begins at the corner of the group
patch : Facts
patch = record (new_facts (pos 10) (pos 10)) { background = color 0x80ff_0000; margins = record { left = negsuc 0; top = negsuc 0; right = pos 0; bottom = pos 0 } }

patched : Facts → Facts → Forest PlainView
patched outer inner = Branch (view 1 class.FrameLayout outer) (Branch (view 2 class.View inner) Nothing Nothing) Nothing

window : Size
window = record { w = pos 4; h = pos 3 }

blue : ℕ → List Argb
blue count = replicate count (color 0xff00_00ff)

violet : ℕ → List Argb
violet count = replicate count (color 0xff80_007f)

padding_cuts_off_what_is_blended : picture 4 3 (full_layout (patched group patch) window) (patched group patch) ≡ blue 5 ++ violet 2 ++ blue 5
unfolding match view color group patch patched window blue violet clamp_coordinate child_spec_of default_size_of remaining_of resolve_of second_spec alpha_of red_of green_of blue_of mixed opaque_of blend_of
padding_cuts_off_what_is_blended = refl

-- the same without the clip, and with a view that is not drawn
an_open_padding_cuts_off_nothing : picture 4 3 (full_layout (patched (record group { clip = false }) patch) window) (patched (record group { clip = false }) patch) ≡ violet 12
unfolding match view color group patch patched window violet clamp_coordinate child_spec_of default_size_of remaining_of resolve_of second_spec alpha_of red_of green_of blue_of mixed opaque_of blend_of
an_open_padding_cuts_off_nothing = refl

an_invisible_view_draws_nothing : picture 4 3 (full_layout (patched group (record patch { visibility = Invisible })) window) (patched group (record patch { visibility = Invisible })) ≡ blue 12
unfolding match view color group patch patched window blue clamp_coordinate child_spec_of default_size_of remaining_of resolve_of second_spec alpha_of red_of green_of blue_of mixed opaque_of blend_of
an_invisible_view_draws_nothing = refl

nothing_that_lies_nowhere_is_drawn : picture 2 1 [] (patched group patch) ≡ color 0xff00_0000 ∷ color 0xff00_0000 ∷ []
unfolding match view color group patch patched
nothing_that_lies_nowhere_is_drawn = refl

-- a group that is scrolled by 1 pixel: its child is higher
a_scrolled_child_is_drawn_higher :
    picture 1 3 (at 1 (pos 0) (pos 0) (pos 1) (pos 3) ∷ at 2 (pos 0) (pos 2) (pos 1) (pos 3) ∷ [])
    (patched (record (new_facts match match) { offset = pos 1 }) (record (new_facts match match) { background = color 0xff00_00ff }))
    ≡ color 0xff00_0000 ∷ color 0xff00_00ff ∷ color 0xff00_0000 ∷ []
unfolding match view at color patched alpha_of red_of green_of blue_of mixed opaque_of blend_of
a_scrolled_child_is_drawn_higher = refl

-- the letter I in a cell: its first two rows
letter : Forest PlainView
letter = Branch (record { number = 1; class = class.TextView; facts = new_facts match match; text = codes "I" }) Nothing Nothing

black : Argb
black = color 0xff00_0000

white : Argb
white = color 0xffff_ffff

a_glyph_is_inked :
    picture 6 2 (at 1 (pos 0) (pos 0) (pos 6) (pos 8) ∷ []) letter
    ≡ (black ∷ white ∷ white ∷ white ∷ black ∷ black ∷ []) ++ (black ∷ black ∷ white ∷ black ∷ black ∷ black ∷ [])
unfolding match at letter color black white cells_in lines_for cell_in glyph_of alpha_of red_of green_of blue_of mixed opaque_of blend_of font
a_glyph_is_inked = refl

-- what is seen of views: a child within its group's padding, a view within its group's bounds, and one that has no
-- bounds
a_child_is_seen_within_the_padding : visible_rect (patched group patch) (full_layout (patched group patch) window) window 2 ≡ record { left = pos 1; top = pos 1; right = pos 3; bottom = pos 2 }
unfolding match view color group patch patched window clamp_coordinate child_spec_of default_size_of remaining_of resolve_of second_spec meet_of larger_of smaller_of
a_child_is_seen_within_the_padding = refl

a_scrolled_child_is_seen_higher :
    visible_rect (patched (record (new_facts match match) { offset = pos 2 }) patch) (at 1 (pos 0) (pos 1) (pos 4) (pos 3) ∷ at 2 (pos 1) (pos 2) (pos 9) (pos 3) ∷ []) window 2
    ≡ record { left = pos 1; top = pos 1; right = pos 4; bottom = pos 2 }
unfolding match view at color patch patched window meet_of larger_of smaller_of
a_scrolled_child_is_seen_higher = refl

what_lies_nowhere_is_not_seen : visible_rect (patched group patch) (at 2 (pos 0) (pos 0) (pos 4) (pos 3) ∷ []) window 2 ≡ record { left = pos 0; top = pos 0; right = pos 0; bottom = pos 0 }
unfolding match view at color group patch patched window meet_of larger_of smaller_of
what_lies_nowhere_is_not_seen = refl
