-- For its own sake: the numbers of the code are those of the definitions.
use Rattle.std.specs.Prelude.{◌≡◌, [], ◌∷◌, refl}
use Rattle.view_model.specs.declared.dimensions.TheConstants.{MAX_PIXELS, MIN_PIXELS}
use Rattle.view_model.specs.declared.font.TheConstants.{FIRST_GLYPH, FONT, OTHER_GLYPH}
use Rattle.view_model.specs.declared.limits.TheConstants.{CELL_HEIGHT, CELL_WIDTH, MAX_DEPTH, MAX_EDITS, MAX_FILE, MAX_HOOKS, MAX_INSET, MAX_RESOURCES, MAX_SIZE, MAX_VIEWS, MAX_WEIGHT, MIN_MARGIN, NORMAL_DPI, NUMBERS_END}
use Rattle.view_model.specs.declared.refusals.TheConstants.{BAD_STATE, BAD_VALUE, CYCLE, DEPTH, DPI_LATE, DUPLICATE, FULL, HAS_ROOT, HOOKS, HOOK_EDIT, LONG_FILE, LONG_LINE, MISSING, NOT_GROUP, NO_FRAME, NO_ROOT, NO_SIZE, NO_VIEW, NO_WINDOW, POINTER, RANGE, SCROLL_FULL, STATE_CLASS, SYNTAX, THEME_REF, UNKNOWN_CLASS, UNRESOLVED, UNSETTLED, VIEWS, WRONG_CLASS}
use Rattle.view_model.specs.declared.verbs.TheConstants.{ABOVE, ALIGN_BOTTOM, ALIGN_END, ALIGN_LEFT, ALIGN_RIGHT, ALIGN_START, ALIGN_TOP, BELOW, CENTER, CENTER_H, CENTER_V, END_OF, LEFT_OF, PARENT_BOTTOM, PARENT_END, PARENT_LEFT, PARENT_RIGHT, PARENT_START, PARENT_TOP, RIGHT_OF, START_OF}
use Rattle.view_model.specs.Font.{font}
use Rattle.view_model.specs.Glyphs.{no_glyph}
use Rattle.view_model.specs.Numbers.{bad_state, bad_value, cell_height, cell_width, cycle, duplicate, first_glyph, has_root, hook_edit, late_dpi, long_file, long_line, max_depth, max_edits, max_file, max_hooks, max_inset, max_pixels, max_resources, max_size, max_views, max_weight, min_margin, min_pixels, missing_file, no_frame, no_root, no_size, no_view, no_window, normal_dpi, not_group, numbers_end, out_of_range, scroll_full, state_class, syntax_fault, theme_ref, too_deep, too_many_hooks, too_many_resources, too_many_views, unknown_class, unresolved, unsettled, wrong_class, wrong_pointer}
use Rattle.view_model.specs.Verbs as verb

refusals :
    UNRESOLVED ∷ THEME_REF ∷ BAD_VALUE ∷ FULL ∷ DUPLICATE ∷ NO_SIZE ∷ CYCLE ∷ VIEWS ∷ DEPTH ∷ NOT_GROUP
    ∷ SCROLL_FULL ∷ UNKNOWN_CLASS ∷ HOOKS ∷ HOOK_EDIT ∷ BAD_STATE ∷ STATE_CLASS ∷ NO_VIEW ∷ WRONG_CLASS ∷ RANGE
    ∷ SYNTAX ∷ LONG_LINE ∷ NO_WINDOW ∷ NO_ROOT ∷ HAS_ROOT ∷ UNSETTLED ∷ NO_FRAME ∷ POINTER ∷ MISSING
    ∷ LONG_FILE ∷ DPI_LATE ∷ []
    ≡
    unresolved ∷ theme_ref ∷ bad_value ∷ too_many_resources ∷ duplicate ∷ no_size ∷ cycle ∷ too_many_views
    ∷ too_deep ∷ not_group ∷ scroll_full ∷ unknown_class ∷ too_many_hooks ∷ hook_edit ∷ bad_state ∷ state_class
    ∷ no_view ∷ wrong_class ∷ out_of_range ∷ syntax_fault ∷ long_line ∷ no_window ∷ no_root ∷ has_root
    ∷ unsettled ∷ no_frame ∷ wrong_pointer ∷ missing_file ∷ long_file ∷ late_dpi ∷ []
refusals = refl

counts :
    MAX_VIEWS ∷ MAX_RESOURCES ∷ MAX_HOOKS ∷ MAX_EDITS ∷ MAX_DEPTH ∷ NUMBERS_END ∷ []
    ≡ max_views ∷ max_resources ∷ max_hooks ∷ max_edits ∷ max_depth ∷ numbers_end ∷ []
counts = refl

dimensions : MIN_PIXELS ∷ MAX_PIXELS ∷ [] ≡ min_pixels ∷ max_pixels ∷ []
dimensions = refl

lengths : MAX_SIZE ∷ MAX_INSET ∷ MIN_MARGIN ∷ [] ≡ max_size ∷ max_inset ∷ min_margin ∷ []
lengths = refl

others : MAX_WEIGHT ∷ NORMAL_DPI ∷ MAX_FILE ∷ [] ≡ max_weight ∷ normal_dpi ∷ max_file ∷ []
others = refl

cells : CELL_WIDTH ∷ CELL_HEIGHT ∷ [] ≡ cell_width ∷ cell_height ∷ []
cells = refl

verbs :
    LEFT_OF ∷ RIGHT_OF ∷ ABOVE ∷ BELOW ∷ ALIGN_LEFT ∷ ALIGN_TOP ∷ ALIGN_RIGHT ∷ ALIGN_BOTTOM ∷ START_OF
    ∷ END_OF ∷ ALIGN_START ∷ ALIGN_END ∷ PARENT_LEFT ∷ PARENT_TOP ∷ PARENT_RIGHT ∷ PARENT_BOTTOM ∷ PARENT_START
    ∷ PARENT_END ∷ CENTER ∷ CENTER_H ∷ CENTER_V ∷ []
    ≡
    verb.left_of ∷ verb.right_of ∷ verb.above ∷ verb.below ∷ verb.align_left ∷ verb.align_top
    ∷ verb.align_right ∷ verb.align_bottom ∷ verb.start_of ∷ verb.end_of ∷ verb.align_start ∷ verb.align_end
    ∷ verb.parent_left ∷ verb.parent_top ∷ verb.parent_right ∷ verb.parent_bottom ∷ verb.parent_start
    ∷ verb.parent_end ∷ verb.center ∷ verb.center_h ∷ verb.center_v ∷ []
verbs = refl

pub font_of_code : FONT ≡ font
unfolding font
font_of_code = refl

other_glyph : OTHER_GLYPH ≡ no_glyph
other_glyph = refl

glyphs : FIRST_GLYPH ≡ first_glyph
glyphs = refl
