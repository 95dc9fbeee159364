-- The numbers of definitions: the limits of a tree, of what may be set of a view, of hooks, resources and layout files,
-- the cells of texts, and the refusals. The code names each of them once; `NumberLaws` says that its numbers are these.
use Rattle.std.specs.Prelude.{ℕ, ◌-◌, ◌*◌, ◌^◌, ℤ, pos, negsuc}

-- the most views of a tree
abbrev pub max_views : ℕ
max_views = 4096

-- the most resources that are defined
abbrev pub max_resources : ℕ
max_resources = 4096

-- the depth of the deepest view that a tree may have; a root is 1 deep
abbrev pub max_depth : ℕ
max_depth = 32

-- the numbers of views are below this
abbrev pub numbers_end : ℕ
numbers_end = 2 ^ 62

-- the greatest width, height or offset, in pixels
abbrev pub max_size : ℤ
max_size = pos 16777215

-- the greatest margin or padding on a side, in pixels
abbrev pub max_inset : ℤ
max_inset = pos 1048575

-- the least margin on a side, in pixels
abbrev pub min_margin : ℤ
min_margin = negsuc 1048574

-- the greatest weight and the greatest sum of weights, in 256ths
abbrev pub max_weight : ℕ
max_weight = 256 * 65535

-- the most hooks that are armed at a time
abbrev pub max_hooks : ℕ
max_hooks = 32

-- the most edits of a hook
abbrev pub max_edits : ℕ
max_edits = 8

-- the density of a screen that sets none, in dots an inch
abbrev pub normal_dpi : ℕ
normal_dpi = 160

-- the least and the greatest dimension of a layout file, in pixels
abbrev pub min_pixels : ℤ
min_pixels = negsuc (2 ^ 30 - 1)

abbrev pub max_pixels : ℤ
max_pixels = pos (2 ^ 30)

-- the colour of a new view's text: an opaque white
abbrev pub new_ink : ℕ
new_ink = 0xffff_ffff

-- the most bytes of a layout file
abbrev pub max_file : ℕ
max_file = 2 ^ 20

-- texts have fewer characters than this
abbrev pub text_end : ℕ
text_end = 2 ^ 31

-- the width and the height of a character's cell, in pixels
abbrev pub cell_width : ℕ
cell_width = 6

abbrev pub cell_height : ℕ
cell_height = 8

-- the first character of the font
abbrev pub first_glyph : ℕ
first_glyph = 32

-- the number of the last refusal; that of the first one is 1
abbrev pub last_refusal : ℕ
last_refusal = 43

-- the refusal of an attribute that names a resource which is not defined
abbrev pub unresolved : ℕ
unresolved = 12

-- of one whose value is of a theme
abbrev pub theme_ref : ℕ
theme_ref = 13

-- of one with a value that it does not take
abbrev pub bad_value : ℕ
bad_value = 14

-- of a resource more than there may be
abbrev pub too_many_resources : ℕ
too_many_resources = 15

-- of an element that has an attribute twice
abbrev pub duplicate : ℕ
duplicate = 16

-- of an element without a width or a height
abbrev pub no_size : ℕ
no_size = 17

-- of children of a relative layout that name one another in a circle
abbrev pub cycle : ℕ
cycle = 18

-- of a view more than a tree may have
abbrev pub too_many_views : ℕ
too_many_views = 19

-- of a view deeper than a tree may be
abbrev pub too_deep : ℕ
too_deep = 20

-- of a view whose parent is no group
abbrev pub not_group : ℕ
not_group = 21

-- of a second child where the parent takes one
abbrev pub scroll_full : ℕ
scroll_full = 22

-- of an element whose name is that of no class
abbrev pub unknown_class : ℕ
unknown_class = 23

-- of a hook more than may be armed
abbrev pub too_many_hooks : ℕ
too_many_hooks = 24

-- of an edit that no hook may make, or of one more than a hook may have
abbrev pub hook_edit : ℕ
hook_edit = 25

-- of bytes that are no saved state
abbrev pub bad_state : ℕ
bad_state = 26

-- of a saved state with the offset of a view that is no scroll view
abbrev pub state_class : ℕ
state_class = 27

-- of a line that names a view which is not there
abbrev pub no_view : ℕ
no_view = 28

-- of one that sets what a view of this class does not have
abbrev pub wrong_class : ℕ
wrong_class = 29

-- of one with a number outside its bounds
abbrev pub out_of_range : ℕ
out_of_range = 30

-- of one that the grammar does not have
abbrev pub syntax_fault : ℕ
syntax_fault = 31

-- of one that is too long
abbrev pub long_line : ℕ
long_line = 32

-- of one that wants a window, before there is one
abbrev pub no_window : ℕ
no_window = 33

-- of one that wants a root, where there is none
abbrev pub no_root : ℕ
no_root = 34

-- of a root where there is one
abbrev pub has_root : ℕ
has_root = 35

-- of a line that wants a settled frame
abbrev pub unsettled : ℕ
unsettled = 36

-- of one that wants a frame in this window
abbrev pub no_frame : ℕ
no_frame = 37

-- of a pointer that is down already, or is not
abbrev pub wrong_pointer : ℕ
wrong_pointer = 38

-- of a file that is missing, and of one that is too long
abbrev pub missing_file : ℕ
missing_file = 39

abbrev pub long_file : ℕ
long_file = 40

-- of a density for a screen on which there are views
abbrev pub late_dpi : ℕ
late_dpi = 41
