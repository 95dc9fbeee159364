-- What short frames leave, by computation.
use Rattle.std.specs.Prelude.{◌≡◌, ℕ, ℤ, pos, negsuc, refl, true, false, [], ◌∷◌}
use Rattle.geom_core.specs.Limits.{clamp_coordinate}
use Rattle.geom_core.specs.Spec.{child_spec_of, default_size_of, remaining_of, resolve_of}
use Rattle.geom_core.specs.declared.geometry.Size.{Size}
use Rattle.size_hooks.specs.Hook.{Hook}
use Rattle.view_model.specs.declared.changes.Change.TheVariants as change
use Rattle.view_model.specs.declared.class.Class.{Class}
use Rattle.view_model.specs.declared.class.Class.TheVariants as class
use Rattle.view_model.specs.Facts.{new_facts}
use Rattle.view_model.specs.Forest.{Forest, Nothing, Branch}
use Rattle.view_model.specs.Geometry.{Laid}
use Rattle.view_model.specs.LinearLayout.{after_share, alignment_on, claim, dim_on, extent, first_dim, first_length, greater, high_margin, high_padding, is_skipped, line_begin, low_margin, low_padding, margins_on, min_on, needed_breadth, padding_on, resolved_breadth, share, size_on, spec_on, used_before, where_even, where_weighted, whole_weight}
use Rattle.view_model.specs.PlainTree.{PlainView}
use Rattle.traversal.specs.Frames.{after_frame, frame_calls}

match : ℤ
match = negsuc 0

view : ℕ → Class → ℤ → PlainView
view number class width = record { number = number; class = class; facts = new_facts width match; text = [] }

-- a line as large as the window, with two views of these widths in it
tree : ℕ → ℕ → Forest PlainView
tree second third = Branch (view 1 class.LinearLayout match) (Branch (view 2 class.View (pos second)) Nothing (Branch (view 3 class.View (pos third)) Nothing Nothing)) Nothing

-- a hook of a view that has this width reported, which makes another view that wide
hook : ℕ → ℕ → ℕ → ℕ → ℕ → Hook
hook view width height other wide = record {
  view = view;
  reported = record { w = pos width; h = pos height };
  edits = record { view = other; change = change.Size (pos wide) match } ∷ [];
}

at : ℕ → ℕ → ℕ → Laid
at number left right = record { number = number; rect = record { left = pos left; top = pos 0; right = pos right; bottom = pos 20 } }

window : Size
window = record { w = pos 100; h = pos 20 }

-- the third view is laid out and has no size reported; the second pass lays out the second view as its hook has changed
-- it
a_hook_fires_once :
    after_frame (tree 10 20) (hook 3 0 0 2 40 ∷ []) window
    ≡ record { tree = tree 40 20; hooks = []; settled = true; fired = 1; geometry = at 1 0 100 ∷ at 2 0 40 ∷ at 3 40 60 ∷ [] }
unfolding match view tree hook at window clamp_coordinate child_spec_of default_size_of remaining_of resolve_of after_share alignment_on claim dim_on extent first_dim first_length greater high_margin high_padding is_skipped line_begin low_margin low_padding margins_on min_on needed_breadth padding_on resolved_breadth share size_on spec_on used_before where_even where_weighted whole_weight
a_hook_fires_once = refl

-- the second view has grown, and its hook makes the third one grow, whose hook is spent too
two_hooks_unsettle :
    after_frame (tree 45 20) (hook 2 40 20 3 30 ∷ hook 3 20 20 2 50 ∷ []) window
    ≡ record { tree = tree 50 30; hooks = []; settled = false; fired = 2; geometry = [] }
unfolding match view tree hook at window clamp_coordinate child_spec_of default_size_of remaining_of resolve_of after_share alignment_on claim dim_on extent first_dim first_length greater high_margin high_padding is_skipped line_begin low_margin low_padding margins_on min_on needed_breadth padding_on resolved_breadth share size_on spec_on used_before where_even where_weighted whole_weight
two_hooks_unsettle = refl

-- the hooks of a view that is not there and of one that has the size reported stay
other_hooks_stay :
    after_frame (tree 45 20) (hook 4 1 1 3 30 ∷ hook 3 20 20 2 50 ∷ hook 2 40 20 3 20 ∷ []) window
    ≡ record { tree = tree 45 20; hooks = hook 4 1 1 3 30 ∷ hook 3 20 20 2 50 ∷ []; settled = true; fired = 1; geometry = at 1 0 100 ∷ at 2 0 45 ∷ at 3 45 65 ∷ [] }
unfolding match view tree hook at window clamp_coordinate child_spec_of default_size_of remaining_of resolve_of after_share alignment_on claim dim_on extent first_dim first_length greater high_margin high_padding is_skipped line_begin low_margin low_padding margins_on min_on needed_breadth padding_on resolved_breadth share size_on spec_on used_before where_even where_weighted whole_weight
other_hooks_stay = refl

both_passes_measure : frame_calls (tree 45 20) (hook 2 40 20 3 30 ∷ []) window ≡ 6
unfolding match view tree hook at window clamp_coordinate child_spec_of default_size_of remaining_of resolve_of after_share alignment_on claim dim_on extent first_dim first_length greater high_margin high_padding is_skipped line_begin low_margin low_padding margins_on min_on needed_breadth padding_on resolved_breadth share size_on spec_on used_before where_even where_weighted whole_weight
both_passes_measure = refl
