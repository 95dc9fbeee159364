-- Views of which a pass asks nothing new.
use Rattle.std.specs.Prelude.{◌≡◌, ℕ, false}
use Rattle.geom_core.specs.declared.geometry.Size.{Size}
use Rattle.view_model.specs.Measuring.{Specs}
use Rattle.view_tree.specs.Views.{Views, number_of, plain_of, specs_of, state_of}
use Rattle.traversal.specs.Growing.{IsMeasuredByPass}

-- a view that a pass in a window of this size does not measure, or only under its last specs while it is not forced
abbrev pub IsUnasked : Views → Size → ℕ → Type 0
IsUnasked views window key =
    (specs : Specs) → IsMeasuredByPass (plain_of views) window (number_of views key) specs
    → ((state_of views key).forced ≡ false) × (specs_of (state_of views key) ≡ specs)
