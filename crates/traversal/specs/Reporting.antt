-- How sizes are reported, view by view, as 32 bits hold them.
use Rattle.std.specs.Prelude.{ℤ, ◌-ℤ◌, List, [], ◌∷◌}
use Rattle.std.specs.Int.{saturate_signed, w32}
use Rattle.geom_core.specs.declared.geometry.Rect.{Rect}
use Rattle.geom_core.specs.declared.geometry.Size.{Size}
use Rattle.size_hooks.specs.Hook.{Hook}
use Rattle.size_hooks.specs.Hooks.{reported_as}
use Rattle.view_model.specs.Geometry.{Laid, size_of_rect}

-- a length, or the nearest one that 32 bits hold
abbrev pub near : ℤ → ℤ
near length = saturate_signed w32 length

abbrev pub near_size : Rect → Size
near_size rect = record { w = near (rect.right -ℤ rect.left); h = near (rect.bottom -ℤ rect.top) }

-- the hooks once each view of a geometry, in turn, has reported its size
abbrev pub reported_each : List Laid → List Hook → List Hook
reported_each [] hooks = hooks
reported_each (laid ∷ geometry) hooks = reported_each geometry (reported_as laid.number (size_of_rect laid.rect) hooks)

-- the same, with the nearest sizes
abbrev pub reported_over : List Laid → List Hook → List Hook
reported_over [] hooks = hooks
reported_over (laid ∷ geometry) hooks = reported_over geometry (reported_as laid.number (near_size laid.rect) hooks)
