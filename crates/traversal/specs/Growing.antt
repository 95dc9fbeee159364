-- How caches grow in a pass and in a frame: under which specs a view is measured there, and which views hooks edit.
use Rattle.std.specs.Prelude.{◌≡◌, ◌⊎◌, ◌<◌, ◌++◌, ℕ, zero, suc, true, false, if◌then◌else◌, List, [], ◌∷◌, Option}
use Rattle.std.specs.Prelude.{Some, None}
use Rattle.geom_core.specs.declared.geometry.Size.{Size}
use Rattle.kept_views.specs.Pressing.{path_of}
use Rattle.measure_pass.specs.Caches.{AskedAt}
use Rattle.size_hooks.specs.Hook.{Hook}
use Rattle.size_hooks.specs.Hooks.{hook_of}
use Rattle.view_model.specs.declared.changes.NumEdit.{NumEdit}
use Rattle.view_model.specs.Facts.{is_shown}
use Rattle.view_model.specs.Forest.{Forest, Nothing, Branch}
use Rattle.view_model.specs.Layout.{children_of, course_by, for_layout, full_layout, root_specs}
use Rattle.view_model.specs.Measuring.{Specs}
use Rattle.view_model.specs.PlainTree.{PlainView}
use Rattle.view_tree.specs.tree.Requests.{among}
use Rattle.view_tree.specs.Rows.{Row, count_of_key, head_view, part_from}
use Rattle.view_tree.specs.Views.{Held, specs_of}
use Rattle.traversal.specs.Frames.{after_pass, edits_of, fired_in}

-- the last specs of the view at this place of a list, if it takes part in layout
abbrev pub LastAt : (ℕ → Held) → Forest Row → ℕ → Specs → Type 0
LastAt held Nothing place specs = ⊥
LastAt held (Branch row kids siblings) zero specs =
    (is_shown row.view.facts ≡ true) × (specs ≡ specs_of (held row.key).state)
LastAt held (Branch row kids siblings) (suc place) specs = LastAt held siblings place specs

-- those under which a view that is measured under good ones asks for the child at this place
abbrev pub AskedOf : PlainView → Forest PlainView → (Specs → Type 0) → ℕ → Specs → Type 0
AskedOf view below ok place other =
    (specs : Specs) × ok specs × AskedAt (course_by (for_layout view) (children_of below) specs).kids place other

-- the view of this number is measured under these specs, if each view of a list is under those that are good at its
-- place
abbrev pub IsMeasuredIn : (ℕ → Specs → Type 0) → Forest PlainView → ℕ → Specs → Type 0
IsMeasuredIn ok Nothing number specs = ⊥
IsMeasuredIn ok (Branch view below after) number specs =
    ((view.number ≡ number) × ok 0 specs)
    ⊎
    (IsMeasuredIn (AskedOf view below (ok 0)) below number specs ⊎ IsMeasuredIn (λ place. ok (suc place)) after
    number specs)

-- so it is in a pass, from the root down, in a window of this size; a root that is gone is not measured
abbrev pub IsMeasuredByPass : Forest PlainView → Size → ℕ → Specs → Type 0
IsMeasuredByPass Nothing window number specs = ⊥
IsMeasuredByPass (Branch view below after) window number specs =
    (is_shown view.facts ≡ true)
    × IsMeasuredIn (λ place other. other ≡ root_specs window view.facts) (Branch view below after) number specs

-- so it is in a pass of a frame
abbrev pub IsMeasuredByFrame : Forest PlainView → List Hook → Size → ℕ → Specs → Type 0
IsMeasuredByFrame tree hooks window number specs =
    let pass = after_pass tree hooks window in
    IsMeasuredByPass tree window number specs ⊎ ((pass.fired ≡ true) × IsMeasuredByPass pass.tree window number specs)

-- the edits of a hook that fires, if one does
abbrev pub edits_fired : List Hook → Option ℕ → List NumEdit
edits_fired hooks None = []
edits_fired hooks (Some view) = edits_of (hook_of hooks view)

-- those of the hook that fires in a pass
abbrev pub pass_edits : Forest PlainView → List Hook → Size → List NumEdit
pass_edits tree hooks window = edits_fired hooks (fired_in hooks (full_layout tree window))

-- those of the hooks that fire in a frame
abbrev pub frame_edits : Forest PlainView → List Hook → Size → List NumEdit
frame_edits tree hooks window =
    let pass = after_pass tree hooks window in
    pass_edits tree hooks window ++ (if pass.fired then pass_edits pass.tree pass.hooks window else [])

-- one of these edits is of the view of this number
abbrev pub IsEdited : List NumEdit → ℕ → Type 0
IsEdited [] number = ⊥
IsEdited (edit ∷ edits) number = (edit.view ≡ number) ⊎ IsEdited edits number

-- the view of this key is edited by none of these edits, and is above no view that is
abbrev pub IsUnedited : Forest Row → List NumEdit → ℕ → Type 0
IsUnedited tree edits key =
    (view : ℕ) → 0 < count_of_key view tree → IsEdited edits (head_view (part_from view tree)).number
    → among key (path_of view tree) ≡ false

-- it is none of these views, and is above none
abbrev pub IsOffPaths : List ℕ → Forest Row → ℕ → Type 0
IsOffPaths views tree key = (view : ℕ) → among view views ≡ true → among key (path_of view tree) ≡ false
