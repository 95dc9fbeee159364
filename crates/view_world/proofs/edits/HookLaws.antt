-- Lines that arm hooks, in terms of the plain world.
use Rattle.std.proofs.Common.{◌≡◌, ℕ, Bool, true, false, List, [], ◌∷◌, ◌++◌, length, refl, sym, ◌∙◌, ap, inl, inr}
use Rattle.std.proofs.lemmas.Bool.{cases_eq, eq-eqb, ne_eqb}
use Rattle.std.specs.Prelude.{Option, None, Some, pos, is_none}
use Rattle.std.specs.List.{list_all}
use Rattle.std.specs.Option.{option_map, unwrap_or}
use Rattle.geom_core.specs.declared.geometry.Rect.{Rect}
use Rattle.geom_core.specs.declared.geometry.Size.{Size}
use Rattle.size_hooks.specs.Hook.{Hook}
use Rattle.size_hooks.specs.Hooks.{armed, hook_of}
use Rattle.traversal.specs.Changing.{FitAll}
use Rattle.traversal.specs.Narrow.{IsNarrow}
use Rattle.view_model.specs.Forest.{Forest}
use Rattle.view_model.specs.Geometry.{Laid, rect_in, size_of_rect}
use Rattle.view_model.specs.PlainTree.{PlainView, view_in}
use Rattle.view_model.specs.Refusals.{refusal_numbered}
use Rattle.view_model.specs.declared.changes.NumEdit.{NumEdit}
use Rattle.view_model.specs.Numbers.{max_hooks, too_many_hooks}
use Rattle.view_world.specs.screen.KeyedScreen.{KeyedScreen, geometry_in, world_of}
use Rattle.world_parts.specs.Reply.{Done, Refused}
use Rattle.view_world.specs.world.Step.{hook_asked, hooked, is_full, may_change, size_in}
use Rattle.world_parts.specs.World.{World}

-- the edits of a hook, after those that have their numbers already
abbrev pub after_edits : List NumEdit → Option (List NumEdit) → Option (List NumEdit)
after_edits edits more = option_map (λ (more : List NumEdit). edits ++ more) more

-- whether all edits may be made
abbrev pub are_made : Forest PlainView → List NumEdit → Bool
are_made tree edits = list_all (λ (edit : NumEdit). may_change (view_in tree edit.view) edit.change) edits

pub asked_well : (world : World) (number : ℕ) (bad : Bool) (found : Option (List NumEdit)) (edits : List NumEdit) → found ≡ Some edits → are_made world.tree edits ≡ true → bad ≡ false
    → hook_asked world number bad found ≡ hooked world number edits
asked_well world number bad found edits e all b = rw (e, all, b) refl

not_full : (hooks : List Hook) (number : ℕ) → ((length hooks ≡ max_hooks) × (hook_of hooks number ≡ None) → ⊥) → is_full hooks number ≡ false
not_full hooks number room = elim (cases_eq (length hooks) max_hooks) [
  | inl e ↦ rw (eq-eqb (length hooks) max_hooks e) (some (hook_of hooks number) (λ none. room (e, none)))
  | inr ne ↦ rw (ne_eqb (length hooks) max_hooks ne) refl
]
  where
    some : (found : Option Hook) → (found ≡ None → ⊥) → is_none found ≡ false
    some None is = absurd (is refl)
    some (Some hook) is = refl

-- the hook of a view is armed, or as many are armed as may be
pub armed_world : (now : KeyedScreen) (new : List Hook) (number : ℕ) (reported : Size) (edits : List NumEdit) → reported ≡ size_in (geometry_in now.stage now.views) number
    → new ≡ armed (record { view = number; reported = reported; edits = edits }) now.hooks → ((length now.hooks ≡ max_hooks) × (hook_of now.hooks number ≡ None) → ⊥)
    → hooked (world_of now) number edits ≡ Done (world_of (record now { hooks = new })) []
armed_world now new number reported edits size is room =
    rw (not_full now.hooks number room)
    (ap (λ (size : Size). Done (world_of (record now { hooks = armed (record { view = number; reported = size; edits = edits }) now.hooks })) []) (sym size)
    ∙ ap (λ (l : List Hook). Done (world_of (record now { hooks = l })) []) (sym is))

pub full_world : (now : KeyedScreen) (number : ℕ) (edits : List NumEdit) → (length now.hooks ≡ max_hooks) × (hook_of now.hooks number ≡ None)
    → hooked (world_of now) number edits ≡ Refused (refusal_numbered too_many_hooks)
full_world now number edits full = rw (eq-eqb (length now.hooks) max_hooks full.0, full.1) refl

-- a view that has bounds fits
pub rect_fits : (geometry : List Laid) (number : ℕ) (rect : Rect) → FitAll geometry → rect_in geometry number ≡ Some rect → IsNarrow rect
rect_fits [] number rect fit found = absurd cc
rect_fits (laid ∷ geometry) number rect fit found = elim (cases_eq laid.number number) [
  | inl e ↦ let here : Some laid.rect ≡ Some rect = rw (eq-eqb laid.number number e) at found in let same : laid.rect ≡ rect = cc in rw (← same) fit.0
  | inr ne ↦ let later : rect_in geometry number ≡ Some rect = rw (ne_eqb laid.number number ne) at found in rect_fits geometry number rect fit.1 later
]

-- the size of a view that has bounds, and nothing if it has none
abbrev pub size_or : Option Rect → Size
size_or found = unwrap_or (option_map size_of_rect found) (record { w = pos 0; h = pos 0 })
