-- What a world keeps, if its tree is another one.
use Rattle.std.proofs.Common.{◌≡◌, ◌∙◌, ℕ, arith, ap, refl, sym, subst}
use Rattle.std.specs.Prelude.{Box, List, OnErr, OnOk, Option, Some, Result, Ok, Err}
use Rattle.std.specs.declared.alloc.Global.{Global}
use Rattle.damage_rect.specs.declared.bounding.Damage.{Damage}
use Rattle.pixel_raster.specs.Raster.{size_of}
use Rattle.saved_state.specs.Restored.{Restates}
use Rattle.saved_state.specs.Saving.{OffsetsFit}
use Rattle.saved_state.specs.State.{StateEntry}
use Rattle.seen_edits.proofs.ShownLaws.{shows_on}
use Rattle.seen_edits.specs.Shown.{KeepsShown}
use Rattle.size_hooks.specs.Hook.{Hook}
use Rattle.traversal.specs.Changing.{FitAll}
use Rattle.tree_edits.specs.Keeping.{KeepsViews}
use Rattle.tree_edits.specs.declared.edits.Edit.{Edit}
use Rattle.view_model.specs.declared.fault.Fault.{Fault}
use Rattle.view_model.specs.Forest.{Branch, Forest, Nothing, count_of}
use Rattle.touch_dispatch.specs.gesture.Kept.{Kept}
use Rattle.kept_views.specs.Kept.{IsConsistent}
use Rattle.view_tree.specs.Rows.{Row}
use Rattle.view_tree.specs.Views.{Views, geometry_of, plain_of}
use Rattle.view_world.specs.screen.Changed.{LeavesViews}
use Rattle.world_parts.specs.Places.{hooks_in}
use Rattle.view_world.specs.screen.KeyedScreen.{KeyedScreen}
use Rattle.view_world.specs.screen.Sound.{IsSound, keyed}
use Rattle.view_world.specs.declared.screen.Screen.TheInside.{Inside}
use Rattle.world_parts.specs.declared.fault.StepFault.{StepFault}
use Rattle.world_replies.specs.declared.response.Response.{Response}
use Rattle.view_world.proofs.touches.EditedCaught.{Stays, edit_stays, same_stays}
use Rattle.view_world.proofs.touches.GestureAfterReports.{restored_stays}

nowhere : (tree : Forest Row) → count_of tree ≡ 0 → tree ≡ Nothing
nowhere Nothing none = refl
nowhere (Branch row kids siblings) none = absurd (omega (arith, none))

pub sound_stays : (inside : Inside) (new : Views) (damage : Damage) → KeepsShown (size_of inside.surface) inside.damage.rect damage.rect inside.tree new → Stays inside.tree new inside.gesture → IsConsistent new
    → FitAll (geometry_of new) → OffsetsFit (plain_of new) → IsSound inside → IsSound (record inside { tree = new; damage = damage })
sound_stays inside new damage shown stays consistent narrow offsets sound = record {
  consistent = consistent;
  caught = stays.caught sound.caught;
  closed = λ number none. sound.closed number (sym (stays.numbers number) ∙ none);
  room = let count = stays.count in let room = sound.room in omega arith;
  armable = λ none. nowhere new.tree (stays.count ∙ ap count_of (sound.armable none));
  down = sound.down;
  narrow = narrow;
  offsets = offsets;
  shows = shows_on inside.surface inside.damage.rect damage.rect inside.tree new sound.shows shown;
}

-- an edit that adds and removes no view was made, or none was
pub result_stays : (old new : Views) (edit : Edit) (kept : Kept) (result : Result (Option ℕ) Fault) → LeavesViews edit → OnOk result (KeepsViews old new edit) → OnErr result (new ≡ old)
    → Stays old new kept
result_stays old new edit kept (Ok number) leaves keeps same = edit_stays old new edit kept leaves keeps
result_stays old new edit kept (Err fault) leaves keeps same = same_stays old new kept same

-- a state was taken up, or it was not
pub sound_restored : (inside : Inside) (new : Views) (damage : Damage) (entries : List StateEntry) (result : Result Response StepFault) → KeepsShown (size_of inside.surface) inside.damage.rect damage.rect inside.tree new
    → OnOk result (Restates entries inside.tree new) → OnErr result (new ≡ inside.tree) → geometry_of new ≡ geometry_of inside.tree → IsConsistent new → OffsetsFit (plain_of new)
    → IsSound inside → IsSound (record inside { tree = new; damage = damage })
sound_restored inside new damage entries result shown restates same geometry consistent offsets sound =
    sound_stays inside new damage shown (restored_stays inside.tree new entries inside.gesture result restates same) consistent (subst FitAll (sym geometry) sound.narrow) offsets sound

-- where there is a table, the hooks of the screen are those in it
pub with_table : (inside : Inside) (table : Box (List Hook) Global) (hooks : List Hook) → inside.hooks ≡ Some table → hooks ≡ table.value → record (keyed inside) { hooks = hooks } ≡ keyed inside
with_table inside table hooks is same = ap (λ (hooks : List Hook). let w : KeyedScreen = record (keyed inside) { hooks = hooks } in w) (same ∙ sym (ap hooks_in is))
