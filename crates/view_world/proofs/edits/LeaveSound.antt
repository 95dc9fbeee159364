-- What a world keeps, if a view is removed with all that is kept of it.
use Rattle.std.proofs.Common.{◌≡◌, ℕ, ◌≤◌, Bool, true, false, List, refl, ap, sym, ◌∙◌, arith, inl, inr}
use Rattle.std.proofs.lemmas.Bool.{cases_Bool}
use Rattle.std.specs.Prelude.{◌&&◌, not, Box, Some}
use Rattle.std.specs.declared.alloc.Global.{Global}
use Rattle.damage_rect.specs.declared.bounding.Damage.{Damage}
use Rattle.pixel_raster.specs.Raster.{size_of}
use Rattle.saved_state.specs.Saving.{OffsetsFit}
use Rattle.seen_edits.proofs.ShownLaws.{shows_on}
use Rattle.seen_edits.specs.Shown.{KeepsShown}
use Rattle.size_hooks.specs.Hook.{Hook}
use Rattle.touch_dispatch.specs.gesture.Kept.{Kept, gesture_of, is_open}
use Rattle.touch_dispatch.specs.reaching.TreeEvents.{part_at}
use Rattle.traversal.specs.Changing.{FitAll}
use Rattle.tree_edits.specs.Keeping.{KeepsViews}
use Rattle.tree_edits.specs.declared.edits.Edit.TheVariants as edit
use Rattle.view_model.specs.Forest.{count_of}
use Rattle.view_model.specs.PlainTree.{numbers_of, part_of, pruned}
use Rattle.view_tree.proofs.forest.ForestLaws.{times_in}
use Rattle.view_tree.proofs.forest.NumberLaws.{sum-pruned_at_key}
use Rattle.kept_views.specs.Kept.{IsConsistent}
use Rattle.view_tree.specs.Rows.{Row}
use Rattle.view_tree.specs.Views.{IsLive, IsTree, Views, geometry_of, held_of, number_of, plain_of}
use Rattle.world_parts.proofs.touches.CaughtLaws.{times-plain}
use Rattle.world_parts.proofs.trees.PartCounts.{none_numbered, times-pruned}
use Rattle.world_parts.proofs.edits.RemovalLaws.{gesture_removed, part_numbers}
use Rattle.view_world.specs.screen.Sound.{IsSound}
use Rattle.world_parts.specs.Touching.{all_closed, is_among}
use Rattle.view_world.specs.declared.screen.Screen.TheInside.{Inside}

never : (b : Bool) → (b && not true) ≡ false
never true = refl
never false = refl

pub sound_removed : (inside : Inside) (new : Views) (damage : Damage) → KeepsShown (size_of inside.surface) inside.damage.rect damage.rect inside.tree new → (kept : Kept) (hooks : Box (List Hook) Global) (key : ℕ) → IsTree inside.tree → IsLive inside.tree key → KeepsViews inside.tree new (edit.Remove key)
    → plain_of new ≡ pruned (number_of inside.tree key) (plain_of inside.tree)
    → gesture_of kept ≡ all_closed (numbers_of (part_at inside.tree key)) (gesture_of inside.gesture)
    → ((number : ℕ) → is_open kept number ≡ (is_open inside.gesture number && not (is_among number (numbers_of (part_at inside.tree key)))))
    → IsConsistent new → FitAll (geometry_of new) → OffsetsFit (plain_of new) → IsSound inside → IsSound (record inside { tree = new; damage = damage; gesture = kept; hooks = Some hooks })
sound_removed inside new damage shown kept hooks key is live keeps plain cleared opened consistent narrow offsets sound =
    let parts = sum-pruned_at_key (λ (row : Row). 1) key inside.tree.tree (is.keys key) in
    let count = ap count_of keeps.tree in
    let room = sound.room in
    let next = keeps.next in
    record {
      consistent = consistent;
      caught = gesture_removed inside.tree new key inside.gesture kept is live plain cleared opened sound.caught;
      closed = λ number none. opened number ∙ elim (cases_Bool (is_among number (numbers_of (part_at inside.tree key)))) [
        | inl e ↦ rw e (never (is_open inside.gesture number))
        | inr e ↦
            let tree = plain_of inside.tree in
            let own = number_of inside.tree key in
            let once : times_in own tree ≤ 1 = let same = times-plain (held_of inside.tree) own inside.tree.tree in let few = is.numbers own in omega (arith, same, few) in
            let apart = none_numbered number (part_of own tree) (ap (is_among number) (sym (part_numbers inside.tree key is live)) ∙ e) in
            let pieces = times-pruned number own tree once in
            let left : times_in number (pruned own tree) ≡ 0 = ap (times_in number) (sym plain) ∙ times-plain (held_of new) number new.tree ∙ none in
            let whole = times-plain (held_of inside.tree) number inside.tree.tree in
            ap (λ (b : Bool). b && not (is_among number (numbers_of (part_at inside.tree key)))) (sound.closed number (omega (arith, apart, pieces, left, whole)))
      ];
      room = omega arith;
      armable = λ none. absurd cc;
      down = sound.down;
      narrow = narrow;
      offsets = offsets;
      shows = shows_on inside.surface inside.damage.rect damage.rect inside.tree new sound.shows shown;
    }
