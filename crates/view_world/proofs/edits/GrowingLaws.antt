-- What a world keeps and prints once it has got views, or has not.
use Rattle.std.proofs.Common.{◌≡◌, ◌≢◌, ◌∙◌, ℕ, ◌+◌, ◌*◌, ◌<◌, ◌≤◌, arith, true, false, List, refl, sym, ap, subst}
use Rattle.std.specs.Prelude.{◌==◌, ◌||◌, if◌then◌else◌, ℤ, Option, Some, None, Result, Ok, Err, OnErr, IfSome, Box}
use Rattle.std.specs.Option.{option_map}
use Rattle.std.specs.declared.alloc.Global.{Global}
use Rattle.std.specs.Result.{is_err}
use Rattle.std.proofs.lemmas.Bool.{ne_eqb}
use Rattle.saved_state.specs.Saving.{OffsetsFit}
use Rattle.pixel_raster.specs.Raster.{size_of}
use Rattle.seen_edits.proofs.ShownLaws.{shows_on}
use Rattle.size_hooks.specs.Hook.{Hook}
use Rattle.seen_edits.specs.Shown.{KeepsShown, Shows}
use Rattle.touch_dispatch.specs.gesture.Kept.{IsUnknown, Kept, gesture_of, is_open, with_place}
use Rattle.touch_targets.specs.Captures.{is_target}
use Rattle.touch_dispatch.specs.reaching.TreeEvents.{IsGestureIn, room_of}
use Rattle.touch_dispatch.specs.declared.log.Entry.{Entry}
use Rattle.touch_dispatch.specs.declared.log.Log.{Log}
use Rattle.traversal.specs.Changing.{FitAll}
use Rattle.tree_edits.specs.Applied.{AppliesEdit, IsAddable}
use Rattle.tree_edits.specs.Editing.{Add, new_view, outcome_of_add, outcome_of_edit}
use Rattle.tree_edits.specs.Keeping.{KeepsViews}
use Rattle.tree_edits.specs.Scene.{EditScene, scene_of}
use Rattle.tree_edits.specs.declared.edits.Edit.TheVariants as edit
use Rattle.view_model.specs.declared.fault.Fault.{Fault}
use Rattle.view_model.specs.Directed.{rtl_at, running}
use Rattle.view_model.specs.Forest.{Nothing, count_of}
use Rattle.view_model.specs.Growth.{grown_at, refusal_at}
use Rattle.view_model.specs.PlainTree.{single}
use Rattle.view_model.specs.Refusals.{PlainRefusal}
use Rattle.view_model.specs.declared.class.Class.{Class}
use Rattle.kept_views.specs.Kept.{IsConsistent}
use Rattle.view_tree.specs.tree.Directions.{running_below}
use Rattle.view_tree.specs.Rows.{Row, count_of_key, count_of_number, leaf}
use Rattle.view_tree.specs.Views.{IsTree, Views, geometry_of, held_of, number_of, plain_of, plain_rows}
use Rattle.view_tree.proofs.forest.NumberLaws.{count-with_child, number-leaf_own, sum-with_child}
use Rattle.world_parts.proofs.edits.FreshLaws.{free_next, none_from}
use Rattle.world_parts.proofs.touches.GrownCaught.{gesture_grown}
use Rattle.view_world.specs.screen.Changed.{CarriesOut}
use Rattle.view_world.specs.screen.KeyedScreen.{KeyedScreen, world_of}
use Rattle.view_world.specs.screen.Changed.{response_of}
use Rattle.world_replies.specs.Responses.{response_text}
use Rattle.world_parts.specs.Places.{HasNoneElse}
use Rattle.view_world.specs.screen.Sound.{IsSound}
use Rattle.world_parts.specs.Reply.{Done, Reply}
use Rattle.world_parts.specs.declared.fault.StepFault.{StepFault}
use Rattle.world_parts.specs.declared.fault.StepFault.TheVariants as fault
use Rattle.world_replies.specs.declared.response.Response.{Response}
use Rattle.view_world.specs.declared.screen.Screen.TheInside.{Inside}

-- what a call ensures if it has failed
pub failed : {A E : Type 0} (P : Type 0) (result : Result A E) → true ≡ is_err result → OnErr result P → P
failed P (Ok value) e h = absurd (cc)
failed P (Err error) e h = h

pub on_err : {A E : Type 0} (P : Type 0) (result : Result A E) → P → OnErr result P
on_err P (Ok value) h = tt
on_err P (Err error) h = h

-- an edit that was made is no fault
pub made_well : (P : Type 0) (made : Result (Option ℕ) Fault) (result : Result Response StepFault) → false ≡ is_err made → result ≡ response_of made → OnErr result P
made_well P (Ok number) result ok is = rw is tt
made_well P (Err error) result ok is = absurd (cc)

-- a refusal is one whatever the world is then
refused_any : (reply : Reply) (world other : KeyedScreen) (result : Result Response StepFault) → is_err result ≡ true → CarriesOut reply world result → CarriesOut reply other result
refused_any reply world other (Ok response) err reported = absurd (cc)
refused_any reply world other (Err (fault.Refused refusal)) err reported = reported
refused_any reply world other (Err fault.NoMemory) err reported = reported
refused_any reply world other (Err fault.Sink) err reported = reported
refused_any reply world other (Err fault.Shelf) err reported = reported

pub refused_still : (reply : Reply) (world other : KeyedScreen) (made : Result (Option ℕ) Fault) → true ≡ is_err made → CarriesOut reply world (response_of made) → CarriesOut reply other (response_of made)
refused_still reply world other (Ok number) err reported = absurd (cc)
refused_still reply world other (Err error) err reported = refused_any reply world other (response_of (Err error)) refl reported

-- places of views are not seen in the plain world
pub carried_with : (reply : Reply) (world : KeyedScreen) (gesture : Kept) (reported : List Entry) (hooks : List Hook) (result : Result Response StepFault) → gesture_of gesture ≡ gesture_of world.gesture
    → reported ≡ world.reported → hooks ≡ world.hooks → CarriesOut reply world result → CarriesOut reply (record world { gesture = gesture; reported = reported; hooks = hooks }) result
carried_with reply world gesture reported hooks result same entries armed carried =
    subst (λ (h : List Hook). CarriesOut reply (record world { gesture = gesture; reported = reported; hooks = h }) result) (sym armed)
    (subst (λ (t : List Entry). CarriesOut reply (record world { gesture = gesture; reported = t }) result) (sym entries) (with_gesture result carried))
  where
    with_gesture : (result : Result Response StepFault) → CarriesOut reply world result → CarriesOut reply (record world { gesture = gesture }) result
    with_gesture (Ok response) h =
        (h.0 ∙ ap (λ g. Done (record (world_of world) { gesture = g }) (response_text world.views world.surface world.reported world.saved response)) (sym same), h.1)
    with_gesture (Err (fault.Refused refusal)) h = h
    with_gesture (Err fault.NoMemory) h = h
    with_gesture (Err fault.Sink) h = h
    with_gesture (Err fault.Shelf) h = h

-- nothing has changed
pub same_world : (world : KeyedScreen) (views : Views) (gesture : Kept) (reported : List Entry) (hooks : List Hook) → views ≡ world.views → gesture ≡ world.gesture → reported ≡ world.reported → hooks ≡ world.hooks
    → record world { views = views; gesture = gesture; reported = reported; hooks = hooks } ≡ world
same_world world views gesture reported hooks one two three four =
    ap (λ (v : Views). let w : KeyedScreen = record world { views = v; gesture = gesture; reported = reported; hooks = hooks } in w) one
    ∙ ap (λ (g : Kept). let w : KeyedScreen = record world { gesture = g; reported = reported; hooks = hooks } in w) two
    ∙ ap (λ (t : List Entry). let w : KeyedScreen = record world { reported = t; hooks = hooks } in w) three
    ∙ ap (λ (h : List Hook). let w : KeyedScreen = record world { hooks = h } in w) four

pub sound_same : (inside : Inside) (views : Views) (gesture : Kept) (log : Log) (hooks : Option (Box (List Hook) Global)) → views ≡ inside.tree → gesture ≡ inside.gesture → 3 * count_of inside.tree.tree ≤ room_of log
    → hooks ≢ None → IsSound inside → IsSound (record inside { tree = views; gesture = gesture; log = log; hooks = hooks })
sound_same inside views gesture log hooks one two room made sound = record {
  consistent = subst IsConsistent (sym one) sound.consistent;
  caught = subst (λ (v : Views). IsGestureIn v.tree gesture) (sym one) (subst (IsGestureIn inside.tree.tree) (sym two) sound.caught);
  closed = subst (λ (v : Views). HasNoneElse v.tree gesture) (sym one) (subst (HasNoneElse inside.tree.tree) (sym two) sound.closed);
  room = subst (λ (v : Views). 3 * count_of v.tree ≤ room_of log) (sym one) room;
  armable = λ none. absurd (made none);
  down = sound.down;
  narrow = subst (λ (v : Views). FitAll (geometry_of v)) (sym one) sound.narrow;
  offsets = subst (λ (v : Views). OffsetsFit (plain_of v)) (sym one) sound.offsets;
  shows = subst (Shows inside.surface inside.damage.rect) (sym one) sound.shows;
}

-- a view is added where it may be
pub addable_root : (views : Views) (parent : Option ℕ) → IsAddable views parent → parent ≡ None → views.tree ≡ Nothing
addable_root views None h e = h.0
addable_root views (Some parent) h e = absurd (cc)

pub addable_live : (views : Views) (parent : Option ℕ) → IsAddable views parent → IfSome parent (λ parent. 0 < count_of_key parent views.tree)
addable_live views None h = tt
addable_live views (Some parent) h = h.0

pub placed_root : (views : Views) (parent : Option ℕ) → (parent ≡ None → views.tree ≡ Nothing) → option_map (number_of views) parent ≡ None → views.tree ≡ Nothing
placed_root views None root e = root refl
placed_root views (Some parent) root e = absurd (cc)

-- if there is no place, there is no view
pub plain_root : (views : Views) (parent : Option ℕ) → (parent ≡ None → views.tree ≡ Nothing) → option_map (number_of views) parent ≡ None → plain_of views ≡ Nothing
plain_root views parent root e = ap (plain_rows (held_of views)) (placed_root views parent root e)

added_tree : (scene after : EditScene) (parent : Option ℕ) (class : Class) (width height : ℤ) (number : Option ℕ) (reason : Option PlainRefusal)
    → outcome_of_add scene parent class width height reason ≡ Ok (after, number)
    → after.tree ≡ grown_at parent (single (running (rtl_at parent scene.tree) (new_view scene.next class width height))) scene.tree
added_tree scene after parent class width height number (Some refusal) e = absurd (cc)
added_tree scene after parent class width height number None e = sym (ap (λ (p : EditScene × Option ℕ). p.0.tree) (same_outcome e))
  where
    same_outcome : {one other : EditScene × Option ℕ} → (let o : Result (EditScene × Option ℕ) PlainRefusal = Ok one in o) ≡ Ok other → one ≡ other
    same_outcome e = cc

added_geometry : (scene after : EditScene) (parent : Option ℕ) (class : Class) (width height : ℤ) (number : Option ℕ) (reason : Option PlainRefusal)
    → outcome_of_add scene parent class width height reason ≡ Ok (after, number) → after.geometry ≡ scene.geometry
added_geometry scene after parent class width height number (Some refusal) e = absurd (cc)
added_geometry scene after parent class width height number None e = sym (ap (λ (p : EditScene × Option ℕ). p.0.geometry) (same_outcome e))
  where
    same_outcome : {one other : EditScene × Option ℕ} → (let o : Result (EditScene × Option ℕ) PlainRefusal = Ok one in o) ≡ Ok other → one ≡ other
    same_outcome e = cc

-- a new view has no bounds
pub grown_nowhere : (old new : Views) (parent : Option ℕ) (class : Class) (width height : ℤ) (result : Result (Option ℕ) Fault) → false ≡ is_err result
    → AppliesEdit (outcome_of_edit (scene_of old) (Add (option_map (number_of old) parent) class width height)) (scene_of new) result → geometry_of new ≡ geometry_of old
grown_nowhere old new parent class width height (Err error) ok applied = absurd (cc)
grown_nowhere old new parent class width height (Ok number) ok applied =
    added_geometry (scene_of old) (scene_of new) (option_map (number_of old) parent) class width height number (refusal_at (plain_of old) (option_map (number_of old) parent)) applied

pub grown_as : (old new : Views) (parent : Option ℕ) (class : Class) (width height : ℤ) (result : Result (Option ℕ) Fault) → false ≡ is_err result
    → AppliesEdit (outcome_of_edit (scene_of old) (Add (option_map (number_of old) parent) class width height)) (scene_of new) result
    → (let place = option_map (number_of old) parent in plain_of new ≡ grown_at place (single (running (rtl_at place (plain_of old)) (new_view old.next class width height))) (plain_of old))
grown_as old new parent class width height (Err error) ok applied = absurd (cc)
grown_as old new parent class width height (Ok number) ok applied =
    added_tree (scene_of old) (scene_of new) (option_map (number_of old) parent) class width height number (refusal_at (plain_of old) (option_map (number_of old) parent)) applied

-- one more view is in the tree, and has a place
pub sound_grown : (inside : Inside) (new : Views) (gesture : Kept) (log : Log) (hooks : Option (Box (List Hook) Global)) (parent : Option ℕ) (class : Class) (width height : ℤ) → IsSound inside → IsTree inside.tree
    → IsAddable inside.tree parent → IsConsistent new → KeepsViews inside.tree new (edit.Add parent class width height)
    → (let place = option_map (number_of inside.tree) parent in
    plain_of new ≡ grown_at place (single (running (rtl_at place (plain_of inside.tree)) (new_view inside.tree.next class width height))) (plain_of inside.tree))
    → gesture_of gesture ≡ gesture_of inside.gesture → ((other : ℕ) → is_open gesture other ≡ (is_open inside.gesture other || other == inside.tree.next))
    → 3 * (count_of inside.tree.tree + 1) ≤ room_of log → hooks ≢ None → FitAll (geometry_of new) → OffsetsFit (plain_of new)
    → KeepsShown (size_of inside.surface) inside.damage.rect inside.damage.rect inside.tree new → IsSound (record inside { tree = new; gesture = gesture; log = log; hooks = hooks })
sound_grown inside new gesture log hooks parent class width height sound is addable consistent keeps grew same opened room made narrow offsets shown = record {
  shows = shows_on inside.surface inside.damage.rect inside.damage.rect inside.tree new sound.shows shown;
  consistent = consistent;
  caught = gesture_grown inside.tree new (option_map (number_of inside.tree) parent)
      (running (rtl_at (option_map (number_of inside.tree) parent) (plain_of inside.tree)) (new_view inside.tree.next class width height)) inside.gesture gesture is
      (placed_root inside.tree parent (addable_root inside.tree parent addable)) refl grew same opened sound.caught;
  closed = λ number none.
      let view = running_below parent inside.tree.tree (new_view inside.tree.next class width height) in
      let count : count_of_number number new.tree ≡ count_of_number number inside.tree.tree + count_of_number number (leaf keeps.fresh view) =
      ap (count_of_number number) keeps.tree
      ∙ sum-with_child (λ (row : Row). if row.view.number == number then 1 else 0) parent (leaf keeps.fresh view) inside.tree.tree (addable_live inside.tree parent addable) (addable_root inside.tree parent addable) is.keys in
      let apart : number ≢ inside.tree.next = λ e. absurd (
      let one : count_of_number number (leaf keeps.fresh view) ≡ 1 = ap (λ (n : ℕ). count_of_number n (leaf keeps.fresh view)) e ∙ number-leaf_own keeps.fresh view in omega (arith, one, count, none)
      ) in
      opened number ∙ rw (sound.closed number (omega (arith, count, none)), ne_eqb number inside.tree.next apart) refl;
  room =
      let view = running_below parent inside.tree.tree (new_view inside.tree.next class width height) in
      let count : count_of new.tree ≡ count_of inside.tree.tree + 1 =
      ap count_of keeps.tree
      ∙ count-with_child parent (leaf keeps.fresh view) inside.tree.tree (addable_live inside.tree parent addable) (addable_root inside.tree parent addable) is.keys in
      omega (arith, count, room);
  armable = λ none. absurd (made none);
  down = sound.down;
  narrow = narrow;
  offsets = offsets;
}

-- the place of a view that was not added is taken back
pub place_back : (views : Views) (before opened closed : Kept) (number : ℕ) → IsTree views → IsGestureIn views.tree before → HasNoneElse views.tree before → number ≡ views.next
    → (is_open before number ≡ false → opened ≡ with_place number before)
    → ((other : ℕ) → is_open before other ≡ false → IsUnknown before other)
    → ((old : Kept) → opened ≡ with_place number old → IsUnknown old number → ((group : ℕ) → is_target number ((gesture_of old).targets group) ≡ false) → closed ≡ old)
    → closed ≡ before
place_back views before opened closed number is caught only next added unknown last =
    let later : views.next ≤ number = omega arith in
    let none : is_open before number ≡ false = none_from views before is only number later in
    last before (added none) (unknown number none) (free_next views before is caught number later)
