-- A view that goes away, in terms of the plain world: the cancel that it gets first, and what is printed of that.
use Rattle.std.proofs.Common.{◌≡◌, ℕ, ℤ, pos, Bool, true, false, List, [], ◌∷◌, length, Option, Some, None, refl, sym, ◌∙◌, ap, subst, arith}
use Rattle.std.proofs.lemmas.Bool.{ne_eqb}
use Rattle.std.specs.Prelude.{◌==◌, ◌&&◌, not, if◌then◌else◌, MatchOption, Result, Ok, Err}
use Rattle.std.specs.Option.{is_some}
use Rattle.text_lines.specs.Joined.{◌⧺◌, texts_of}
use Rattle.pixel_raster.specs.Raster.{Raster}
use Rattle.size_hooks.specs.Hook.{Hook}
use Rattle.touch_dispatch.specs.Dispatch.{Scene, cancelled}
use Rattle.touch_dispatch.specs.handling.Handling.{Progress, is_nil}
use Rattle.touch_dispatch.specs.gesture.Kept.{Kept, gesture_of}
use Rattle.touch_dispatch.specs.reaching.TreeEvents.{OnlyScrolls, first_number, offsets_in as offsets_kept, parent_number, part_at, progress_by, progress_of, scene_of}
use Rattle.touch_dispatch.specs.declared.log.Entry.{Entry}
use Rattle.touch_dispatch.specs.declared.log.Log.{Log}
use Rattle.touch_event.specs.declared.event.Point.{Point}
use Rattle.tree_edits.specs.Applied.{AppliesEdit}
use Rattle.tree_edits.specs.Editing.{ActOn, Outcome, Remove, hides, names_views, outcome_of_act, outcome_of_edit}
use Rattle.tree_edits.specs.Scene.{EditScene as Edited, scene_of as edited_of}
use Rattle.view_model.specs.declared.fault.Fault.{Fault}
use Rattle.view_model.specs.declared.fault.Fault.TheVariants as fault
use Rattle.view_model.specs.Facts.{is_shown}
use Rattle.view_model.specs.Forest.{Forest, Nothing, map_rows}
use Rattle.view_model.specs.PlainTree.{PlainView, numbers_of, part_of, pruned, view_in}
use Rattle.view_model.specs.declared.changes.Act.{Act}
use Rattle.view_model.specs.declared.changes.Act.TheVariants as act
use Rattle.view_model.specs.declared.facts.Facts.{Facts}
use Rattle.view_model.specs.declared.visibility.Visibility.{Visibility}
use Rattle.view_tree.proofs.forest.PlainLaws.{number_there}
use Rattle.view_tree.specs.Rows.{ancestors}
use Rattle.view_tree.specs.Views.{IsLive, IsTree, SameTree, Views, facts_of, number_of, plain_of}
use Rattle.world_parts.proofs.trees.AncestorLaws.{parent_named}
use Rattle.world_parts.proofs.touches.CancelLaws.{same_cancel, still_cancelled}
use Rattle.view_world.proofs.touches.EventLaws.{progress_plain, world_scrolled}
use Rattle.world_parts.proofs.trees.PartLaws.{part_plain}
use Rattle.world_parts.proofs.edits.RemovalLaws.{part_numbers}
use Rattle.world_parts.proofs.touches.SceneLaws.{scrolls_plain}
use Rattle.view_world.proofs.worlds.WorldLaws.{Changed-edit}
use Rattle.view_world.specs.screen.Changed.{CarriesOut}
use Rattle.world_replies.specs.Deliveries.{entries_text}
use Rattle.view_world.specs.screen.KeyedScreen.{KeyedScreen, world_of}
use Rattle.world_replies.specs.Responses.{IsReportable, deliveries_only, response_text}
use Rattle.world_parts.specs.Reply.{Reply, Done}
use Rattle.view_world.specs.world.Step.{acted, after_edit, removed, reported_before, without_hooks}
use Rattle.world_parts.specs.Places.{all_disarmed}
use Rattle.world_parts.specs.Touching.{after_progress, all_closed, is_reported, leaving, parent_of, scene_in, scrolled_to, reported_away, unscrolled_tree, without_part}
use Rattle.world_parts.specs.World.{World}

-- no view got anything yet
abbrev start_of : KeyedScreen → List Entry → Progress
start_of world before = progress_by (offsets_kept world.views) (gesture_of world.gesture) before

-- the cancel of a view, by its key
abbrev cancel_of : KeyedScreen → ℕ → ℤ → List Entry → Progress
cancel_of world key slop before =
    cancelled (scene_of world.views slop) (parent_number world.views key) (number_of world.views key) (part_at world.views key) (start_of world before)

-- whether a view gets a cancel, by its key
abbrev is_reported_of : KeyedScreen → ℕ → Bool
is_reported_of world key = is_reported (parent_number world.views key) (facts_of world.views key) world.pointers

leaving_plain : (world : KeyedScreen) (key : ℕ) (slop : ℤ) (before : List Entry) → IsTree world.views → IsLive world.views key → before ≡ []
    → leaving (world_of world) (number_of world.views key) ≡ (if is_reported_of world key then cancel_of world key slop before else start_of world before)
leaving_plain world key slop before is live none =
    let number = number_of world.views key in
    let parent = parent_number world.views key in
    let part = unscrolled_tree (part_of number (plain_of world.views)) in
    ap (λ (p : Option ℕ). reported_away (world_of world) number p (view_in (plain_of world.views) number)) (parent_named world.views key is live)
    ∙ ap (reported_away (world_of world) number parent) (number_there world.views key is live)
    ∙ ap (λ (p : Progress). if is_reported_of world key then cancelled (scene_in (world_of world)) parent number part p else p) (progress_plain world before is none)
    ∙ ap (λ (p : Progress). if is_reported_of world key then p else start_of world before) (same_cancel (scene_in (world_of world)) (scene_of world.views slop) parent number part (start_of world before))
    ∙ ap (λ (t : Forest PlainView). if is_reported_of world key then cancelled (scene_of world.views slop) parent number t (start_of world before) else start_of world before)
    (sym (part_plain world.views key is live))

-- whether a view gets a cancel, by its number
abbrev is_reported_in : KeyedScreen → ℕ → Bool
is_reported_in world key = is_reported (parent_of (number_of world.views key) (plain_of world.views)) (facts_of world.views key) world.pointers

reported_same : (world : KeyedScreen) (key : ℕ) (reported : Bool) → IsTree world.views → IsLive world.views key → is_reported_in world key ≡ reported → is_reported_of world key ≡ reported
reported_same world key reported is live same = ap (λ (p : Option ℕ). is_reported p (facts_of world.views key) world.pointers) (sym (parent_named world.views key is live)) ∙ same

-- a view that gets a cancel, and one that does not
pub leaving_reported : (world : KeyedScreen) (key : ℕ) (slop : ℤ) (new : Views) (kept : Kept) (before after : Log) → IsTree world.views → IsLive world.views key
    → before.entries.items ≡ [] → is_reported_in world key ≡ true
    → progress_of new kept after
    ≡ cancelled (scene_of world.views slop) (parent_number world.views key) (number_of world.views key) (part_at world.views key) (progress_of world.views world.gesture before)
    → progress_of new kept after ≡ leaving (world_of world) (number_of world.views key)
leaving_reported world key slop new kept before after is live none reported same =
    same ∙ sym (leaving_plain world key slop before.entries.items is live none ∙ rw (reported_same world key true is live reported) refl)

pub leaving_silent : (world : KeyedScreen) (key : ℕ) (before : Log) → IsTree world.views → IsLive world.views key → before.entries.items ≡ [] → is_reported_in world key ≡ false
    → progress_of world.views world.gesture before ≡ leaving (world_of world) (number_of world.views key)
leaving_silent world key before is live none silent =
    sym (leaving_plain world key (pos 0) before.entries.items is live none ∙ rw (reported_same world key false is live silent) refl)

-- a view with a parent gets a cancel, and a root if it is not gone and a pointer is down

pub reported_child : (views : Views) (key : ℕ) (above : Option ℕ) (facts : Facts) (pointers : List Point) → IsTree views → IsLive views key → is_some above ≡ true
    → MatchOption above (ancestors key views.tree ≡ []) (λ parent. ancestors key views.tree ≡ parent ∷ ancestors parent views.tree)
    → is_reported (parent_of (number_of views key) (plain_of views)) facts pointers ≡ true
reported_child views key None facts pointers is live some path = absurd (cc)
reported_child views key (Some parent) facts pointers is live some path =
    ap (λ (p : Option ℕ). is_reported p facts pointers) (parent_named views key is live ∙ ap (first_number views) path)

pub reported_root : (views : Views) (key : ℕ) (above : Option ℕ) (facts : Facts) (pointers : List Point) → IsTree views → IsLive views key → is_some above ≡ false
    → MatchOption above (ancestors key views.tree ≡ []) (λ parent. ancestors key views.tree ≡ parent ∷ ancestors parent views.tree)
    → is_reported (parent_of (number_of views key) (plain_of views)) facts pointers ≡ (is_shown facts && not (is_nil pointers))
reported_root views key None facts pointers is live none path =
    ap (λ (p : Option ℕ). is_reported p facts pointers) (parent_named views key is live ∙ ap (first_number views) path)
reported_root views key (Some parent) facts pointers is live none path = absurd (cc)

pub nil-length : (points : List Point) → (length points == 0) ≡ is_nil points
nil-length [] = refl
nil-length (p ∷ points) = ne_eqb (length (p ∷ points)) 0 (λ e. absurd (omega arith))

pub scrolls_none : (views : Views) → OnlyScrolls views views
scrolls_none views = record { same = record { tree = refl; orders = refl; next = refl }; counts = refl; consistent = λ consistent. consistent; held = λ key. refl; fits = λ key side. side }

-- if no offset has changed, the plain tree is the same
plain_still : (old new : Views) → IsTree old → OnlyScrolls old new → offsets_kept new ≡ offsets_kept old → plain_of new ≡ plain_of old
plain_still old new is scrolls same =
    scrolls_plain old new is scrolls ∙ ap (λ (offsets : ℕ → ℤ). map_rows (scrolled_to offsets) (plain_of old)) same ∙ sym (scrolls_plain old old is (scrolls_none old))

-- a cancel leaves the plain tree
pub plain_cancelled : (old new : Views) (before after : Kept) (log new_log : Log) (scene : Scene) (parent : Option ℕ) (number : ℕ) (part : Forest PlainView) → IsTree old → OnlyScrolls old new
    → progress_of new after new_log ≡ cancelled scene parent number part (progress_of old before log) → plain_of new ≡ plain_of old
plain_cancelled old new before after log new_log scene parent number part is scrolls done =
    plain_still old new is scrolls (ap (λ (progress : Progress). progress.offsets) done ∙ still_cancelled scene parent number part (progress_of old before log))

-- the world once a view got a cancel, with the new gesture and offsets
pub world_reported : (old : KeyedScreen) (new : Views) (kept : Kept) (after : Log) (number : ℕ) → IsTree old.views → OnlyScrolls old.views new
    → progress_of new kept after ≡ leaving (world_of old) number
    → (let now : KeyedScreen = record old { views = new; gesture = kept; reported = after.entries.items } in world_of now ≡ after_progress (world_of old) (leaving (world_of old) number))
world_reported old new kept after number is scrolls same =
    world_scrolled old new kept after.entries.items after.entries.items is scrolls ∙ ap (after_progress (world_of old)) same

-- the text of deliveries

text_alone : (text : List ℕ) → text ⧺ [] ≡ text
unfolding ◌⧺◌
text_alone [] = refl
text_alone (x ∷ xs) = ap (λ (l : List ℕ). x ∷ l) (text_alone xs)

no_entries : entries_text [] ≡ []
unfolding texts_of
no_entries = refl

reported_text : (text : List ℕ) (world : World) (reply : Reply) → reply ≡ Done world [] → reported_before text reply ≡ Done world text
reported_text text world reply e = ap (reported_before text) e ∙ ap (Done world) (text_alone text)

deliveries : (views : Views) (surface : Raster) (reported : List Entry) (saved : List ℕ) (world : World) (reply : Reply) → reply ≡ Done world []
    → (reported_before (entries_text reported) reply ≡ Done world (response_text views surface reported saved (deliveries_only reported))) × IsReportable views surface reported saved (deliveries_only reported)
deliveries views surface [] saved world reply e = (reported_text (entries_text []) world reply e ∙ ap (Done world) no_entries, tt)
deliveries views surface (entry ∷ entries) saved world reply e = (reported_text (entries_text (entry ∷ entries)) world reply e, λ none. absurd (cc))

-- edits that are never refused, and need no memory

outcome_number : Outcome → Option ℕ
outcome_number (Ok outcome) = outcome.1
outcome_number (Err refusal) = None

done_is : (scene after : Edited) (result : Result (Option ℕ) Fault) → AppliesEdit (Ok (scene, None)) after result → (result ≡ Err fault.NoMemory → ⊥) → result ≡ Ok None
unfolding outcome_number
done_is scene after (Ok number) applied memory = ap Ok (sym (ap outcome_number applied))
done_is scene after (Err (fault.Refused refusal)) applied memory = absurd (cc)
done_is scene after (Err fault.NoMemory) applied memory = absurd (memory refl)

pub remove_done : (scene after : Edited) (number : ℕ) (result : Result (Option ℕ) Fault) → AppliesEdit (outcome_of_edit scene (Remove number)) after result
    → (result ≡ Err fault.NoMemory → ⊥) → result ≡ Ok None
remove_done scene after number result applied memory = done_is _ after result applied memory

outcome_tree : Outcome → Forest PlainView
outcome_tree (Ok outcome) = outcome.0.tree
outcome_tree (Err refusal) = Nothing

pub plain_removed : (old new : Views) (number : ℕ) (made : Option ℕ) → outcome_of_edit (edited_of old) (Remove number) ≡ Ok (edited_of new, made)
    → plain_of new ≡ pruned number (plain_of old)
unfolding outcome_tree
plain_removed old new number made applied = sym (ap outcome_tree applied)

visible_done : (scene after : Edited) (number : ℕ) (visibility : Visibility) (view : Option PlainView) (result : Result (Option ℕ) Fault)
    → AppliesEdit (outcome_of_act scene number (act.Visible visibility) view) after result → (result ≡ Err fault.NoMemory → ⊥) → result ≡ Ok None
visible_done scene after number visibility None result applied memory = done_is _ after result applied memory
visible_done scene after number visibility (Some view) result applied memory = done_is _ after result applied memory

pub hide_done : (scene after : Edited) (number : ℕ) (doing : Act) (result : Result (Option ℕ) Fault) → hides doing ≡ true
    → AppliesEdit (outcome_of_edit scene (ActOn number doing)) after result → (result ≡ Err fault.NoMemory → names_views doing ≡ true) → result ≡ Ok None
hide_done scene after number (act.Visible visibility) result hiding applied memory =
    visible_done scene after number visibility (view_in scene.tree number) result applied (λ e. let named = memory e in absurd (cc))
hide_done scene after number _ result hiding applied memory = absurd (cc)

-- a view got a cancel, and then an edit was made

same_number : (old mid : Views) (key : ℕ) → SameTree old mid → number_of mid key ≡ number_of old key
same_number old mid key same = ap (λ tree. number_of (record mid { tree = tree }) key) same.tree

-- it was hidden
pub Changed-hide : (old mid : KeyedScreen) (new : Views) (key : ℕ) (doing : Act) (result : Result (Option ℕ) Fault) → hides doing ≡ true → SameTree old.views mid.views
    → world_of mid ≡ after_progress (world_of old) (leaving (world_of old) (number_of old.views key)) → mid.reported ≡ (leaving (world_of old) (number_of old.views key)).entries
    → result ≡ Ok None → AppliesEdit (outcome_of_edit (edited_of mid.views) (ActOn (number_of mid.views key) doing)) (edited_of new) result
    → (let now : KeyedScreen = record mid { views = new } in CarriesOut (acted (world_of old) (number_of old.views key) doing) now (Ok (deliveries_only mid.reported)))
Changed-hide old mid new key doing result hiding same world reported done applied =
    let number = number_of old.views key in
    let now : KeyedScreen = record mid { views = new } in
    let progress = leaving (world_of old) number in
    let made = subst (AppliesEdit (outcome_of_edit (edited_of mid.views) (ActOn (number_of mid.views key) doing)) (edited_of new)) done applied in
    let changed = Changed-edit mid mid.stage mid.views new (ActOn (number_of mid.views key) doing) (Ok None) made in
    let reply : acted (world_of old) number doing ≡ reported_before (entries_text mid.reported) (after_edit (world_of mid) (ActOn (number_of mid.views key) doing)) =
    rw hiding refl
    ∙ ap (λ (w : World). reported_before (entries_text progress.entries) (after_edit w (ActOn number doing))) (sym world)
    ∙ ap (λ (entries : List Entry). reported_before (entries_text entries) (after_edit (world_of mid) (ActOn number doing))) (sym reported)
    ∙ ap (λ (n : ℕ). reported_before (entries_text mid.reported) (after_edit (world_of mid) (ActOn n doing))) (sym (same_number old.views mid.views key same)) in
    let all = deliveries new mid.surface mid.reported mid.saved (world_of now) (after_edit (world_of mid) (ActOn (number_of mid.views key) doing)) changed.0 in
    (reply ∙ all.0, all.1)

-- it was removed, with all that was kept of it
pub Changed-remove : (old mid : KeyedScreen) (new : Views) (kept : Kept) (hooks : List Hook) (key : ℕ) (result : Result (Option ℕ) Fault) → IsTree mid.views → IsLive mid.views key → SameTree old.views mid.views
    → world_of mid ≡ after_progress (world_of old) (leaving (world_of old) (number_of old.views key)) → mid.reported ≡ (leaving (world_of old) (number_of old.views key)).entries
    → gesture_of kept ≡ all_closed (numbers_of (part_at mid.views key)) (gesture_of mid.gesture) → hooks ≡ all_disarmed (numbers_of (part_at mid.views key)) mid.hooks
    → result ≡ Ok None → AppliesEdit (outcome_of_edit (edited_of mid.views) (Remove (number_of mid.views key))) (edited_of new) result
    → (let now : KeyedScreen = record mid { views = new; gesture = kept; hooks = hooks } in CarriesOut (removed (world_of old) (number_of old.views key)) now (Ok (deliveries_only mid.reported)))
Changed-remove old mid new kept hooks key result is live same world reported cleared taken done applied =
    let number = number_of old.views key in
    let emptied : KeyedScreen = record mid { gesture = kept; hooks = hooks } in
    let now : KeyedScreen = record mid { views = new; gesture = kept; hooks = hooks } in
    let progress = leaving (world_of old) number in
    let made = subst (AppliesEdit (outcome_of_edit (edited_of mid.views) (Remove (number_of mid.views key))) (edited_of new)) done applied in
    let changed = Changed-edit emptied mid.stage mid.views new (Remove (number_of mid.views key)) (Ok None) made in
    let numbers = sym (part_numbers mid.views key is live) in
    let bare : World → World = λ w. without_hooks (number_of mid.views key) (without_part (number_of mid.views key) w) in
    let without : bare (world_of mid) ≡ world_of emptied =
    ap (λ gesture. without_hooks (number_of mid.views key) (record (world_of mid) { gesture = gesture })) (ap (λ (l : List ℕ). all_closed l (gesture_of mid.gesture)) numbers ∙ sym cleared)
    ∙ ap (λ hooks. let w : World = record (world_of (record mid { gesture = kept })) { hooks = hooks } in w) (ap (λ (l : List ℕ). all_disarmed l mid.hooks) numbers ∙ sym taken) in
    let reply : removed (world_of old) number ≡ reported_before (entries_text mid.reported) (after_edit (world_of emptied) (Remove (number_of mid.views key))) =
    ap (λ (w : World). reported_before (entries_text progress.entries) (after_edit (without_hooks number (without_part number w)) (Remove number))) (sym world)
    ∙ ap (λ (entries : List Entry). reported_before (entries_text entries) (after_edit (without_hooks number (without_part number (world_of mid))) (Remove number))) (sym reported)
    ∙ ap (λ (n : ℕ). reported_before (entries_text mid.reported) (after_edit (without_hooks n (without_part n (world_of mid))) (Remove n))) (sym (same_number old.views mid.views key same))
    ∙ ap (λ (w : World). reported_before (entries_text mid.reported) (after_edit w (Remove (number_of mid.views key)))) without in
    let all = deliveries new mid.surface mid.reported mid.saved (world_of now) (after_edit (world_of emptied) (Remove (number_of mid.views key))) changed.0 in
    (reply ∙ all.0, all.1)
