-- A child is tried, and a target gets its part, by what the code has read of them.
use Rattle.std.proofs.Common.{◌≡◌, ℕ, ℤ, Bool, true, false, List, Option, refl, sym, ◌∙◌, ap, Some}
use Rattle.std.specs.Prelude.{◌==◌}
use Rattle.geom_core.specs.declared.geometry.Rect.{Rect}
use Rattle.touch_dispatch.proofs.scrolls.FitLaws.{kid_moved}
use Rattle.touch_dispatch.proofs.steps.KeepLaws.{kept_by, may_still}
use Rattle.touch_dispatch.proofs.gestures.ParentLaws.{may_kid}
use Rattle.touch_dispatch.proofs.steps.GroupEvents.{group_event}
use Rattle.touch_dispatch.proofs.steps.ReachSteps.{caught_put_at, hand_to_kid, part_for_same, put_is}
use Rattle.touch_dispatch.proofs.steps.SceneLaws.{kid_named, offset_live, reach_at, rect_live, same_own}
use Rattle.touch_dispatch.proofs.steps.TryWalk.{GetsPart}
use Rattle.touch_dispatch.specs.Dispatch.{hand_to, is_sent, part_for, reach, tried_event}
use Rattle.touch_dispatch.specs.gesture.Gestures.{set_targets}
use Rattle.touch_dispatch.specs.handling.Handling.{Progress}
use Rattle.touch_dispatch.specs.gesture.Kept.{Kept, MayCapture, gesture_of, is_open}
use Rattle.touch_dispatch.specs.reaching.Points.{is_tried, local_event}
use Rattle.touch_dispatch.specs.reaching.TreeEvents.{IsKidAt, KeepsScene, MayReach, child_at, kids_of, offsets_in, own_of, progress_by, scene_of, target_of}
use Rattle.touch_dispatch.specs.declared.log.Entry.{Entry}
use Rattle.touch_dispatch.specs.declared.log.Log.{Log}
use Rattle.touch_dispatch.specs.declared.reaching.taker.Taker.{Taker}
use Rattle.touch_event.specs.declared.event.Event.{Event}
use Rattle.touch_targets.specs.Captures.{Target, first_ids, from_child, is_target, put_target}
use Rattle.view_model.specs.PlainTree.{PlainView}
use Rattle.view_model.specs.declared.facts.Facts.{Facts}
use Rattle.view_tree.specs.Rows.{first_tree, key_where, part_from, views_of}
use Rattle.view_tree.specs.Views.{Views, facts_of, number_of, state_of}
use Rattle.view_tree.specs.declared.node.state.State.{State}

-- a child of a view that may get an event, and the numbers of the two
pub record NamesChild (views : Views) (kept : Kept) (view kid : ℕ) (event : Event) (group child : ℕ) : Type 0 where
  pub may : MayReach views kept view event
  pub there : IsKidAt views view kid
  pub group_is : group ≡ number_of views view
  pub child_is : child ≡ number_of views kid

pub names_child : {views : Views} {kept : Kept} {view kid group child : ℕ} {event : Event} → MayReach views kept view event → IsKidAt views view kid → group ≡ number_of views view → child ≡ number_of views kid
    → NamesChild views kept view kid event group child
names_child may there group child = record { may = may; there = there; group_is = group; child_is = child }

pub names_still : {old_tree new_tree : Views} {old new : Kept} {old_log new_log : Log} {view kid group child : ℕ} {event : Event} → NamesChild old_tree old view kid event group child
    → KeepsScene old_tree new_tree old new old_log new_log → NamesChild new_tree new view kid event group child
names_still {old_tree = old_tree} {new_tree = new_tree} {view = view} {kid = kid} names kept = record {
  may = may_still names.may kept;
  there = kid_moved old_tree new_tree view kid kept.scrolls names.there;
  group_is = names.group_is ∙ ap (λ (v : PlainView). v.number) (sym (same_own old_tree new_tree view kept.scrolls));
  child_is = names.child_is ∙ ap (λ (v : PlainView). v.number) (sym (same_own old_tree new_tree kid kept.scrolls));
}

-- it may become a target of the view
pub may_put : {views : Views} {kept : Kept} {view kid group child : ℕ} {event : Event} → NamesChild views kept view kid event group child → MayCapture kept group child
may_put {views = views} {kept = kept} {view = view} {kid = kid} names =
    rw (names.group_is, names.child_is) (may_kid views kept view kid names.may.tree names.may.live names.there names.may.caught)

-- it becomes one, or gets more pointers
pub kept_put : {views : Views} {old new : Kept} {log : Log} {view kid group child : ℕ} {event : Event} (ids : ℕ → Bool) → NamesChild views old view kid event group child
    → ((number : ℕ) → is_open new number ≡ is_open old number) → gesture_of new ≡ set_targets group (put_target child ids ((gesture_of old).targets group)) (gesture_of old)
    → KeepsScene views views old new log log
kept_put {views = views} {old = old} {new = new} {view = view} {kid = kid} {group = group} {child = child} ids names opened put =
    kept_by names.may.caught opened
    (caught_put_at views (gesture_of old) (gesture_of new) view kid ids names.may.tree names.may.live names.there names.may.caught.children
    (put_is (gesture_of old) (gesture_of new) (number_of views view) (number_of views kid) ids group child ids put names.group_is names.child_is refl))

-- what the code has read of the two
pub record ReadsChild (views : Views) (kept : Kept) (view kid : ℕ) (event : Event) (own_facts kid_facts : Facts) (rect : Option Rect) (group child : ℕ) : Type 0 where
  pub names : NamesChild views kept view kid event group child
  pub own_is : own_facts ≡ facts_of views view
  pub kid_is : kid_facts ≡ facts_of views kid
  pub rect_is : rect ≡ (state_of views kid).bounds

pub reads_child : {views : Views} {kept : Kept} {view kid group child : ℕ} {event : Event} {own_facts kid_facts : Facts} {state : State} → NamesChild views kept view kid event group child
    → own_facts ≡ facts_of views view → kid_facts ≡ facts_of views kid → state ≡ state_of views kid → ReadsChild views kept view kid event own_facts kid_facts state.bounds group child
reads_child names own kid state = record { names = names; own_is = own; kid_is = kid; rect_is = ap (λ (s : State). s.bounds) state }

pub tried_read : {views : Views} {kept : Kept} {view kid group child : ℕ} {event : Event} {own_facts kid_facts : Facts} {rect : Option Rect} (slop : ℤ)
    → ReadsChild views kept view kid event own_facts kid_facts rect group child
    → is_tried (own_of views kid).facts.visibility ((scene_of views slop).rects (own_of views kid).number) (offsets_in views (own_of views view).number) event
    ≡ is_tried kid_facts.visibility rect own_facts.offset event
tried_read {views = views} {view = view} {kid = kid} {event = event} slop reads =
    let may = reads.names.may in
    rw (reads.own_is, reads.kid_is, reads.rect_is, ← rect_live views slop kid may.tree reads.names.there.live, ← offset_live views view may.tree may.live) refl

pub target_read : {views : Views} {kept : Kept} {view kid group child : ℕ} {event : Event} → NamesChild views kept view kid event group child
    → is_target (number_of views kid) ((gesture_of kept).targets (number_of views view)) ≡ is_target child ((gesture_of kept).targets group)
target_read names = rw (names.group_is, names.child_is) refl

pub gets_part : {views : Views} {kept : Kept} {view kid group child : ℕ} {event : Event} {own_facts kid_facts : Facts} {rect : Option Rect} (slop : ℤ) (entries : List Entry) (part : Event)
    → ReadsChild views kept view kid event own_facts kid_facts rect group child
    → is_tried kid_facts.visibility rect own_facts.offset event ≡ true → is_target child ((gesture_of kept).targets group) ≡ false
    → part ≡ local_event rect own_facts.offset (tried_event own_facts.split event)
    → GetsPart (scene_of views slop) (own_of views view) event (child_at views slop kid) (progress_by (offsets_in views) (gesture_of kept) entries) part
gets_part {views = views} {view = view} {kid = kid} slop entries part reads tried other is =
    let may = reads.names.may in
    record {
      tried = tried_read slop reads ∙ tried;
      other = target_read reads.names ∙ other;
      part_is = is ∙ (rw (reads.own_is, reads.rect_is, ← rect_live views slop kid may.tree reads.names.there.live, ← offset_live views view may.tree may.live) refl);
    }

-- a target of a view gets its part of an event
pub record SendsTo (views : Views) (slop : ℤ) (view kid : ℕ) (event : Event) (intercepted : Bool) (taker : Taker) (target : Target) (part : Event) (progress : Progress) : Type 0 where
  pub there : IsKidAt views view kid
  pub is : hand_to (group_event (scene_of views slop) (own_of views view) (kids_of views slop view) event intercepted taker) target progress
      ≡ reach (scene_of views slop) (views_of (first_tree (part_from kid views.tree))) part progress

pub sends_to : {views : Views} {kept : Kept} {view child kid : ℕ} {event part : Event} {intercepted : Bool} {taker : Taker} {own_facts : Facts} {state : State} {ids : ℕ → Bool} (slop : ℤ) (entries : List Entry)
    → MayReach views kept view event → is_target child ((gesture_of kept).targets (own_of views view).number) ≡ true
    → key_where (λ (v : PlainView). v.number == child) views.tree ≡ Some kid → number_of views kid ≡ child → own_facts ≡ facts_of views view → state ≡ state_of views kid
    → ids ≡ first_ids (from_child child ((gesture_of kept).targets (own_of views view).number))
    → is_sent taker child ≡ false → part_for state.bounds own_facts.offset event intercepted ids ≡ Some part
    → SendsTo views slop view kid event intercepted taker (target_of child ((gesture_of kept).targets (own_of views view).number)) part (progress_by (offsets_in views) (gesture_of kept) entries)
sends_to {views = views} {kept = kept} {view = view} {child = child} {kid = kid} {event = event} {part = part} {intercepted = intercepted} {taker = taker} {own_facts = own_facts} {state = state} {ids = ids} slop entries may there found number own state_is ids_is other part_is =
    let k = kid_named views slop view child kid may.tree may.live (may.caught.children (own_of views view).number child there) found in
    let progress = progress_by (offsets_in views) (gesture_of kept) entries in
    record {
      there = k.0;
      is =
          hand_to_kid (scene_of views slop) (own_of views view) (kids_of views slop view) event intercepted taker (target_of child ((gesture_of kept).targets (own_of views view).number)) progress
          part (child_at views slop kid) _ other
          (part_for_same views slop view kid child (first_ids (from_child child ((gesture_of kept).targets (own_of views view).number))) ids event intercepted own_facts state may.tree may.live k.0.live own state_is number ids_is
          ∙ part_is)
          k.1
          (sym (reach_at views slop kid part progress k.0.live));
    }
