-- What an event keeps wherever it goes, from one step to the next.
use Rattle.std.proofs.Common.{◌≡◌, ℕ, ℤ, Bool, List, [], refl, sym, ◌∙◌, ap, subst}
use Rattle.std.specs.Prelude.{pos}
use Rattle.touch_dispatch.proofs.gestures.CaughtLaws.{asked_targets, caught_begun, caught_ended, caught_settled}
use Rattle.touch_dispatch.proofs.gestures.ParentLaws.{gesture_in, gesture_stays}
use Rattle.touch_dispatch.proofs.steps.ReachSteps.{asked_begun}
use Rattle.touch_dispatch.proofs.steps.SceneLaws.{only_scrolls_on}
use Rattle.touch_dispatch.specs.Dispatch.{Tried, begun, ended, receiver, settled}
use Rattle.touch_dispatch.specs.handling.Handling.{Progress, Reached, asked}
use Rattle.touch_dispatch.specs.gesture.Kept.{Kept, gesture_of, is_open}
use Rattle.touch_dispatch.specs.reaching.TreeEvents.{AreChildren, IsGestureIn, KeepsScene, MayReach, OnlyScrolls, kids_of, offsets_in, own_of, progress_by, progress_of, room_of, scene_of}
use Rattle.touch_dispatch.specs.declared.log.Entry.{Entry}
use Rattle.touch_dispatch.specs.declared.log.Log.{Log}
use Rattle.touch_dispatch.specs.declared.handling.receiver.Receiver.{Receiver}
use Rattle.touch_dispatch.specs.declared.reaching.taker.Taker.{Taker}
use Rattle.touch_event.specs.declared.event.Action.{Action}
use Rattle.touch_event.specs.declared.event.Event.{Event}
use Rattle.view_tree.proofs.values.KeptLaws.{is_tree-same}
use Rattle.view_tree.specs.Rows.{views_of}
use Rattle.view_tree.specs.Views.{Views}

pub none_scrolls : (views : Views) → OnlyScrolls views views
none_scrolls views = record { same = record { tree = refl; orders = refl; next = refl }; counts = refl; held = λ key. refl; fits = λ key side. side; consistent = λ kept. kept }

-- nothing has happened
pub kept_still : {views : Views} {kept : Kept} {log : Log} → IsGestureIn views.tree kept → KeepsScene views views kept kept log log
kept_still caught = record { scrolls = none_scrolls _; caught = caught; opened = λ number. refl; room = refl }

-- one step after another
pub kept_on : {first second third : Views} {a b c : Kept} {k l m : Log} → KeepsScene first second a b k l → KeepsScene second third b c l m → KeepsScene first third a c k m
kept_on one two = record {
  scrolls = only_scrolls_on _ _ _ one.scrolls two.scrolls;
  caught = two.caught;
  opened = λ number. two.opened number ∙ one.opened number;
  room = two.room ∙ one.room;
}

-- another gesture, whose targets are children of their groups
pub kept_by : {views : Views} {old new : Kept} {log : Log} → IsGestureIn views.tree old → ((number : ℕ) → is_open new number ≡ is_open old number) → AreChildren (views_of views.tree) (gesture_of new)
    → KeepsScene views views old new log log
kept_by caught opened children = record { scrolls = none_scrolls _; caught = gesture_in _ _ _ caught opened children; opened = opened; room = refl }

-- another gesture with the same targets
pub kept_targets : {old_tree new_tree : Views} {old new : Kept} {old_log new_log : Log} → IsGestureIn old_tree.tree old → OnlyScrolls old_tree new_tree → ((number : ℕ) → is_open new number ≡ is_open old number)
    → (gesture_of new).targets ≡ (gesture_of old).targets → room_of new_log ≡ room_of old_log → KeepsScene old_tree new_tree old new old_log new_log
kept_targets caught scrolls opened targets room = record { scrolls = scrolls; caught = gesture_stays _ _ _ _ caught scrolls.same.tree opened targets; opened = opened; room = room }

-- an event may still go to a view
pub may_still : {old_tree new_tree : Views} {old new : Kept} {old_log new_log : Log} {key : ℕ} {event : Event} → MayReach old_tree old key event → KeepsScene old_tree new_tree old new old_log new_log
    → MayReach new_tree new key event
may_still may kept = record {
  tree = is_tree-same _ _ may.tree kept.scrolls.same.tree kept.scrolls.same.next;
  live = rw kept.scrolls.same.tree may.live;
  pointer = may.pointer;
  caught = kept.caught;
}

-- what a group does with its targets at an event
kept_begun : {views : Views} {old new : Kept} {log : Log} (group : ℕ) (action : Action) → IsGestureIn views.tree old → ((number : ℕ) → is_open new number ≡ is_open old number)
    → ((offsets : ℕ → ℤ) (entries : List Entry) → progress_by offsets (gesture_of new) entries ≡ begun group action (progress_by offsets (gesture_of old) entries))
    → KeepsScene views views old new log log
kept_begun {views = views} {old = old} group action caught opened is =
    kept_by caught opened
    (subst (AreChildren (views_of views.tree)) (sym (ap (λ (p : Progress). p.gesture) (is (λ _. pos 0) [])))
    (caught_begun (views_of views.tree) group action (progress_by (λ _. pos 0) (gesture_of old) []) caught.children))

kept_asked : {views : Views} {old new : Kept} {log new_log : Log} (own : Receiver) (event : Event) (yes_ : Bool) → IsGestureIn views.tree old → ((number : ℕ) → is_open new number ≡ is_open old number)
    → ((offsets : ℕ → ℤ) → asked own event (progress_by offsets (gesture_of old) log.entries.items) ≡ record { yes = yes_; progress = progress_by offsets (gesture_of new) new_log.entries.items })
    → room_of new_log ≡ room_of log → KeepsScene views views old new log new_log
kept_asked {old = old} {log = log} own event yes_ caught opened is room =
    kept_targets caught (none_scrolls _) opened
    (sym (ap (λ (r : Reached). r.progress.gesture.targets) (is (λ _. pos 0))) ∙ asked_targets own event (progress_by (λ _. pos 0) (gesture_of old) log.entries.items))
    room

-- a group was asked, once the gesture had begun
pub record IsAsked (views : Views) (slop : ℤ) (view : ℕ) (event : Event) (old new : Kept) (log new_log : Log) (yes_ : Bool) : Type 0 where
  pub is : asked (receiver (scene_of views slop) (own_of views view) (kids_of views slop view)) event (begun (own_of views view).number event.action (progress_of views old log))
      ≡ record { yes = yes_; progress = progress_of views new new_log }
  pub kept : KeepsScene views views old new log new_log

pub group_asked : {views : Views} {slop : ℤ} {view : ℕ} {event : Event} {old : Kept} {own : Receiver} (began new : Kept) (log new_log : Log) (yes_ : Bool) → MayReach views old view event
    → own ≡ receiver (scene_of views slop) (own_of views view) (kids_of views slop view)
    → ((number : ℕ) → is_open began number ≡ is_open old number)
    → ((offsets : ℕ → ℤ) (entries : List Entry) → progress_by offsets (gesture_of began) entries ≡ begun own.number event.action (progress_by offsets (gesture_of old) entries))
    → ((number : ℕ) → is_open new number ≡ is_open began number)
    → ((offsets : ℕ → ℤ) → asked own event (progress_by offsets (gesture_of began) log.entries.items) ≡ record { yes = yes_; progress = progress_by offsets (gesture_of new) new_log.entries.items })
    → room_of new_log ≡ room_of log → IsAsked views slop view event old new log new_log yes_
group_asked {views = views} {slop = slop} {view = view} {event = event} {old = old} {own = own} began new log new_log yes_ may own_is opened begun_is stays asked_is room =
    let kept : KeepsScene views views old began log log = kept_begun own.number event.action may.caught opened begun_is in
    record {
      is =
          asked_begun (scene_of views slop) (own_of views view) (kids_of views slop view) event (progress_of views old log) (progress_of views began log) own _ own_is
          (begun_is (offsets_in views) log.entries.items) (asked_is (offsets_in views));
      kept = kept_on kept (kept_asked own event yes_ kept.caught stays asked_is room);
    }

pub kept_settled : {views : Views} {old new : Kept} {log : Log} (group : ℕ) (event : Event) (taker : Taker) → IsGestureIn views.tree old → ((number : ℕ) → is_open new number ≡ is_open old number)
    → ((offsets : ℕ → ℤ) (entries : List Entry) → settled group event (record { taker = taker; progress = progress_by offsets (gesture_of old) entries }) ≡ record { taker = taker; progress = progress_by offsets (gesture_of new) entries })
    → KeepsScene views views old new log log
kept_settled {views = views} {old = old} group event taker caught opened is =
    kept_by caught opened
    (subst (AreChildren (views_of views.tree)) (ap (λ (t : Tried). t.progress.gesture) (is (λ _. pos 0) []))
    (caught_settled (views_of views.tree) group event taker (progress_by (λ _. pos 0) (gesture_of old) []) caught.children))

pub kept_ended : {views : Views} {old new : Kept} {log : Log} (group : ℕ) (split : Bool) (event : Event) (intercepted : Bool) → IsGestureIn views.tree old → ((number : ℕ) → is_open new number ≡ is_open old number)
    → ((offsets : ℕ → ℤ) (entries : List Entry) → progress_by offsets (gesture_of new) entries ≡ ended group split event intercepted (progress_by offsets (gesture_of old) entries))
    → KeepsScene views views old new log log
kept_ended {views = views} {old = old} group split event intercepted caught opened is =
    kept_by caught opened
    (subst (AreChildren (views_of views.tree)) (sym (ap (λ (p : Progress). p.gesture) (is (λ _. pos 0) [])))
    (caught_ended (views_of views.tree) group split event intercepted (progress_by (λ _. pos 0) (gesture_of old) []) caught.children))
