-- What becomes of an event on its way: at the view that gets it, at the children of that and at its targets.
use Rattle.std.specs.Prelude.{◌≡◌, ℕ, Bool, List}
use Rattle.geom_core.specs.Limits.{IsSide}
use Rattle.touch_dispatch.specs.Dispatch.{GroupEvent, Tried, answered, group_reached, hand_out, hand_to, offered, reach}
use Rattle.touch_dispatch.specs.Dispatch.{try_child, try_children}
use Rattle.touch_dispatch.specs.handling.Handling.{Progress, Reached}
use Rattle.touch_dispatch.specs.gesture.Kept.{Kept, gesture_of}
use Rattle.touch_dispatch.specs.reaching.TreeEvents.{child_at, handled_at, kids_of, own_of, own_range, part_at}
use Rattle.touch_dispatch.specs.reaching.TreeEvents.{scene_of, target_of}
use Rattle.touch_dispatch.specs.declared.reaching.delivery.Delivery.{Delivery}
use Rattle.touch_dispatch.specs.declared.reaching.delivery.Shared.{Shared}
use Rattle.touch_dispatch.specs.declared.handling.receiver.Receiver.{Receiver}
use Rattle.touch_targets.specs.Captures.{Target}
use Rattle.view_tree.specs.Views.{IsLive, Views, number_of}

-- what the code has read of the view of a key, which handles an event itself
pub record IsReadAt (views : Views) (key : ℕ) (own : Receiver) : Type 0 where
  pub live : IsLive views key
  pub number : own.number ≡ number_of views key
  pub range : own.range ≡ own_range views key
  pub side : IsSide own.range

-- the view, with all below it, gets the event
abbrev pub delivered : Views → Delivery → Progress → Reached
delivered views d progress = reach (scene_of views d.slop) (part_at views d.view) d.event.now progress

-- the view handles it itself
abbrev pub delivered_own : Views → Delivery → Progress → Reached
delivered_own views d progress = handled_at views d.slop d.view d.event.now progress

-- the view is a group
abbrev pub delivered_group : Views → Delivery → Progress → Reached
delivered_group views d progress =
    group_reached (scene_of views d.slop) (own_of views d.view) (kids_of views d.slop d.view)
    d.event.now progress

-- a group offers it to its children, unless it takes it from them
abbrev pub offered_kids : Views → Delivery → Bool → Progress → Tried
offered_kids views d intercepted progress =
    offered (scene_of views d.slop) (own_of views d.view) (kids_of views d.slop d.view)
    d.event.now intercepted progress

-- it tries all its children
abbrev pub tried_kids : Views → Delivery → Progress → Tried
tried_kids views d progress =
    try_children (scene_of views d.slop) (own_of views d.view) d.event.now
    (kids_of views d.slop d.view) progress

-- it tries the child of a key
abbrev pub tried_kid : Views → Delivery → ℕ → Progress → Tried
tried_kid views d kid progress =
    try_child (scene_of views d.slop) (own_of views d.view) d.event.now
    (child_at views d.slop kid) progress

-- the targets of the view of a key
abbrev pub own_targets : Views → Kept → ℕ → List Target
own_targets views kept key = (gesture_of kept).targets (own_of views key).number

-- the event of a group whose children were tried
abbrev pub group_event_of : Views → Shared → GroupEvent
group_event_of views s = record {
  scene = scene_of views s.delivery.now.slop;
  own = own_of views s.delivery.now.view;
  kids = kids_of views s.delivery.now.slop s.delivery.now.view;
  event = s.delivery.now.event.now;
  intercepted = s.intercepted;
  taker = s.taker;
}

-- the answer of the group
abbrev pub answered_group : Views → Shared → Progress → Reached
answered_group views s progress = answered (group_event_of views s) progress

-- each of these targets of a group gets its part; yes if one of them, or one before, says so
abbrev pub delivered_targets : Views → Shared → List Target → Bool → Progress → Reached
delivered_targets views s targets said progress = hand_out (group_event_of views s) targets said progress

-- the target of a child, among these, gets its part
abbrev pub delivered_target : Views → Shared → ℕ → List Target → Progress → Reached
delivered_target views s child targets progress = hand_to (group_event_of views s) (target_of child targets) progress
