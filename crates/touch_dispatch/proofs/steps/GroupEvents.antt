-- An event that a group gives its targets, by what it is of.
use Rattle.std.proofs.Common.{Bool, List}
use Rattle.touch_event.specs.declared.event.Event.{Event}
use Rattle.view_model.specs.PlainTree.{PlainView}
use Rattle.touch_dispatch.specs.declared.reaching.taker.Taker.{Taker}
use Rattle.touch_dispatch.specs.Dispatch.{EventChild, GroupEvent, Scene}

abbrev pub group_event : Scene → PlainView → List EventChild → Event → Bool → Taker → GroupEvent
group_event scene own kids event intercepted taker =
    record { scene = scene; own = own; kids = kids; event = event; intercepted = intercepted; taker = taker }
