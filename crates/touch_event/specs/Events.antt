-- Events, by their parts.
use Rattle.std.specs.Prelude.{ℕ, List}
use Rattle.touch_event.specs.declared.event.Action.{Action}
use Rattle.touch_event.specs.declared.event.Event.{Event}
use Rattle.touch_event.specs.declared.event.Point.{Point}

abbrev pub event_of : Action → ℕ → List Point → Event
event_of action pointer points = record { action = action; pointer = pointer; points = record { items = points } }
