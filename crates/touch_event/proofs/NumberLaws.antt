-- For its own sake: the number of the code is that of the definitions.
use Rattle.std.specs.Prelude.{◌≡◌, refl}
use Rattle.touch_event.specs.Numbers.{max_pointers}
use Rattle.touch_event.specs.declared.event.TheConstants.{MAX_POINTERS}

pointers : MAX_POINTERS ≡ max_pointers
pointers = refl
