-- The numbers that are left for new views.
use Rattle.std.specs.Prelude.{◌+◌, ◌<◌, ◌≤◌}
use Rattle.view_model.specs.Numbers.{numbers_end}
use Rattle.view_world.specs.screen.KeyedScreen.{KeyedScreen}

-- there is a number for one view more
abbrev pub HasNumber : KeyedScreen → Type 0
HasNumber screen = screen.views.next < numbers_end

-- at most one view more has a number
abbrev pub NumbersOne : KeyedScreen → KeyedScreen → Type 0
NumbersOne old new = new.views.next ≤ old.views.next + 1
