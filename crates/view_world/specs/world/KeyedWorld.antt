-- What contracts see of a world: its screen, and the marks.
use Rattle.std.specs.Prelude.{refl}
use Rattle.std.specs.Coded.{Coded, code_by, coded×}
use Rattle.view_world.specs.screen.KeyedScreen.{KeyedScreen, new_screen, screen_code, world_of as world_on}
use Rattle.view_world.specs.world.Marks.{no_marks}
use Rattle.world_parts.specs.World as plain
use Rattle.view_world.specs.contracts.world.marks.Marks.{the_row as marks_row}
use Rattle.view_world.specs.declared.world.marks.Marks.{Marks}

pub record KeyedWorld : Type 0 where
  pub screen : KeyedScreen
  -- what the lines since the last frame have left for the next one to do
  pub marks : Marks

abbrev pub world_code : Coded KeyedWorld
world_code =
    code_by (KeyedScreen × Marks) (coded× screen_code marks_row.coded) (λ w. (w.screen, w.marks))
    (λ p. record { screen = p.0; marks = p.1 }) (λ _. refl)

-- the plain world, which has no marks
abbrev pub world_of : KeyedWorld → plain.World
world_of world = world_on world.screen

-- the world of a script that has not begun
abbrev pub new_world : KeyedWorld
new_world = record { screen = new_screen; marks = no_marks }
