-- What contracts see of a stack of windows.
use Rattle.std.specs.Prelude.{◌≡◌, ◌<◌, ℕ, List, Option, None, IfSome, Box, length, map, refl, replicate}
use Rattle.std.specs.Prelude.{slice_index_or}
use Rattle.std.specs.Coded.{Coded, code_by, coded×, coded_list, coded_option}
use Rattle.std.specs.Option.{is_some, option_map}
use Rattle.std.specs.declared.alloc.Global.{Global}
use Rattle.stack_worlds.specs.Numbers.{max_panes, numbers_end}
use Rattle.stack_worlds.specs.PlainStack.{PlainStack}
use Rattle.stack_worlds.specs.declared.stack.Stack.TheInside.{Inside}
use Rattle.view_world.specs.world.KeyedWorld.{KeyedWorld, world_code, world_of}
use Rattle.window_stack.specs.KeptPanes.{panes_code}
use Rattle.window_stack.specs.PlainPanes.{PlainPanes, is_open, no_panes}

pub record KeyedStack : Type 0 where
  pub panes : PlainPanes
  -- by the names of their windows
  pub worlds : List (Option KeyedWorld)

abbrev pub stack_code : Coded KeyedStack
stack_code =
    code_by (PlainPanes × List (Option KeyedWorld)) (coded× panes_code (coded_list (coded_option world_code)))
    (λ s. (s.panes, s.worlds))
    (λ p. record { panes = p.0; worlds = p.1 })
    (λ _. refl)

-- the world in a place
abbrev pub kept_world : Option (Box KeyedWorld Global) → Option KeyedWorld
kept_world place = option_map (λ (world : Box KeyedWorld Global). world.value) place

abbrev pub keyed : Inside → KeyedStack
keyed inside = record { panes = inside.panes; worlds = map kept_world inside.worlds }

-- the plain stack, whose worlds are plain
abbrev pub stack_of : KeyedStack → PlainStack
stack_of stack = record { panes = stack.panes; worlds = map (option_map world_of) stack.worlds }

abbrev pub keyed_at : KeyedStack → ℕ → Option KeyedWorld
keyed_at stack k = slice_index_or stack.worlds k None

abbrev pub no_windows : KeyedStack
no_windows = record { panes = no_panes; worlds = replicate max_panes None }

-- a window has a world exactly if it is open
pub record HasWorlds (stack : KeyedStack) : Type 0 where
  pub all : length stack.worlds ≡ max_panes
  pub there : (k : ℕ) → is_some (keyed_at stack k) ≡ is_open stack.panes k

-- each window can still get views
abbrev pub HaveNumbers : KeyedStack → Type 0
HaveNumbers stack = (k : ℕ) → IfSome (keyed_at stack k) (λ world. world.screen.views.next < numbers_end)
