-- What the lines of a script cost, one after another, from its start.
use Rattle.std.specs.Prelude.{ℕ, ◌+◌, if◌then◌else◌, List, Result, Ok, Err, fold}
use Rattle.script_lines.specs.reading.Commands.{command_of}
use Rattle.script_lines.specs.cutting.Lines.{Line, Text, LongLine, is_passed_over, lines_of}
use Rattle.script_lines.specs.commands.PlainCommands.{PlainCommand}
use Rattle.line_words.specs.declared.fault.LineFault.{LineFault}
use Rattle.stack_worlds.specs.PlainStack.{StackReply, empty_stack, stack_step, way_of}
use Rattle.stack_worlds.specs.PlainStack as stack_reply
use Rattle.tool_io.specs.Fetched.{Files}
use Rattle.whole_tool.specs.Carried.{Carried, Alone, Stacked}
use Rattle.whole_tool.specs.WatchedStack.{WatchedStack, after_way, costs_of_way, plain_stack, stack_first}
use Rattle.whole_tool.specs.WatchedStack.{watched_first}
use Rattle.world_parts.specs.Reply.{Reply, Done, Refused}
use Rattle.view_world.specs.world.Step.{step}
use Rattle.view_world.specs.frames.Watched.{LineCosts, Watched, costs_of, no_costs, watched_after}
use Rattle.world_parts.specs.World.{empty_world}
use Rattle.window_stack.specs.StackLines.{PlainLine, stack_line_of}

-- the costs of some lines, and of the lines after them
abbrev pub with_costs : LineCosts → LineCosts → LineCosts
with_costs some more =
    record { measured = some.measured + more.measured; least = some.least + more.least; most = some.most + more.most }

-- what lines made, with what is known of its next frames
pub data Watching : Type 0 where
  WatchedWorld : Watched → Watching
  WatchedWindows : WatchedStack → Watching

abbrev pub carried_in : Watching → Carried
carried_in (WatchedWorld watched) = Alone watched.world
carried_in (WatchedWindows stack) = Stacked (plain_stack stack)

abbrev pub watching_first : Carried → Watching
watching_first (Alone world) = WatchedWorld (watched_first world)
watching_first (Stacked stack) = WatchedWindows (stack_first stack)

-- the lines so far: what they made, with what is known of its next frame, and what the carried out ones cost
pub record Tally : Type 0 where
  pub watched : Watching
  pub costs : LineCosts

abbrev pub at_first : Carried → Tally
at_first start = record { watched = watching_first start; costs = no_costs }

-- a refused line costs nothing
abbrev pub after_done : LineCosts → Watched → PlainCommand → Reply → Tally
after_done costs watched command (Done world text) =
    record {
      watched = WatchedWorld (watched_after watched command world);
      costs = with_costs costs (costs_of watched command);
    }
after_done costs watched command (Refused refusal) = record { watched = WatchedWorld watched; costs = costs }

abbrev pub after_command : Files → LineCosts → Watched → Result PlainCommand LineFault → Tally
after_command files costs watched (Ok command) = after_done costs watched command (step files watched.world command)
after_command files costs watched (Err fault) = record { watched = WatchedWorld watched; costs = costs }

-- the same of a line of a stack
abbrev pub after_change : Files → LineCosts → WatchedStack → PlainLine → StackReply → Tally
after_change files costs watched line (stack_reply.Done stack text) =
    record {
      watched =
          WatchedWindows
          (record { panes = stack.panes; worlds = after_way files watched (way_of (plain_stack watched) line) });
      costs = with_costs costs (costs_of_way watched (way_of (plain_stack watched) line));
    }
after_change files costs watched line (stack_reply.Refused refusal) =
    record { watched = WatchedWindows watched; costs = costs }

abbrev pub after_read : Files → LineCosts → WatchedStack → Result PlainLine LineFault → Tally
after_read files costs watched (Ok line) =
    after_change files costs watched line (stack_step files (plain_stack watched) line)
after_read files costs watched (Err fault) = record { watched = WatchedWindows watched; costs = costs }

-- after the bytes of a line that is not passed over
abbrev pub after_bytes : Files → LineCosts → Watching → List ℕ → Tally
after_bytes files costs (WatchedWorld watched) bytes = after_command files costs watched (command_of bytes)
after_bytes files costs (WatchedWindows watched) bytes = after_read files costs watched (stack_line_of bytes)

-- and neither does one that is too long or passed over
unfoldable pub with_cost : Files → Tally → Line → Tally
with_cost files tally LongLine = tally
with_cost files tally (Text bytes) =
    if is_passed_over bytes then tally else after_bytes files tally.costs tally.watched bytes

-- after these lines, from this start
unfoldable pub tally_from : Carried → Files → List Line → Tally
tally_from start files lines = fold (with_cost files) (at_first start) lines

-- What lines cost, with these files at hand: the sums over the frames among them that are accepted, of how many views
-- each measures at most, and of how many pixels it paints at least and at most.
abbrev pub costs_from : Carried → Files → List Line → LineCosts
costs_from start files lines = (tally_from start files lines).costs

-- what the lines of a script cost
abbrev pub costs_of_script : List ℕ → Files → LineCosts
costs_of_script script files = costs_from (Alone empty_world) files (lines_of script)

-- what the lines of a script of a stack cost: those of all its windows
abbrev pub costs_of_stack : List ℕ → Files → LineCosts
costs_of_stack script files = costs_from (Stacked empty_stack) files (lines_of script)
