-- What carries out the lines of a script, and what a line does there.
use Rattle.std.specs.Prelude.{ℕ, List, Option, None, Result, Ok, Err}
use Rattle.script_lines.specs.reading.Commands.{command_of}
use Rattle.script_lines.specs.commands.PlainCommands.{PlainCommand}
use Rattle.line_words.specs.declared.fault.LineFault.{LineFault}
use Rattle.line_words.specs.declared.fault.LineFault.TheVariants as fault
use Rattle.stack_worlds.specs.PlainStack.{PlainStack, StackReply, asked_by, stack_step}
use Rattle.stack_worlds.specs.PlainStack as stack_reply
use Rattle.stack_worlds.specs.StackCarried.{LineWants}
use Rattle.tool_io.specs.Fetched.{Files}
use Rattle.view_model.specs.Refusals.{PlainRefusal, refusal_numbered}
use Rattle.view_world.specs.world.Carried.{MayWantMemory}
use Rattle.world_parts.specs.Inflating.{asked_file}
use Rattle.world_parts.specs.Reply.{Reply}
use Rattle.view_world.specs.world.Step.{step}
use Rattle.world_parts.specs.Reply as world_reply
use Rattle.world_parts.specs.World.{World, empty_world}
use Rattle.window_stack.specs.StackLines.{PlainLine, stack_line_of}
use Rattle.whole_tool.specs.Numbers.{bad_syntax, out_of_range}

-- what the lines of a script make: a world, or a stack of windows
pub data Carried : Type 0 where
  Alone : World → Carried
  Stacked : PlainStack → Carried

-- what a line does: it makes this and writes a text, or it is refused
pub data LineReply : Type 0 where
  Done : Carried → List ℕ → LineReply
  Refused : PlainRefusal → LineReply

abbrev pub of_world : Reply → LineReply
of_world (world_reply.Done world text) = Done (Alone world) text
of_world (world_reply.Refused refusal) = Refused refusal

abbrev pub of_stack : StackReply → LineReply
of_stack (stack_reply.Done stack text) = Done (Stacked stack) text
of_stack (stack_reply.Refused refusal) = Refused refusal

-- the refusal of a line that asks for nothing
abbrev pub fault_refusal : LineFault → PlainRefusal
fault_refusal fault.Syntax = refusal_numbered bad_syntax
fault_refusal fault.Range = refusal_numbered out_of_range

abbrev pub reply_to_command : Files → World → Result PlainCommand LineFault → Reply
reply_to_command files world (Ok command) = step files world command
reply_to_command files world (Err fault) = world_reply.Refused (fault_refusal fault)

abbrev pub reply_to_read : Files → PlainStack → Result PlainLine LineFault → StackReply
reply_to_read files stack (Ok line) = stack_step files stack line
reply_to_read files stack (Err fault) = stack_reply.Refused (fault_refusal fault)

-- what the bytes of a line do, which is not passed over
abbrev pub reply_to_bytes : Files → Carried → List ℕ → LineReply
reply_to_bytes files (Alone world) bytes = of_world (reply_to_command files world (command_of bytes))
reply_to_bytes files (Stacked stack) bytes = of_stack (reply_to_read files stack (stack_line_of bytes))

-- the name of the file that a line asks the shelf for, unless it is refused before
abbrev pub asked_by_command : World → Result PlainCommand LineFault → Option (List ℕ)
asked_by_command world (Ok command) = asked_file world command
asked_by_command world (Err fault) = None

abbrev pub asked_by_read : PlainStack → Result PlainLine LineFault → Option (List ℕ)
asked_by_read stack (Ok line) = asked_by stack line
asked_by_read stack (Err fault) = None

abbrev pub asked_by_bytes : Carried → List ℕ → Option (List ℕ)
asked_by_bytes (Alone world) bytes = asked_by_command world (command_of bytes)
asked_by_bytes (Stacked stack) bytes = asked_by_read stack (stack_line_of bytes)

-- the command of a line may run out of memory
abbrev pub CommandWants : Result PlainCommand LineFault → Type 0
CommandWants (Ok command) = MayWantMemory command
CommandWants (Err fault) = ⊥

abbrev pub ReadWants : PlainStack → Result PlainLine LineFault → Type 0
ReadWants stack (Ok line) = LineWants stack line
ReadWants stack (Err fault) = ⊥

-- the bytes of a line may
abbrev pub BytesWant : Carried → List ℕ → Type 0
BytesWant (Alone world) bytes = CommandWants (command_of bytes)
BytesWant (Stacked stack) bytes = ReadWants stack (stack_line_of bytes)

-- the world that the lines of a script made, an empty one where they made a stack
abbrev pub world_in : Carried → World
world_in (Alone world) = world
world_in (Stacked stack) = empty_world
