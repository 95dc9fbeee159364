use Rattle.std.proofs.Common.{arith}
use Rattle.std.specs.Prelude.{Err}
use Rattle.line_words.specs.declared.fault.LineFault.TheVariants.{Syntax}
use Rattle.script_lines.specs.reading.Commands.{command_in, command_of}
use Rattle.script_lines.proofs.readings.ReadLaws.{read_given, read_passed, read_spelled}
use Rattle.script_lines.proofs.reading.line.Goals as goal

pub returns-then-not-is_text-clause-value : goal.returns-then-not-is_text-clause-value
unfolding command_of command_in
returns-then-not-is_text-clause-value c = grind arith

pub returns-then-not-is_text-clause-spelled : goal.returns-then-not-is_text-clause-spelled
returns-then-not-is_text-clause-spelled c command bounds has text = read_spelled c.args.bytes.now (Err Syntax) (returns-then-not-is_text-clause-value c) command bounds has text

pub returns-in_err-head-clause-value : goal.returns-in_err-head-clause-value
unfolding command_of command_in
returns-in_err-head-clause-value c = grind arith

pub returns-in_err-head-clause-spelled : goal.returns-in_err-head-clause-spelled
returns-in_err-head-clause-spelled c command bounds has text = read_spelled c.args.bytes.now _ (returns-in_err-head-clause-value c) command bounds has text

pub returns-in_err-head-clause-given : goal.returns-in_err-head-clause-given
returns-in_err-head-clause-given c command bounds written utf8 = read_given c.args.bytes.now _ (returns-in_err-head-clause-value c) command bounds written utf8

pub returns-in-Some-clause-value : goal.returns-in-Some-clause-value
unfolding command_of command_in
returns-in-Some-clause-value c = grind arith

pub returns-in-Some-clause-passed : goal.returns-in-Some-clause-passed
returns-in-Some-clause-passed c passed = read_passed c.args.bytes.now _ (returns-in-Some-clause-value c) passed

pub returns-in-Some-clause-spelled : goal.returns-in-Some-clause-spelled
returns-in-Some-clause-spelled c command bounds has text = read_spelled c.args.bytes.now _ (returns-in-Some-clause-value c) command bounds has text

pub returns-in-Some-clause-given : goal.returns-in-Some-clause-given
returns-in-Some-clause-given c command bounds written utf8 = read_given c.args.bytes.now _ (returns-in-Some-clause-value c) command bounds written utf8

pub returns-in-None-clause-value : goal.returns-in-None-clause-value
unfolding command_of command_in
returns-in-None-clause-value c = grind arith

pub returns-in-None-clause-spelled : goal.returns-in-None-clause-spelled
returns-in-None-clause-spelled c command bounds has text = read_spelled c.args.bytes.now (Err Syntax) (returns-in-None-clause-value c) command bounds has text

pub returns-in-None-clause-given : goal.returns-in-None-clause-given
returns-in-None-clause-given c command bounds written utf8 = read_given c.args.bytes.now (Err Syntax) (returns-in-None-clause-value c) command bounds written utf8
