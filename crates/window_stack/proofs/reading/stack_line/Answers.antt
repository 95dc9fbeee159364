use Rattle.std.proofs.Common.{◌∙◌, arith}
use Rattle.line_words.proofs.texts.OkLaws.{map_ok-fault}
use Rattle.line_words.specs.declared.fault.LineFault.TheVariants.{Syntax}
use Rattle.window_stack.proofs.PassedLaws.{passed_over}
use Rattle.window_stack.specs.StackLines.{plain_line, stack_line_by, stack_line_of}
use Rattle.window_stack.proofs.reading.stack_line.Goals as goal

pub returns-then-is-clause-value : goal.returns-then-is-clause-value
unfolding stack_line_of stack_line_by
returns-then-is-clause-value c = grind arith

pub returns-then-is-clause-passed : goal.returns-then-is-clause-passed
returns-then-is-clause-passed c passed = map_ok-fault plain_line c.at.result Syntax (returns-then-is-clause-value c ∙ passed_over c.args.bytes.now passed)

pub returns-then-is-2-clause-value : goal.returns-then-is-2-clause-value
unfolding stack_line_of stack_line_by
returns-then-is-2-clause-value c = grind arith

pub returns-then-is-2-clause-passed : goal.returns-then-is-2-clause-passed
returns-then-is-2-clause-passed c passed = map_ok-fault plain_line c.raise.result Syntax (returns-then-is-2-clause-value c ∙ passed_over c.args.bytes.now passed)

pub returns-then-is-3-clause-value : goal.returns-then-is-3-clause-value
unfolding stack_line_of stack_line_by
returns-then-is-3-clause-value c = grind arith

pub returns-then-is-3-clause-passed : goal.returns-then-is-3-clause-passed
returns-then-is-3-clause-passed c passed = map_ok-fault plain_line c.close.result Syntax (returns-then-is-3-clause-value c ∙ passed_over c.args.bytes.now passed)

pub returns-then-is-4-clause-value : goal.returns-then-is-4-clause-value
unfolding stack_line_of stack_line_by
returns-then-is-4-clause-value c = grind arith

pub returns-then-is-4-clause-passed : goal.returns-then-is-4-clause-passed
returns-then-is-4-clause-passed c passed = map_ok-fault plain_line c.inside.result Syntax (returns-then-is-4-clause-value c ∙ passed_over c.args.bytes.now passed)

pub returns-then-is-5-clause-value : goal.returns-then-is-5-clause-value
unfolding stack_line_of stack_line_by
returns-then-is-5-clause-value c = grind arith

pub returns-then-is-5-clause-passed : goal.returns-then-is-5-clause-passed
returns-then-is-5-clause-passed c passed = map_ok-fault plain_line c.compose.result Syntax (returns-then-is-5-clause-value c ∙ passed_over c.args.bytes.now passed)

pub returns-clause-value : goal.returns-clause-value
unfolding stack_line_of stack_line_by
returns-clause-value c = grind arith

pub returns-clause-passed : goal.returns-clause-passed
returns-clause-passed c passed = map_ok-fault plain_line c.read_touch_line.result Syntax (returns-clause-value c ∙ passed_over c.args.bytes.now passed)
