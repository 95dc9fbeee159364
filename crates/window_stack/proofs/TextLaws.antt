-- The text of a line is no longer than the line.
use Rattle.std.proofs.Common.{◌≡◌, ℕ, ◌≤◌, List, ap, length, arith}
use Rattle.std.specs.Prelude.{IfOk, Result, Ok, Err}
use Rattle.line_words.proofs.texts.LengthLaws.{after_word-short}
use Rattle.line_words.specs.words.Words.{after_word}
use Rattle.line_words.specs.declared.fault.LineFault.{LineFault}
use Rattle.window_stack.specs.StackLines.{plain_line, text_length_in}
use Rattle.window_stack.specs.declared.lines.StackLine.{StackLine}

pub short_within : (read : Result StackLine LineFault) (m n : ℕ) → m ≤ n → IfOk read (λ line. text_length_in (plain_line line) ≤ m) → IfOk read (λ line. text_length_in (plain_line line) ≤ n)
short_within (Ok line) m n le short = omega arith
short_within (Err fault) m n le short = tt

-- the text of what follows the first word is no longer than the line
pub short_in : (bytes rest : List ℕ) (read : Result StackLine LineFault) → rest ≡ after_word bytes → IfOk read (λ line. text_length_in (plain_line line) ≤ length rest) → IfOk read (λ line. text_length_in (plain_line line) ≤ length bytes)
short_in bytes rest read after short =
    let no_longer = after_word-short bytes in
    let same = ap length after in
    short_within read _ _ (omega arith) short
