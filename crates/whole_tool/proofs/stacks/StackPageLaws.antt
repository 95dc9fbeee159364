-- The windows of the page of a stack are isolated.
use Rattle.std.proofs.Common.{◌≡◌, ◌∙◌, ℕ, List, [], ◌∷◌, refl, ap, sym, inl, inr}
use Rattle.std.specs.Prelude.{fold, Result, Ok, Err}
use Rattle.std.proofs.lemmas.Bool.{cases_Bool}
use Rattle.std.proofs.lemmas.Grind.{fold-append}
use Rattle.script_lines.specs.cutting.Lines.{Line, Text, LongLine, is_passed_over, lines_of}
use Rattle.line_words.specs.declared.fault.LineFault.{LineFault}
use Rattle.stack_worlds.specs.Isolation.{Shared, after_shared, nothing_shared, stack_or}
use Rattle.stack_worlds.specs.PlainStack.{PlainStack, StackReply, Done, Refused, empty_stack, stack_step}
use Rattle.stack_worlds.proofs.IsolationLaws.{depends_on_share, isolated}
use Rattle.tool_io.specs.Fetched.{Files}
use Rattle.whole_tool.specs.Carried.{Carried, Stacked, LineReply, of_stack, reply_to_read}
use Rattle.whole_tool.specs.Carried as reply
use Rattle.whole_tool.specs.StackPage.{IsPageIsolated, all_asked, asked_of, read_or_none}
use Rattle.whole_tool.specs.Transcript.{ScriptProgress, after_from, after_line, after_reply, at_start, reply_to_line}
use Rattle.window_stack.specs.StackLines.{PlainLine, stack_line_of}

-- the stacks that lines make, one after another
abbrev stacks : Files → PlainStack → List PlainLine → PlainStack
stacks files stack lines = fold (λ (s : PlainStack) line. stack_or s (stack_step files s line)) stack lines

abbrev carried_or : Carried → LineReply → Carried
carried_or carried (reply.Done after text) = after
carried_or carried (reply.Refused refusal) = carried

after_carried : (progress : ScriptProgress) (reply : LineReply) → (after_reply progress reply).carried ≡ carried_or progress.carried reply
after_carried progress (reply.Done after text) = refl
after_carried progress (reply.Refused refusal) = refl

of_stack_or : (stack : PlainStack) (reply : StackReply) → carried_or (Stacked stack) (of_stack reply) ≡ Stacked (stack_or stack reply)
of_stack_or stack (Done after text) = refl
of_stack_or stack (Refused refusal) = refl

read_stack : (files : Files) (stack : PlainStack) (read : Result PlainLine LineFault) → carried_or (Stacked stack) (of_stack (reply_to_read files stack read)) ≡ Stacked (stacks files stack (read_or_none read))
read_stack files stack (Ok line) = of_stack_or stack (stack_step files stack line)
read_stack files stack (Err fault) = refl

line_stack : (files : Files) (stack : PlainStack) (line : Line) → carried_or (Stacked stack) (reply_to_line files (Stacked stack) line) ≡ Stacked (stacks files stack (asked_of line))
unfolding reply_to_line
line_stack files stack LongLine = refl
line_stack files stack (Text bytes) = elim (cases_Bool (is_passed_over bytes)) [
  | inl e ↦ rw e refl
  | inr e ↦ rw e (read_stack files stack (stack_line_of bytes))
]

lines_stack : (files : Files) (progress : ScriptProgress) (stack : PlainStack) (lines : List Line) → progress.carried ≡ Stacked stack
    → (fold (after_line files) progress lines).carried ≡ Stacked (stacks files stack (all_asked lines))
lines_stack files progress stack [] e = e
lines_stack files progress stack (line ∷ lines) e =
    let one : (after_line files progress line).carried ≡ Stacked (stacks files stack (asked_of line)) =
    after_carried progress (reply_to_line files progress.carried line)
    ∙ ap (λ (c : Carried). carried_or c (reply_to_line files c line)) e
    ∙ line_stack files stack line in
    lines_stack files (after_line files progress line) (stacks files stack (asked_of line)) lines one
    ∙ ap Stacked (sym (fold-append (λ (s : PlainStack) line. stack_or s (stack_step files s line)) stack (asked_of line) (all_asked lines)))

shared_stack : (files : Files) (k : ℕ) (shared : Shared) (lines : List PlainLine) → (fold (after_shared files k) shared lines).stack ≡ stacks files shared.stack lines
shared_stack files k shared [] = refl
shared_stack files k shared (line ∷ lines) = shared_stack files k (after_shared files k shared line) lines

-- after any script, the state and the replies of each open window are those of its share alone
pub page_isolated : (script : List ℕ) (files : Files) (k : ℕ) → IsPageIsolated script files k
unfolding after_from
page_isolated script files k =
    let lines = lines_of script in
    record {
      made = lines_stack files (at_start (Stacked empty_stack)) empty_stack lines refl ∙ ap Stacked (sym (shared_stack files k nothing_shared (all_asked lines)));
      alone = isolated files k (all_asked lines);
      depends = λ other. depends_on_share files k (all_asked lines) (all_asked (lines_of other));
    }
