use Rattle.std.proofs.Common.{ℕ, List, lit≤, sym, subst}
use Rattle.std.specs.Prelude.{true, Option}
use Rattle.tool_replies.specs.Dump.{Dumps, file_text, is_refused_file, refused_file_text}
use Rattle.tool_replies.proofs.DumpLaws.{dumps_refusal}
use Rattle.tool_replies.proofs.dump.dump_found.Goals as goal

pub write_refused_file-requires-clause-last : goal.write_refused_file-requires-clause-last
write_refused_file-requires-clause-last g c = lit≤ tt

pub returns-in-Missing-clause-dumps : goal.returns-in-Missing-clause-dumps
returns-in-Missing-clause-dumps g c files name found =
    let old = g.K.Sink.state c.args.sink.now in
    let new = g.K.Sink.state c.write_refused_file.new.sink in
    let none = rw c.in-Missing.is at found in
    subst (λ (file : Option (List ℕ)). Dumps (file_text file) (is_refused_file file) old new c.status_of.result) (sym none)
    (subst (λ (status : ℕ). Dumps (refused_file_text 39) true old new status) (sym c.status_of.ensures) (dumps_refusal (refused_file_text 39) old new c.write_refused_file.result c.write_refused_file.ensures))
