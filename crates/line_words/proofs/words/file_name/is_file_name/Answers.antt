use Rattle.std.proofs.Common.{rules}
use Rattle.line_words.specs.words.FileNames.{is_file_name}
use Rattle.line_words.proofs.words.file_name.is_file_name.Goals as goal

pub returns-then-are_file_name_bytes : goal.returns-then-are_file_name_bytes
unfolding is_file_name
returns-then-are_file_name_bytes c = search rules
