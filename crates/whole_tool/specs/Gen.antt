-- What the tool writes of a load: how many lines it has, how many of them are refused, and the digest of its page.
use Rattle.std.specs.Prelude.{ℕ, List, [], codes, decimal}
use Rattle.hex.specs.Hex.{encode_lower}
use Rattle.load_maker.specs.Load.{load}
use Rattle.script_lines.specs.cutting.Lines.{lines_of}
use Rattle.sha2.specs.Sha256.{sha256}
use Rattle.text_lines.specs.Joined.{◌⧺◌}
use Rattle.whole_tool.specs.declared.loading.Outcome.{Outcome}
use Rattle.whole_tool.specs.Transcript.{ScriptProgress, after_lines}

-- the results of lines
abbrev pub outcome_after : ScriptProgress → Outcome
outcome_after progress = record { lines = progress.lines; refused = progress.refused; digest = sha256 progress.text }

-- the results of the load of a size, in a world of its own, without files
unfoldable pub gen_outcome : ℕ → Outcome
gen_outcome n = outcome_after (after_lines [] (lines_of (load n)))

unfoldable pub outcome_text : Outcome → List ℕ
outcome_text outcome =
    codes "lines " ⧺ decimal outcome.lines ⧺ codes "\nrefused " ⧺ decimal outcome.refused ⧺ codes "\npage " ⧺
    encode_lower outcome.digest ⧺ codes "\n"

-- what is written of the load of a size
abbrev pub gen_page : ℕ → List ℕ
gen_page n = outcome_text (gen_outcome n)
