-- What is written of resources in a table.
use Rattle.std.proofs.Common.{◌≡◌, ℕ, List, [], ◌∷◌, ◌++◌, refl, ap, sym, subst, ◌∙◌, arith}
use Rattle.std.specs.Prelude.{codes, false, Result, Ok, Err, string_bytes}
use Rattle.std.specs.declared.alloc.Global.{Global}
use Rattle.std.specs.declared.string.String.{String}
use Rattle.std.proofs.lemmas.List.Folds.{flat_map-map}
use Rattle.arsc_reader.specs.Answers.{RepresentsTable}
use Rattle.arsc_reader.specs.Contents.{Contents}
use Rattle.arsc_reader.specs.Lines.{held_text, value_line, value_lines}
use Rattle.arsc_reader.specs.Table.{value_of}
use Rattle.arsc_reader.specs.declared.held.Held.{Held}
use Rattle.axml_chunks.specs.declared.fault.Fault.{Fault}
use Rattle.axml_chunks.specs.Pool.{StringPool}
use Rattle.std.specs.Prelude.{Option}
use Rattle.text_lines.specs.Delivered.{Delivered}
use Rattle.text_lines.specs.Hex.{hex_text}
use Rattle.text_lines.specs.Joined.{◌⧺◌, texts_of}
use Rattle.tool_io.specs.SinkState.{SinkState}
use Rattle.tool_replies.specs.Dump.{Dumps, status_of_text}
use Rattle.tool_replies.specs.Lookup.{is_broken, looked_up, word_line}
use Rattle.tool_replies.specs.Lookup.{resource_id, resource_ids}
use Rattle.tool_replies.proofs.EndingLaws.{not_ended, whole_prefix}

-- the lines of words are those of their ids
pub lines_of_words : (table : Contents) (words : List (String Global)) → texts_of (word_line table) words ≡ value_lines table (resource_ids words)
unfolding texts_of
lines_of_words table words = sym (flat_map-map (value_line table) (λ (word : String Global). resource_id (string_bytes word)) words)

-- tables with the same strings in which each resource holds the same have the same lines
same_line : (table whole : Contents) (id : ℕ) → table.pool ≡ whole.pool → value_of table.entries id ≡ value_of whole.entries id → value_line table id ≡ value_line whole id
unfolding value_line
same_line table whole id pool value =
    ap (λ (p : Option StringPool). hex_text id 8 ⧺ codes " " ⧺ held_text p (value_of table.entries id) ⧺ codes "\n") pool
    ∙ ap (λ (h : Held). hex_text id 8 ⧺ codes " " ⧺ held_text whole.pool h ⧺ codes "\n") value

same_lines : (table whole : Contents) (ids : List ℕ) → table.pool ≡ whole.pool → ((id : ℕ) → value_of table.entries id ≡ value_of whole.entries id)
    → value_lines table ids ≡ value_lines whole ids
unfolding texts_of
same_lines table whole [] pool values = refl
same_lines table whole (id ∷ ids) pool values =
    ap (λ (l : List ℕ). l ++ texts_of (value_line table) ids) (same_line table whole id pool (values id))
    ∙ ap (λ (l : List ℕ). value_line whole id ++ l) (same_lines table whole ids pool values)

-- a text was delivered, or a front part of it
dumps_lines : {E : Type 0} (page : List ℕ) (old new : SinkState) (outcome : Result (Unit {0}) E) → Delivered old new outcome page → Dumps page false old new (status_of_text 0 outcome)
dumps_lines page old new (Ok _) sent = record {
  writes = record { whole = λ _. sent.whole; part = whole_prefix old.gone new.gone page sent.whole };
  ended = λ _. refl;
}
dumps_lines page old new (Err _) sent = record {
  writes = record { whole = λ e. absurd (not_ended 4 (omega arith) e); part = sent.prefix };
  ended = λ e. absurd (not_ended 4 (omega arith) e);
}

-- the lines of a table that represents what was read were delivered, or a front part of them
pub dumps_values : {E : Type 0} (table : Contents) (read : Result Contents Fault) (ids : List ℕ) (old new : SinkState) (outcome : Result (Unit {0}) E) → RepresentsTable table read
    → Delivered old new outcome (value_lines table ids) → Dumps (looked_up ids read) (is_broken read) old new (status_of_text 0 outcome)
dumps_values table read ids old new outcome reached sent =
    rw reached.whole_is (dumps_lines (value_lines reached.whole ids) old new outcome
    (subst (λ (page : List ℕ). Delivered old new outcome page) (same_lines table reached.whole ids reached.pool_is reached.values) sent))
