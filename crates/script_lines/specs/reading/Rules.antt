-- How a line ties a child of a relative layout.
use Rattle.std.specs.Prelude.{ℕ, nat_lt, Bool, if◌then◌else◌, List, [], ◌∷◌, codes, position, Result, Ok}
use Rattle.std.specs.Str.{bytes_eq}
use Rattle.view_model.specs.declared.changes.Act.{Act}
use Rattle.view_model.specs.declared.changes.Act.TheVariants as act
use Rattle.view_model.specs.Verbs.{sibling_verbs}
use Rattle.line_words.specs.words.Names.{id_in, known}
use Rattle.line_words.specs.words.Words.{◌>>=◌, end_of, on_of, word_in}
use Rattle.line_words.specs.declared.fault.LineFault.{LineFault}

-- the words of the verbs, by their places: those that name a sibling, and those of the parent
abbrev pub verbs : List (List ℕ)
verbs =
    codes "left_of" ∷ codes "right_of" ∷ codes "above" ∷ codes "below"
    ∷ codes "align_left" ∷ codes "align_top" ∷ codes "align_right" ∷ codes "align_bottom"
    ∷ codes "start_of" ∷ codes "end_of" ∷ codes "align_start" ∷ codes "align_end"
    ∷ codes "parent_left" ∷ codes "parent_top" ∷ codes "parent_right" ∷ codes "parent_bottom"
    ∷ codes "parent_start" ∷ codes "parent_end" ∷ codes "center" ∷ codes "center_h"
    ∷ codes "center_v" ∷ []

-- the place of a verb
unfoldable pub verb_of : List ℕ → Result ℕ LineFault
verb_of word = known (position (λ verb. bytes_eq verb word) verbs)

-- the verbs that name a sibling come before those that name the parent
abbrev pub names_sibling : ℕ → Bool
names_sibling verb = nat_lt verb sibling_verbs

-- `yes` or `no`
abbrev pub answer_in : List (List ℕ) → Result (ℕ × List (List ℕ)) LineFault
answer_in words = do
  b ← word_in words
  on ← on_of b.0
  Ok (if on then 1 else 0, b.1)

-- `@HEX`, the id of a sibling, or whether a rule on the parent counts
unfoldable pub rule_value_in : ℕ → List (List ℕ) → Result (ℕ × List (List ℕ)) LineFault
rule_value_in verb words = if names_sibling verb then id_in words else answer_in words

-- `VERB X`
unfoldable pub rule_of : List (List ℕ) → Result Act LineFault
rule_of words = do
  v ← word_in words
  verb ← verb_of v.0
  value ← rule_value_in verb v.1
  _ ← end_of value.1
  Ok (act.Rule verb value.0)
