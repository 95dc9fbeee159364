-- Actions, read from their texts.
use Rattle.std.proofs.Common.{◌≡◌, ℕ, ◌<◌, Bool, true, refl, List, [], ◌∷◌, length}
use Rattle.std.specs.Prelude.{◌&&◌, nat_lt, Ok}
use Rattle.std.specs.Char.{is_ascii_graphic}
use Rattle.std.specs.List.{list_all}
use Rattle.script_lines.specs.reading.Actions.{action_of, actions_of, with_actions}
use Rattle.script_lines.specs.commands.Spelled.{intercept_words}
use Rattle.line_words.proofs.texts.BothLaws.{and-left, and-right}
use Rattle.script_lines.proofs.spelled.SpelledRules.{all_below, all_below-at, is_ok_of, ok_of}
use Rattle.line_words.proofs.spelled.SpelledWords.{AreWords, word_by}

abbrev are_words : List (List ℕ) → Bool
are_words [] = true
are_words (word ∷ words) = (nat_lt 0 (length word) && list_all is_ascii_graphic word) && are_words words

words_by : (ws : List (List ℕ)) → are_words ws ≡ true → AreWords ws
words_by [] h = tt
words_by (w ∷ ws) h =
    let first = nat_lt 0 (length w) && list_all is_ascii_graphic w in
    (word_by w (and-left first (are_words ws) h), words_by ws (and-right first (are_words ws) h))

-- every set of actions
abbrev has_words : ℕ → Bool
has_words actions = are_words (intercept_words actions)

abbrev reads_back : ℕ → Bool
reads_back actions = is_ok_of actions (actions_of (intercept_words actions))

all_words : all_below has_words 64 ≡ true
all_words = refl

all_back : all_below reads_back 64 ≡ true
unfolding action_of with_actions actions_of
all_back = refl

pub intercept_reads_words : (actions : ℕ) → actions < 64 → AreWords (intercept_words actions)
intercept_reads_words actions short = words_by (intercept_words actions) (all_below-at has_words 64 actions short all_words)

pub actions_of-words : (actions : ℕ) → actions < 64 → actions_of (intercept_words actions) ≡ Ok actions
actions_of-words actions short = ok_of actions (actions_of (intercept_words actions)) (all_below-at reads_back 64 actions short all_back)
