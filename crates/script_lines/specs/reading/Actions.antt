-- The actions that a group takes away from its children, as bits of a number.
use Rattle.std.specs.Prelude.{ℕ, if◌then◌else◌, bit_or, List, [], ◌∷◌, codes, Result, Ok, Err}
use Rattle.std.specs.Str.{bytes_eq}
use Rattle.line_words.specs.words.Words.{◌>>=◌, end_of, word_in}
use Rattle.line_words.specs.declared.fault.LineFault.{LineFault}
use Rattle.line_words.specs.declared.fault.LineFault.TheVariants.{Syntax}

-- the bit of an action
unfoldable pub action_of : List ℕ → Result ℕ LineFault
action_of word =
    if bytes_eq word (codes "down") then Ok 1 else (
    if bytes_eq word (codes "up") then Ok 2 else (
    if bytes_eq word (codes "move") then Ok 4 else (
    if bytes_eq word (codes "cancel") then Ok 8 else (
    if bytes_eq word (codes "pdown") then Ok 16 else (
    if bytes_eq word (codes "pup") then Ok 32 else
    Err Syntax)))))

-- the bit of the action that the first word names, and the words after it
abbrev pub action_in : List (List ℕ) → Result (ℕ × List (List ℕ)) LineFault
action_in words = do
  a ← word_in words
  action ← action_of a.0
  Ok (action, a.1)

-- these bits and those of the actions that words name; an action may be named twice
unfoldable pub with_actions : ℕ → List (List ℕ) → Result ℕ LineFault
with_actions actions [] = Ok actions
with_actions actions (word ∷ words) = action_of word >>= λ action. with_actions (bit_or actions action) words

-- `none`, or the words of one or more actions
unfoldable pub actions_of : List (List ℕ) → Result ℕ LineFault
actions_of words = do
  first ← word_in words
  if bytes_eq first.0 (codes "none") then (end_of first.1 >>= λ _. Ok 0) else with_actions 0 words
