-- A gravity, as a line gives it.
use Rattle.std.specs.Prelude.{ℕ, ◌==◌, Bool, true, false, ◌||◌, if◌then◌else◌, List, fold, codes, Result, Ok, Err}
use Rattle.std.specs.List.{slice_split}
use Rattle.std.specs.Str.{bytes_eq}
use Rattle.view_model.specs.Facts.{no_gravity}
use Rattle.view_model.specs.declared.placing.Across.{Across}
use Rattle.view_model.specs.declared.placing.Across.TheVariants as across
use Rattle.view_model.specs.declared.placing.Down.{Down}
use Rattle.view_model.specs.declared.placing.Down.TheVariants as down
use Rattle.view_model.specs.declared.placing.Gravity.{Gravity}
use Rattle.line_words.specs.words.Words.{◌>>=◌}
use Rattle.line_words.specs.declared.fault.LineFault.{LineFault}
use Rattle.line_words.specs.declared.fault.LineFault.TheVariants.{Syntax}

-- the place from left to right that a word gives; unset if it gives none
unfoldable pub across_of : List ℕ → Across
across_of word =
    if bytes_eq word (codes "left") then across.Left else (
    if bytes_eq word (codes "right") then across.Right else (
    if bytes_eq word (codes "start") then across.Start else (
    if bytes_eq word (codes "end") then across.End else (
    if bytes_eq word (codes "center_horizontal") then across.Center else (
    if bytes_eq word (codes "center") then across.Center else
    across.Unset)))))

-- the place from top to bottom that a word gives; unset if it gives none
unfoldable pub down_of : List ℕ → Down
down_of word =
    if bytes_eq word (codes "top") then down.Top else (
    if bytes_eq word (codes "bottom") then down.Bottom else (
    if bytes_eq word (codes "center_vertical") then down.Center else (
    if bytes_eq word (codes "center") then down.Center else
    down.Unset)))

abbrev pub is_set_across : Across → Bool
is_set_across across.Unset = false
is_set_across across.Left = true
is_set_across across.Right = true
is_set_across across.Center = true
is_set_across across.Start = true
is_set_across across.End = true

abbrev pub is_set_down : Down → Bool
is_set_down down.Unset = false
is_set_down down.Top = true
is_set_down down.Bottom = true
is_set_down down.Center = true

-- what two words give for an axis: one of them at most
unfoldable pub one_across : Across → Across → Result Across LineFault
one_across old new = if is_set_across new then (if is_set_across old then Err Syntax else Ok new) else Ok old

unfoldable pub one_down : Down → Down → Result Down LineFault
one_down old new = if is_set_down new then (if is_set_down old then Err Syntax else Ok new) else Ok old

-- a word that gives a place on either axis, or on both
abbrev pub is_place : List ℕ → Bool
is_place word = is_set_across (across_of word) || is_set_down (down_of word)

-- a gravity and one word more
unfoldable pub with_word : Gravity → List ℕ → Result Gravity LineFault
with_word gravity word =
    if is_place word then (
    one_across gravity.across (across_of word) >>= λ across.
    one_down gravity.down (down_of word)
    >>= λ down. Ok (record { given = gravity.given; across = across; down = down }))
    else
    Err Syntax

abbrev pub is_bar : ℕ → Bool
is_bar b = b == 124

abbrev pub word_step : Result Gravity LineFault → List ℕ → Result Gravity LineFault
word_step gravity word = gravity >>= λ gravity. with_word gravity word

-- a gravity and the words that bars separate
unfoldable pub with_words : Gravity → List ℕ → Result Gravity LineFault
with_words gravity words = fold word_step (Ok gravity) (slice_split is_bar words)

-- a gravity that is given, before its words
abbrev pub bare_gravity : Gravity
bare_gravity = record { given = true; across = across.Unset; down = down.Unset }

-- `none`, which takes a gravity away, or words that bars separate
unfoldable pub gravity_of : List ℕ → Result Gravity LineFault
gravity_of word = if bytes_eq word (codes "none") then Ok no_gravity else with_words bare_gravity word
