-- The lines of a script.
use Rattle.std.specs.Prelude.{◌≡◌, ℕ, ◌-◌, ◌==◌, nat_lt, Bool, true, false, not, ◌&&◌, ◌||◌, List, [], ◌∷◌, ◌++◌}
use Rattle.std.specs.Prelude.{if◌then◌else◌, length, take, fold, slice_index}
use Rattle.std.specs.List.{list_all, position_or_len}
use Rattle.line_words.specs.words.Words.{is_space}

-- a line as it was read
pub data Line : Type 0 where
  Text : (bytes : List ℕ) → Line
  LongLine : Line

-- the most bytes that a line may have before its line feed
abbrev pub max_line : ℕ
max_line = 1024

abbrev pub is_line_feed : ℕ → Bool
is_line_feed b = b == 10

-- the bytes without one carriage return at their end
unfoldable pub without_return : List ℕ → List ℕ
without_return bytes =
    if nat_lt 0 (length bytes) && slice_index bytes (length bytes - 1) == 13 then take (length bytes - 1) bytes
    else bytes

-- the line of the bytes before a line feed: a carriage return counts for its length, and is then dropped
unfoldable pub line_of : List ℕ → Line
line_of bytes = if nat_lt max_line (length bytes) then LongLine else Text (without_return bytes)

-- the line of bytes that no line feed ends: a carriage return stays
unfoldable pub last_line : List ℕ → Line
last_line bytes = if nat_lt max_line (length bytes) then LongLine else Text bytes

-- the lines whose line feed has come, and the beginning of the next line
pub record Cut : Type 0 where
  pub lines : List Line
  pub rest : List ℕ

abbrev pub cut_step : Cut → ℕ → Cut
cut_step cut b =
    if is_line_feed b then record { lines = cut.lines ++ line_of cut.rest ∷ []; rest = [] }
    else record { lines = cut.lines; rest = cut.rest ++ b ∷ [] }

abbrev pub cut_of : List ℕ → Cut
cut_of bytes = fold cut_step (record { lines = []; rest = [] }) bytes

-- a rest without a line feed is a line if it is not empty
abbrev pub last_of : List ℕ → List Line
last_of [] = []
last_of (b ∷ bytes) = last_line (b ∷ bytes) ∷ []

-- the lines of a script
unfoldable pub lines_of : List ℕ → List Line
lines_of script = (cut_of script).lines ++ last_of (cut_of script).rest

-- a line of spaces only, or none, and a line that begins with `#`
abbrev pub is_passed_over : List ℕ → Bool
is_passed_over line = list_all is_space line || (nat_lt 0 (length line) && slice_index line 0 == 35)

-- too long a line is not passed over, whatever it begins with
abbrev pub is_idle : Line → Bool
is_idle LongLine = false
is_idle (Text bytes) = is_passed_over bytes

-- whether these bytes begin with a whole line that is empty or begins with `#`
abbrev pub begins_passed : List ℕ → Bool
begins_passed bytes =
    let end = position_or_len is_line_feed bytes in
    nat_lt end (length bytes) && not (nat_lt max_line end) && (end == 0 || slice_index bytes 0 == 35)

-- these bytes are this many lines that are passed over, each with its line feed
pub record ArePassedOver (bytes : List ℕ) (count : ℕ) : Type 0 where
  pub rest : (cut_of bytes).rest ≡ []
  pub idle : list_all is_idle (cut_of bytes).lines ≡ true
  pub counted : length (cut_of bytes).lines ≡ count
