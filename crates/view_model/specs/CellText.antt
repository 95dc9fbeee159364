-- A text in cells of one character each: its segments, the lines that they take, and the character of a cell.
use Rattle.std.specs.Prelude.{ℕ, ◌+◌, ◌-◌, ◌*◌, ◌==◌, max, nat_lt, if◌then◌else◌, List, [], ◌∷◌, ◌++◌, length, map}
use Rattle.std.specs.Prelude.{fold, sum_by, slice_get, Option, None}
use Rattle.std.specs.Int.{div_ceil}

-- the code of the character that ends a segment
abbrev pub newline : ℕ
newline = 10

-- segments of which the first has these characters in front
abbrev pub in_front : List ℕ → List (List ℕ) → List (List ℕ)
in_front characters [] = characters ∷ []
in_front characters (segment ∷ more) = (characters ++ segment) ∷ more

-- the segments between the newlines of a text; an empty text is one empty segment
abbrev pub segments_of : List ℕ → List (List ℕ)
segments_of [] = [] ∷ []
segments_of (c ∷ text) = if c == newline then [] ∷ segments_of text else in_front (c ∷ []) (segments_of text)

-- how many characters each of them has
abbrev pub lengths_of : List ℕ → List ℕ
lengths_of text = map length (segments_of text)

-- how many characters the longest has
abbrev pub widest_of : List ℕ → ℕ
widest_of text = fold max 0 (lengths_of text)

-- how many lines of n cells a segment of this many characters takes: an empty one takes a line too
unfoldable pub lines_for : ℕ → ℕ → ℕ
lines_for n characters = max 1 (div_ceil characters n)

-- how many lines of n cells a text takes
abbrev pub count_of_lines : ℕ → List ℕ → ℕ
count_of_lines n text = sum_by (lines_for n) (lengths_of text)

-- the character of a cell, by the number of its line in a segment and its place in the line, both from 0
unfoldable pub cell_in : ℕ → List ℕ → ℕ → ℕ → Option ℕ
cell_in n segment line place = if nat_lt place n then slice_get segment (line * n + place) else None

-- the same in segments, one below the other
abbrev pub cell_below : ℕ → List (List ℕ) → ℕ → ℕ → Option ℕ
cell_below n [] line place = None
cell_below n (segment ∷ more) line place =
    let lines = lines_for n (length segment) in
    if nat_lt line lines then cell_in n segment line place else cell_below n more (line - lines) place

-- the character of a cell of a text in lines of n cells, if there is one
abbrev pub cell_of : ℕ → List ℕ → ℕ → ℕ → Option ℕ
cell_of n text line place = cell_below n (segments_of text) line place
