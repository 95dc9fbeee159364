-- The verbs of the rules of a relative layout's children, by the places that a child's rules have for them. The first
-- twelve name a sibling, the others do not; `NumberLaws` says that the places of the code are these.
use Rattle.std.specs.Prelude.{ℕ}

-- how many verbs there are
abbrev pub verb_count : ℕ
verb_count = 21

-- how many of them name a sibling: these are the first
abbrev pub sibling_verbs : ℕ
sibling_verbs = 12

abbrev pub left_of : ℕ
left_of = 0

abbrev pub right_of : ℕ
right_of = 1

abbrev pub above : ℕ
above = 2

abbrev pub below : ℕ
below = 3

abbrev pub align_left : ℕ
align_left = 4

abbrev pub align_top : ℕ
align_top = 5

abbrev pub align_right : ℕ
align_right = 6

abbrev pub align_bottom : ℕ
align_bottom = 7

abbrev pub start_of : ℕ
start_of = 8

abbrev pub end_of : ℕ
end_of = 9

abbrev pub align_start : ℕ
align_start = 10

abbrev pub align_end : ℕ
align_end = 11

abbrev pub parent_left : ℕ
parent_left = 12

abbrev pub parent_top : ℕ
parent_top = 13

abbrev pub parent_right : ℕ
parent_right = 14

abbrev pub parent_bottom : ℕ
parent_bottom = 15

abbrev pub parent_start : ℕ
parent_start = 16

abbrev pub parent_end : ℕ
parent_end = 17

abbrev pub center : ℕ
center = 18

abbrev pub center_h : ℕ
center_h = 19

abbrev pub center_v : ℕ
center_v = 20
