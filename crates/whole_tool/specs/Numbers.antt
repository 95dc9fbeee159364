-- The limits of the commands, and the numbers of the refusals that are not those of a world.
use Rattle.std.specs.Prelude.{ℕ, ◌^◌}

-- the most views of a tree
abbrev pub max_views : ℕ
max_views = 4096

-- the numbers of views are below this
abbrev pub numbers_end : ℕ
numbers_end = 2 ^ 62

-- the most resources that `lookup` takes at a time
abbrev pub max_ids : ℕ
max_ids = 64

-- the greatest size of a load
abbrev pub max_load : ℕ
max_load = 100

-- the refusal of a line with a number outside its bounds
abbrev pub out_of_range : ℕ
out_of_range = 30

-- the refusal of a line that the grammar does not have
abbrev pub bad_syntax : ℕ
bad_syntax = 31

-- the refusal of a line that is too long
abbrev pub long_line : ℕ
long_line = 32
