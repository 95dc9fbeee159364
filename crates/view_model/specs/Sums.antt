-- How large sums and differences of two numbers of 32 bits are, as both margins of a view on an axis, or two edges.
use Rattle.std.specs.Prelude.{ℤ, pos, negsuc, ◌≤ℤ◌}

-- no less than any two of them together
abbrev pub IsNoLessThanTwo : ℤ → Type 0
IsNoLessThanTwo sum = negsuc 4294967295 ≤ℤ sum

-- no more than any two of them together
abbrev pub IsNoMoreThanTwo : ℤ → Type 0
IsNoMoreThanTwo sum = sum ≤ℤ pos 4294967294

-- no more than any two of them are apart
abbrev pub IsNoMoreThanApart : ℤ → Type 0
IsNoMoreThanApart difference = difference ≤ℤ pos 4294967295
