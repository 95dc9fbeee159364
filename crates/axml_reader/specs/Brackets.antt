-- Words of brackets, each with a name.
use Rattle.std.specs.Prelude.{◌≡◌, ℕ, ◌-◌, Bool, true, false, List, [], ◌∷◌, ◌++◌, take, length, slice_index, Option}
use Rattle.std.specs.Prelude.{Some, None, ◌==◌, not, if◌then◌else◌}

pub data Token : Type 0 where
  Opens : ℕ → Token
  Closes : ℕ → Token
  Plain : Token

-- a word in which each bracket that opens is closed by one of the same name
pub data IsBalanced (same : ℕ → ℕ → Bool) : List Token → Type 0 where
  Done : IsBalanced same []
  Passed : {rest : List Token} → IsBalanced same rest → IsBalanced same (Plain ∷ rest)
  Paired : {inner rest : List Token} (a b : ℕ) → same b a ≡ true → IsBalanced same inner → IsBalanced same rest
      → IsBalanced same (Opens a ∷ (inner ++ Closes b ∷ rest))

-- a word without brackets
abbrev pub IsPlain : List Token → Type 0
IsPlain [] = Unit {0}
IsPlain (Plain ∷ rest) = IsPlain rest
IsPlain (Opens a ∷ rest) = ⊥
IsPlain (Closes a ∷ rest) = ⊥

-- a word of brackets with one outermost pair
pub record IsRooted (same : ℕ → ℕ → Bool) (word : List Token) : Type 0 where
  pub before : List Token
  pub inner : List Token
  pub after : List Token
  pub first : ℕ
  pub last : ℕ
  pub word_is : word ≡ before ++ (Opens first ∷ (inner ++ Closes last ∷ after))
  pub before_plain : IsPlain before
  pub after_plain : IsPlain after
  pub balanced : IsBalanced same inner
  pub matches : same last first ≡ true

-- the names that are open, the innermost last, and whether an outermost pair has ended
pub record Stack : Type 0 where
  pub opened : List ℕ
  pub closed : Bool

-- the innermost open name is the same as this one
abbrev pub is_closed_by : (ℕ → ℕ → Bool) → List ℕ → ℕ → Bool
is_closed_by same opened b = if length opened == 0 then false else same b (slice_index opened (length opened - 1))

-- one name more is open, and the innermost is not open any more
abbrev pub pushed : Stack → ℕ → Stack
pushed s a = record { opened = s.opened ++ a ∷ []; closed = s.closed }

abbrev pub popped : Stack → Stack
popped s = record { opened = take (length s.opened - 1) s.opened; closed = length s.opened == 1 }

-- a token may come next
abbrev pub allows : (ℕ → ℕ → Bool) → Stack → Token → Bool
allows same s Plain = true
allows same s (Opens a) = not s.closed
allows same s (Closes b) = is_closed_by same s.opened b

-- what is open after a token
abbrev pub turned : Stack → Token → Stack
turned s Plain = s
turned s (Opens a) = pushed s a
turned s (Closes b) = popped s

-- what is open after a word, if each of its tokens may come
abbrev pub brackets : (ℕ → ℕ → Bool) → Stack → List Token → Option Stack
brackets same s [] = Some s
brackets same s (t ∷ rest) = if allows same s t then brackets same (turned s t) rest else None

abbrev pub nothing_open : Bool → Stack
nothing_open closed = record { opened = []; closed = closed }

-- a word after which an outermost pair has ended and nothing is open
abbrev pub is_ended : Option Stack → Bool
is_ended None = false
is_ended (Some s) = if length s.opened == 0 then s.closed else false

-- the test of a word of brackets with one outermost pair
abbrev pub is_rooted : (ℕ → ℕ → Bool) → List Token → Bool
is_rooted same word = is_ended (brackets same (nothing_open false) word)
