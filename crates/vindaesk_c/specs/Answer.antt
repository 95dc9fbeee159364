-- What a call leaves in the buffer of its caller.
use Rattle.std.specs.Prelude.{◌≡◌, ◌≢◌, ◌⊎◌, ℕ, ◌<◌, ◌≤◌, Bool, if◌then◌else◌, List, length, take, drop, Result, Err}
use Rattle.vindaesk_c.specs.Packed.{AreBroken, ArePacked}
use Rattle.vindaesk_c.specs.declared.fault.Fault.{Fault}
use Rattle.vindaesk_c.specs.declared.fault.Fault.TheVariants.{NoMemory, BrokenFiles}
use Rattle.tool_replies.specs.Endings.{IsComplete}

-- the first bytes of the buffer are the whole text, and the others are as they were
pub record IsAnswer (text old new : List ℕ) (size : ℕ) : Type 0 where
  pub whole : take size new ≡ text
  pub sized : size ≡ length text
  pub rest : drop size new ≡ drop size old

-- the text has more bytes than the buffer
pub record LacksRoom (text old : List ℕ) (size : ℕ) : Type 0 where
  pub sized : size ≡ length text
  pub room : length old < size

-- how a page ends a call
pub record PutsPage (text : List ℕ) (refused : Bool) (old new : List ℕ) (size status : ℕ) : Type 0 where
  pub answer : length text ≤ length old → IsAnswer text old new size
  pub done : length text ≤ length old → status ≡ (if refused then 1 else 0)
  pub small : length old < length text → LacksRoom text old size
  pub cut : length old < length text → (status ≡ 8) × (new ≡ old)

abbrev pub fault_status : Fault → ℕ
fault_status NoMemory = 5
fault_status BrokenFiles = 9

-- how a fault ends a call
pub record ReportsFault (fault : Fault) (old new : List ℕ) (size status : ℕ) : Type 0 where
  pub numbered : status ≡ fault_status fault
  pub kept : new ≡ old
  pub sized : size ≡ 0

-- a call says that files are broken only if they are
abbrev pub FindsBroken : {A : Type 0} → Result A Fault → List ℕ → Type 0
FindsBroken result files = result ≡ Err BrokenFiles → AreBroken files

-- the same by its status
abbrev pub SaysBroken : ℕ → List ℕ → Type 0
SaysBroken status files = status ≡ 9 → AreBroken files

-- a call that has a page has read the files, also if the buffer is too small for it
abbrev pub HasRead : ℕ → List ℕ → Type 0
HasRead status files = IsComplete status ⊎ (status ≡ 8) → ArePacked files

-- a call without a page leaves the buffer
abbrev pub KeepsBuffer : ℕ → List ℕ → List ℕ → Type 0
KeepsBuffer status old new = (IsComplete status → ⊥) → new ≡ old

-- it says 0 as the size of the page, unless the buffer is too small for one
abbrev pub SaysNoSize : ℕ → ℕ → Type 0
SaysNoSize status size = (IsComplete status → ⊥) → status ≢ 8 → size ≡ 0
