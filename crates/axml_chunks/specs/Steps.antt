-- Readings that may end at a fault, one after the other.
use Rattle.std.specs.Prelude.{◌≡◌, ℕ, zero, suc, Result, Ok, Err}
use Rattle.axml_chunks.specs.declared.fault.Fault.{Fault}
use Rattle.axml_chunks.specs.declared.fault.ReadFault.{ReadFault}
use Rattle.axml_chunks.specs.declared.fault.ReadFault.TheVariants as faults

-- the next step gets what was read; a fault stays
infixl 10 ◌>>=◌
abbrev pub ◌>>=◌ : {A B : Type 0} → Result A Fault → (A → Result B Fault) → Result B Fault
(Ok x) >>= f = f x
(Err e) >>= f = Err e

-- the steps 0 to n - 1, up to the first fault
unfoldable pub upto : {S : Type 0} → (S → ℕ → Result S Fault) → S → ℕ → Result S Fault
upto step s zero = Ok s
upto step s (suc n) = upto step s n >>= λ t. step t n

-- a call's fault is that of the reading; it may also have run out of memory
abbrev pub Fails : {Y : Type 0} → ReadFault → Result Y Fault → Type 0
Fails faults.NoMemory read = Unit {0}
Fails (faults.Bad f) read = read ≡ Err f

-- a call returns what the reading gives, seen by a view of its values, unless it ran out of memory
abbrev pub Gives : {X Y : Type 0} → (X → Y) → Result X ReadFault → Result Y Fault → Type 0
Gives view (Ok x) read = read ≡ Ok (view x)
Gives view (Err e) read = Fails e read

-- a call leaves the state that the reading gives, or returns its fault, unless it ran out of memory
abbrev pub Does : {X Y : Type 0} → Y → Result X ReadFault → Result Y Fault → Type 0
Does now (Ok x) read = read ≡ Ok now
Does now (Err e) read = Fails e read
