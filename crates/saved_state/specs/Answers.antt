-- What calls return, by what is defined. Memory may run out where something is read.
use Rattle.std.specs.Prelude.{◌≡◌, ℕ, Bool, true, false, Result, Ok, Err}
use Rattle.view_model.specs.Numbers.{bad_state, state_class}
use Rattle.view_model.specs.Refusals.{AtPlace, plain_refusal, refusal_numbered}
use Rattle.view_model.specs.declared.fault.Fault.{Fault}
use Rattle.view_model.specs.declared.fault.Fault.TheVariants as fault

-- a fault says that what is at this place is wrong
abbrev pub is_bad_at : ℕ → Fault → Type 0
is_bad_at place (fault.Refused refusal) = plain_refusal refusal ≡ record { number = bad_state; reason = AtPlace place }
is_bad_at place fault.NoMemory = ⊥

-- a fault says that a view of another class has the id of an entry
abbrev pub is_other_class : Fault → Type 0
is_other_class (fault.Refused refusal) = plain_refusal refusal ≡ refusal_numbered state_class
is_other_class fault.NoMemory = ⊥

-- a fault reports the first wrong place of what is read, or there was no memory
abbrev pub FailsAs : {A : Type 0} → Result A ℕ → Fault → Type 0
FailsAs read (fault.Refused refusal) = (place : ℕ) × (read ≡ Err place) × is_bad_at place (fault.Refused refusal)
FailsAs read fault.NoMemory = Unit {0}

-- something was read, or its first wrong place is returned
abbrev pub ReadAs : {A : Type 0} → Result A ℕ → Result A Fault → Type 0
ReadAs read (Ok made) = read ≡ Ok made
ReadAs read (Err failed) = FailsAs read failed

-- a state is refused exactly where it is for a view of another class; only where it is not, there may be no memory
abbrev pub RestoredUnless : {A : Type 0} → Bool → Result A Fault → Type 0
RestoredUnless is_for_other (Ok done) = is_for_other ≡ false
RestoredUnless is_for_other (Err (fault.Refused refusal)) =
    (is_for_other ≡ true) × is_other_class (fault.Refused refusal)
RestoredUnless is_for_other (Err fault.NoMemory) = is_for_other ≡ false
