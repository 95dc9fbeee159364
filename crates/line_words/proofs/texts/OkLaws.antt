-- What holds of whatever a reading gives.
use Rattle.std.proofs.Common.{◌≡◌, ℕ, Bool, true, false, refl, subst, sym, List, ap}
use Rattle.std.specs.Prelude.{if◌then◌else◌, IfOk, Option, Some, None, Result, Ok, Err}
use Rattle.std.specs.Str.{bytes_eq}
use Rattle.std.proofs.lemmas.Slice.Eq.{bytes_eq-Decides}
use Rattle.line_words.specs.words.Names.{known}
use Rattle.line_words.specs.words.Words.{◌>>=◌, map_ok}
use Rattle.line_words.specs.declared.fault.LineFault.{LineFault}

pub if_then : {A B : Type 0} (P : B → Type 0) (r : Result A LineFault) (next : A → Result B LineFault) → ((a : A) → IfOk (next a) P) → IfOk (r >>= next) P
if_then P (Ok a) next h = h a
if_then P (Err fault) next h = tt

pub if_then_with : {A B : Type 0} (Q : A → Type 0) (P : B → Type 0) (r : Result A LineFault) (next : A → Result B LineFault) → IfOk r Q → ((a : A) → Q a → IfOk (next a) P) → IfOk (r >>= next) P
if_then_with Q P (Ok a) next q h = h a q
if_then_with Q P (Err fault) next q h = tt

pub if_map : {A B : Type 0} (P : B → Type 0) (f : A → B) (r : Result A LineFault) → ((a : A) → P (f a)) → IfOk (map_ok f r) P
if_map P f (Ok a) h = h a
if_map P f (Err fault) h = tt

pub if_map_with : {A B : Type 0} (Q : A → Type 0) (P : B → Type 0) (f : A → B) (r : Result A LineFault) → IfOk r Q → ((a : A) → Q a → P (f a)) → IfOk (map_ok f r) P
if_map_with Q P f (Ok a) q h = h a q
if_map_with Q P f (Err fault) q h = tt

pub if_ok_more : {B : Type 0} (Q P : B → Type 0) (r : Result B LineFault) → IfOk r Q → ((b : B) → Q b → P b) → IfOk r P
if_ok_more Q P (Ok b) q h = h b q
if_ok_more Q P (Err fault) q h = tt

pub if_either : {B : Type 0} (P : B → Type 0) (b : Bool) (r s : Result B LineFault) → IfOk r P → IfOk s P → IfOk (if b then r else s) P
if_either P true r s h k = h
if_either P false r s h k = k

-- what holds of the plain value that a reading gives
pub from_plain : {A B : Type 0} (f : A → B) (P : B → Type 0) (r : Result A LineFault) (plain : Result B LineFault) → map_ok f r ≡ plain → IfOk plain P → IfOk r (λ a. P (f a))
from_plain f P (Ok a) plain e h = subst (λ r. IfOk r P) (sym e) h
from_plain f P (Err fault) plain e h = tt

pub if_test : {B : Type 0} (P : B → Type 0) (b : Bool) (r s : Result B LineFault) → (b ≡ true → IfOk r P) → IfOk s P → IfOk (if b then r else s) P
if_test P true r s h k = h refl
if_test P false r s h k = k

-- a word that is looked for by its name
pub if_word : {B : Type 0} (P : B → Type 0) (word name : List ℕ) (r s : Result B LineFault) → (word ≡ name → IfOk r P) → IfOk s P → IfOk (if bytes_eq word name then r else s) P
if_word P word name r s h k = if_test P (bytes_eq word name) r s (λ same. h ((bytes_eq-Decides word name).0 same)) k

pub if_known : {A : Type 0} (P : A → Type 0) (o : Option A) → ((a : A) → o ≡ Some a → P a) → IfOk (known o) P
if_known P None h = tt
if_known P (Some a) h = h a refl

pub if_same : {A : Type 0} (r : Result A LineFault) → IfOk r (λ a. r ≡ Ok a)
if_same (Ok a) = refl
if_same (Err fault) = tt

-- a reading of plain values that is a fault is that fault
pub map_ok-fault : {A B : Type 0} (f : A → B) (r : Result A LineFault) (fault : LineFault) → map_ok f r ≡ Err fault → r ≡ Err fault
map_ok-fault f (Ok a) fault h = absurd (cc)
map_ok-fault f (Err other) fault h = ap Err (cc h)
