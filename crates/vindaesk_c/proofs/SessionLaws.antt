-- Sessions, line by line.
use Rattle.std.proofs.Common.{◌≡◌, ◌∙◌, ◌<◌, ◌^◌, ℕ, List, [], ◌++◌, ap, arith, length, subst, sym}
use Rattle.std.specs.Io.KnownBytes.{Appends}
use Rattle.std.specs.Prelude.{◌+◌, ◌≤◌, Bool, Option, Some, if◌then◌else◌}
use Rattle.tool_io.specs.Fetched.{Files}
use Rattle.vindaesk_c.proofs.PackedLaws.{packed-injective}
use Rattle.vindaesk_c.specs.Answer.{IsAnswer, LacksRoom, PutsPage}
use Rattle.vindaesk_c.specs.Packed.{packed}
use Rattle.vindaesk_c.specs.Sessions.{HasAnswered, IsAt}
use Rattle.vindaesk_c.specs.declared.open_session.OpenSession.{OpenSession}
use Rattle.tool_replies.specs.Endings.{IsComplete}

-- what was empty holds what was appended
pub appended : (begun gone text : List ℕ) → begun ≡ [] → Appends (Some begun) (Some gone) text → gone ≡ text
appended begun gone text empty e = e ∙ ap (λ b. b ++ text) empty

-- a buffer has the files of one list
pub same_files : (files held : Files) (bytes : List ℕ) → length bytes < 2 ^ 64 → bytes ≡ packed files → bytes ≡ packed held → files ≡ held
same_files files held bytes small e h = packed-injective files held (omega (arith, small, ap length e)) (sym e ∙ h)

-- how the text of a line ends a call

fits : (text old new : List ℕ) (refused : Bool) (size status : ℕ) → PutsPage text refused old new size status → IsComplete status → length text ≤ length old
fits text old new refused size status puts complete = grind (arith, puts.cut, complete)

small : (text old new : List ℕ) (refused : Bool) (size status : ℕ) → PutsPage text refused old new size status → status ≡ 8 → length old < length text
small text old new refused size status puts eight = grind (arith, puts.done, eight)

pub put_whole : (text wanted old new : List ℕ) (refused : Bool) (size status : ℕ) → text ≡ wanted → PutsPage text refused old new size status → IsComplete status → IsAnswer wanted old new size
put_whole text wanted old new refused size status same puts complete =
    subst (λ t. IsAnswer t old new size) same (puts.answer (fits text old new refused size status puts complete))

pub put_small : (text wanted old new : List ℕ) (refused : Bool) (size status : ℕ) → text ≡ wanted → PutsPage text refused old new size status → status ≡ 8 → LacksRoom wanted old size
put_small text wanted old new refused size status same puts eight =
    subst (λ t. LacksRoom t old size) same (puts.small (small text old new refused size status puts eight))

pub put_status : (text old new : List ℕ) (refused : Bool) (size status before after : ℕ) → PutsPage text refused old new size status → IsComplete status → after ≡ before + (if refused then 1 else 0) → after ≡ before + status
put_status text old new refused size status before after puts complete grown =
    grown ∙ ap (λ n. before + n) (sym (puts.done (fits text old new refused size status puts complete)))

-- a session that was taken out of its handle
pub taken_out : (held : Files) (script before : List ℕ) (old : Option OpenSession) (session now : OpenSession) → old ≡ Some session → now ≡ session → IsAt held script before old → HasAnswered held script before now
taken_out held script before old session now taken same at = subst (HasAnswered held script before) (sym same) (subst (IsAt held script before) taken at)
