-- Sessions of C.
use Rattle.std.specs.Prelude.{◌≡◌, ℕ, ◌+◌, Bool, if◌then◌else◌, List, ◌++◌, Option, IfSome}
use Rattle.tool_io.specs.Fetched.{Files}
use Rattle.vindaesk_c.specs.Packed.{packed}
use Rattle.vindaesk_c.specs.declared.open_session.OpenSession.{OpenSession}
use Rattle.whole_tool.specs.Session.{HasRun, after_script, answer_to, with_line}
use Rattle.whole_tool.specs.Transcript.{transcript}

-- the lines of this script were carried out with these files, and this text is the answer to the last one
pub record HasAnswered (held : Files) (script text : List ℕ) (session : OpenSession) : Type 0 where
  pub files : session.files.items ≡ packed held
  pub run : HasRun held script session.session
  pub answer : session.answer.gone ≡ text

-- the session that is open, if one is, has done that
abbrev pub IsAt : Files → List ℕ → List ℕ → Option OpenSession → Type 0
IsAt held script text session = IfSome session (HasAnswered held script text)

-- one more line makes the transcript longer by its answer, and is refused or not
pub record AddsAnswer (held : Files) (script line : List ℕ) (refuses : Bool) : Type 0 where
  pub whole : transcript (with_line script line) held ≡ transcript script held ++ answer_to held script line
  pub refused : (after_script held (with_line script line)).refused
      ≡ (after_script held script).refused + (if refuses then 1 else 0)
