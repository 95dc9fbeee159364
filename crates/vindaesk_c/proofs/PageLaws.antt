-- What the tool has written, by the form of its words.
use Rattle.std.proofs.Common.{◌≡◌, ◌≢◌, ℕ, ◌≤◌, List, [], ◌++◌, ◌∙◌, ap, length, refl, arith}
use Rattle.std.specs.Prelude.{◌==◌, Bool, true, false, Some, if◌then◌else◌}
use Rattle.tool_io.specs.Fetched.{Files}
use Rattle.vindaesk_c.specs.Page.{page_of, refuses}
use Rattle.whole_tool.specs.Promises.{ReportsRefusals, WritesPages}
use Rattle.whole_tool.specs.Tool.{Given, IsRunOf, given}
use Rattle.tool_replies.specs.Endings.{IsComplete, Writes}
use Rattle.whole_tool.specs.Transcript.{max_script, transcript}
use Rattle.whole_tool.specs.Usage.{Usage, Run, Stack, Dump, Gen, Lookup, Focus, Unknown}

-- what the headline of the tool says of a run of a script, for known files
abbrev pub WritesRun : Given → List ℕ → List ℕ → ℕ → Type 0
WritesRun call begun gone status =
    (s : List ℕ) (f : Files) → IsRunOf call s f → length s ≤ max_script → Writes status (Some begun) (Some gone) (transcript s f)

pub whole_page : (form : Usage) (script : List ℕ) (files : Files) (begun gone : List ℕ) (status : ℕ)
    → WritesRun (given form (Some script) (Some files)) begun gone status → WritesPages (given form (Some script) (Some files)) (Some begun) (Some gone) status
    → form ≢ Unknown → length script ≤ max_script → IsComplete status
    → gone ≡ begun ++ page_of form script files
whole_page Run script files begun gone status run writes known short complete =
    (run script files (record { words = refl; source = refl; shelf = refl }) short).whole complete
whole_page Stack script files begun gone status run writes known short complete =
    (writes.stack script files (record { words = refl; source = refl; shelf = refl }) short).whole complete
whole_page (Dump name) script files begun gone status run writes known short complete =
    (writes.dump name files (record { words = refl; shelf = refl })).whole complete
whole_page (Gen n) script files begun gone status run writes known short complete = (writes.load n refl).whole complete
whole_page (Lookup name ids) script files begun gone status run writes known short complete =
    (writes.lookup name ids files (record { words = refl; shelf = refl })).whole complete
whole_page (Focus question) script files begun gone status run writes known short complete =
    (writes.focus script files question (record { words = refl; source = refl; shelf = refl }) short).whole complete
whole_page Unknown script files begun gone status run writes known short complete = absurd (known refl)

-- the same from a sink without any
pub page_from : (form : Usage) (sent script : List ℕ) (files : Files) (begun gone : List ℕ) (status : ℕ)
    → sent ≡ script → begun ≡ []
    → WritesRun (given form (Some sent) (Some files)) begun gone status → WritesPages (given form (Some sent) (Some files)) (Some begun) (Some gone) status
    → form ≢ Unknown → length script ≤ max_script → IsComplete status
    → gone ≡ page_of form script files
page_from form sent script files begun gone status same empty run writes known short complete =
    let short' : length sent ≤ max_script = omega (arith, short, ap length same) in
    whole_page form sent files begun gone status run writes known short' complete
    ∙ ap (λ b. b ++ page_of form sent files) empty
    ∙ ap (λ s. page_of form s files) same

-- and the status

pub status_of_page : (form : Usage) (script : List ℕ) (files : Files) (status : ℕ)
    → ReportsRefusals (given form (Some script) (Some files)) status → form ≢ Unknown → length script ≤ max_script → IsComplete status
    → status ≡ (if refuses form script files then 1 else 0)
status_of_page Run script files status refused known short complete =
    refused.refused script files (record { words = refl; source = refl; shelf = refl }) short complete
status_of_page Stack script files status refused known short complete =
    refused.stack_refused script files (record { words = refl; source = refl; shelf = refl }) complete
status_of_page (Dump name) script files status refused known short complete =
    refused.dump_refused name files (record { words = refl; shelf = refl }) complete
status_of_page (Gen n) script files status refused known short complete = refused.gen_accepts n refl complete
status_of_page (Lookup name ids) script files status refused known short complete =
    refused.lookup_refused name ids files (record { words = refl; shelf = refl }) complete
status_of_page (Focus question) script files status refused known short complete =
    refused.focus_refused script files question (record { words = refl; source = refl; shelf = refl }) complete
status_of_page Unknown script files status refused known short complete = absurd (known refl)

-- the same of the script that was given
pub status_from : (form : Usage) (sent script : List ℕ) (files : Files) (status : ℕ)
    → sent ≡ script
    → ReportsRefusals (given form (Some sent) (Some files)) status → form ≢ Unknown → length script ≤ max_script → IsComplete status
    → status ≡ (if refuses form script files then 1 else 0)
status_from form sent script files status same refused known short complete =
    let short' : length sent ≤ max_script = omega (arith, short, ap length same) in
    status_of_page form sent files status refused known short' complete
    ∙ ap (λ s. if refuses form s files then 1 else 0) same

-- the status says whether something was refused
pub refusing_of : (refused : Bool) (status : ℕ) → status ≡ (if refused then 1 else 0) → (status == 1) ≡ refused
refusing_of true status e = ap (λ s. s == 1) e
refusing_of false status e = ap (λ s. s == 1) e
