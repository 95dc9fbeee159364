-- How a call ends, by its status.
use Rattle.std.proofs.Common.{◌≡◌, ℕ, ◌-◌, ◌^◌, ◌≤◌, ap, refl, arith, inl, inr, List, [], ◌∷◌, min}
use Rattle.std.specs.Prelude.{◌⊎◌, Some}
use Rattle.tool_io.specs.Fetched.{Files}
use Rattle.whole_tool.specs.Tool.{Given}
use Rattle.tool_replies.specs.Endings.{IsOneOf, IsComplete}
use Rattle.tool_replies.proofs.EndingLaws.{not_status}
use Rattle.view_model.specs.declared.work.Work.{Work}
use Rattle.std.proofs.lemmas.Bool.Decides.{nat_tests}

-- what holds of a script on a source and the files of a shelf, if contracts see them
abbrev pub OnScript : Given → (Files → List ℕ → Type 0) → Type 0
OnScript call P = (files : Files) (script : List ℕ) → call.held ≡ Some files → call.left ≡ Some script → P files script

-- a print or a look-up in which no call failed
pub file_ends : (status : ℕ) → IsOneOf status (0 ∷ 1 ∷ 4 ∷ 5 ∷ 6 ∷ []) → (status ≡ 4 → ⊥) → (status ≡ 6 → ⊥) → IsComplete status ⊎ (status ≡ 5)
file_ends status known no_4 no_6 = grind (arith, nat_tests)

-- a load in which none failed, and one that ended by itself

pub load_ends : (status : ℕ) → IsOneOf status (0 ∷ 4 ∷ 5 ∷ []) → (status ≡ 4 → ⊥) → (status ≡ 0) ⊎ (status ≡ 5)
load_ends status known no_4 = grind (arith, nat_tests)

pub load_accepts : (status : ℕ) → IsOneOf status (0 ∷ 4 ∷ 5 ∷ []) → IsComplete status → status ≡ 0
load_accepts status known (inl e) = e
load_accepts status known (inr e) = absurd (not_status status 1 (0 ∷ 4 ∷ 5 ∷ []) known refl e)

-- work that is as it was

pub same_painted : (first last : Work) → last ≡ first → first.painted ≤ last.painted
same_painted first last same = omega (arith, ap (λ (work : Work). work.painted) same)

pub same_measured : (first last : Work) → last ≡ first → min first.measured (2 ^ 64 - 1) ≤ last.measured
same_measured first last same = omega (arith, ap (λ (work : Work). work.measured) same)
