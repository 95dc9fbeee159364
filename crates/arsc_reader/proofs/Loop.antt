-- Reading chunk by chunk, as a loop does.
use Rattle.std.proofs.Common.{◌≡◌, ℕ, zero, suc, ◌+◌, ◌-◌, ◌<◌, ◌≤◌, List, Result, Ok, refl, sym, ap, ◌∙◌, arith}
use Rattle.std.proofs.lemmas.Bool.{lt-ltb, le-ltb}
use Rattle.axml_chunks.specs.declared.chunk.Chunk.{Chunk}
use Rattle.axml_chunks.specs.declared.fault.Fault.{Fault}
use Rattle.axml_chunks.specs.declared.fault.ReadFault.{ReadFault}
use Rattle.axml_chunks.specs.declared.fault.ReadFault.TheVariants as faults
use Rattle.axml_chunks.specs.Steps.{◌>>=◌, Fails}
use Rattle.arsc_reader.specs.Reading.{Found, one_chunk, chunks_from, all_chunks}

abbrev pub Step : Type 0
Step = ℕ → Chunk → Found → Result Found Fault

-- from this place and state on, all is read that is read in total
pub record StepsLead (step : Step) (bytes : List ℕ) (end place : ℕ) (s : Found) (total : Result Found Fault) : Type 0 where
  pub fuel : ℕ
  pub enough : end ≤ place + fuel
  pub same : chunks_from step fuel bytes end place s ≡ total

pub leads_first : (step : Step) (bytes : List ℕ) (end place : ℕ) (s : Found) → StepsLead step bytes end place s (all_chunks step bytes end place s)
leads_first step bytes end place s = record { fuel = end; enough = omega arith; same = refl }

opened_up : (step : Step) (n : ℕ) (bytes : List ℕ) (end place : ℕ) (s : Found) → place < end
    → chunks_from step (suc n) bytes end place s ≡ one_chunk step bytes end place s >>= λ next. chunks_from step n bytes end next.0 next.1
unfolding chunks_from
opened_up step n bytes end place s lt = rw (lt-ltb place end lt) refl

ended_there : (step : Step) (n : ℕ) (bytes : List ℕ) (end place : ℕ) (s : Found) → end ≤ place → chunks_from step n bytes end place s ≡ Ok s
unfolding chunks_from
ended_there step zero bytes end place s le = refl
ended_there step (suc n) bytes end place s le = rw (le-ltb place end le) refl

pub leads_on : (step : Step) (bytes : List ℕ) (end place next : ℕ) (s t : Found) (total : Result Found Fault) → place < end → one_chunk step bytes end place s ≡ Ok (next, t) → place < next
    → StepsLead step bytes end place s total → StepsLead step bytes end next t total
leads_on step bytes end place next s t total lt e on l =
    let k : l.fuel ≡ suc (l.fuel - 1) = omega (arith, l.enough) in
    let same : chunks_from step (l.fuel - 1) bytes end next t ≡ total = sym (ap (λ (n : ℕ). chunks_from step n bytes end place s) k ∙ opened_up step (l.fuel - 1) bytes end place s lt ∙ rw e refl) ∙ l.same in
    record { fuel = l.fuel - 1; enough = omega (arith, l.enough); same = same }

pub leads_out : (f : ReadFault) (step : Step) (bytes : List ℕ) (end place : ℕ) (s : Found) (total : Result Found Fault) → place < end → Fails f (one_chunk step bytes end place s)
    → StepsLead step bytes end place s total → Fails f total
leads_out faults.NoMemory step bytes end place s total lt e l = tt
leads_out (faults.Bad f) step bytes end place s total lt e l =
    let k : l.fuel ≡ suc (l.fuel - 1) = omega (arith, l.enough) in
    sym l.same ∙ ap (λ (n : ℕ). chunks_from step n bytes end place s) k ∙ opened_up step (l.fuel - 1) bytes end place s lt ∙ rw e refl

pub leads_to : (step : Step) (bytes : List ℕ) (end place : ℕ) (s : Found) (total : Result Found Fault) → end ≤ place → StepsLead step bytes end place s total → total ≡ Ok s
leads_to step bytes end place s total le l = sym l.same ∙ ended_there step l.fuel bytes end place s le
