-- Steps one after the other, up to the first fault.
use Rattle.std.proofs.Common.{◌≡◌, ℕ, zero, suc, ◌+◌, ◌-◌, ◌<◌, Result, Ok, Err, refl, sym, ap, ◌∙◌, arith}
use Rattle.axml_chunks.specs.declared.fault.Fault.{Fault}
use Rattle.axml_chunks.specs.declared.fault.ReadFault.{ReadFault}
use Rattle.axml_chunks.specs.declared.fault.ReadFault.TheVariants as faults
use Rattle.axml_chunks.specs.Steps.{upto, Fails}

pub upto_none : {S : Type 0} (step : S → ℕ → Result S Fault) (s : S) → upto step s 0 ≡ Ok s
unfolding upto
upto_none step s = refl

pub upto_more : {S : Type 0} (step : S → ℕ → Result S Fault) (s t : S) (n : ℕ) → upto step s n ≡ Ok t → upto step s (n + 1) ≡ step t n
unfolding upto
upto_more step s t n so_far =
    let e : n + 1 ≡ suc n = omega arith in
    rw (e, so_far) refl

-- a fault stays
pub upto_stays : {S : Type 0} (step : S → ℕ → Result S Fault) (s : S) (f : Fault) (k more : ℕ) → upto step s k ≡ Err f → upto step s (more + k) ≡ Err f
unfolding upto
upto_stays step s f k zero fault =
    let e : 0 + k ≡ k = omega arith in
    rw e fault
upto_stays step s f k (suc more) fault =
    let e : suc more + k ≡ suc (more + k) = omega arith in
    rw (e, upto_stays step s f k more fault) refl

pub upto_stops : {S : Type 0} (e : ReadFault) (step : S → ℕ → Result S Fault) (s t : S) (k n : ℕ) → k < n → upto step s k ≡ Ok t → Fails e (step t k) → Fails e (upto step s n)
upto_stops faults.NoMemory step s t k n lt so_far fails = tt
upto_stops (faults.Bad f) step s t k n lt so_far fails =
    let e : (n - (k + 1)) + (k + 1) ≡ n = omega arith in
    ap (upto step s) (sym e) ∙ upto_stays step s f (k + 1) (n - (k + 1)) (upto_more step s t k so_far ∙ fails)
