-- Attributes that are read one after the other.
use Rattle.std.proofs.Common.{◌≡◌, ℕ, zero, suc, ◌+◌, ◌*◌, List, [], ◌∷◌, ◌++◌, Result, Ok, Err, refl, sym, ap, append_assoc}
use Rattle.std.proofs.lemmas.List.{append-nil}
use Rattle.axml_chunks.specs.declared.fault.Fault.{Fault}
use Rattle.axml_chunks.specs.Steps.{◌>>=◌, upto}
use Rattle.axml_chunks.proofs.Readings.{done}
use Rattle.axml_reader.specs.declared.doc.Attr.{Attr}
use Rattle.axml_reader.specs.Fields.{attr_at, attr_after, attrs_upto}

-- attributes after others
abbrev pub following : List Attr → Result (List Attr) Fault → Result (List Attr) Fault
following attrs more = more >>= λ own. Ok (attrs ++ own)

one_after : (attrs own : List Attr) (r : Result Attr Fault) → (r >>= λ attr. Ok ((attrs ++ own) ++ attr ∷ [])) ≡ following attrs (r >>= λ attr. Ok (own ++ attr ∷ []))
one_after attrs own (Ok attr) = ap (λ (l : List Attr). done l) (append_assoc attrs own (attr ∷ []))
one_after attrs own (Err f) = refl

step_after : (bytes : List ℕ) (count place step n : ℕ) (attrs : List Attr) (r : Result (List Attr) Fault)
    → (following attrs r >>= λ t. attr_after bytes count place step t n) ≡ following attrs (r >>= λ t. attr_after bytes count place step t n)
step_after bytes count place step n attrs (Ok own) = one_after attrs own (attr_at bytes count (place + n * step))
step_after bytes count place step n attrs (Err f) = refl

pub attrs_after : (bytes : List ℕ) (count place step : ℕ) (attrs : List Attr) (n : ℕ) → attrs_upto bytes count place step attrs n ≡ following attrs (attrs_upto bytes count place step [] n)
unfolding upto
attrs_after bytes count place step attrs zero = ap (λ (l : List Attr). done l) (sym (append-nil attrs))
attrs_after bytes count place step attrs (suc n) =
    rw (attrs_after bytes count place step attrs n) (step_after bytes count place step n attrs (attrs_upto bytes count place step [] n))
