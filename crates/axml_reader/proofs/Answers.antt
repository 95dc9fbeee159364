-- What a call returns, given what a reading gives.
use Rattle.std.proofs.Common.{◌≡◌, Result, Ok, Err}
use Rattle.std.specs.Prelude.{IfOk}
use Rattle.axml_chunks.specs.declared.fault.Fault.{Fault}
use Rattle.axml_chunks.specs.declared.fault.ReadFault.{ReadFault}
use Rattle.axml_chunks.specs.Steps.{Gives}

-- a fact of what the reading gives is one of what the call returns
pub gives_found : {X Y : Type 0} (view : X → Y) (r : Result X ReadFault) (read : Result Y Fault) (P : Y → Type 0) → Gives view r read → ((y : Y) → read ≡ Ok y → P y) → IfOk r (λ x. P (view x))
gives_found view (Ok x) read P given all = all (view x) given
gives_found view (Err e) read P given all = tt
