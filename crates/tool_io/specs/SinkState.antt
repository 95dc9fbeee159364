-- What contracts see of a sink.
use Rattle.std.specs.Prelude.{ℕ, ◌<◌, IfOk, List, length, Option, Result}

-- the bytes that were written, if the sink makes them visible, and how many calls have failed
pub record SinkState : Type 0 where
  pub gone : Option (List ℕ)
  pub faults : ℕ

-- a call that takes bytes takes at least one, if there is one
abbrev pub TakesSome : {E : Type 0} → Result ℕ E → List ℕ → Type 0
TakesSome result bytes = IfOk result (λ n. 0 < length bytes → 0 < n)
