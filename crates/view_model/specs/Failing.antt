-- What a call leaves that fails.
use Rattle.std.specs.Prelude.{◌≡◌, OnErr, Result}

-- a call that fails leaves this as it was
abbrev pub KeepsOnErr : {T E A : Type 0} → Result T E → A → A → Type 0
KeepsOnErr result old new = OnErr result (new ≡ old)
