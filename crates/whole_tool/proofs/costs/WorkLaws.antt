-- How much is counted in a line.
use Rattle.std.proofs.Common.{◌≡◌, ◌≢◌, ℕ, ◌+◌, ◌-◌, ◌^◌, ◌≤◌, min, ap, refl, arith, inl, inr}
use Rattle.std.specs.Prelude.{◌⊎◌, Result}
use Rattle.script_lines.specs.commands.PlainCommands.{PlainCommand}
use Rattle.script_lines.specs.commands.PlainCommands as command
use Rattle.view_model.specs.declared.work.Work.{Work}
use Rattle.world_parts.specs.declared.fault.StepFault.{StepFault}
use Rattle.view_world.specs.world.Carried.{IsDone}

stays : (before after : Work) → after ≡ before → min before.measured (2 ^ 64 - 1) ≤ after.measured
stays before after e = omega (arith, ap (λ (work : Work). work.measured) e)

-- a line does not lower the count of measurings: a frame adds to it, and any other line leaves it
pub measured_later : (line : PlainCommand) (outcome : Result (Unit {0}) StepFault) (before after : Work) → (line ≢ command.Frame → after ≡ before) → IsDone outcome ⊎ (after ≡ before)
    → (line ≡ command.Frame → IsDone outcome → (by : ℕ) × (min after.measured (2 ^ 64 - 1) ≡ min (before.measured + by) (2 ^ 64 - 1))) → min before.measured (2 ^ 64 - 1) ≤ after.measured
measured_later command.Frame outcome before after other (inl done) counted = let count = (counted refl done).1 in omega (arith, count)
measured_later command.Frame outcome before after other (inr idle) counted = stays before after idle
measured_later (command.Window w h) outcome before after other idle counted = stays before after (other (λ e. cc))
measured_later (command.Dpi dpi) outcome before after other idle counted = stays before after (other (λ e. cc))
measured_later (command.Res id value) outcome before after other idle counted = stays before after (other (λ e. cc))
measured_later (command.Inflate name into) outcome before after other idle counted = stays before after (other (λ e. cc))
measured_later (command.Add parent class width height) outcome before after other idle counted = stays before after (other (λ e. cc))
measured_later (command.Remove view) outcome before after other idle counted = stays before after (other (λ e. cc))
measured_later (command.Act view act) outcome before after other idle counted = stays before after (other (λ e. cc))
measured_later (command.SetText view text) outcome before after other idle counted = stays before after (other (λ e. cc))
measured_later (command.Disallow view on) outcome before after other idle counted = stays before after (other (λ e. cc))
measured_later (command.Hook view edits bad) outcome before after other idle counted = stays before after (other (λ e. cc))
measured_later (command.Down p x y) outcome before after other idle counted = stays before after (other (λ e. cc))
measured_later (command.Move p x y) outcome before after other idle counted = stays before after (other (λ e. cc))
measured_later (command.Up p) outcome before after other idle counted = stays before after (other (λ e. cc))
measured_later command.Cancel outcome before after other idle counted = stays before after (other (λ e. cc))
measured_later (command.Bounds view) outcome before after other idle counted = stays before after (other (λ e. cc))
measured_later (command.Pixels x y w h) outcome before after other idle counted = stays before after (other (λ e. cc))
measured_later command.Digest outcome before after other idle counted = stays before after (other (λ e. cc))
measured_later command.Save outcome before after other idle counted = stays before after (other (λ e. cc))
measured_later (command.Restore text) outcome before after other idle counted = stays before after (other (λ e. cc))
