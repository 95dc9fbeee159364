-- Commands that restore a state.
use Rattle.std.proofs.Common.{◌≡◌, ℕ, List, Bor, refl}
use Rattle.std.specs.Prelude.{Option, Some, None}
use Rattle.std.specs.Option.{option_map}
use Rattle.script_lines.specs.commands.PlainCommands.{Restore, plain_command}
use Rattle.script_lines.specs.declared.commands.Command.TheVariants as command

pub restore_plain : (text : Option (Bor (List ℕ))) → plain_command (command.Restore text) ≡ Restore (option_map (λ (text : Bor (List ℕ)). text.now) text)
restore_plain None = refl
restore_plain (Some text) = refl
