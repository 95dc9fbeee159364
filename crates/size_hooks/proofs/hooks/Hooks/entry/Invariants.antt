use Rattle.std.proofs.Common.{◌≡◌, drop}
use Rattle.size_hooks.specs.Entries.{hooks_of}
use Rattle.size_hooks.specs.Hooks.{hook_of}
use Rattle.size_hooks.proofs.hooks.Hooks.entry.Given as goal

abbrev pub invariant-loop-entry : goal.invariant-loop-entry
invariant-loop-entry l = hook_of (hooks_of (drop l.entry-index l.entry-items)) l.view ≡ hook_of l.self l.view
