use Rattle.std.proofs.Common.{◌≡◌, drop}
use Rattle.view_tree.specs.Views.{plain_of}
use Rattle.view_world.proofs.edits.HookLaws.{are_made}
use Rattle.view_world.proofs.hooking.may_change_all.Given as goal

abbrev pub invariant-loop-edit : goal.invariant-loop-edit
invariant-loop-edit l = are_made (plain_of l.tree) (drop l.edit-index l.edits) ≡ are_made (plain_of l.tree) l.edits
