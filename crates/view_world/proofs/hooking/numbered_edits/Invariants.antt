use Rattle.std.proofs.Common.{◌≡◌, ◌≤◌, drop, length}
use Rattle.view_tree.specs.Views.{plain_of}
use Rattle.view_world.specs.world.Step.{numbered_edits}
use Rattle.view_world.proofs.edits.HookLaws.{after_edits}
use Rattle.view_world.proofs.hooking.numbered_edits.Given as goal

abbrev pub invariant-loop-edit : goal.invariant-loop-edit
invariant-loop-edit l = record {
  rest : after_edits l.edits.items (numbered_edits (plain_of l.tree) (drop l.edit-index l.asked)) ≡ numbered_edits (plain_of l.tree) l.asked;
  few : length l.edits.items ≤ l.edit-index;
}
