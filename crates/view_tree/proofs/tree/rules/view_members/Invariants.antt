use Rattle.std.proofs.Common.{◌≡◌, map, take}
use Rattle.std.specs.Prelude.{slice_index}
use Rattle.view_model.specs.declared.refusal.Member.TheVariants as member
use Rattle.view_tree.proofs.tree.rules.view_members.Given as goal

abbrev pub invariant-loop-place : goal.invariant-loop-place
invariant-loop-place l = l.members.items ≡ map (λ place. member.View (slice_index l.kids place)) (take l.place-index l.places)
