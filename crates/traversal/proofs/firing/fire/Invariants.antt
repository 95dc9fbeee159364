use Rattle.std.proofs.Common.{◌≡◌, ◌≤◌, ◌-◌, ℕ, [], true, drop, length}
use Rattle.size_hooks.specs.Hooks.{hook_of}
use Rattle.arrayvec.specs.ArrayVec.{array_vec_len}
use Rattle.kept_views.specs.Passes.{InPass}
use Rattle.view_tree.specs.tree.Requests.{among}
use Rattle.view_tree.specs.Views.{IsLive, cache_of, geometry_of, held_of, plain_of, state_of}
use Rattle.traversal.specs.Changing.{SameShape}
use Rattle.traversal.specs.Frames.{edited_by, edits_of}
use Rattle.traversal.specs.Growing.{IsOffPaths, IsUnedited}
use Rattle.traversal.proofs.firing.fire.Given as goal

abbrev pub invariant-loop-edit : goal.invariant-loop-edit
invariant-loop-edit l = record {
  plain : edited_by (drop l.k (edits_of (hook_of l.hooks l.view))) (plain_of l.tree) ≡ edited_by (edits_of (hook_of l.hooks l.view)) (plain_of l.fn.tree);
  geometry : geometry_of l.tree ≡ geometry_of l.fn.tree;
  shape : SameShape l.fn.tree l.tree;
  bounds : (key : ℕ) → (state_of l.tree key).bounds ≡ (state_of l.fn.tree key).bounds;
  in_pass : (root : ℕ) → InPass [] root (held_of l.fn.tree) l.fn.tree.tree → InPass l.requesters.items root (held_of l.tree) l.tree.tree;
  live : (key : ℕ) → among key l.requesters.items ≡ true → IsLive l.tree key;
  few : array_vec_len l.requesters ≤ l.k;
  caches : (key : ℕ) → IsUnedited l.fn.tree.tree (edits_of (hook_of l.hooks l.view)) key → (cache_of l.tree key ≡ cache_of l.fn.tree key) × IsOffPaths l.requesters.items l.fn.tree.tree key;
  counts : l.tree.counts ≡ l.fn.tree.counts;
}

abbrev pub decreases-loop-edit : goal.decreases-loop-edit
decreases-loop-edit l = length (edits_of (hook_of l.hooks l.view)) - l.k
