-- How many views the passes of a frame measure, and how many have other bounds after them.
use Rattle.std.proofs.Common.{◌≡◌, ℕ, ◌+◌, ◌≤◌, Bool, true, false, List, refl, sym, ◌∙◌, ap, arith}
use Rattle.std.specs.Prelude.{if◌then◌else◌}
use Rattle.geom_core.specs.declared.geometry.Size.{Size}
use Rattle.kept_views.specs.Laying.{differ, same_bounds}
use Rattle.size_hooks.specs.Hook.{Hook}
use Rattle.view_model.specs.Forest.{Forest, Nothing, Branch, count_of}
use Rattle.view_model.specs.Layout.{root_calls}
use Rattle.view_model.specs.PlainTree.{PlainView}
use Rattle.view_tree.specs.Rows.{Row}
use Rattle.view_tree.specs.Views.{Held}
use Rattle.traversal.specs.Frames.{Pass, after_pass, frame_calls, second_calls}

one_second : (window : Size) (pass : Pass) → pass.fired ≡ true → second_calls window pass ≡ root_calls pass.tree window
one_second window pass fired = rw fired refl

-- the first pass was the only one
pub measured_once : (tree : Forest PlainView) (hooks : List Hook) (window : Size) (old new : ℕ) → new ≤ old + root_calls tree window → new ≤ old + frame_calls tree hooks window
measured_once tree hooks window old new first = sums old new (root_calls tree window) (second_calls window (after_pass tree hooks window)) first
  where
    sums : (old new a b : ℕ) → new ≤ old + a → new ≤ old + (a + b)
    sums old new a b first = omega arith

-- a second one followed, over this tree
pub measured_twice : (tree again : Forest PlainView) (hooks : List Hook) (window : Size) (old mid new : ℕ) → (after_pass tree hooks window).fired ≡ true
    → again ≡ (after_pass tree hooks window).tree → mid ≤ old + root_calls tree window → new ≤ mid + root_calls again window → new ≤ old + frame_calls tree hooks window
measured_twice tree again hooks window old mid new fired same first second =
    sums old mid new (root_calls tree window) (root_calls again window) (second_calls window (after_pass tree hooks window))
    (ap (λ (t : Forest PlainView). root_calls t window) same ∙ sym (one_second window (after_pass tree hooks window) fired)) first second
  where
    sums : (old mid new a b c : ℕ) → b ≡ c → mid ≤ old + a → new ≤ mid + b → new ≤ old + (a + c)
    sums old mid new a b c e first second = omega arith

-- at most all of them have other bounds
pub differ_few : (old new : ℕ → Held) (list : Forest Row) → differ old new list ≤ count_of list
differ_few old new Nothing = omega arith
differ_few old new (Branch row kids siblings) =
    let own = one (same_bounds (old row.key).state.bounds (new row.key).state.bounds) in
    let below = differ_few old new kids in
    let rest = differ_few old new siblings in
    omega arith
  where
    one : (v : Bool) → (if v then 0 else 1) ≤ 1
    one true = omega arith
    one false = omega arith
