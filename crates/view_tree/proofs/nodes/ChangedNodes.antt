-- What nodes hold after changes of some of them.
use Rattle.std.proofs.Common.{◌≡◌, ◌≢◌, ℕ, Option, Some, None, refl, sym, ap}
use Rattle.std.proofs.lemmas.Bool.{eq-eqb, ne_eqb}
use Rattle.view_tree.specs.node.Nodes.{PlainNode, changed_at, with_node, without}
use Rattle.view_tree.proofs.forest.Forests.{some_is}

pub changed_not : (at : ℕ → Option PlainNode) (o : Option ℕ) (f : PlainNode → PlainNode) (x : ℕ) → o ≢ Some x → changed_at at o f x ≡ at x
changed_not at None f x h = refl
changed_not at (Some k) f x h = rw (ne_eqb x k (λ e. h (ap (λ k. Some k) (sym e))))

pub changed_is : (at : ℕ → Option PlainNode) (o : Option ℕ) (f : PlainNode → PlainNode) (x : ℕ) (m : PlainNode) → o ≡ Some x → at x ≡ Some m → changed_at at o f x ≡ Some (f m)
changed_is at None f x m h e = absurd (cc)
changed_is at (Some k) f x m h e = rw (eq-eqb x k (sym (some_is h)), e)

pub without_not : (at : ℕ → Option PlainNode) (k x : ℕ) → x ≢ k → without at k x ≡ at x
without_not at k x h = rw (ne_eqb x k h)

pub with_node_not : (at : ℕ → Option PlainNode) (k : ℕ) (n : PlainNode) (x : ℕ) → x ≢ k → with_node at k n x ≡ at x
with_node_not at k n x h = rw (ne_eqb x k h)

pub with_node_is : (at : ℕ → Option PlainNode) (k : ℕ) (n : PlainNode) → with_node at k n k ≡ Some n
with_node_is at k n = rw (eq-eqb k k refl)
