-- What nodes hold after one was added.
use Rattle.std.proofs.Common.{◌≡◌, ℕ, Option, Some, refl, ◌∙◌, ap, inl, inr}
use Rattle.std.proofs.lemmas.Bool.{cases_eq, eq-eqb, ne_eqb}
use mathlib.Core.Path.{fun_ext}
use Rattle.slab.specs.Slab.{Slab, Updates}
use Rattle.view_tree.specs.node.Nodes.{PlainNode, plain_node_in, plain_node_of, plain_node_at, changed_at, key_or, with_node}
use Rattle.view_tree.specs.declared.node.Node.{Node}

pub said-insert : (s t : Slab Node) (key : ℕ) (node : Node) → Updates s t key (Some node) → plain_node_at t ≡ with_node (plain_node_at s) key (plain_node_of node)
said-insert s t key node u = fun_ext (λ x. elim (cases_eq x key) [
  | inl e ↦ rw (e, eq-eqb key key refl) (ap plain_node_in u.changed)
  | inr ne ↦ rw (ne_eqb x key ne) (ap plain_node_in (u.others x ne))
])

pub hung_is : (s0 s1 s2 s3 : Slab Node) (parent before : Option ℕ) (key : ℕ) (node : Node) → Updates s0 s1 key (Some node)
    → ((x : ℕ) → plain_node_at s2 x ≡ changed_at (plain_node_at s1) before (λ m. record m { next = Some key }) x)
    → ((x : ℕ) → plain_node_at s3 x ≡ changed_at (plain_node_at s2) parent (λ m. record m { first = key_or m.first key; last = Some key }) x)
    → (x : ℕ)
    → plain_node_at s3 x ≡ changed_at (changed_at (with_node (plain_node_at s0) key (plain_node_of node)) before (λ m. record m { next = Some key }))
    parent (λ m. record m { first = key_or m.first key; last = Some key }) x
hung_is s0 s1 s2 s3 parent before key node u two three x =
    three x
    ∙ ap (λ (at : ℕ → Option PlainNode). changed_at at parent (λ m. record m { first = key_or m.first key; last = Some key }) x)
    (fun_ext two ∙ ap (λ (at : ℕ → Option PlainNode). changed_at at before (λ m. record m { next = Some key })) (said-insert s0 s1 key node u))
