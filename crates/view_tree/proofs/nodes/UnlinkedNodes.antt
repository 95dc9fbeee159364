-- What nodes hold after one was taken out.
use Rattle.std.proofs.Common.{◌≡◌, ℕ, Option, Some, None, refl, sym, ◌∙◌, ap, inl, inr, IsSome, true, false}
use Rattle.std.proofs.lemmas.Bool.{cases_eq, eq-eqb, ne_eqb}
use Rattle.std.specs.Prelude.{option_map, ◌==◌, if◌then◌else◌}
use mathlib.Core.Path.{fun_ext}
use Rattle.slab.specs.Slab.{Slab, get, ContainsKey, Updates}
use Rattle.view_tree.specs.node.Nodes.{PlainNode, plain_node_in, plain_node_of, plain_node_at, changed_at, without, unlinked, replaced_if_none}
use Rattle.view_tree.specs.declared.node.Node.{Node}
use Rattle.view_tree.proofs.forest.Forests.{some_is}

some_said : (o : Option Node) → IsSome (plain_node_in o) → IsSome o
some_said None h = h
some_said (Some n) h = refl

said_some : (o : Option Node) → IsSome o → IsSome (plain_node_in o)
said_some None h = h
said_some (Some n) h = refl

map_some : (o : Option PlainNode) (f : PlainNode → PlainNode) → IsSome o → IsSome (option_map f o)
map_some None f h = h
map_some (Some n) f h = refl

changed_some : (at : ℕ → Option PlainNode) (o : Option ℕ) (f : PlainNode → PlainNode) (x : ℕ) → IsSome (at x) → IsSome (changed_at at o f x)
changed_some at None f x h = h
changed_some at (Some k) f x h = elim (x == k) as (λ v. IsSome (if v then option_map f (at x) else at x)) [ true ↦ map_some (at x) f h | false ↦ h ]

-- a change removes no node
pub still : (s t : Slab Node) (o : Option ℕ) (f : PlainNode → PlainNode) (x : ℕ) → plain_node_at t x ≡ changed_at (plain_node_at s) o f x → ContainsKey s x → ContainsKey t x
still s t o f x e h = some_said (get t x) (rw e (changed_some (plain_node_at s) o f x (said_some (get s x) h)))

pub removed : (s t : Slab Node) (key : ℕ) → Updates s t key None → plain_node_at t ≡ without (plain_node_at s) key
removed s t key u = fun_ext (λ x. elim (cases_eq x key) [
  | inl e ↦ rw (e, eq-eqb key key refl) (ap plain_node_in u.changed)
  | inr ne ↦ rw (ne_eqb x key ne) (ap plain_node_in (u.others x ne))
])

pub unhung_is : (s0 s1 s2 s3 s4 : Slab Node) (key : ℕ) (node : Node) → get s0 key ≡ Some node → Updates s0 s1 key None
    → ((x : ℕ) → plain_node_at s2 x ≡ changed_at (plain_node_at s1) node.links.previous (λ m. record m { next = node.links.next }) x)
    → ((x : ℕ) → plain_node_at s3 x ≡ changed_at (plain_node_at s2) node.links.next (λ m. record m { previous = node.links.previous }) x)
    → ((x : ℕ) → plain_node_at s4 x ≡ changed_at (plain_node_at s3) node.links.parent (λ m. record m { first = replaced_if_none node.links.previous node.links.next m.first; last = replaced_if_none node.links.next node.links.previous m.last }) x)
    → (n : PlainNode) → plain_node_at s0 key ≡ Some n → (x : ℕ) → plain_node_at s4 x ≡ unlinked (plain_node_at s0) key n x
unhung_is s0 s1 s2 s3 s4 key node at u two three four n is x =
    let says : Some (plain_node_of node) ≡ Some n = ap plain_node_in (sym at) ∙ is in
    let same = some_is says in
    let all : plain_node_at s4 x ≡ unlinked (plain_node_at s0) key (plain_node_of node) x =
    four x ∙ ap (λ (at : ℕ → Option PlainNode). changed_at at node.links.parent (λ m. record m { first = replaced_if_none node.links.previous node.links.next m.first; last = replaced_if_none node.links.next node.links.previous m.last }) x)
    (fun_ext three ∙ ap (λ (at : ℕ → Option PlainNode). changed_at at node.links.next (λ m. record m { previous = node.links.previous }))
    (fun_ext two ∙ ap (λ (at : ℕ → Option PlainNode). changed_at at node.links.previous (λ m. record m { next = node.links.next })) (removed s0 s1 key u)))
    in
    all ∙ ap (λ (n : PlainNode). unlinked (plain_node_at s0) key n x) same
