-- The slots of a group's targets, one after the other.
use Rattle.std.proofs.Common.{◌≡◌, ◌≢◌, ◌⊎◌, ℕ, zero, suc, ◌<◌, ◌≤◌, true, false, Bool, List, [], ◌∷◌, ◌++◌, length, map, Option, Some, None, IsSome, option_map, refl, sym, ◌∙◌, ap, subst, inl, inr, arith}
use Rattle.std.specs.Prelude.{◌==◌}
use Rattle.std.proofs.lemmas.Bool.{cases_Bool, cases_eq, eq-eqb, ne_eqb}
use Rattle.std.proofs.lemmas.Map.Keys.{IsDistinct-cons}
use Rattle.std.proofs.lemmas.Map.Steps.{length-le_from_distinct_below}
use Rattle.std.proofs.Math.Dec.{eqb}
use Rattle.std.specs.List.{AllByRecursion, IsDistinct}
use Rattle.slab.specs.Slab.{Slab, get}
use Rattle.slab.proofs.SlabLemmas.{ContainsKey-within}
use Rattle.touch_targets.specs.Nodes.{AreLinked, Chain, IsLinked, chain, has_slot, newest_of, slots_by}
use Rattle.touch_targets.specs.declared.node.Node.{Node}

pub some_is : {A : Type 0} {x y : A} → Some x ≡ Some y → x ≡ y
some_is h = cc

-- a value that is there
pub record There {A : Type 0} (o : Option A) : Type 0 where
  pub value : A
  pub is : o ≡ Some value

pub there : {A : Type 0} (o : Option A) → IsSome o → There o
there None h = absurd (cc)
there (Some x) h = record { value = x; is = refl }

pub cases_Option : {A : Type 0} (o : Option A) → (o ≡ None) ⊎ There o
cases_Option None = inl refl
cases_Option (Some x) = inr (record { value = x; is = refl })

pub no_some : {A B : Type 0} {o : Option A} {x : A} → o ≡ None → o ≡ Some x → B
no_some none some = absurd (cc)

pub true_not_false : {B : Type 0} {b : Bool} → b ≡ true → b ≡ false → B
true_not_false is isnt = absurd (cc)

-- the value of a slot among others
pub has_first : (p : ℕ) (ps : List ℕ) → has_slot p (p ∷ ps) ≡ true
has_first p ps = rw (eq-eqb p p refl) refl

pub has_later : (p q : ℕ) (ps : List ℕ) → has_slot q ps ≡ true → has_slot q (p ∷ ps) ≡ true
has_later p q ps h = elim (cases_Bool (q == p)) [ inl is ↦ rw is refl | inr is ↦ rw is h ]

pub has_cases : (p q : ℕ) (ps : List ℕ) → has_slot q (p ∷ ps) ≡ true → (q ≡ p) ⊎ (has_slot q ps ≡ true)
has_cases p q ps h = elim (cases_eq q p) [ inl e ↦ inl e | inr ne ↦ inr (rw (ne_eqb q p ne) at h) ]

pub has_apart : (p q : ℕ) (ps : List ℕ) → has_slot q ps ≡ true → has_slot p ps ≡ false → q ≢ p
has_apart p q ps has lacks e = true_not_false (subst (λ x. has_slot x ps ≡ true) e has) lacks

none_of : (p : ℕ) (ps : List ℕ) → has_slot p ps ≡ false → AllByRecursion (λ q. eqb p q ≡ false) ps
none_of p [] h = tt
none_of p (q ∷ ps) h = elim (cases_Bool (p == q)) [ inl is ↦ true_not_false (rw is refl) h | inr is ↦ (is, none_of p ps (rw is at h)) ]

pub map_same : {A : Type 0} (f g : ℕ → A) (ps : List ℕ) → ((p : ℕ) → has_slot p ps ≡ true → f p ≡ g p) → map f ps ≡ map g ps
map_same f g [] same = refl
map_same f g (p ∷ ps) same =
    let first : f p ≡ g p = same p (has_first p ps) in
    rw (first, map_same f g ps (λ q has. same q (has_later p q ps has))) refl

-- a node that is linked in its group as another was
pub record StaysLinked (old : Node) (new : Option Node) : Type 0 where
  pub node : Node
  pub is : new ≡ Some node
  pub group : node.group ≡ old.group
  pub next : node.next ≡ old.next

pub chain_stays : (at new : ℕ → Option Node) (g : ℕ) (start : Option ℕ) (ps : List ℕ)
    → ((p : ℕ) (n : Node) → has_slot p ps ≡ true → at p ≡ Some n → StaysLinked n (new p)) → Chain at g start ps → Chain new g start ps
chain_stays at new g start [] stays c = c
chain_stays at new g start (p ∷ ps) stays c =
    let s = stays p c.2 (has_first p ps) c.3 in
    let later = chain_stays at new g c.2.next ps (λ q n h. stays q n (has_later p q ps h)) c.5 in
    (c.0, c.1, s.node, s.is, s.group ∙ c.4, subst (λ o. Chain new g o ps) (sym s.next) later)

-- a target of a group
pub record TargetOf (g : ℕ) (o : Option Node) : Type 0 where
  pub node : Node
  pub is : o ≡ Some node
  pub group : node.group ≡ Some g

pub target_in : (at : ℕ → Option Node) (g : ℕ) (start : Option ℕ) (ps : List ℕ) (p : ℕ) → Chain at g start ps → has_slot p ps ≡ true → TargetOf g (at p)
target_in at g start [] p c h = true_not_false h refl
target_in at g start (q ∷ ps) p c h =
    elim (has_cases q p ps h) [
      | inl e ↦ record { node = c.2; is = ap at e ∙ c.3; group = c.4 }
      | inr later ↦ target_in at g c.2.next ps p c.5 later
    ]

distinct : (at : ℕ → Option Node) (g : ℕ) (start : Option ℕ) (ps : List ℕ) → Chain at g start ps → IsDistinct eqb ps
unfolding IsDistinct
distinct at g start [] c = tt
distinct at g start (p ∷ ps) c = IsDistinct-cons eqb p ps (none_of p ps c.1) (distinct at g c.2.next ps c.5)

within : (s : Slab Node) (p : ℕ) (n : Node) → get s p ≡ Some n → p < length s.slots
within s p n h = ContainsKey-within s p (rw h refl)

pub length_within : (s : Slab Node) (g : ℕ) (start : Option ℕ) (ps : List ℕ) → Chain (get s) g start ps → length ps ≤ length s.slots
length_within s g start ps c =
    length-le_from_distinct_below ps (length s.slots) (distinct (get s) g start ps c)
    (λ q h. let t = target_in (get s) g start ps q c h in within s q t.node t.is)

-- enough fuel leads along the whole chain
pub chain_is : (fuel : ℕ) (at : ℕ → Option Node) (g : ℕ) (start : Option ℕ) (ps : List ℕ) → Chain at g start ps → length ps ≤ fuel → chain fuel at start ≡ ps
unfolding chain
chain_is zero at g start [] c few = refl
chain_is zero at g start (p ∷ ps) c few = absurd (omega (arith, few))
chain_is (suc fuel) at g start [] c few = rw c refl
chain_is (suc fuel) at g start (p ∷ ps) c few =
    let later = chain_is fuel at g c.2.next ps c.5 (omega (arith, few)) in
    rw (c.0, c.3) (ap (λ l. p ∷ l) later)

pub from_start : (s : Slab Node) (g : ℕ) (start : Option ℕ) (ps : List ℕ) → Chain (get s) g start ps → chain (length s.slots) (get s) start ≡ ps
from_start s g start ps c = chain_is (length s.slots) (get s) g start ps c (length_within s g start ps c)

pub chain_none : (fuel : ℕ) (at : ℕ → Option Node) → chain fuel at None ≡ []
unfolding chain
chain_none zero at = refl
chain_none (suc fuel) at = refl

pub slots_none : (s : Slab Node) (g : ℕ) → get s g ≡ None → slots_by s g ≡ []
slots_none s g h = rw h (chain_none (length s.slots) (get s))

-- the slots of a group's targets are those to which the links lead
pub slots_are : (s : Slab Node) (slots : ℕ → List ℕ) → IsLinked (get s) slots → (g : ℕ) (n : Node) → get s g ≡ Some n → slots_by s g ≡ slots g
slots_are s slots linked g n h = ap (λ o. chain (length s.slots) (get s) (newest_of o)) h ∙ from_start s g n.newest (slots g) (linked.chained g n h)

pub are_linked : (s : Slab Node) (slots : ℕ → List ℕ) → IsLinked (get s) slots → AreLinked s
are_linked s slots linked = record {
  chained = λ g n h. subst (λ l. Chain (get s) g n.newest l) (sym (slots_are s slots linked g n h)) (linked.chained g n h);
  member = λ p g n h i.
      let m = linked.member p g n h i in
      let t = there (get s g) m.0 in
      (m.0, ap (has_slot p) (slots_are s slots linked g t.value t.is) ∙ m.1);
  free = linked.free;
  held = linked.held;
  fits = linked.fits;
  small = linked.small;
  single = linked.single;
}

-- a view that is no target is in no chain
pub free_apart : (at : ℕ → Option Node) (g : ℕ) (start : Option ℕ) (ps : List ℕ) (p : ℕ) → Chain at g start ps
    → ((n : Node) → at p ≡ Some n → n.group ≡ None) → has_slot p ps ≡ false
free_apart at g start ps p c free =
    elim (cases_Bool (has_slot p ps)) [
      | inl is ↦ let t = target_in at g start ps p c is in no_some (free t.node t.is) t.group
      | inr is ↦ is
    ]

-- what a value was before a change
pub record Was {A B : Type 0} (f : A → B) (o : Option A) (y : B) : Type 0 where
  pub value : A
  pub is : o ≡ Some value
  pub now : f value ≡ y

pub was : {A B : Type 0} (f : A → B) (o : Option A) (y : B) → option_map f o ≡ Some y → Was f o y
was f None y h = absurd (cc)
was f (Some x) y h = record { value = x; is = refl; now = some_is h }

-- where a chain starts, and the chain from a slot further on
abbrev pub first_of : List ℕ → Option ℕ
first_of [] = None
first_of (p ∷ ps) = Some p

pub starts_at : (at : ℕ → Option Node) (g : ℕ) (start : Option ℕ) (ps : List ℕ) → Chain at g start ps → start ≡ first_of ps
starts_at at g start [] c = c
starts_at at g start (p ∷ ps) c = c.0

pub chain_after : (at : ℕ → Option Node) (g : ℕ) (start : Option ℕ) (front back : List ℕ) → Chain at g start (front ++ back) → Chain at g (first_of back) back
chain_after at g start [] back c = subst (λ o. Chain at g o back) (starts_at at g start back c) c
chain_after at g start (p ∷ front) back c = chain_after at g c.2.next front back c.5
