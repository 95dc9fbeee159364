-- A document has one outermost element, and no end too many.
use Rattle.std.proofs.Common.{◌≡◌, ℕ, zero, suc, ◌-◌, ◌<◌, Bool, true, false, List, [], ◌∷◌, ◌++◌, length, map, take, Some, None, refl, sym, ◌∙◌, ap, arith, length-append, inl, inr}
use Rattle.std.proofs.lemmas.List.{length-take-le}
use Rattle.std.proofs.lemmas.Bool.{cases_eq, eq-eqb, ne_eqb, true≢false}
use Rattle.std.specs.Prelude.{◌==◌, not, if◌then◌else◌, slice_index}
use Rattle.axml_reader.specs.declared.doc.Node.{Node}
use Rattle.axml_reader.specs.declared.doc.Node.TheVariants.{NsStart, NsEnd, Start, End, Chars}
use Rattle.axml_reader.specs.Brackets.{Stack, Token, Opens, Closes, allows, brackets, is_closed_by, is_ended, is_rooted, nothing_open, popped, pushed, turned}
use Rattle.axml_reader.specs.Parts.{token}
use Rattle.view_model.specs.Forest.{Forest, Nothing, Branch}
use Rattle.inflater.specs.Elements.{begun, elements, in_a_row, nested}

-- after the ends of n open elements there is no element
abbrev IsLastAfter : ℕ → List (Forest Node) → Type 0
IsLastAfter zero lists = lists ≡ Nothing ∷ []
IsLastAfter (suc n) [] = ⊥
IsLastAfter (suc n) (trees ∷ more) = IsLastAfter n more

-- one element, with all that it has
record IsOneElement (lists : List (Forest Node)) : Type 0 where
  node : Node
  below : Forest Node
  is : lists ≡ Branch node below Nothing ∷ []

last_after-begun : (n : ℕ) (node : Node) (lists : List (Forest Node)) → IsLastAfter (suc (suc n)) lists → IsLastAfter (suc n) (begun node lists)
last_after-begun n node [] is = absurd is
last_after-begun n node (below ∷ []) is = absurd is
last_after-begun n node (below ∷ after ∷ outer) is = is

one-begun : (node : Node) (lists : List (Forest Node)) → IsLastAfter 1 lists → IsOneElement (begun node lists)
one-begun node [] is = absurd is
one-begun node (below ∷ []) is = absurd (cc)
one-begun node (below ∷ after ∷ outer) is =
    let a : after ≡ Nothing = cc in
    let o : outer ≡ [] = cc in
    record { node = node; below = below; is = rw (a, o) refl }

-- what closes is open
some_open : (same : ℕ → ℕ → Bool) (stack : Stack) (b : ℕ) → is_closed_by same stack.opened b ≡ true → 0 < length stack.opened
some_open same stack b is =
    elim (cases_eq (length stack.opened) 0) [
      | inl none ↦
          let f : (if length stack.opened == 0 then false else same b (slice_index stack.opened (length stack.opened - 1))) ≡ true = is in
          let g = rw (eq-eqb (length stack.opened) 0 none) at f in absurd (cc)
      | inr some ↦ omega (arith, some)
    ]

length-popped : (opened : List ℕ) (n : ℕ) → length opened ≡ suc n → length (take (length opened - 1) opened) ≡ n
length-popped opened n is = length-take-le (length opened - 1) opened (omega arith) ∙ (let e = is in omega arith)

length-pushed : (opened : List ℕ) (a n : ℕ) → length opened ≡ n → length (opened ++ a ∷ []) ≡ suc n
length-pushed opened a n is = length-append opened (a ∷ []) ∙ (let e = is in omega arith)

-- the first token of a word that ends everything may come, and the others end everything after it
first_allowed : (same : ℕ → ℕ → Bool) (stack : Stack) (t : Token) (rest : List Token) → is_ended (brackets same stack (t ∷ rest)) ≡ true
    → (allows same stack t ≡ true) × (is_ended (brackets same (turned stack t) rest) ≡ true)
first_allowed same stack t rest is =
    elim (allows same stack t) as (λ b. is_ended (if b then brackets same (turned stack t) rest else None) ≡ true → (b ≡ true) × (is_ended (brackets same (turned stack t) rest) ≡ true)) [
      | true ↦ λ is. (refl, is)
      | false ↦ λ is. absurd (cc)
    ] is

all_ended : (stack : Stack) → is_ended (Some stack) ≡ true → (length stack.opened ≡ 0) × (stack.closed ≡ true)
all_ended stack is =
    let f : (if length stack.opened == 0 then stack.closed else false) ≡ true = is in
    elim (cases_eq (length stack.opened) 0) [
      | inl none ↦ (none, rw (eq-eqb (length stack.opened) 0 none) at f)
      | inr some ↦ let g = rw (ne_eqb (length stack.opened) 0 some) at f in absurd (cc)
    ]

-- inside n open elements, and after the outermost one
inside : (same : ℕ → ℕ → Bool) (n : ℕ) (stack : Stack) (nodes : List Node) → length stack.opened ≡ n → (n ≡ 0 → stack.closed ≡ true) → (0 < n → stack.closed ≡ false)
    → is_ended (brackets same stack (map token nodes)) ≡ true → IsLastAfter n (nested nodes)
inside same n stack [] long shut still is =
    let e = all_ended stack is in let z : n ≡ 0 = sym long ∙ e.0 in rw z refl
inside same n stack (NsStart prefix uri ∷ more) long shut still is = inside same n stack more long shut still is
inside same n stack (NsEnd prefix uri ∷ more) long shut still is = inside same n stack more long shut still is
inside same n stack (Chars line text kind word ∷ more) long shut still is = inside same n stack more long shut still is
inside same zero stack (Start line ns name first count ∷ more) long shut still is =
    let a = first_allowed same stack (Opens name) (map token more) is in
    let c = shut refl in let f : not stack.closed ≡ true = a.0 in let g = rw c at f in absurd (cc)
inside same (suc n) stack (Start line ns name first count ∷ more) long shut still is =
    let a = first_allowed same stack (Opens name) (map token more) is in
    last_after-begun n (Start line ns name first count) (nested more)
    (inside same (suc (suc n)) (pushed stack name) more (length-pushed stack.opened name (suc n) long) (λ e. absurd (cc)) (λ _. still (omega arith)) a.1)
inside same zero stack (End line ns name ∷ more) long shut still is =
    let a = first_allowed same stack (Closes name) (map token more) is in
    let s = some_open same stack name a.0 in absurd (omega arith)
inside same (suc n) stack (End line ns name ∷ more) long shut still is =
    let a = first_allowed same stack (Closes name) (map token more) is in
    inside same n (popped stack) more (length-popped stack.opened n long)
    (λ z. let l : length stack.opened ≡ 1 = long ∙ ap (λ k. suc k) z in rw l refl)
    (λ s. ne_eqb (length stack.opened) 1 (λ e. absurd (omega arith)))
    a.1

-- before the outermost one
outside : (same : ℕ → ℕ → Bool) (stack : Stack) (nodes : List Node) → length stack.opened ≡ 0 → stack.closed ≡ false
    → is_ended (brackets same stack (map token nodes)) ≡ true → IsOneElement (nested nodes)
outside same stack [] long still is = let e = all_ended stack is in let c = still in absurd (true≢false (sym e.1 ∙ c))
outside same stack (NsStart prefix uri ∷ more) long still is = outside same stack more long still is
outside same stack (NsEnd prefix uri ∷ more) long still is = outside same stack more long still is
outside same stack (Chars line text kind word ∷ more) long still is = outside same stack more long still is
outside same stack (Start line ns name first count ∷ more) long still is =
    let a = first_allowed same stack (Opens name) (map token more) is in
    one-begun (Start line ns name first count) (nested more)
    (inside same 1 (pushed stack name) more (length-pushed stack.opened name 0 long) (λ e. absurd (omega (arith, e))) (λ _. still) a.1)
outside same stack (End line ns name ∷ more) long still is =
    let a = first_allowed same stack (Closes name) (map token more) is in
    let s = some_open same stack name a.0 in absurd (omega arith)

pub record Rooted (nodes : List Node) : Type 0 where
  pub node : Node
  pub below : Forest Node
  pub is : elements nodes ≡ Branch node below Nothing
  pub ends : length (nested nodes) ≡ 1

pub rooted : (same : ℕ → ℕ → Bool) (nodes : List Node) → is_rooted same (map token nodes) ≡ true → Rooted nodes
rooted same nodes is =
    let o = outside same (nothing_open false) nodes refl refl is in
    record { node = o.node; below = o.below; is = ap in_a_row o.is; ends = ap (λ (l : List (Forest Node)). length l) o.is }
