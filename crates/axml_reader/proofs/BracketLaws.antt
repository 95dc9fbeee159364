-- A stack of names finds just the words of brackets with one outermost pair.
use Rattle.std.proofs.Common.{◌≡◌, ℕ, zero, suc, ◌-◌, ◌≤◌, Bool, true, false, eqb, List, [], ◌∷◌, ◌++◌, length, Option, Some, None, refl, sym, ap, ◌∙◌, arith, append_assoc, length-append}
use Rattle.std.proofs.lemmas.Bool.{ne_eqb}
use Rattle.std.proofs.lemmas.List.{append-nil, take_at, get_or_push}
use Rattle.axml_reader.specs.Brackets.{Token, Opens, Closes, Plain, IsBalanced, Done, Passed, Paired, IsPlain, IsRooted, Stack, is_closed_by, turned, brackets, nothing_open, is_ended, is_rooted}

-- a stack with a name on top, and one without it
abbrev pub within : List ℕ → ℕ → Stack
within opened a = record { opened = opened ++ a ∷ []; closed = false }

abbrev pub without : List ℕ → Stack
without opened = record { opened = opened; closed = eqb (length opened) 0 }

suc_is_none : (n : ℕ) → eqb (suc n) 0 ≡ false
suc_is_none n = ne_eqb (suc n) 0 (λ e. omega (arith, e))

suc_is_one : (n : ℕ) → eqb (suc n) 1 ≡ eqb n 0
suc_is_one zero = refl
suc_is_one (suc n) =
    let left : eqb (suc (suc n)) 1 ≡ false = ne_eqb (suc (suc n)) 1 (λ e. omega (arith, e)) in
    rw (left, suc_is_none n) refl

closes_top : (same : ℕ → ℕ → Bool) (opened : List ℕ) (a b : ℕ) → is_closed_by same (opened ++ a ∷ []) b ≡ same b a
closes_top same opened a b =
    let len : length (opened ++ a ∷ []) ≡ suc (length opened) = omega (arith, length-append opened (a ∷ [])) in
    let pred : suc (length opened) - 1 ≡ length opened = omega arith in
    rw (len, pred, get_or_push, suc_is_none (length opened)) refl

-- without the name on top
pops_top : (opened : List ℕ) (a b : ℕ) → turned (within opened a) (Closes b) ≡ without opened
pops_top opened a b =
    let len : length (opened ++ a ∷ []) ≡ suc (length opened) = omega (arith, length-append opened (a ∷ [])) in
    let pred : suc (length opened) - 1 ≡ length opened = omega arith in
    rw (len, pred, take_at opened (a ∷ []) (length opened) refl, suc_is_one (length opened)) refl

-- a bracket that closes one of the same name
closing : (same : ℕ → ℕ → Bool) (opened : List ℕ) (a b : ℕ) (rest : List Token) → same b a ≡ true → brackets same (within opened a) (Closes b ∷ rest) ≡ brackets same (without opened) rest
closing same opened a b rest e = rw (closes_top same opened a b, e) (ap (λ (s : Stack). brackets same s rest) (pops_top opened a b))

-- a balanced word leaves the stack as it was, below a name
balanced_passes : (same : ℕ → ℕ → Bool) (word rest : List Token) (opened : List ℕ) (a : ℕ) → IsBalanced same word
    → brackets same (within opened a) (word ++ rest) ≡ brackets same (within opened a) rest
balanced_passes same word rest opened a Done = refl
balanced_passes same word rest opened a (Passed {rest = more} b) = balanced_passes same more rest opened a b
balanced_passes same word rest opened a (Paired {inner = inner} {rest = more} x y e b c) =
    let regroup : (inner ++ Closes y ∷ more) ++ rest ≡ inner ++ Closes y ∷ (more ++ rest) = append_assoc inner (Closes y ∷ more) rest in
    let below : without (opened ++ a ∷ []) ≡ within opened a = ap (λ (v : Bool). record { opened = opened ++ a ∷ []; closed = v }) (ap (λ (n : ℕ). eqb n 0) (omega (arith, length-append opened (a ∷ []))) ∙ suc_is_none (length opened)) in
    ap (brackets same (within (opened ++ a ∷ []) x)) regroup
    ∙ balanced_passes same inner (Closes y ∷ (more ++ rest)) (opened ++ a ∷ []) x b
    ∙ closing same (opened ++ a ∷ []) x y (more ++ rest) e
    ∙ ap (λ (s : Stack). brackets same s (more ++ rest)) below
    ∙ balanced_passes same more rest opened a c

plain_passes : (same : ℕ → ℕ → Bool) (word rest : List Token) (s : Stack) → IsPlain word → brackets same s (word ++ rest) ≡ brackets same s rest
plain_passes same [] rest s p = refl
plain_passes same (Plain ∷ word) rest s p = plain_passes same word rest s p
plain_passes same (Opens a ∷ word) rest s p = absurd p
plain_passes same (Closes a ∷ word) rest s p = absurd p

-- a word with one outermost pair is found
pub rooted_passes : (same : ℕ → ℕ → Bool) (word : List Token) → IsRooted same word → brackets same (nothing_open false) word ≡ Some (nothing_open true)
rooted_passes same word r =
    ap (brackets same (nothing_open false)) r.word_is
    ∙ plain_passes same r.before (Opens r.first ∷ (r.inner ++ Closes r.last ∷ r.after)) (nothing_open false) r.before_plain
    ∙ balanced_passes same r.inner (Closes r.last ∷ r.after) [] r.first r.balanced
    ∙ closing same [] r.first r.last r.after r.matches
    ∙ ap (brackets same (nothing_open true)) (sym (append-nil r.after))
    ∙ plain_passes same r.after [] (nothing_open true) r.after_plain

-- a word that takes a name off the stack: a balanced one up to the bracket that closes it, and the rest
pub record SplitsAtClose (same : ℕ → ℕ → Bool) (opened : List ℕ) (a : ℕ) (word : List Token) (t : Stack) : Type 0 where
  pub inner : List Token
  pub last : ℕ
  pub rest : List Token
  pub word_is : word ≡ inner ++ Closes last ∷ rest
  pub balanced : IsBalanced same inner
  pub matches : same last a ≡ true
  pub goes_on : brackets same (without opened) rest ≡ Some t

not_none : {A : Type 0} (t : A) → (◌≡◌ {A = Option A} None (Some t)) → ⊥
not_none t e = cc

some_is : {A : Type 0} (s t : A) → (◌≡◌ {A = Option A} (Some s) (Some t)) → s ≡ t
some_is s t e = cc

by_name : (same : ℕ → ℕ → Bool) (opened : List ℕ) (a b : ℕ) (word : List Token) (t : Stack) (v : Bool) → same b a ≡ v
    → brackets same (within opened a) (Closes b ∷ word) ≡ Some t → SplitsAtClose same opened a (Closes b ∷ word) t
by_name same opened a b word t true v e =
    record {
      inner = [];
      last = b;
      rest = word;
      word_is = refl;
      balanced = Done;
      matches = v;
      goes_on = sym (closing same opened a b word v) ∙ e;
    }
by_name same opened a b word t false v e =
    absurd (not_none t (sym (rw (closes_top same opened a b, v) refl) ∙ e))

-- a pair inside, and then the end of the outer one
paired_later : (same : ℕ → ℕ → Bool) (opened : List ℕ) (a x : ℕ) (word : List Token) (t : Stack) (one : SplitsAtClose same (opened ++ a ∷ []) x word t) → SplitsAtClose same opened a one.rest t
    → SplitsAtClose same opened a (Opens x ∷ word) t
paired_later same opened a x word t one two =
    record {
      inner = Opens x ∷ (one.inner ++ Closes one.last ∷ two.inner);
      last = two.last;
      rest = two.rest;
      word_is = ap (λ (w : List Token). Opens x ∷ w) (one.word_is ∙ ap (λ (w : List Token). one.inner ++ Closes one.last ∷ w) two.word_is ∙ sym (append_assoc one.inner (Closes one.last ∷ two.inner) (Closes two.last ∷ two.rest)));
      balanced = Paired x one.last one.matches one.balanced two.balanced;
      matches = two.matches;
      goes_on = two.goes_on;
    }

closes_later : (n : ℕ) (same : ℕ → ℕ → Bool) (opened : List ℕ) (a : ℕ) (word : List Token) (t : Stack) → length word ≤ n
    → brackets same (within opened a) word ≡ Some t → length t.opened ≤ length opened → SplitsAtClose same opened a word t
closes_later n same opened a [] t le e low =
    let up : length (opened ++ a ∷ []) ≡ length t.opened = ap (λ (s : Stack). length s.opened) (some_is (within opened a) t e) in
    absurd (omega (arith, up, low, length-append opened (a ∷ [])))
closes_later zero same opened a (x ∷ word) t le e low = absurd (omega (arith, le))
closes_later (suc n) same opened a (Plain ∷ word) t le e low =
    let s = closes_later n same opened a word t (omega (arith, le)) e low in
    record { inner = Plain ∷ s.inner; last = s.last; rest = s.rest; word_is = ap (λ (w : List Token). Plain ∷ w) s.word_is; balanced = Passed s.balanced; matches = s.matches; goes_on = s.goes_on }
closes_later (suc n) same opened a (Closes b ∷ word) t le e low = by_name same opened a b word t (same b a) refl e
closes_later (suc n) same opened a (Opens x ∷ word) t le e low =
    let one = closes_later n same (opened ++ a ∷ []) x word t (omega (arith, le)) e (omega (arith, low, length-append opened (a ∷ []))) in
    let below : without (opened ++ a ∷ []) ≡ within opened a = ap (λ (v : Bool). record { opened = opened ++ a ∷ []; closed = v }) (ap (λ (n : ℕ). eqb n 0) (omega (arith, length-append opened (a ∷ []))) ∙ suc_is_none (length opened)) in
    let on : brackets same (within opened a) one.rest ≡ Some t = ap (λ (s : Stack). brackets same s one.rest) (sym below) ∙ one.goes_on in
    let shorter : length one.rest ≤ n = omega (arith, le, ap (λ (w : List Token). length w) one.word_is, length-append one.inner (Closes one.last ∷ one.rest)) in
    let two = closes_later n same opened a one.rest t shorter on low in
    paired_later same opened a x word t one two

plain_left : (same : ℕ → ℕ → Bool) (word : List Token) (t : Stack) → brackets same (nothing_open true) word ≡ Some t → IsPlain word
plain_left same [] t e = tt
plain_left same (Plain ∷ word) t e = plain_left same word t e
plain_left same (Opens a ∷ word) t e = absurd (not_none t e)
plain_left same (Closes a ∷ word) t e = absurd (not_none t e)

closed_differs : ◌≡◌ {A = Option Stack} (Some (nothing_open false)) (Some (nothing_open true)) → ⊥
closed_differs e =
    let v : false ≡ true = ap (λ (s : Stack). s.closed) (some_is (nothing_open false) (nothing_open true) e) in
    absurd cc

-- what is found has one outermost pair
pub passes_rooted : (same : ℕ → ℕ → Bool) (word : List Token) → brackets same (nothing_open false) word ≡ Some (nothing_open true) → IsRooted same word
passes_rooted same [] e = absurd (closed_differs e)
passes_rooted same (Closes a ∷ word) e = absurd (not_none (nothing_open true) e)
passes_rooted same (Plain ∷ word) e =
    let r = passes_rooted same word e in
    record { before = Plain ∷ r.before; inner = r.inner; after = r.after; first = r.first; last = r.last; word_is = ap (λ (w : List Token). Plain ∷ w) r.word_is; before_plain = r.before_plain; after_plain = r.after_plain; balanced = r.balanced; matches = r.matches }
passes_rooted same (Opens a ∷ word) e =
    let s = closes_later (length word) same [] a word (nothing_open true) (omega arith) e (omega arith) in
    record { before = []; inner = s.inner; after = s.rest; first = a; last = s.last; word_is = ap (λ (w : List Token). Opens a ∷ w) s.word_is; before_plain = tt; after_plain = plain_left same s.rest (nothing_open true) s.goes_on; balanced = s.balanced; matches = s.matches }

-- the test holds of the words with one outermost pair
pub rooted_test : (same : ℕ → ℕ → Bool) (word : List Token) → IsRooted same word → is_rooted same word ≡ true
rooted_test same word r = ap is_ended (rooted_passes same word r)
