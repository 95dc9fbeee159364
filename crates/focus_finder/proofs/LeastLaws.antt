-- The least of candidates: part by part, and under other names.
use Rattle.std.proofs.Common.{◌≡◌, ℕ, Bool, true, false, List, [], ◌∷◌, ◌++◌, Option, Some, None, refl, sym, ap, ◌∙◌, arith, inl, inr}
use Rattle.std.proofs.lemmas.Bool.{cases_Bool}
use Rattle.std.specs.List.{cons_option}
use Rattle.std.specs.Option.{option_map}
use Rattle.std.specs.Prelude.{◌&&◌, ◌||◌, nat_lt, if◌then◌else◌, map, IfSome}
use Rattle.focus_finder.specs.Focus.{is_less, least, lesser}
use Rattle.focus_finder.specs.declared.keys.FocusKey.{FocusKey}
use Rattle.focus_finder.specs.declared.searching.Candidate.{Candidate}

abbrev before : Bool → ℕ → Bool → ℕ → Bool
before s m t n = if s then t && nat_lt m n else t || nat_lt m n

before_all : (s t u : Bool) (k m n : ℕ) → before u n t m ≡ true → before t m s k ≡ true → before u n s k ≡ true
before_all true true true k m n h g = grind arith
before_all true true false k m n h g = refl
before_all true false true k m n h g = absurd (cc)
before_all true false false k m n h g = refl
before_all false true true k m n h g = absurd (cc)
before_all false true false k m n h g = absurd (cc)
before_all false false true k m n h g = absurd (cc)
before_all false false false k m n h g = grind arith

before_none : (s t u : Bool) (k m n : ℕ) → before u n t m ≡ false → before t m s k ≡ false → before u n s k ≡ false
before_none true true true k m n h g = grind arith
before_none true true false k m n h g = absurd (cc)
before_none true false true k m n h g = absurd (cc)
before_none true false false k m n h g = absurd (cc)
before_none false true true k m n h g = refl
before_none false true false k m n h g = absurd (cc)
before_none false false true k m n h g = refl
before_none false false false k m n h g = grind arith

less_all : (a b c : FocusKey) → is_less c b ≡ true → is_less b a ≡ true → is_less c a ≡ true
less_all a b c = before_all a.outside b.outside c.outside a.distance b.distance c.distance

less_none : (a b c : FocusKey) → is_less c b ≡ false → is_less b a ≡ false → is_less c a ≡ false
less_none a b c = before_none a.outside b.outside c.outside a.distance b.distance c.distance

pub lesser-none : (a : Option Candidate) → lesser None a ≡ a
lesser-none None = refl
lesser-none (Some a) = refl

pub lesser_assoc : (a b c : Option Candidate) → lesser (lesser a b) c ≡ lesser a (lesser b c)
lesser_assoc a b None = refl
lesser_assoc a None (Some c) = refl
lesser_assoc None (Some b) (Some c) = refl
lesser_assoc (Some a) (Some b) (Some c) = elim (cases_Bool (is_less b.key a.key)) [
  | inl p ↦ elim (cases_Bool (is_less c.key b.key)) [
    | inl q ↦ rw (p, q, less_all a.key b.key c.key q p) refl
    | inr q ↦ rw (p, q, p) refl
  ]
  | inr p ↦ elim (cases_Bool (is_less c.key b.key)) [
    | inl q ↦ rw (p, q) refl
    | inr q ↦ rw (p, q, p, less_none a.key b.key c.key q p) refl
  ]
]

-- a view alone, as nothing is found below it
pub lesser_alone : (best own below all now : Option Candidate) → now ≡ lesser best own → all ≡ lesser own below → below ≡ None → now ≡ lesser best all
lesser_alone best own below all now is parts none = is ∙ ap (lesser best) (sym (parts ∙ ap (lesser own) none))

-- a view, and then those below it
pub lesser_below : (best own below all mid now : Option Candidate) → mid ≡ lesser best own → all ≡ lesser own below → now ≡ lesser mid below → now ≡ lesser best all
lesser_below best own below all mid now first parts is =
    is ∙ ap (λ (one : Option Candidate). lesser one below) first ∙ lesser_assoc best own below ∙ ap (lesser best) (sym parts)

pub least-append : (xs ys : List Candidate) → least (xs ++ ys) ≡ lesser (least xs) (least ys)
least-append [] ys = sym (lesser-none (least ys))
least-append (x ∷ xs) ys = ap (lesser (Some x)) (least-append xs ys) ∙ sym (lesser_assoc (Some x) (least xs) (least ys))

pub least-one : (one : Option Candidate) → least (cons_option one []) ≡ one
least-one None = refl
least-one (Some one) = refl

-- what holds of both holds of the lesser one
pub either_lesser : (P : Candidate → Type 0) (a b : Option Candidate) → IfSome a P → IfSome b P → IfSome (lesser a b) P
either_lesser P a None h g = h
either_lesser P None (Some b) h g = g
either_lesser P (Some a) (Some b) h g = elim (cases_Bool (is_less b.key a.key)) [ inl e ↦ rw e g | inr e ↦ rw e h ]

-- a candidate under another name of its view
abbrev pub renamed : (ℕ → ℕ) → Candidate → Candidate
renamed name candidate = record { view = name candidate.view; key = candidate.key }

lesser-renamed : (name : ℕ → ℕ) (a b : Option Candidate) → lesser (option_map (renamed name) a) (option_map (renamed name) b) ≡ option_map (renamed name) (lesser a b)
lesser-renamed name a None = refl
lesser-renamed name None (Some b) = refl
lesser-renamed name (Some a) (Some b) = elim (cases_Bool (is_less b.key a.key)) [ inl e ↦ rw e refl | inr e ↦ rw e refl ]

pub least-renamed : (name : ℕ → ℕ) (xs : List Candidate) → least (map (renamed name) xs) ≡ option_map (renamed name) (least xs)
least-renamed name [] = refl
least-renamed name (x ∷ xs) = ap (lesser (Some (renamed name x))) (least-renamed name xs) ∙ lesser-renamed name (Some x) (least xs)
