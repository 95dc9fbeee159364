-- A view looks the same to its group, whatever is below those of its children that are gone: only the facts of these
-- count.
use Rattle.std.proofs.Common.{◌≡◌, ℕ, zero, suc, Bool, true, false, Option, None, List, [], ◌∷◌, ◌++◌, ap, ◌∙◌, sym, refl, subst, inl, inr}
use Rattle.std.proofs.lemmas.Bool.{cases_Bool}
use Rattle.std.specs.Prelude.{if◌then◌else◌, filter}
use Rattle.view_model.specs.Course.{Child, Course, MeasuringProgress, Requested, after_phase, after_turn, asked_for, begun, course_of, measured_of, one_phase, phases_on, size_in, sizes_of}
use Rattle.view_model.specs.Facts.{is_shown}
use Rattle.view_model.specs.Measuring.{Measured, Rule, Specs}

-- the same children, except for what is below those that are gone
abbrev pub Alike : List Requested → List Requested → Type 0
Alike [] [] = Unit {0}
Alike [] (b ∷ more) = ⊥
Alike (a ∷ more) [] = ⊥
Alike (a ∷ some) (b ∷ more) = (a.child.facts ≡ b.child.facts) × (is_shown a.child.facts ≡ true → a ≡ b) × Alike some more

no_true : {A : Type 0} {v : Bool} → v ≡ true → v ≡ false → A
no_true t f = let e : true ≡ false = sym t ∙ f in absurd (cc)

-- a child after its turn
turn_alike : (ask : List Measured → Measured → Option Specs) (taken : List Measured) (a b : Requested) → a.child.facts ≡ b.child.facts → (is_shown a.child.facts ≡ true → a ≡ b)
    → ((after_turn ask taken a).child.facts ≡ (after_turn ask taken b).child.facts) × ((is_shown (after_turn ask taken a).child.facts ≡ true → after_turn ask taken a ≡ after_turn ask taken b)
    × (size_in (after_turn ask taken a) ≡ size_in (after_turn ask taken b)))
turn_alike ask taken a b facts same = elim (cases_Bool (is_shown a.child.facts)) [
  | inl here ↦
      let e = same here in
      (ap (λ (k : Requested). (after_turn ask taken k).child.facts) e, (λ shown. ap (after_turn ask taken) e, ap (λ (k : Requested). size_in (after_turn ask taken k)) e))
  | inr gone ↦
      let gone' : is_shown b.child.facts ≡ false = ap is_shown (sym facts) ∙ gone in
      let stays : (k : Requested) → is_shown k.child.facts ≡ false → after_turn ask taken k ≡ k = λ k g. ap (λ v. if v then asked_for (ask taken (measured_of k)) k else k) g in
      let sa = stays a gone in
      let sb = stays b gone' in
      let na : size_in a ≡ [] = ap (λ v. if v then measured_of a ∷ [] else []) gone in
      let nb : size_in b ≡ [] = ap (λ v. if v then measured_of b ∷ [] else []) gone' in (
        ap (λ (k : Requested). k.child.facts) sa ∙ facts ∙ ap (λ (k : Requested). k.child.facts) (sym sb),
        (
          λ shown. no_true (ap (λ (k : Requested). is_shown k.child.facts) (sym sa) ∙ shown) gone,
          ap size_in sa ∙ na ∙ sym nb ∙ ap size_in (sym sb),
        ),
      )
]

pub record PhaseAlike (ask : List Measured → Measured → Option Specs) (taken : List Measured) (some more : List Requested) : Type 0 where
  pub alike : Alike (after_phase ask taken some) (after_phase ask taken more)
  pub sizes : sizes_of (after_phase ask taken some) ≡ sizes_of (after_phase ask taken more)

pub phase_alike : (ask : List Measured → Measured → Option Specs) (taken : List Measured) (some more : List Requested) → Alike some more → PhaseAlike ask taken some more
phase_alike ask taken [] [] h = record { alike = tt; sizes = refl }
phase_alike ask taken [] (b ∷ more) h = absurd h
phase_alike ask taken (a ∷ some) [] h = absurd h
phase_alike ask taken (a ∷ some) (b ∷ more) h =
    let t = turn_alike ask taken a b h.0 h.1 in
    let rest = phase_alike ask (taken ++ size_in (after_turn ask taken a)) some more h.2 in
    let moved : PhaseAlike ask (taken ++ size_in (after_turn ask taken a)) some more = rest in
    let P : List Measured → Type 0 = λ next. Alike (after_phase ask (taken ++ size_in (after_turn ask taken a)) some) (after_phase ask (taken ++ next) more) in
    record {
      alike = (t.0, t.1.0, subst P t.1.1 rest.alike);
      sizes = ap (λ own. own ++ sizes_of (after_phase ask (taken ++ size_in (after_turn ask taken a)) some)) t.1.1
          ∙ ap (λ more. size_in (after_turn ask taken b) ++ more) (rest.sizes ∙ ap (λ next. sizes_of (after_phase ask (taken ++ next) more)) t.1.1);
    }

record ProgressAlike (some more : MeasuringProgress) : Type 0 where
  pub past : some.past ≡ more.past
  pub kids : Alike some.kids more.kids

one_alike : (rule : Rule) (some more : MeasuringProgress) → ProgressAlike some more → ProgressAlike (one_phase rule some) (one_phase rule more)
one_alike rule some more h =
    let p = phase_alike (rule.ask some.past) [] some.kids more.kids h.kids in
    let P : List (List Measured) → Type 0 = λ past. Alike (after_phase (rule.ask some.past) [] some.kids) (after_phase (rule.ask past) [] more.kids) in
    record {
      past = ap (λ past. past ++ sizes_of (after_phase (rule.ask some.past) [] some.kids) ∷ []) h.past
          ∙ ap (λ sizes. more.past ++ sizes ∷ []) (p.sizes ∙ ap (λ past. sizes_of (after_phase (rule.ask past) [] more.kids)) h.past);
      kids = subst P h.past p.alike;
    }

phases_alike : (left : ℕ) (rule : Rule) (some more : MeasuringProgress) → ProgressAlike some more → ProgressAlike (phases_on left rule some) (phases_on left rule more)
phases_alike zero rule some more h = h
phases_alike (suc left) rule some more h =
    by_test (rule.turns some.past) (rule.turns more.past) (ap rule.turns h.past) (phases_alike left rule (one_phase rule some) (one_phase rule more) (one_alike rule some more h))
  where
    by_test : (v w : Bool) → v ≡ w → ProgressAlike (phases_on left rule (one_phase rule some)) (phases_on left rule (one_phase rule more))
        → ProgressAlike (if v then phases_on left rule (one_phase rule some) else some) (if w then phases_on left rule (one_phase rule more) else more)
    by_test true true e go = go
    by_test false false e go = h
    by_test true false e go = absurd (cc)
    by_test false true e go = absurd (cc)

-- of children
abbrev pub KidsAlike : List Child → List Child → Type 0
KidsAlike [] [] = Unit {0}
KidsAlike [] (b ∷ more) = ⊥
KidsAlike (a ∷ more) [] = ⊥
KidsAlike (a ∷ some) (b ∷ more) = (a.facts ≡ b.facts) × (is_shown a.facts ≡ true → a ≡ b) × KidsAlike some more

begun_alike : (some more : List Child) → KidsAlike some more → Alike (begun some).kids (begun more).kids
begun_alike [] [] h = tt
begun_alike [] (b ∷ more) h = absurd h
begun_alike (a ∷ some) [] h = absurd h
begun_alike (a ∷ some) (b ∷ more) h =
    (h.0, λ here. ap (λ (child : Child). let kid : Requested = record { child = child; requests = []; edges = None } in kid) (h.1 here), begun_alike some more h.2)

pub record CourseAlike (some more : Course) : Type 0 where
  pub kids : Alike some.kids more.kids
  pub size : some.size ≡ more.size
  pub total : some.total ≡ more.total

pub course_alike : (rule : Rule) (some more : List Child) → KidsAlike some more → CourseAlike (course_of rule some) (course_of rule more)
course_alike rule some more h =
    let all = phases_alike 2 rule (one_phase rule (begun some)) (one_phase rule (begun more))
    (one_alike rule (begun some) (begun more) (record { past = refl; kids = begun_alike some more h })) in
    record { kids = all.kids; size = ap rule.size all.past; total = ap rule.total all.past }

abbrev pub shown_of : List Requested → List Requested
shown_of kids = filter (λ (kid : Requested). is_shown kid.child.facts) kids

pub shown_alike : (some more : List Requested) → Alike some more → shown_of some ≡ shown_of more
shown_alike [] [] h = refl
shown_alike [] (b ∷ more) h = absurd h
shown_alike (a ∷ some) [] h = absurd h
shown_alike (a ∷ some) (b ∷ more) h = elim (cases_Bool (is_shown a.child.facts)) [
  | inl here ↦
      let here' : is_shown b.child.facts ≡ true = ap is_shown (sym h.0) ∙ here in
      let one : shown_of (a ∷ some) ≡ a ∷ shown_of some = rw here refl in
      let two : shown_of (b ∷ more) ≡ b ∷ shown_of more = rw here' refl in
      one ∙ ap (λ k. k ∷ shown_of some) (h.1 here) ∙ ap (λ rest. b ∷ rest) (shown_alike some more h.2) ∙ sym two
  | inr gone ↦
      let gone' : is_shown b.child.facts ≡ false = ap is_shown (sym h.0) ∙ gone in
      let one : shown_of (a ∷ some) ≡ shown_of some = rw gone refl in
      let two : shown_of (b ∷ more) ≡ shown_of more = rw gone' refl in
      one ∙ shown_alike some more h.2 ∙ sym two
]
