-- The law of a linear layout: if the first pass leaves a child out, the weight pass runs and asks for it, and does not
-- look at its size.
use Rattle.std.proofs.Common.{◌≡◌, ℕ, Bool, true, false, inl, inr, Option, Some, None, List, [], ◌∷◌, ◌++◌, ap, ◌∙◌, sym, refl, arith}
use Rattle.std.proofs.lemmas.Bool.{cases_Bool}
use Rattle.std.proofs.lemmas.Bool.Decides.{nat_tests}
use Rattle.std.specs.List.{list_any}
use Rattle.std.specs.Option.{is_some}
use Rattle.std.specs.Prelude.{ℤ, pos, if◌then◌else◌, ◌||◌, ◌&&◌, ◌==◌, not, nat_lt}
use Rattle.geom_core.specs.declared.geometry.Size.{Size}
use Rattle.geom_core.specs.declared.measuring.Spec.{Spec}
use Rattle.geom_core.specs.Limits.{IsSide}
use Rattle.geom_core.proofs.Sides.{resolve_of-is_side}
use Rattle.measure_pass.specs.Courses.{CanTurn, has_requests}
use Rattle.measure_pass.proofs.rules.Lawful.{IsLawful, begun_ready, later_ready}
use Rattle.measure_pass.proofs.walks.Whole.{AllAsked, asked_on, asked_through, has-push, no_true}
use Rattle.view_model.specs.declared.facts.Facts.{Facts}
use Rattle.view_model.specs.Course.{Child, Requested, after_phase, after_turn, asked_for, begun, measured_of, one_phase, phases_on, size_after, size_in, sizes_of}
use Rattle.view_model.specs.Facts.{is_shown}
use Rattle.view_model.specs.FrameLayout.{is_exactly}
use Rattle.view_model.specs.LinearLayout.{first_along, first_length, has_weight_pass, is_exact_beside, is_skipped, linear_ask, linear_rule, linear_size, own_breadth, resolved_breadth, size_by, skips, spec_beside, specs_by, uniform_pass, weight_pass}
use Rattle.view_model.specs.Measuring.{Measured, Rule, Specs}

-- those that a test passes over were not asked
abbrev AskedBut : (Facts → Bool) → List Requested → Type 0
AskedBut skip [] = Unit {0}
AskedBut skip (kid ∷ kids) =
    (is_shown kid.child.facts ≡ true → (skip kid.child.facts ≡ false → has_requests kid.requests ≡ true) × (skip kid.child.facts ≡ true → kid.requests ≡ [])) × AskedBut skip kids

but_turn : (skip : Facts → Bool) (v s : Bool) (first : Specs) (kid : Requested) → v ≡ is_shown kid.child.facts → s ≡ skip kid.child.facts → kid.requests ≡ []
    → (let next = (if v then asked_for (if s then None else Some first) kid else kid) in
    is_shown next.child.facts ≡ true → (skip next.child.facts ≡ false → has_requests next.requests ≡ true) × (skip next.child.facts ≡ true → next.requests ≡ []))
but_turn skip true true first kid v s none = λ here. (λ no. no_true (skip kid.child.facts) no (sym s), λ yes. none)
but_turn skip true false first kid v s none = λ here. (λ no. has-push kid.requests first, λ yes. no_true (skip kid.child.facts) (sym s) yes)
but_turn skip false s first kid v e none = λ here. no_true (is_shown kid.child.facts) (sym v) here

-- after the first phase
asked_first : (own : Facts) (specs : Specs) (taken : List Measured) (kids : List Child)
    → AskedBut (skips own specs) (after_phase (linear_ask own specs []) taken (begun kids).kids)
asked_first own specs taken [] = tt
asked_first own specs taken (kid ∷ kids) =
    let ask = linear_ask own specs [] in
    let start : Requested = record { child = kid; requests = []; edges = None } in (
      but_turn (skips own specs) (is_shown kid.facts) (skips own specs kid.facts) (specs_by own.vertical (first_along own specs taken kid.facts) (spec_beside own specs kid.facts)) start refl refl refl,
      asked_first own specs (taken ++ size_in (after_turn ask taken start)) kids,
    )

any_if : (p : Measured → Bool) (v : Bool) (m : Measured) (more : List Measured) → v ≡ true → list_any p ((if v then m ∷ [] else []) ++ more) ≡ false → p m ≡ false
any_if p true m more is none = first (p m) none
  where
    first : (b : Bool) → (b || list_any p more) ≡ false → b ≡ false
    first true e = e
    first false e = refl
any_if p false m more is none = no_true false refl is

any_more : (p : Measured → Bool) (v : Bool) (m : Measured) (more : List Measured) → list_any p ((if v then m ∷ [] else []) ++ more) ≡ false → list_any p more ≡ false
any_more p true m more none = second (p m) none
  where
    second : (b : Bool) → (b || list_any p more) ≡ false → list_any p more ≡ false
    second true e = absurd (let e : true ≡ false = e in cc)
    second false e = e
any_more p false m more none = none

-- if no child was passed over, all were asked
all_but : (skip : Facts → Bool) (kids : List Requested) → AskedBut skip kids → list_any (λ (kid : Measured). skip kid.facts) (sizes_of kids) ≡ false → AllAsked kids
all_but skip [] but none = tt
all_but skip (kid ∷ kids) but none = (
  λ here. (but.0 here).0 (any_if (λ (kid : Measured). skip kid.facts) (is_shown kid.child.facts) (measured_of kid) (sizes_of kids) here none),
  all_but skip kids but.1 (any_more (λ (kid : Measured). skip kid.facts) (is_shown kid.child.facts) (measured_of kid) (sizes_of kids) none),
)

-- a phase that asks each of those that were passed over
but_asked_turn : (skip : Facts → Bool) (v : Bool) (answer : Option Specs) (kid : Requested) → v ≡ is_shown kid.child.facts
    → (skip kid.child.facts ≡ true → is_some answer ≡ true)
    → (is_shown kid.child.facts ≡ true → (skip kid.child.facts ≡ false → has_requests kid.requests ≡ true) × (skip kid.child.facts ≡ true → kid.requests ≡ []))
    → (let next = (if v then asked_for answer kid else kid) in is_shown next.child.facts ≡ true → has_requests next.requests ≡ true)
but_asked_turn skip true (Some specs) kid v some but = λ here. has-push kid.requests specs
but_asked_turn skip true None kid v some but = λ here.
    elim (cases_Bool (skip kid.child.facts)) [ inl over ↦ (let e : false ≡ true = some over in absurd (cc)) | inr not_over ↦ (but here).0 not_over ]
but_asked_turn skip false answer kid v some but = λ here. no_true (is_shown kid.child.facts) (sym v) here

asked_all : (skip : Facts → Bool) (ask : List Measured → Measured → Option Specs) (taken : List Measured) (kids : List Requested)
    → ((taken : List Measured) (kid : Measured) → skip kid.facts ≡ true → is_some (ask taken kid) ≡ true) → AskedBut skip kids → AllAsked (after_phase ask taken kids)
asked_all skip ask taken [] some but = tt
asked_all skip ask taken (kid ∷ kids) some but = (
  but_asked_turn skip (is_shown kid.child.facts) (ask taken (measured_of kid)) kid refl (some taken (measured_of kid)) but.0,
  asked_all skip ask (taken ++ size_in (after_turn ask taken kid)) kids some but.1,
)

-- a phase that does not look at the size of those that were passed over
but_ready : (skip : Facts → Bool) (rule : Rule) (first : List Measured) (kids : List Requested)
    → ((taken : List Measured) (kid : Measured) → skip kid.facts ≡ true → is_some (rule.ask (first ∷ []) taken kid) ≡ true)
    → ((taken : List Measured) (facts : Facts) (size other : Size) → skip facts ≡ true
    → rule.ask (first ∷ []) taken (record { facts = facts; size = size }) ≡ rule.ask (first ∷ []) taken (record { facts = facts; size = other }))
    → AskedBut skip kids → CanTurn rule (first ∷ []) kids
but_ready skip rule first [] some blind but = tt
but_ready skip rule first (kid ∷ kids) some blind but = (
  λ here. elim (cases_Bool (skip kid.child.facts)) [
    | inl over ↦ record {
      asked = λ taken present right. blind taken kid.child.facts present (size_after kid.child kid.requests) over;
      left = λ taken present right none. not_none (rule.ask (first ∷ []) taken (measured_of kid)) (some taken (measured_of kid) over) none;
      got = λ taken specs size some. refl;
    }
    | inr not_over ↦ (later_ready rule first [] (kid ∷ []) ((λ here. (but.0 here).0 not_over), tt)).0 here
  ],
  but_ready skip rule first kids some blind but.1,
)
  where
    not_none : {X : Type 0} (o : Option Specs) → is_some o ≡ true → o ≡ None → X
    not_none None some none = let e : true ≡ false = sym some in absurd (cc)
    not_none (Some specs) some none = absurd (cc)

-- what is passed over has a weight
skipped_weight : (along : Spec) (dim : ℤ) (weight : ℕ) → is_skipped along dim weight ≡ true → (weight == 0) ≡ false
unfolding is_skipped
skipped_weight along dim weight skipped = by_both (is_exactly along.mode) _ (nat_lt 0 weight) skipped
  where
    by_both : (a b c : Bool) → (a && (b && c)) ≡ true → (weight == 0) ≡ false
    by_both true true true e = grind (arith, nat_tests)
    by_both true true false e = absurd (let e : false ≡ true = e in cc)
    by_both true false c e = absurd (let e : false ≡ true = e in cc)
    by_both false b c e = absurd (let e : false ≡ true = e in cc)

or_false_first : (a b : Bool) → (a || b) ≡ false → a ≡ false
or_false_first true b e = e
or_false_first false b e = refl

weight_pass-some : (own : Facts) (specs : Specs) (first taken : List Measured) (kid : Measured) → skips own specs kid.facts ≡ true → is_some (weight_pass own specs first taken kid) ≡ true
weight_pass-some own specs first taken kid skipped = rw (skipped_weight _ _ kid.facts.weight skipped) refl

weight_pass-blind : (own : Facts) (specs : Specs) (first taken : List Measured) (facts : Facts) (size other : Size) → skips own specs facts ≡ true
    → weight_pass own specs first taken (record { facts = facts; size = size }) ≡ weight_pass own specs first taken (record { facts = facts; size = other })
unfolding first_length
weight_pass-blind own specs first taken facts size other skipped = rw (skipped, skipped_weight _ _ facts.weight skipped) refl

second_some : (own : Facts) (specs : Specs) (first : List Measured) → has_weight_pass own specs first ≡ true → (taken : List Measured) (kid : Measured) → skips own specs kid.facts ≡ true
    → is_some (linear_ask own specs (first ∷ []) taken kid) ≡ true
second_some own specs first weighed taken kid skipped =
    ap (λ b. is_some (if b then weight_pass own specs first taken kid else uniform_pass own (own_breadth own specs (first ∷ [])) kid)) weighed
    ∙ weight_pass-some own specs first taken kid skipped

second_blind : (own : Facts) (specs : Specs) (first : List Measured) → has_weight_pass own specs first ≡ true → (taken : List Measured) (facts : Facts) (size other : Size)
    → skips own specs facts ≡ true
    → linear_ask own specs (first ∷ []) taken (record { facts = facts; size = size }) ≡ linear_ask own specs (first ∷ []) taken (record { facts = facts; size = other })
second_blind own specs first weighed taken facts size other skipped =
    let ask = λ (b : Bool) (kid : Measured). if b then weight_pass own specs first taken kid else uniform_pass own (own_breadth own specs (first ∷ [])) kid in
    ap (λ b. ask b (record { facts = facts; size = size })) weighed
    ∙ weight_pass-blind own specs first taken facts size other skipped
    ∙ sym (ap (λ b. ask b (record { facts = facts; size = other })) weighed)

none_skipped : (own : Facts) (specs : Specs) (kids : List Child)
    → (let once = after_phase (linear_ask own specs []) [] (begun kids).kids in has_weight_pass own specs (sizes_of once) ≡ false → AllAsked once)
none_skipped own specs kids over =
    let once = after_phase (linear_ask own specs []) [] (begun kids).kids in
    all_but (skips own specs) once (asked_first own specs [] kids)
    (or_false_first (list_any (λ (kid : Measured). skips own specs kid.facts) (sizes_of once)) _ over)

second_ready : (own : Facts) (specs : Specs) (kids : List Child)
    → (let once = after_phase (linear_ask own specs []) [] (begun kids).kids in CanTurn (linear_rule own specs) (sizes_of once ∷ []) once)
second_ready own specs kids =
    let rule = linear_rule own specs in
    let once = after_phase (linear_ask own specs []) [] (begun kids).kids in
    let first = sizes_of once in
    elim (cases_Bool (has_weight_pass own specs first)) [
      | inl runs ↦ but_ready (skips own specs) rule first once (second_some own specs first runs) (second_blind own specs first runs) (asked_first own specs [] kids)
      | inr over ↦ later_ready rule first [] once (none_skipped own specs kids over)
    ]

second_asked : (own : Facts) (specs : Specs) (kids : List Child)
    → (let once = after_phase (linear_ask own specs []) [] (begun kids).kids in AllAsked (after_phase (linear_ask own specs (sizes_of once ∷ [])) [] once))
second_asked own specs kids =
    let once = after_phase (linear_ask own specs []) [] (begun kids).kids in
    let first = sizes_of once in
    let ask = linear_ask own specs (first ∷ []) in
    elim (cases_Bool (has_weight_pass own specs first)) [
      | inl runs ↦ asked_all (skips own specs) ask [] once (second_some own specs first runs) (asked_first own specs [] kids)
      | inr over ↦ asked_on ask [] once (none_skipped own specs kids over)
    ]

last_asked : (own : Facts) (specs : Specs) (kids : List Child) (v : Bool)
    → (let rule = linear_rule own specs in
    let once = one_phase rule (begun kids) in
    v ≡ rule.turns once.past → AllAsked (if v then phases_on 1 rule (one_phase rule once) else once).kids)
last_asked own specs kids true is =
    let rule = linear_rule own specs in
    let once = one_phase rule (begun kids) in
    asked_through 1 rule (one_phase rule once) (second_asked own specs kids)
last_asked own specs kids false is =
    none_skipped own specs kids (or_false_first (has_weight_pass own specs (sizes_of (after_phase (linear_ask own specs []) [] (begun kids).kids))) (not (is_exact_beside own specs)) (sym is))

side_zero : IsSide (pos 0)
side_zero = record { low = omega arith; high = omega arith }

own_breadth-is_side : (own : Facts) (specs : Specs) (past : List (List Measured)) → IsSide (own_breadth own specs past)
unfolding resolved_breadth
own_breadth-is_side own specs [] = side_zero
own_breadth-is_side own specs (first ∷ []) = resolve_of-is_side _ _
own_breadth-is_side own specs (first ∷ second ∷ more) = resolve_of-is_side _ _

size_by-w : (vertical : Bool) (along beside : ℤ) → IsSide along → IsSide beside → IsSide (size_by vertical along beside).w
size_by-w true along beside long broad = broad
size_by-w false along beside long broad = long

size_by-h : (vertical : Bool) (along beside : ℤ) → IsSide along → IsSide beside → IsSide (size_by vertical along beside).h
size_by-h true along beside long broad = long
size_by-h false along beside long broad = broad

pub linear_lawful : (own : Facts) (specs : Specs) → IsLawful true (linear_rule own specs)
linear_lawful own specs = record {
  ready = λ kids.
      let rule = linear_rule own specs in
      let once = one_phase rule (begun kids) in (
        begun_ready rule (λ taken facts size other. refl) kids,
        λ again. (
          second_ready own specs kids,
          λ third. later_ready rule (sizes_of once.kids) (sizes_of (one_phase rule once).kids ∷ []) (one_phase rule once).kids (second_asked own specs kids),
        ),
      );
  asked = λ kids group. last_asked own specs kids ((linear_rule own specs).turns (one_phase (linear_rule own specs) (begun kids)).past) refl;
  width = λ past. width past;
  height = λ past. height past;
}
  where
    width : (past : List (List Measured)) → IsSide (linear_size own specs past).w
    width [] = side_zero
    width (first ∷ more) = size_by-w own.vertical _ _ (resolve_of-is_side _ _) (own_breadth-is_side own specs (first ∷ more))

    height : (past : List (List Measured)) → IsSide (linear_size own specs past).h
    height [] = side_zero
    height (first ∷ more) = size_by-h own.vertical _ _ (resolve_of-is_side _ _) (own_breadth-is_side own specs (first ∷ more))
