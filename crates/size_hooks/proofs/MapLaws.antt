-- How a map of hooks changes.
use Rattle.std.proofs.Common.{◌≡◌, ℕ, ◌<◌, ◌≤◌, ◌+◌, List, [], ◌∷◌, ◌++◌, suc, length, None, Some, refl, sym, ◌∙◌, ap, subst, inl, inr, arith, length-append}
use Rattle.std.proofs.lemmas.Bool.{cases_Bool, cases_eq, eq-eqb, ne_eqb}
use Rattle.std.proofs.lemmas.List.{length-map}
use Rattle.std.proofs.lemmas.List.Elements.{All-append, All-cons, All-filter, All-map}
use Rattle.std.specs.Option.{option_map}
use Rattle.std.specs.Prelude.{◌==◌, not, filter, if◌then◌else◌, nat_eq}
use Rattle.geom_core.specs.declared.geometry.Size.{Size}
use Rattle.size_hooks.specs.Hook.{Hook}
use Rattle.size_hooks.specs.Hooks.{IsMap, armed, reported_to, disarmed, hook_of, reported_as}
use Rattle.view_model.specs.Numbers.{max_edits, max_hooks}

pub no_more_disarmed : (view : ℕ) (hooks : List Hook) → length (disarmed view hooks) ≤ length hooks
no_more_disarmed view [] = omega arith
no_more_disarmed view (hook ∷ hooks) = elim (cases_Bool (hook.view == view)) [
  | inl e ↦ let more = no_more_disarmed view hooks in rw e (omega arith)
  | inr e ↦ let more = no_more_disarmed view hooks in rw e (omega arith)
]

-- hooks of which no hook is taken away
pub all_disarmed : (view : ℕ) (hooks : List Hook) → length hooks ≤ length (disarmed view hooks) → disarmed view hooks ≡ hooks
all_disarmed view [] stay = refl
all_disarmed view (hook ∷ hooks) stay = elim (cases_Bool (hook.view == view)) [
  | inl e ↦ absurd (let stay = rw e at stay in let more = no_more_disarmed view hooks in omega arith)
  | inr e ↦ let stay = rw e at stay in rw e (ap (λ (rest : List Hook). hook ∷ rest) (all_disarmed view hooks (omega arith)))
]

pub none_armed : (view : ℕ) (hooks : List Hook) → length hooks ≤ length (disarmed view hooks) → hook_of hooks view ≡ None
none_armed view [] stay = refl
none_armed view (hook ∷ hooks) stay = elim (cases_Bool (hook.view == view)) [
  | inl e ↦ absurd (let stay = rw e at stay in let more = no_more_disarmed view hooks in omega arith)
  | inr e ↦ let stay = rw e at stay in rw e (none_armed view hooks (omega arith))
]

pub none_disarmed : (view : ℕ) (hooks : List Hook) → hook_of hooks view ≡ None → disarmed view hooks ≡ hooks
none_disarmed view [] none = refl
none_disarmed view (hook ∷ hooks) none = elim (cases_Bool (hook.view == view)) [
  | inl e ↦ absurd (let none = rw e at none in cc)
  | inr e ↦ let none = rw e at none in rw e (ap (λ (rest : List Hook). hook ∷ rest) (none_disarmed view hooks none))
]

abbrev of_view : ℕ → List Hook → ℕ
of_view view hooks = length (filter (λ (hook : Hook). hook.view == view) hooks)

more_or_same : (view : ℕ) (hook : Hook) (hooks : List Hook) → of_view view hooks ≤ of_view view (hook ∷ hooks)
more_or_same view hook hooks = elim (cases_Bool (hook.view == view)) [ inl e ↦ rw e (omega arith) | inr e ↦ rw e (omega arith) ]

one_more : (view : ℕ) (hook : Hook) (some more : List Hook) → of_view view some ≤ of_view view more → of_view view (hook ∷ some) ≤ of_view view (hook ∷ more)
one_more view hook some more le = elim (cases_Bool (hook.view == view)) [ inl e ↦ rw e (omega arith) | inr e ↦ rw e (omega arith) ]

-- taking hooks away leaves no more of any view, and none of that view
fewer_of : (other view : ℕ) (hooks : List Hook) → of_view other (disarmed view hooks) ≤ of_view other hooks
fewer_of other view [] = omega arith
fewer_of other view (hook ∷ hooks) = elim (cases_Bool (hook.view == view)) [
  | inl e ↦ let more = fewer_of other view hooks in let also = more_or_same other hook hooks in rw e (omega arith)
  | inr e ↦ rw e (one_more other hook (disarmed view hooks) hooks (fewer_of other view hooks))
]

none_of : (view : ℕ) (hooks : List Hook) → of_view view (disarmed view hooks) ≡ 0
none_of view [] = refl
none_of view (hook ∷ hooks) = elim (cases_Bool (hook.view == view)) [
  | inl e ↦ rw e (none_of view hooks)
  | inr e ↦ rw e (rw e (none_of view hooks))
]

of_end : (view : ℕ) (hooks : List Hook) (hook : Hook) → of_view view (hooks ++ hook ∷ []) ≡ of_view view hooks + of_view view (hook ∷ [])
of_end view [] hook = omega arith
of_end view (other ∷ hooks) hook = elim (cases_Bool (other.view == view)) [
  | inl e ↦ let rest = of_end view hooks hook in rw e (omega arith)
  | inr e ↦ rw e (of_end view hooks hook)
]

alone_of : (view : ℕ) (hook : Hook) → (hook.view ≡ view → ⊥) → of_view view (hook ∷ []) ≡ 0
alone_of view hook ne = rw (ne_eqb hook.view view ne)

one_of : (view : ℕ) (hook : Hook) → of_view view (hook ∷ []) ≤ 1
one_of view hook = elim (cases_Bool (hook.view == view)) [ inl e ↦ rw e (omega arith) | inr e ↦ rw e (omega arith) ]

pub disarmed_map : (view : ℕ) (hooks : List Hook) → IsMap hooks → IsMap (disarmed view hooks)
disarmed_map view hooks is = record {
  single = λ other. let fewer = fewer_of other view hooks in let one = is.single other in omega arith;
  few = let fewer = no_more_disarmed view hooks in let few = is.few in omega arith;
  short = All-filter (λ (hook : Hook). not (hook.view == view)) (λ (hook : Hook). length hook.edits ≤ max_edits) hooks is.short;
}

pub armed_map : (hook : Hook) (hooks : List Hook) → IsMap hooks → length (disarmed hook.view hooks) < max_hooks → length hook.edits ≤ max_edits → IsMap (armed hook hooks)
armed_map hook hooks is room short = record {
  single = λ other. elim (cases_eq hook.view other) [
    | inl e ↦
        let none : of_view other (disarmed hook.view hooks) ≡ 0 = subst (λ v. of_view v (disarmed hook.view hooks) ≡ 0) e (none_of hook.view hooks) in
        let end = of_end other (disarmed hook.view hooks) hook in let one = one_of other hook in omega arith
    | inr ne ↦
        let fewer = fewer_of other hook.view hooks in let one = is.single other in
        let end = of_end other (disarmed hook.view hooks) hook in let none = alone_of other hook ne in omega arith
  ];
  few = let more = length-append (disarmed hook.view hooks) (hook ∷ []) in omega arith;
  short = All-append (λ (h : Hook). length h.edits ≤ max_edits) (disarmed hook.view hooks) (hook ∷ []) (disarmed_map hook.view hooks is).short (All-cons (λ (h : Hook). length h.edits ≤ max_edits) hook [] short (λ k d lt. absurd (omega arith)));
}

same_of : (other view : ℕ) (size : Size) (hooks : List Hook) → of_view other (reported_as view size hooks) ≡ of_view other hooks
same_of other view size [] = refl
same_of other view size (hook ∷ hooks) = elim (cases_Bool (hook.view == view)) [
  | inl e ↦ rw e (elim (cases_Bool (hook.view == other)) [ inl f ↦ rw f (ap (λ n. suc n) (same_of other view size hooks)) | inr f ↦ rw f (same_of other view size hooks) ])
  | inr e ↦ rw e (elim (cases_Bool (hook.view == other)) [ inl f ↦ rw f (ap (λ n. suc n) (same_of other view size hooks)) | inr f ↦ rw f (same_of other view size hooks) ])
]

still_short : (view : ℕ) (size : Size) (hook : Hook) → length hook.edits ≤ max_edits → length (reported_to view size hook).edits ≤ max_edits
still_short view size hook short = elim (cases_Bool (hook.view == view)) [ inl e ↦ rw e short | inr e ↦ rw e short ]

pub reported_map : (view : ℕ) (size : Size) (hooks : List Hook) → IsMap hooks → IsMap (reported_as view size hooks)
reported_map view size hooks is = record {
  single = λ other. rw (same_of other view size hooks) (is.single other);
  few = rw (length-map hooks (reported_to view size)) is.few;
  short = All-map (λ (h : Hook). length h.edits ≤ max_edits) (reported_to view size) hooks (λ k d lt. still_short view size _ (is.short k d lt));
}

-- the views whose hooks are there once a hook is taken away
pub hook_of-disarmed : (view : ℕ) (hooks : List Hook) (other : ℕ) → hook_of (disarmed view hooks) other ≡ (if nat_eq view other then None else hook_of hooks other)
hook_of-disarmed view [] other = elim (cases_Bool (nat_eq view other)) [ inl f ↦ rw f refl | inr f ↦ rw f refl ]
hook_of-disarmed view (hook ∷ hooks) other = elim (cases_eq hook.view view) [
  | inl e ↦
      rw (eq-eqb hook.view view e) (elim (cases_eq view other) [
        | inl f ↦ hook_of-disarmed view hooks other ∙ rw (eq-eqb view other f) refl
        | inr f ↦ rw (ne_eqb hook.view other (λ same. f (sym e ∙ same))) (hook_of-disarmed view hooks other)
      ])
  | inr e ↦
      rw (ne_eqb hook.view view e) (elim (cases_eq hook.view other) [
        | inl f ↦ rw (eq-eqb hook.view other f, ne_eqb view other (λ same. e (f ∙ sym same))) refl
        | inr f ↦ rw (ne_eqb hook.view other f) (hook_of-disarmed view hooks other)
      ])
]

-- the views whose hooks are there with another at the end
pub hook_of-end : (hook : Hook) (hooks : List Hook) (other : ℕ) → hook_of hooks hook.view ≡ None
    → hook_of (hooks ++ hook ∷ []) other ≡ (if nat_eq hook.view other then Some hook else hook_of hooks other)
hook_of-end hook [] other none = refl
hook_of-end hook (first ∷ hooks) other none = elim (cases_eq first.view hook.view) [
  | inl e ↦ absurd (let none = rw (eq-eqb first.view hook.view e) at none in cc)
  | inr e ↦
      let none = rw (ne_eqb first.view hook.view e) at none in
      elim (cases_eq first.view other) [
        | inl f ↦ rw (eq-eqb first.view other f, ne_eqb hook.view other (λ same. e (f ∙ sym same))) refl
        | inr f ↦ rw (ne_eqb first.view other f) (hook_of-end hook hooks other none)
      ]
]

pub hook_of-armed : (hook : Hook) (hooks : List Hook) (other : ℕ) → hook_of (armed hook hooks) other ≡ (if nat_eq hook.view other then Some hook else hook_of hooks other)
hook_of-armed hook hooks other =
    let gone = hook_of-disarmed hook.view hooks hook.view ∙ rw (eq-eqb hook.view hook.view refl) refl in
    hook_of-end hook (disarmed hook.view hooks) other gone
    ∙ elim (cases_eq hook.view other) [
      | inl f ↦ rw (eq-eqb hook.view other f) refl
      | inr f ↦ rw (ne_eqb hook.view other f) (hook_of-disarmed hook.view hooks other ∙ rw (ne_eqb hook.view other f) refl)
    ]

-- the views whose hooks are there once a size is reported
pub hook_of-reported : (view : ℕ) (size : Size) (hooks : List Hook) (other : ℕ) → hook_of (reported_as view size hooks) other ≡ option_map (reported_to view size) (hook_of hooks other)
hook_of-reported view size [] other = refl
hook_of-reported view size (hook ∷ hooks) other = elim (cases_Bool (hook.view == view)) [
  | inl e ↦ rw e (elim (cases_Bool (hook.view == other)) [ inl f ↦ rw f (rw e refl) | inr f ↦ rw f (hook_of-reported view size hooks other) ])
  | inr e ↦ rw e (elim (cases_Bool (hook.view == other)) [ inl f ↦ rw f (rw e refl) | inr f ↦ rw f (hook_of-reported view size hooks other) ])
]
