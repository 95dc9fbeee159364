-- A hook that is armed with the present size of its view does not fire.
use Rattle.std.proofs.Common.{◌≡◌, ◌≢◌, ℕ, ℤ, true, false, List, [], ◌∷◌, refl, sym, ◌∙◌, ap, subst, inl, inr}
use Rattle.std.proofs.lemmas.Bool.{cases_Bool, cases_eq, eq-eqb, ne_eqb}
use Rattle.std.proofs.lemmas.Bool.Decides.{Decides-int_eq}
use Rattle.std.proofs.lemmas.List.Folds.{find-append}
use Rattle.std.specs.Prelude.{◌==◌, not, find, Option, None, Some}
use Rattle.std.specs.Option.{option_or}
use Rattle.std.specs.Ordering.{int_eq}
use Rattle.geom_core.specs.declared.geometry.Size.{Size}
use Rattle.size_hooks.specs.Hook.{Hook}
use Rattle.size_hooks.specs.Hooks.{armed, disarmed, hook_of}
use Rattle.traversal.proofs.hooks.ReportedLaws.{Apart, apart_rows}
use Rattle.traversal.specs.Frames.{differs, fired_in, fires, same_size}
use Rattle.view_model.specs.Geometry.{Laid, rect_in, size_of_rect}
use Rattle.view_tree.proofs.forest.PlainLaws.{or_none}
use Rattle.view_tree.specs.Views.{IsTree, Views, geometry_of, held_of}
use Rattle.view_world.specs.world.Step.{size_in}

-- the hooks of all views but one are as they were, and that one has the new hook

other_disarmed : (view other : ℕ) (hooks : List Hook) → other ≢ view → hook_of (disarmed view hooks) other ≡ hook_of hooks other
other_disarmed view other [] ne = refl
other_disarmed view other (hook ∷ hooks) ne = elim (cases_eq hook.view view) [
  | inl e ↦ rw (eq-eqb hook.view view e, ne_eqb hook.view other (λ f. ne (sym f ∙ e))) (other_disarmed view other hooks ne)
  | inr n ↦ elim (cases_eq hook.view other) [
    | inl f ↦ rw (ne_eqb hook.view view n, eq-eqb hook.view other f) refl
    | inr m ↦ rw (ne_eqb hook.view view n, ne_eqb hook.view other m) (other_disarmed view other hooks ne)
  ]
]

none_disarmed : (view : ℕ) (hooks : List Hook) → hook_of (disarmed view hooks) view ≡ None
none_disarmed view [] = refl
none_disarmed view (hook ∷ hooks) = elim (cases_eq hook.view view) [
  | inl e ↦ rw (eq-eqb hook.view view e) (none_disarmed view hooks)
  | inr n ↦ rw (ne_eqb hook.view view n, ne_eqb hook.view view n) (none_disarmed view hooks)
]

own_hook : (hook : Hook) (hooks : List Hook) → hook_of (armed hook hooks) hook.view ≡ Some hook
own_hook hook hooks =
    find-append (λ (h : Hook). h.view == hook.view) (disarmed hook.view hooks) (hook ∷ [])
    ∙ ap (λ (found : Option Hook). option_or found (find (λ (h : Hook). h.view == hook.view) (hook ∷ []))) (none_disarmed hook.view hooks)
    ∙ rw (eq-eqb hook.view hook.view refl) refl

other_hook : (hook : Hook) (hooks : List Hook) (other : ℕ) → other ≢ hook.view → hook_of (armed hook hooks) other ≡ hook_of hooks other
other_hook hook hooks other ne =
    find-append (λ (h : Hook). h.view == other) (disarmed hook.view hooks) (hook ∷ [])
    ∙ ap (λ (found : Option Hook). option_or found (find (λ (h : Hook). h.view == other) (hook ∷ []))) (other_disarmed hook.view other hooks ne)
    ∙ rw (ne_eqb hook.view other (λ e. ne (sym e))) (or_none (hook_of hooks other))

-- each view of a list that has this number has this size
abbrev HasSize : ℕ → Size → List Laid → Type 0
HasSize number size [] = Unit {0}
HasSize number size (laid ∷ geometry) = (laid.number ≡ number → size_of_rect laid.rect ≡ size) × HasSize number size geometry

none_sized : (number : ℕ) (size : Size) (geometry : List Laid) → rect_in geometry number ≡ None → HasSize number size geometry
none_sized number size [] none = tt
none_sized number size (laid ∷ geometry) none = elim (cases_eq laid.number number) [
  | inl e ↦ absurd (let clash = rw (eq-eqb laid.number number e) at none in cc)
  | inr ne ↦ (λ e. absurd (ne e), none_sized number size geometry (rw (ne_eqb laid.number number ne) at none))
]

sized_in : (number : ℕ) (geometry : List Laid) → Apart geometry → HasSize number (size_in geometry number) geometry
sized_in number [] apart = tt
sized_in number (laid ∷ geometry) apart = elim (cases_eq laid.number number) [
  | inl e ↦
      let none : rect_in geometry number ≡ None = subst (λ (n : ℕ). rect_in geometry n ≡ None) e apart.0 in
      let is : size_in (laid ∷ geometry) number ≡ size_of_rect laid.rect = rw (eq-eqb laid.number number e) refl in
      subst (λ (size : Size). HasSize number size (laid ∷ geometry)) (sym is) (λ e. refl, none_sized number (size_of_rect laid.rect) geometry none)
  | inr ne ↦
      let is : size_in (laid ∷ geometry) number ≡ size_in geometry number = rw (ne_eqb laid.number number ne) refl in
      subst (λ (size : Size). HasSize number size (laid ∷ geometry)) (sym is) (λ e. absurd (ne e), sized_in number geometry apart.1)
]

int_self : (a : ℤ) → int_eq a a ≡ true
int_self a = (Decides-int_eq a a).1 refl

size_self : (size other : Size) → size ≡ other → same_size size other ≡ true
size_self size other e = rw e (rw (int_self other.w, int_self other.h) refl)

first_none : (hooks : List Hook) (laid : Laid) (geometry : List Laid) → fired_in hooks (laid ∷ geometry) ≡ None → (fires hooks laid ≡ false) × (fired_in hooks geometry ≡ None)
first_none hooks laid geometry none = elim (cases_Bool (fires hooks laid)) [
  | inl e ↦ absurd (let clash = rw e at none in cc)
  | inr e ↦ (e, rw e at none)
]

armed_calm : (hook : Hook) (hooks : List Hook) (geometry : List Laid) → HasSize hook.view hook.reported geometry → fired_in hooks geometry ≡ None → fired_in (armed hook hooks) geometry ≡ None
armed_calm hook hooks [] sized none = refl
armed_calm hook hooks (laid ∷ geometry) sized none =
    let both = first_none hooks laid geometry none in
    let own : fires (armed hook hooks) laid ≡ false = elim (cases_eq laid.number hook.view) [
      | inl e ↦
          ap (λ (found : Option Hook). differs found (size_of_rect laid.rect)) (ap (hook_of (armed hook hooks)) e ∙ own_hook hook hooks)
          ∙ ap not (size_self (size_of_rect laid.rect) hook.reported (sized.0 e))
      | inr ne ↦ ap (λ (found : Option Hook). differs found (size_of_rect laid.rect)) (other_hook hook hooks laid.number ne) ∙ both.0
    ] in
    rw own (armed_calm hook hooks geometry sized.1 both.1)

-- no hook fires once another is armed in this way
pub armed_unfired : (views : Views) (hooks : List Hook) (hook : Hook) → IsTree views → hook.reported ≡ size_in (geometry_of views) hook.view → fired_in hooks (geometry_of views) ≡ None
    → fired_in (armed hook hooks) (geometry_of views) ≡ None
armed_unfired views hooks hook is size none =
    armed_calm hook hooks (geometry_of views)
    (subst (λ (size : Size). HasSize hook.view size (geometry_of views)) (sym size) (sized_in hook.view (geometry_of views) (apart_rows (held_of views) views.tree is.numbers))) none
