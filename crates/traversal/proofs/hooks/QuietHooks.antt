-- Hooks none of which fires, once sizes are reported, and before.
use Rattle.std.proofs.Common.{◌≡◌, ◌≢◌, ℕ, ℤ, ◌≤◌, Bool, true, false, List, [], ◌∷◌, length, None, refl, sym, ◌∙◌, ap, arith, inl, inr}
use Rattle.std.proofs.lemmas.Bool.{cases_Bool, cases_eq, eq-eqb, ne_eqb}
use Rattle.std.proofs.lemmas.Bool.Decides.{Decides-and, Decides-eqb, Decides-int_eq}
use Rattle.std.specs.Ordering.{int_eq}
use Rattle.std.specs.Prelude.{◌==◌, filter, not}
use Rattle.geom_core.specs.declared.geometry.Size.{Size}
use Rattle.size_hooks.specs.Hook.{Hook}
use Rattle.size_hooks.specs.Hooks.{hook_of, reported_as}
use Rattle.view_model.specs.Geometry.{Laid, rect_in, size_of_rect}
use Rattle.view_tree.specs.Views.{IsTree, Views, geometry_of, held_of}
use Rattle.traversal.specs.Changing.{FitAll}
use Rattle.traversal.specs.Frames.{differs, fired_in, fires, same_size}
use Rattle.traversal.specs.Reporting.{reported_each, reported_over}
use Rattle.traversal.proofs.laid.FitLaws.{reported_is}
use Rattle.traversal.proofs.hooks.ReportedLaws.{Apart, apart_rows}

same_self : (size : Size) → same_size size size ≡ true
same_self size = (Decides-and (int_eq size.w size.w) (int_eq size.h size.h) (Decides-int_eq size.w size.w) (Decides-int_eq size.h size.h)).1 (refl, refl)

same_is : (one other : Size) → not (same_size one other) ≡ false → one ≡ other
same_is one other e =
    let both = (Decides-and (int_eq one.w other.w) (int_eq one.h other.h) (Decides-int_eq one.w other.w) (Decides-int_eq one.h other.h)).0 (truly (same_size one other) e) in
    ap (λ (w : ℤ). let size : Size = record { w = w; h = one.h } in size) both.0 ∙ ap (λ (h : ℤ). let size : Size = record { w = other.w; h = h } in size) both.1
  where
    truly : (v : Bool) → not v ≡ false → v ≡ true
    truly true e = refl
    truly false e = absurd (let no : true ≡ false = e in cc)

-- a hook whose size is reported does not fire
hook_here : (view : ℕ) (size : Size) (hooks : List Hook) → differs (hook_of (reported_as view size hooks) view) size ≡ false
hook_here view size [] = refl
hook_here view size (hook ∷ hooks) = elim (cases_Bool (hook.view == view)) [
  | inl e ↦ rw e (rw e (ap not (same_self size)))
  | inr e ↦ rw e (rw e (hook_here view size hooks))
]

-- the hooks of other views stay
hook_elsewhere : (view other : ℕ) (size : Size) (hooks : List Hook) → view ≢ other → hook_of (reported_as view size hooks) other ≡ hook_of hooks other
hook_elsewhere view other size [] apart = refl
hook_elsewhere view other size (hook ∷ hooks) apart = elim (cases_Bool (hook.view == view)) [
  | inl e ↦
      let is : hook.view ≡ view = (Decides-eqb hook.view view).0 e in
      rw e (rw (ne_eqb hook.view other (λ same. apart (sym is ∙ same))) (hook_elsewhere view other size hooks apart))
  | inr e ↦ rw e (elim (cases_Bool (hook.view == other)) [ inl f ↦ rw f refl | inr f ↦ rw f (hook_elsewhere view other size hooks apart) ])
]

hook_after : (geometry : List Laid) (number : ℕ) (hooks : List Hook) → rect_in geometry number ≡ None → hook_of (reported_each geometry hooks) number ≡ hook_of hooks number
hook_after [] number hooks none = refl
hook_after (laid ∷ geometry) number hooks none = elim (cases_eq laid.number number) [
  | inl e ↦ absurd (let none = rw (eq-eqb laid.number number e) at none in cc)
  | inr ne ↦
      let none = rw (ne_eqb laid.number number ne) at none in
      hook_after geometry number (reported_as laid.number (size_of_rect laid.rect) hooks) none ∙ hook_elsewhere laid.number number (size_of_rect laid.rect) hooks ne
]

quiet_over : (geometry : List Laid) (hooks : List Hook) → Apart geometry → fired_in (reported_each geometry hooks) geometry ≡ None
quiet_over [] hooks apart = refl
quiet_over (laid ∷ geometry) hooks apart =
    let size = size_of_rect laid.rect in
    let after = reported_as laid.number size hooks in
    let own : fires (reported_each geometry after) laid ≡ false = ap (λ hook. differs hook size) (hook_after geometry laid.number after apart.0) ∙ hook_here laid.number size hooks in
    rw own (quiet_over geometry after apart.1)

-- once the sizes of a tree are reported, no hook fires
pub reported_quiet : (views : Views) (hooks new : List Hook) → IsTree views → FitAll (geometry_of views) → new ≡ reported_over (geometry_of views) hooks → fired_in new (geometry_of views) ≡ None
reported_quiet views hooks new is fits reported =
    ap (λ (hooks : List Hook). fired_in hooks (geometry_of views)) (reported ∙ reported_is (geometry_of views) hooks fits)
    ∙ quiet_over (geometry_of views) hooks (apart_rows (held_of views) views.tree is.numbers)

none_of : (view : ℕ) (size : Size) (hooks : List Hook) → length (filter (λ (hook : Hook). hook.view == view) hooks) ≡ 0 → reported_as view size hooks ≡ hooks
none_of view size [] none = refl
none_of view size (hook ∷ hooks) none = elim (cases_Bool (hook.view == view)) [
  | inl e ↦ absurd (let none = rw e at none in omega arith)
  | inr e ↦ let none = rw e at none in rw e (ap (λ (rest : List Hook). hook ∷ rest) (none_of view size hooks none))
]

one_still : (view : ℕ) (size : Size) (hooks : List Hook) → length (filter (λ (hook : Hook). hook.view == view) hooks) ≤ 1 → differs (hook_of hooks view) size ≡ false → reported_as view size hooks ≡ hooks
one_still view size [] single quiet = refl
one_still view size (hook ∷ hooks) single quiet = elim (cases_Bool (hook.view == view)) [
  | inl e ↦
      let single = rw e at single in
      let quiet = rw e at quiet in
      let rest : List Hook → List Hook = λ rest. (let h : Hook = record hook { reported = size } in h) ∷ rest in
      let own : Size → List Hook = λ size. (let h : Hook = record hook { reported = size } in h) ∷ hooks in
      rw e (ap rest (none_of view size hooks (omega arith)) ∙ ap own (same_is size hook.reported quiet))
  | inr e ↦
      let single = rw e at single in
      let quiet = rw e at quiet in
      rw e (ap (λ (rest : List Hook). hook ∷ rest) (one_still view size hooks single quiet))
]

each_still : (geometry : List Laid) (hooks : List Hook) → ((view : ℕ) → length (filter (λ (hook : Hook). hook.view == view) hooks) ≤ 1) → fired_in hooks geometry ≡ None → reported_each geometry hooks ≡ hooks
each_still [] hooks single quiet = refl
each_still (laid ∷ geometry) hooks single quiet = elim (cases_Bool (fires hooks laid)) [
  | inl e ↦ absurd (let quiet = rw e at quiet in cc)
  | inr e ↦
      let quiet = rw e at quiet in
      ap (reported_each geometry) (one_still laid.number (size_of_rect laid.rect) hooks (single laid.number) e) ∙ each_still geometry hooks single quiet
]

-- if no hook fires, no reported size changes
pub reported_still : (geometry : List Laid) (hooks : List Hook) → FitAll geometry → ((view : ℕ) → length (filter (λ (hook : Hook). hook.view == view) hooks) ≤ 1)
    → fired_in hooks geometry ≡ None → reported_over geometry hooks ≡ hooks
reported_still geometry hooks fits single quiet = reported_is geometry hooks fits ∙ each_still geometry hooks single quiet
