-- What is reported of each view in turn is what each hook finds in the geometry.
use Rattle.std.proofs.Common.{◌≡◌, ℕ, ◌+◌, ◌<◌, ◌≤◌, List, [], ◌∷◌, ◌++◌, Option, None, Some, refl, sym, ◌∙◌, ap, subst, arith, append_assoc, inl, inr}
use Rattle.std.proofs.lemmas.Bool.{cases_eq, eq-eqb, ne_eqb}
use Rattle.std.proofs.lemmas.List.{append-nil}
use Rattle.std.proofs.lemmas.List.Folds.{find-append}
use Rattle.std.specs.Prelude.{◌==◌, find}
use Rattle.std.specs.Option.{option_map, option_or}
use Rattle.geom_core.specs.declared.geometry.Rect.{Rect}
use Rattle.view_model.specs.Forest.{Forest, Nothing, Branch}
use Rattle.view_model.specs.Geometry.{Laid, size_of_rect, rect_in}
use Rattle.size_hooks.specs.Hook.{Hook}
use Rattle.size_hooks.specs.Hooks.{reported_as, reported_to}
use Rattle.view_tree.specs.Rows.{Row, count_of_number}
use Rattle.view_tree.specs.Views.{Held, laid_at, laid_rows}
use Rattle.view_tree.proofs.values.GeometryLaws.{find-laid_absent}
use Rattle.traversal.specs.Frames.{reported_by, reported_in}
use Rattle.traversal.specs.Reporting.{reported_each}

rect_absent : (held : ℕ → Held) (number : ℕ) (tree : Forest Row) → count_of_number number tree ≡ 0 → rect_in (laid_rows held tree) number ≡ None
rect_absent held number tree none = ap (option_map (λ (laid : Laid). laid.rect)) (find-laid_absent held number tree none)

-- no view is laid twice
abbrev pub Apart : List Laid → Type 0
Apart [] = Unit {0}
Apart (laid ∷ geometry) = (rect_in geometry laid.number ≡ None) × Apart geometry

next_reported : (laid : Laid) (geometry : List Laid) (hook : Hook) → rect_in geometry laid.number ≡ None
    → reported_by geometry (reported_to laid.number (size_of_rect laid.rect) hook) ≡ reported_by (laid ∷ geometry) hook
next_reported laid geometry hook once = elim (cases_eq hook.view laid.number) [
  | inl e ↦
      let none : rect_in geometry hook.view ≡ None = subst (λ n. rect_in geometry n ≡ None) (sym e) once in
      rw (eq-eqb hook.view laid.number e, none, eq-eqb laid.number hook.view (sym e)) refl
  | inr ne ↦ rw (ne_eqb hook.view laid.number ne, ne_eqb laid.number hook.view (λ e. ne (sym e))) refl
]

next_all : (laid : Laid) (geometry : List Laid) (hooks : List Hook) → rect_in geometry laid.number ≡ None
    → reported_in geometry (reported_as laid.number (size_of_rect laid.rect) hooks) ≡ reported_in (laid ∷ geometry) hooks
next_all laid geometry [] once = refl
next_all laid geometry (hook ∷ hooks) once =
    ap (λ (h : Hook). h ∷ reported_in geometry (reported_as laid.number (size_of_rect laid.rect) hooks)) (next_reported laid geometry hook once)
    ∙ ap (λ (l : List Hook). reported_by (laid ∷ geometry) hook ∷ l) (next_all laid geometry hooks once)

none_reported : (hooks : List Hook) → hooks ≡ reported_in [] hooks
none_reported [] = refl
none_reported (hook ∷ hooks) = ap (λ (l : List Hook). hook ∷ l) (none_reported hooks)

pub over_reported : (geometry : List Laid) (hooks : List Hook) → Apart geometry → reported_each geometry hooks ≡ reported_in geometry hooks
over_reported [] hooks apart = none_reported hooks
over_reported (laid ∷ geometry) hooks apart =
    over_reported geometry (reported_as laid.number (size_of_rect laid.rect) hooks) apart.1 ∙ next_all laid geometry hooks apart.0

nowhere : (number : ℕ) (first second : List Laid) → rect_in first number ≡ None → rect_in second number ≡ None → rect_in (first ++ second) number ≡ None
nowhere number first second none more =
    ap (option_map (λ (laid : Laid). laid.rect)) (find-append (λ (laid : Laid). laid.number == number) first second)
    ∙ neither (find (λ (laid : Laid). laid.number == number) first) (find (λ (laid : Laid). laid.number == number) second) none more
  where
    neither : (a b : Option Laid) → option_map (λ (laid : Laid). laid.rect) a ≡ None → option_map (λ (laid : Laid). laid.rect) b ≡ None
        → option_map (λ (laid : Laid). laid.rect) (option_or a b) ≡ None
    neither None b none more = more
    neither (Some laid) b none more = absurd cc

head_apart : (number : ℕ) (bounds : Option Rect) (rest : List Laid) → rect_in rest number ≡ None → Apart rest → Apart (laid_at number bounds ++ rest)
head_apart number None rest once apart = apart
head_apart number (Some rect) rest once apart = (once, apart)

apart_before : (held : ℕ → Held) (list : Forest Row) (rest : List Laid) → ((number : ℕ) → count_of_number number list ≤ 1)
    → ((number : ℕ) → 0 < count_of_number number list → rect_in rest number ≡ None) → Apart rest → Apart (laid_rows held list ++ rest)
apart_before held Nothing rest once away apart = apart
apart_before held (Branch row kids siblings) rest once away apart =
    let number = row.view.number in
    let own : count_of_number number kids + count_of_number number siblings ≡ 0 = let o = once number in let o = rw (eq-eqb number number refl) at o in omega arith in
    let following : Apart (laid_rows held siblings ++ rest) =
    apart_before held siblings rest (λ n. let o = once n in omega arith) (λ n some. away n (omega arith)) apart in
    let below : Apart (laid_rows held kids ++ (laid_rows held siblings ++ rest)) =
    apart_before held kids (laid_rows held siblings ++ rest) (λ n. let o = once n in omega arith)
    (λ n some. let o = once n in nowhere n (laid_rows held siblings) rest (rect_absent held n siblings (omega arith)) (away n (omega arith))) following in
    let none : rect_in (laid_rows held kids ++ (laid_rows held siblings ++ rest)) number ≡ None =
    nowhere number (laid_rows held kids) (laid_rows held siblings ++ rest) (rect_absent held number kids (omega arith))
    (nowhere number (laid_rows held siblings) rest (rect_absent held number siblings (omega arith)) (away number (rw (eq-eqb number number refl) (omega arith)))) in
    let P : List Laid → Type 0 = Apart in
    subst P (sym (append_assoc (laid_at number (held row.key).state.bounds) (laid_rows held kids ++ laid_rows held siblings) rest
    ∙ ap (λ (l : List Laid). laid_at number (held row.key).state.bounds ++ l) (append_assoc (laid_rows held kids) (laid_rows held siblings) rest)))
    (head_apart number (held row.key).state.bounds (laid_rows held kids ++ (laid_rows held siblings ++ rest)) none below)

-- no view of a tree whose numbers are apart
pub apart_rows : (held : ℕ → Held) (list : Forest Row) → ((number : ℕ) → count_of_number number list ≤ 1) → Apart (laid_rows held list)
apart_rows held list once = subst Apart (append-nil (laid_rows held list)) (apart_before held list [] once (λ number some. refl) tt)
