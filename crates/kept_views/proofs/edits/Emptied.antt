-- A requester and all above it are forced, so that it is no longer a requester.
use Rattle.std.proofs.Common.{◌≡◌, ℕ, ◌+◌, ◌<◌, ◌≤◌, Bool, true, false, List, [], ◌∷◌, arith, ap, ◌∙◌, sym, refl, subst, inl, inr}
use Rattle.std.specs.Prelude.{if◌then◌else◌, ◌==◌}
use Rattle.std.proofs.lemmas.Bool.{both_ways, cases_Bool, cases_eq, eq-eqb}
use Rattle.view_model.specs.Forest.{Forest, Nothing, Branch}
use Rattle.view_tree.specs.Rows.{Row, around, count_of_key}
use Rattle.view_tree.proofs.forest.AncestorLaws.{around_after, around_below, around_here, left}
use Rattle.view_tree.proofs.forest.KeyLaws.{own_more, times_self}
use Rattle.view_tree.specs.Views.{Held}
use Rattle.kept_views.specs.Kept.{Kept, hidden_in, loose}
use Rattle.view_tree.specs.tree.Requests.{among, pressed}
use Rattle.kept_views.specs.Pressing.{Pressed, Touched, path_of}
use Rattle.kept_views.proofs.edits.Paths.{Off, among_first, among_later, among_rest, more_than, reach_few}
use Rattle.kept_views.proofs.edits.PressedKept.{forced_touched, pressed_kept}
use Rattle.kept_views.proofs.edits.Requested.{pressed_in, pressed_out}

-- those around a list are around each view of it, together with views only of the list
around_keeps : (key view : ℕ) (acc : List ℕ) (list : Forest Row) → among key acc ≡ true → among key (around acc view list) ≡ true
around_keeps key view acc Nothing e = e
around_keeps key view acc (Branch row kids siblings) e = by_test (row.key == view) (count_of_key view kids == 0)
    (around_keeps key view acc siblings e) (around_keeps key view (row.key ∷ acc) kids (among_rest key row.key acc e))
  where
    by_test : (v w : Bool) → among key (around acc view siblings) ≡ true → among key (around (row.key ∷ acc) view kids) ≡ true
        → among key (if v then acc else (if w then around acc view siblings else around (row.key ∷ acc) view kids)) ≡ true
    by_test true w a b = e
    by_test false true a b = a
    by_test false false a b = b

-- a view that is not in a list is around no view of it
pub around_off : (key view : ℕ) (acc : List ℕ) (list : Forest Row) → count_of_key key list ≡ 0 → among key acc ≡ false → among key (around acc view list) ≡ false
around_off key view acc Nothing z e = e
around_off key view acc (Branch row kids siblings) z e =
    let ne : row.key ≡ key → ⊥ = λ i. let m = own_more row kids siblings key i in absurd (omega arith) in
    by_test (row.key == view) (count_of_key view kids == 0)
    (around_off key view acc siblings (omega arith) e) (around_off key view (row.key ∷ acc) kids (omega arith) (among_later key row.key acc ne e))
  where
    by_test : (v w : Bool) → among key (around acc view siblings) ≡ false → among key (around (row.key ∷ acc) view kids) ≡ false
        → among key (if v then acc else (if w then around acc view siblings else around (row.key ∷ acc) view kids)) ≡ false
    by_test true w a b = e
    by_test false true a b = a
    by_test false false a b = b

-- these are the view and those above it
abbrev pub OnPath : ℕ → List ℕ → Forest Row → Type 0
OnPath view keys Nothing = Unit {0}
OnPath view keys (Branch row kids siblings) =
    (among row.key keys ≡ false → count_of_key view (Branch row kids Nothing) ≡ 0)
    × (among row.key keys ≡ true → 0 < count_of_key view (Branch row kids Nothing))
    × OnPath view keys kids
    × OnPath view keys siblings

path_off : (view : ℕ) (keys : List ℕ) (list : Forest Row) → Off keys list → count_of_key view list ≡ 0 → OnPath view keys list
path_off view keys Nothing off z = tt
path_off view keys (Branch row kids siblings) off z = (
  λ out. omega arith,
  λ in_keys. absurd (both_ways _ (off row.key (times_self row kids siblings)) in_keys),
  path_off view keys kids (λ key here. off key (omega arith)) (omega arith),
  path_off view keys siblings (λ key here. off key (omega arith)) (omega arith),
)

on_path : (view : ℕ) (keys : List ℕ) (acc : List ℕ) (list : Forest Row) → ((key : ℕ) → count_of_key key list ≤ 1) → 0 < count_of_key view list
    → keys ≡ view ∷ around acc view list → Off acc list → OnPath view keys list
on_path view keys acc Nothing once live e off = absurd (omega arith)
on_path view keys acc (Branch row kids siblings) once live e off = elim (cases_eq row.key view) [
  | inl i ↦
      let e' : keys ≡ view ∷ acc = e ∙ ap (λ path. view ∷ path) (around_here acc view row kids siblings i) in
      let m = own_more row kids siblings view i in
      let o = once view in
      let out : (key : ℕ) → 0 < count_of_key key kids + count_of_key key siblings → among key keys ≡ false =
      λ key y. ap (among key) e' ∙ among_later key view acc (λ n. let m2 = own_more row kids siblings key (i ∙ n) in let o2 = once key in absurd (omega arith)) (off key (omega arith)) in
      let own : among row.key keys ≡ true = ap (among row.key) e' ∙ ap (λ key. among row.key (key ∷ acc)) (sym i) ∙ among_first row.key acc in (
        λ no. absurd (both_ways _ no own),
        λ in_keys. rw (eq-eqb row.key view i) (omega arith),
        path_off view keys kids (λ key y. out key (omega arith)) (omega arith),
        path_off view keys siblings (λ key y. out key (omega arith)) (omega arith),
      )
  | inr ne ↦ elim (cases_eq (count_of_key view kids) 0) [
    | inl z ↦
        let p = left view row kids siblings ne live in
        let e' : keys ≡ view ∷ around acc view siblings = e ∙ ap (λ path. view ∷ path) (around_after acc view row kids siblings ne z) in
        let none : count_of_key view (Branch row kids Nothing) ≡ 0 = let o = once view in omega arith in
        let out : Off keys (Branch row kids Nothing) = λ key y.
        ap (among key) e'
        ∙ among_later key view _ (λ n. let y' : 0 < count_of_key view (Branch row kids Nothing) = subst (λ key. 0 < count_of_key key (Branch row kids Nothing)) (sym n) y in absurd (omega arith))
        (around_off key view acc siblings (let o = once key in omega arith) (off key (omega arith))) in
        let part = path_off view keys (Branch row kids Nothing) out none in (
          part.0,
          part.1,
          part.2,
          on_path view keys acc siblings (λ key. let o = once key in omega arith) (omega arith) e' (λ key y. off key (omega arith)),
        )
    | inr nz ↦
        let p = more_than (count_of_key view kids) nz in
        let e' : keys ≡ view ∷ around (row.key ∷ acc) view kids = e ∙ ap (λ path. view ∷ path) (around_below acc view row kids siblings ne nz) in
        let apart : (key : ℕ) → row.key ≡ key → count_of_key key kids + count_of_key key siblings ≡ 0 = λ key i. let m = own_more row kids siblings key i in let o = once key in omega arith in
        let acc_off : (key : ℕ) → 0 < count_of_key key kids + count_of_key key siblings → among key (row.key ∷ acc) ≡ false =
        λ key y. among_later key row.key acc (λ i. let x = apart key i in absurd (omega arith)) (off key (omega arith)) in
        let za : count_of_key view siblings ≡ 0 = let o = once view in omega arith in
        let out : Off keys siblings = λ key y.
        ap (among key) e'
        ∙ among_later key view _ (λ n. let y' : 0 < count_of_key view siblings = subst (λ key. 0 < count_of_key key siblings) (sym n) y in absurd (omega arith))
        (around_off key view (row.key ∷ acc) kids (let o = once key in omega arith) (acc_off key (omega arith))) in
        let own : among row.key keys ≡ true = ap (among row.key) e' ∙ among_rest row.key view _ (around_keeps row.key view (row.key ∷ acc) kids (among_first row.key acc)) in (
          λ no. absurd (both_ways _ no own),
          λ in_keys. omega arith,
          on_path view keys (row.key ∷ acc) kids (λ key. let o = once key in omega arith) p e' (λ key y. acc_off key (omega arith)),
          path_off view keys siblings out za,
        )
  ]
]

module _ (view : ℕ) (keys : List ℕ) (more : List ℕ) (held : ℕ → Held) where
  path_pressed : (h f' : Bool) (list : Forest Row) → OnPath view keys list → (0 < count_of_key view list → f' ≡ true)
      → Pressed (view ∷ more) more held (pressed held keys) (record { hidden = h; forced = f' }) list
  path_pressed h f' Nothing p top = tt
  path_pressed h f' (Branch row kids siblings) p top = (
    elim (cases_Bool (among row.key keys)) [
      | inl in_keys ↦
          let e = pressed_in held keys row.key in_keys in
          inr (
            subst (Touched (held row.key)) (sym e) (forced_touched (held row.key)),
            λ shown none. record {
              forced = ap (λ (own : Held). own.state.forced) e;
              cache = ap (λ (own : Held). own.cache) e;
              above = top (let s = p.1 in_keys in omega arith);
            },
          )
      | inr out ↦ inl (pressed_out held keys row.key out, λ none. let few = reach_few view (Branch row kids Nothing) in let z = p.0 out in omega arith)
    ],
    path_pressed (hidden_in (record { hidden = h; forced = f' }) row) (pressed held keys row.key).state.forced kids p.2 below,
    path_pressed h f' siblings p.3 (λ s. top (omega arith)),
  )
    where
      below : 0 < count_of_key view kids → (pressed held keys row.key).state.forced ≡ true
      below s = elim (cases_Bool (among row.key keys)) [
        | inl in_keys ↦ ap (λ (own : Held). own.state.forced) (pressed_in held keys row.key in_keys)
        | inr out ↦ let z = p.0 out in absurd (omega arith)
      ]

pub emptied_kept : (view : ℕ) (more : List ℕ) (held : ℕ → Held) (tree : Forest Row) → ((key : ℕ) → count_of_key key tree ≤ 1) → 0 < count_of_key view tree
    → Kept (view ∷ more) held loose tree → Kept more (pressed held (path_of view tree)) loose tree
emptied_kept view more held tree once live k =
    pressed_kept (view ∷ more) more held (pressed held (path_of view tree)) false true true tree
    (path_pressed view (path_of view tree) more held false true tree (on_path view (path_of view tree) [] tree once live refl (λ key here. refl)) (λ s. refl)) (λ e. e) k
