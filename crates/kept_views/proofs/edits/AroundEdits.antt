-- What else is known of views after an edit, before the request that goes with it.
use Rattle.std.proofs.Common.{◌≡◌, ℕ, ◌+◌, ◌<◌, ◌≤◌, ◌==◌, true, false, [], arith, eqb-true, ap, ◌∙◌, sym, refl, subst, inl, inr}
use Rattle.std.proofs.lemmas.Bool.{cases_Bool, false_from_ne_true}
use Rattle.std.specs.Prelude.{if◌then◌else◌}
use Rattle.view_model.specs.Forest.{Forest, Nothing, Branch}
use Rattle.view_tree.specs.Rows.{Row, count_of_key}
use Rattle.view_tree.proofs.forest.KeyLaws.{own_more, times_self, zero_or_more}
use Rattle.view_tree.specs.Views.{Held}
use Rattle.kept_views.specs.Kept.{Around, Cleared, Kept, Reached, inside}
use Rattle.kept_views.proofs.edits.Paths.{FlagsAbove}
use Rattle.kept_views.proofs.edits.Replaced.{Apart, replaced}

-- key by key
abbrev pub ClearedAt : Held → Type 0
ClearedAt own = own.state.forced ≡ true → own.cache ≡ []

pub record IsCalm (own : Held) : Type 0 where
  pub needed : own.state.layout_needed ≡ false
  pub first : own.state.measure_first ≡ false

pub cleared_each : (held : ℕ → Held) (list : Forest Row) → ((key : ℕ) → 0 < count_of_key key list → ClearedAt (held key)) → Cleared held list
cleared_each held Nothing each = tt
cleared_each held (Branch row kids siblings) each = (
  each row.key (times_self row kids siblings),
  cleared_each held kids (λ key here. each key (omega arith)),
  cleared_each held siblings (λ key here. each key (omega arith)),
)

pub cleared_at : (held : ℕ → Held) (list : Forest Row) → Cleared held list → (key : ℕ) → 0 < count_of_key key list → ClearedAt (held key)
cleared_at held Nothing c key here = absurd (omega arith)
cleared_at held (Branch row kids siblings) c key here = elim (cases_Bool (row.key == key)) [
  | inl e ↦ subst (λ key. ClearedAt (held key)) (eqb-true row.key key e) c.0
  | inr ne ↦
      let here : 0 < (if row.key == key then 1 else 0) + (count_of_key key kids + count_of_key key siblings) = here in
      let here = rw ne at here in
      elim (zero_or_more (count_of_key key kids)) [
        | inl z ↦ cleared_at held siblings c.2 key (omega arith)
        | inr p ↦ cleared_at held kids c.1 key p
      ]
]

no_false : {A : Type 0} → false ≡ true → A
no_false e = absurd (cc)

pub reached_each : (held : ℕ → Held) (list : Forest Row) → ((key : ℕ) → 0 < count_of_key key list → IsCalm (held key)) → Reached held false list
reached_each held Nothing each = tt
reached_each held (Branch row kids siblings) each =
    let own = each row.key (times_self row kids siblings) in (
      λ n. no_false (sym own.needed ∙ n),
      λ m. no_false (sym own.first ∙ m),
      subst (λ b. Reached held b kids) (sym own.needed) (reached_each held kids (λ key here. each key (omega arith))),
      reached_each held siblings (λ key here. each key (omega arith)),
    )

pub reached_at : (held : ℕ → Held) (list : Forest Row) → Reached held false list → (key : ℕ) → 0 < count_of_key key list → IsCalm (held key)
reached_at held Nothing r key here = absurd (omega arith)
reached_at held (Branch row kids siblings) r key here = elim (cases_Bool (row.key == key)) [
  | inl e ↦ subst (λ key. IsCalm (held key)) (eqb-true row.key key e) own
  | inr ne ↦
      let here : 0 < (if row.key == key then 1 else 0) + (count_of_key key kids + count_of_key key siblings) = here in
      let here = rw ne at here in
      elim (zero_or_more (count_of_key key kids)) [
        | inl z ↦ reached_at held siblings r.3 key (omega arith)
        | inr p ↦ reached_at held kids (subst (λ b. Reached held b kids) own.needed r.2) key p
      ]
]
  where
    own : IsCalm (held row.key)
    own =
        let needed = false_from_ne_true (held row.key).state.layout_needed (λ n. no_false (r.0 n).1) in
        record { needed = needed; first = false_from_ne_true (held row.key).state.measure_first (λ m. no_false (sym needed ∙ r.1 m)) }

pub flags_absent : (key : ℕ) (held : ℕ → Held) (up : Around) (list : Forest Row) → count_of_key key list ≡ 0 → FlagsAbove key held up list
flags_absent key held up Nothing z = tt
flags_absent key held up (Branch row kids siblings) z = (
  λ live. absurd (omega arith),
  flags_absent key held (inside up row (held row.key)) kids (omega arith),
  flags_absent key held up siblings (omega arith),
)

module _ (key : ℕ) (f : Row → Row) (g : Forest Row → Forest Row) (f_key : (row : Row) → (f row).key ≡ row.key) (old new : ℕ → Held) where
  -- the flags above a view that was edited are still right
  pub flags_replaced : (up : Around) (list : Forest Row) → Apart key old new list → count_of_key key (replaced key f g list) ≤ 1 → Kept [] old up list → FlagsAbove key new up (replaced key f g list)
  flags_replaced up Nothing a once k = tt
  flags_replaced up (Branch row kids siblings) a once k = elim (cases_Bool (row.key == key)) [
    | inl e ↦
        let here : replaced key f g (Branch row kids siblings) ≡ Branch (f row) (g kids) siblings = rw e refl in
        let once : count_of_key key (Branch (f row) (g kids) siblings) ≤ 1 = rw here at once in
        let m = own_more (f row) (g kids) siblings key (f_key row ∙ eqb-true row.key key e) in
        rw here (λ live. absurd (omega arith), flags_absent key new (inside up (f row) (new (f row).key)) (g kids) (omega arith), flags_absent key new up siblings (omega arith))
    | inr e ↦
        let there : replaced key f g (Branch row kids siblings) ≡ Branch row (replaced key f g kids) (replaced key f g siblings) = rw e refl in
        let once : count_of_key key (Branch row (replaced key f g kids) (replaced key f g siblings)) ≤ 1 = rw there at once in
        let same = (a.1 e).0 in
        rw there (
          λ live shown forced. (k.1 shown).flags refl (ap (λ (own : Held). own.state.forced) (sym same) ∙ forced),
          subst (λ own. FlagsAbove key new (inside up row own) (replaced key f g kids)) (sym same) (flags_replaced (inside up row (old row.key)) kids (a.1 e).1 (omega arith) k.2),
          flags_replaced up siblings (a.1 e).2 (omega arith) k.3,
        )
  ]
