-- Views that are added below a view keep what is kept, except at and above that view.
use Rattle.std.proofs.Common.{◌≡◌, ℕ, ◌+◌, ◌<◌, ◌≤◌, ◌==◌, Bool, true, false, List, [], ◌∷◌, arith, sym, refl, subst, inl, inr}
use Rattle.std.proofs.lemmas.Bool.{cases_Bool, eq-eqb}
use Rattle.std.specs.Prelude.{if◌then◌else◌}
use Rattle.view_model.specs.Facts.{is_shown}
use Rattle.view_model.specs.Forest.{Forest, Nothing, Branch, joined}
use Rattle.view_tree.specs.Rows.{Row, count_of_key, grown_at_key}
use Rattle.view_tree.proofs.forest.KeyLaws.{count_of_key-within, located, times_self, zero_or_more}
use Rattle.view_tree.specs.Views.{Held}
use Rattle.kept_views.specs.Kept.{Around, HiddenView, Kept, asked, inside, reach}
use Rattle.kept_views.proofs.edits.EditParts.{apart_part, at_part}
use Rattle.kept_views.proofs.edits.Edits.{AllHidden, hidden_kept}
use Rattle.kept_views.proofs.KeptFrames.{Kept-more, Kept-weak, outer, Same}
use Rattle.kept_views.proofs.edits.Paths.{reach_few}
use Rattle.kept_views.proofs.edits.Replaced.{Becomes, Kept-replaced}
use Rattle.kept_views.proofs.edits.Requested.{Done}

pub kept_joined : (keys : List ℕ) (held : ℕ → Held) (up : Around) (list more : Forest Row) → Kept keys held up list → Kept keys held up more → Kept keys held up (joined list more)
kept_joined keys held up Nothing more k l = l
kept_joined keys held up (Branch row kids siblings) more k l = (k.0, k.1, k.2, kept_joined keys held up siblings more k.3 l)

abbrev pub id_row : Row → Row
id_row row = row

pub id_key : (row : Row) → (id_row row).key ≡ row.key
id_key row = refl

-- one new view with all below it, as it is added
module _ (parent : ℕ) (new_row : Row) (below : Forest Row) where
  abbrev pub added : Forest Row
  added = Branch new_row below Nothing

  abbrev pub with_added : Forest Row → Forest Row
  with_added kids = joined kids added

  fresh_kept : (held : ℕ → Held) (up : Around) → AllHidden held added → Kept (parent ∷ new_row.key ∷ []) held up added
  fresh_kept held up all = (
    λ h. own,
    λ shown. record { flags = λ z. no z; cache = λ z. no z; sized = λ z. no z; placed = λ z. no z; ranged = λ z. no z },
    hidden_kept (parent ∷ new_row.key ∷ []) held (inside up new_row (held new_row.key)) below (λ key here. all key (omega arith)) (λ h. own.forced),
    tt,
  )
    where
      own : HiddenView (held new_row.key)
      own = all new_row.key (times_self new_row below Nothing)

      no : {A : Type 0} → asked (parent ∷ new_row.key ∷ []) (Branch new_row below Nothing) ≡ 0 → A
      no z =
          let mine : 1 ≤ reach new_row.key (Branch new_row below Nothing) = rw (eq-eqb new_row.key new_row.key refl) (omega arith) in
          absurd (omega arith)

  pub Kept_grow : (tree : Forest Row) → ((other : ℕ) → count_of_key other tree ≤ 1) → 0 < count_of_key parent tree → (old new : ℕ → Held) (up : Around) → AllHidden new added
      → Same old new tree → Kept [] old up tree → Kept (parent ∷ new_row.key ∷ []) new up (grown_at_key parent added tree)
  Kept_grow tree once live old new up all same k =
      let x = located parent tree live in
      let inside_tree : Same old new (Branch x.row x.kids x.siblings) = λ other here. same other (let w = count_of_key-within other x.within in omega arith) in
      let own : new x.row.key ≡ old x.row.key = inside_tree x.row.key (times_self x.row x.kids x.siblings) in
      let becomes : Becomes parent id_row with_added id_key old new (new_row.key ∷ []) x.row x.kids = λ up hid kept. record {
        hidden = λ h. subst HiddenView (sym own) (hid h);
        kept = kept_joined (parent ∷ new_row.key ∷ []) new (inside up x.row (new x.row.key)) x.kids added
            (subst (λ own. Kept (parent ∷ new_row.key ∷ []) new (inside up x.row own) x.kids) (sym own)
            (Kept-more parent (new_row.key ∷ []) old new (inside up x.row (old x.row.key)) x.kids (λ other here. inside_tree other (omega arith)) kept))
            (fresh_kept new (inside up x.row (new x.row.key)) all);
      } in
      Kept-replaced parent id_row with_added id_key old new (new_row.key ∷ []) up tree (apart_part parent old new tree once (λ other here z. same other here))
      (at_part parent id_row with_added id_key old new (new_row.key ∷ []) tree (once parent) x.row x.kids x.siblings x.is becomes) (Kept-weak new_row.key [] old up tree k)

  -- no view of a list is above one that is not there
  done_none : (view : ℕ) (held : ℕ → Held) (up : Around) (list : Forest Row) → count_of_key view list ≡ 0 → Done view held up list
  done_none view held up Nothing z = tt
  done_none view held up (Branch row kids siblings) z = (
    λ shown s. let few = reach_few view (Branch row kids Nothing) in absurd (omega arith),
    done_none view held (inside up row (held row.key)) kids (omega arith),
    done_none view held up siblings (omega arith),
  )

  done_joined : (view : ℕ) (held : ℕ → Held) (up : Around) (list more : Forest Row) → Done view held up list → Done view held up more → Done view held up (joined list more)
  done_joined view held up Nothing more d e = e
  done_joined view held up (Branch row kids siblings) more d e = (d.0, d.1, done_joined view held up siblings more d.2 e)

  -- what is above the new view is above its parent
  reach_added : (list : Forest Row) → count_of_key new_row.key list ≡ 0 → 0 < reach new_row.key (grown_at_key parent added list) → 0 < reach parent (grown_at_key parent added list)
  reach_added Nothing z s = absurd (omega arith)
  reach_added (Branch row kids siblings) z s = elim (cases_Bool (row.key == parent)) [
    | inl e ↦
        let here : grown_at_key parent added (Branch row kids siblings) ≡ Branch row (joined kids added) siblings = rw e refl in
        rw (here, e) (omega arith)
    | inr ne ↦
        let there : grown_at_key parent added (Branch row kids siblings) ≡ Branch row (grown_at_key parent added kids) (grown_at_key parent added siblings) = rw ne refl in
        let other : (row.key == new_row.key) ≡ false = not_own row kids siblings new_row.key z in
        let s = rw (there, other) at s in
        let a = reach_added kids (omega arith) in
        let b = reach_added siblings (omega arith) in
        rw (there, ne) (step (is_shown row.view.facts) _ _ _ _ a b s)
  ]
    where
      step : (v : Bool) (a b c d : ℕ) → (0 < a → 0 < c) → (0 < b → 0 < d) → 0 < 0 + ((if v then a else 0) + b) → 0 < 0 + ((if v then c else 0) + d)
      step true a b c d f g s = elim (zero_or_more a) [ inl z ↦ let q = g (omega arith) in omega arith | inr p ↦ let q = f p in omega arith ]
      step false a b c d f g s = let q = g (omega arith) in omega arith

      not_own : (row : Row) (kids siblings : Forest Row) (key : ℕ) → count_of_key key (Branch row kids siblings) ≡ 0 → (row.key == key) ≡ false
      not_own row kids siblings key z = elim (cases_Bool (row.key == key)) [ inl e ↦ let no = rw e at z in absurd (omega arith) | inr ne ↦ ne ]

  -- if all above the parent is forced, so it is above the new view
  pub done_added : (held : ℕ → Held) (up : Around) (list : Forest Row) → count_of_key new_row.key list ≡ 0 → count_of_key new_row.key below ≡ 0 → HiddenView (held new_row.key)
      → Done parent held up (grown_at_key parent added list) → Done new_row.key held up (grown_at_key parent added list)
  done_added held up Nothing z zb own d = tt
  done_added held up (Branch row kids siblings) z zb own d = elim (cases_Bool (row.key == parent)) [
    | inl e ↦
        let here : grown_at_key parent added (Branch row kids siblings) ≡ Branch row (joined kids added) siblings = rw e refl in
        let d : Done parent held up (Branch row (joined kids added) siblings) = rw here at d in
        let seen : 0 < reach parent (Branch row (joined kids added) Nothing) = rw e (omega arith) in
        rw here (
          λ shown s. d.0 shown seen,
          done_joined new_row.key held (inside up row (held row.key)) kids added (done_none new_row.key held (inside up row (held row.key)) kids (omega arith)) (
            λ shown s. record { forced = own.forced; cache = own.cache; above = (d.0 (outer _ _ shown) seen).forced },
            done_none new_row.key held _ below zb,
            tt,
          ),
          done_none new_row.key held up siblings (omega arith),
        )
    | inr ne ↦
        let there : grown_at_key parent added (Branch row kids siblings) ≡ Branch row (grown_at_key parent added kids) (grown_at_key parent added siblings) = rw ne refl in
        let alone : grown_at_key parent added (Branch row kids Nothing) ≡ Branch row (grown_at_key parent added kids) Nothing = rw ne refl in
        let d : Done parent held up (Branch row (grown_at_key parent added kids) (grown_at_key parent added siblings)) = rw there at d in
        rw there (
          λ shown s. d.0 shown (subst (λ list. 0 < reach parent list) alone (reach_added (Branch row kids Nothing) (omega arith) (subst (λ list. 0 < reach new_row.key list) (sym alone) s))),
          done_added held (inside up row (held row.key)) kids (omega arith) zb own d.1,
          done_added held up siblings (omega arith) zb own d.2,
        )
  ]
