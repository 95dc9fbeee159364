-- Each kind of edit keeps what is kept, except at and above a view.
use Rattle.std.proofs.Common.{◌≡◌, ◌≢◌, ℕ, ◌+◌, ◌<◌, ◌≤◌, ◌==◌, Bool, true, false, List, ◌∷◌, arith, eqb-true, ap, ◌∙◌, sym, refl, subst, inl, inr}
use Rattle.std.proofs.lemmas.Bool.{both_ways, cases_Bool}
use Rattle.std.specs.Prelude.{if◌then◌else◌}
use Rattle.view_model.specs.Facts.{is_shown}
use Rattle.view_model.specs.Forest.{Forest, Nothing, Branch}
use Rattle.view_model.specs.PlainTree.{PlainView}
use Rattle.view_tree.specs.Rows.{Row, changed_at_key, count_of_key, first_tree, head_view, part_from}
use Rattle.view_tree.proofs.forest.KeyLaws.{located, times_self, zero_or_more}
use Rattle.view_tree.proofs.forest.Walks.{not_below, once_from}
use Rattle.view_tree.specs.Views.{Held}
use Rattle.kept_views.specs.Kept.{Around, HiddenView, Kept, hidden_in, inside}
use Rattle.kept_views.proofs.edits.EditParts.{SameBut, apart_part, at_part}
use Rattle.kept_views.proofs.KeptFrames.{Kept-more, none_found, outer}
use Rattle.kept_views.proofs.edits.Replaced.{Becomes, Kept-replaced, replaced}

-- each view of a list is as one that is hidden
abbrev pub AllHidden : (ℕ → Held) → Forest Row → Type 0
AllHidden held list = (key : ℕ) → 0 < count_of_key key list → HiddenView (held key)

-- so that it is kept, hidden or below a forced view
pub hidden_kept : (keys : List ℕ) (held : ℕ → Held) (up : Around) (list : Forest Row) → AllHidden held list → (up.hidden ≡ false → up.forced ≡ true) → Kept keys held up list
hidden_kept keys held up Nothing all above = tt
hidden_kept keys held up (Branch row kids siblings) all above = (
  λ h. own,
  λ shown. record {
    flags = λ z y. above (outer (is_shown row.view.facts) up.hidden shown);
    cache = λ z specs size y. none_found (held row.key) specs size own.cache y;
    sized = λ z y. absurd (both_ways _ y own.forced);
    placed = λ z y. absurd (both_ways _ y own.forced);
    ranged = λ z y. absurd (both_ways _ y own.forced);
  },
  hidden_kept keys held (inside up row (held row.key)) kids (λ key here. all key (omega arith)) (λ h. own.forced),
  hidden_kept keys held up siblings (λ key here. all key (omega arith)) above,
)
  where
    own : HiddenView (held row.key)
    own = all row.key (times_self row kids siblings)

-- what is hidden is so
pub kept_hidden : (keys : List ℕ) (held : ℕ → Held) (up : Around) (list : Forest Row) → up.hidden ≡ true → Kept keys held up list → (key : ℕ) → 0 < count_of_key key list → HiddenView (held key)
kept_hidden keys held up Nothing hid k key here = absurd (omega arith)
kept_hidden keys held up (Branch row kids siblings) hid k key here = elim (cases_Bool (row.key == key)) [
  | inl e ↦ subst (λ key. HiddenView (held key)) (same row.key key e) (k.0 own)
  | inr ne ↦ let here : 0 < (if row.key == key then 1 else 0) + (count_of_key key kids + count_of_key key siblings) = here in
      let here = rw ne at here in
      elim (zero_or_more (count_of_key key kids)) [
        | inl z ↦ kept_hidden keys held up siblings hid k.3 key (omega arith)
        | inr p ↦ kept_hidden keys held (inside up row (held row.key)) kids own k.2 key p
      ]
]
  where
    own : hidden_in up row ≡ true
    own = by_test (is_shown row.view.facts)
      where
        by_test : (v : Bool) → (if v then up.hidden else true) ≡ true
        by_test true = hid
        by_test false = refl

    same : (a b : ℕ) → (a == b) ≡ true → a ≡ b
    same a b e = eqb-true a b e

module _ (key : ℕ) (change : PlainView → PlainView) where
  abbrev pub row_put : Row → Row
  row_put row = record row { view = change row.view }

  pub row_key : (row : Row) → (row_put row).key ≡ row.key
  row_key row = refl

  put_is : (tree : Forest Row) → changed_at_key key change tree ≡ replaced key row_put (λ kids. kids) tree
  put_is tree = refl

  module _ (tree : Forest Row) (once : (other : ℕ) → count_of_key other tree ≤ 1) (live : 0 < count_of_key key tree) (keys : List ℕ) (old new : ℕ → Held) where
    pub put_but : ((other : ℕ) → other ≢ key → new other ≡ old other) → SameBut key old new tree
    put_but others other here z = others other (λ e.
        let x = located key tree live in
        let own : 0 < count_of_key key (first_tree (part_from key tree)) = rw x.is (subst (λ k. 0 < count_of_key k (Branch x.row x.kids Nothing)) x.key_is (times_self x.row x.kids Nothing)) in
        let z : count_of_key key (first_tree (part_from key tree)) ≡ 0 = subst (λ other. count_of_key other (first_tree (part_from key tree)) ≡ 0) e z in absurd (omega arith))

    -- another view, which takes part in layout as before, with the same flag; its bounds in its scroll view may differ
    pub Kept_put : (up : Around) → is_shown (change (head_view (part_from key tree))).facts ≡ is_shown (head_view (part_from key tree)).facts
        → ((other : ℕ) → other ≢ key → new other ≡ old other) → (new key).state.forced ≡ (old key).state.forced → (HiddenView (old key) → HiddenView (new key))
        → Kept keys old up tree → Kept (key ∷ keys) new up (changed_at_key key change tree)
    Kept_put up keeps others flag stays k =
        let x = located key tree live in
        let apart : SameBut key old new tree = put_but others in
        let below : count_of_key key x.kids ≡ 0 =
        subst (λ k. count_of_key k x.kids ≡ 0) x.key_is (not_below x.row x.kids x.siblings (let o : (other : ℕ) → count_of_key other (Branch x.row x.kids x.siblings) ≤ 1 = rw x.is at (once_from tree key once live) in o x.row.key)) in
        let keeps : is_shown (change x.row.view).facts ≡ is_shown x.row.view.facts = rw x.is at keeps in
        let becomes : Becomes key row_put (λ kids. kids) row_key old new keys x.row x.kids = λ up hid kept. record {
          hidden = λ h. subst (λ k. HiddenView (new k)) (sym x.key_is) (stays (subst (λ k. HiddenView (old k)) x.key_is (hid (ap (λ v. if v then up.hidden else true) (sym keeps) ∙ h))));
          kept = below_put up x.row x.kids x.key_is keeps below kept;
        } in
        Kept-replaced key row_put (λ kids. kids) row_key old new keys up tree (apart_part key old new tree once apart)
        (at_part key row_put (λ kids. kids) row_key old new keys tree (once key) x.row x.kids x.siblings x.is becomes) k
      where
        below_put : (up : Around) (row : Row) (kids : Forest Row) → row.key ≡ key → is_shown (change row.view).facts ≡ is_shown row.view.facts → count_of_key key kids ≡ 0 → Kept keys old (inside up row (old row.key)) kids
            → Kept (key ∷ keys) new (inside up (row_put row) (new row.key)) kids
        below_put up row kids e keeps below kept =
            let flag' : (old row.key).state.forced ≡ (new row.key).state.forced = ap (λ k. (old k).state.forced) e ∙ sym flag ∙ ap (λ k. (new k).state.forced) (sym e) in
            let hidden' : hidden_in up row ≡ hidden_in up (row_put row) = ap (λ v. if v then up.hidden else true) (sym keeps) in
            subst (λ hidden. Kept (key ∷ keys) new (record { hidden = hidden; forced = (new row.key).state.forced }) kids) hidden'
            (subst (λ forced. Kept (key ∷ keys) new (record { hidden = hidden_in up row; forced = forced }) kids) flag'
            (Kept-more key keys old new (inside up row (old row.key)) kids (λ other here. others other (λ i. let z : count_of_key other kids ≡ 0 = subst (λ k. count_of_key k kids ≡ 0) (sym i) below in absurd (omega arith))) kept))

    -- a view that is gone from now on, with all below it hidden
    pub Kept_hide : (up : Around) → AllHidden new (first_tree (part_from key tree)) → SameBut key old new tree → Kept keys old up tree → Kept (key ∷ keys) new up (changed_at_key key change tree)
    Kept_hide up all same k =
        let x = located key tree live in
        let all : AllHidden new (Branch x.row x.kids Nothing) = rw x.is at all in
        let becomes : Becomes key row_put (λ kids. kids) row_key old new keys x.row x.kids = λ up hid kept. record {
          hidden = λ h. all x.row.key (times_self x.row x.kids Nothing);
          kept = hidden_kept (key ∷ keys) new (inside up (row_put x.row) (new x.row.key)) x.kids (λ other here. all other (omega arith)) (λ h. (all x.row.key (times_self x.row x.kids Nothing)).forced);
        } in
        Kept-replaced key row_put (λ kids. kids) row_key old new keys up tree (apart_part key old new tree once same)
        (at_part key row_put (λ kids. kids) row_key old new keys tree (once key) x.row x.kids x.siblings x.is becomes) k

    -- a view that was gone
    pub Kept_show : (up : Around) → (part_shown : is_shown (head_view (part_from key tree)).facts ≡ false) → ((other : ℕ) → new other ≡ old other)
        → Kept keys old up tree → Kept (key ∷ keys) new up (changed_at_key key change tree)
    Kept_show up gone same k =
        let x = located key tree live in
        let gone : is_shown x.row.view.facts ≡ false = rw x.is at gone in
        let becomes : Becomes key row_put (λ kids. kids) row_key old new keys x.row x.kids = λ up hid kept.
        let here : hidden_in up x.row ≡ true = ap (λ v. if v then up.hidden else true) gone in
        let own : HiddenView (new x.row.key) = subst HiddenView (sym (same x.row.key)) (hid here) in
        record {
          hidden = λ h. own;
          kept = hidden_kept (key ∷ keys) new (inside up (row_put x.row) (new x.row.key)) x.kids
              (λ other there. subst HiddenView (sym (same other)) (kept_hidden keys old (inside up x.row (old x.row.key)) x.kids here kept other there)) (λ h. own.forced);
        } in
        Kept-replaced key row_put (λ kids. kids) row_key old new keys up tree (apart_part key old new tree once (λ other here z. same other))
        (at_part key row_put (λ kids. kids) row_key old new keys tree (once key) x.row x.kids x.siblings x.is becomes) k
