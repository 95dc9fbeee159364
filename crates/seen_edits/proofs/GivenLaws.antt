-- What is seen of views that a state gives something.
use Rattle.std.proofs.Common.{◌≡◌, ◌≢◌, ℕ, ◌<◌, ℤ, true, false, Option, Some, None, List, ◌∷◌, drop, refl, sym, ap, ◌∙◌, subst, inl, inr, ◌⊎◌, arith}
use Rattle.std.proofs.lemmas.Bool.{cases_eq, ne_eqb}
use Rattle.std.specs.Prelude.{◌==◌, is_some}
use Rattle.damage_rect.specs.Within.{LiesIn}
use Rattle.geom_core.specs.Rects.{holds}
use Rattle.geom_core.specs.declared.geometry.Rect.{Rect}
use Rattle.geom_core.specs.declared.geometry.Size.{Size}
use Rattle.saved_state.proofs.RestoredLaws.{all_bounds, all_offsets}
use Rattle.saved_state.proofs.RestatedLaws.{count-restated}
use Rattle.saved_state.proofs.RestatedParts.{wanted-restated}
use Rattle.saved_state.specs.Restored.{Restates, all_given, set_by, wanted}
use Rattle.saved_state.specs.State.{StateEntry}
use Rattle.saved_state.specs.declared.value.Value.{Value}
use Rattle.seen_edits.proofs.ScrolledLaws.{in_more}
use Rattle.seen_edits.proofs.ShownLaws.{colors_same}
use Rattle.seen_edits.proofs.ReportedStates.{met_reported, seen-restated}
use Rattle.seen_edits.specs.Scrolled.{IsIn, NotesGiven}
use Rattle.seen_edits.specs.Shown.{KeepsShown}
use Rattle.seen_parts.proofs.ChangeLaws.{met_scrolled}
use Rattle.seen_parts.specs.Meeting.{met_at, placed_rows, seen_at}
use Rattle.view_model.specs.Forest.{Forest, rows}
use Rattle.view_model.specs.Visible.{whole_window}
use Rattle.view_tree.proofs.forest.PreorderLaws.{key_count, key_count-rows, status}
use Rattle.view_tree.proofs.forest.KeyLaws.{here}
use Rattle.view_tree.specs.tree.Preorder.{rows_from}
use Rattle.view_tree.specs.Rows.{Row, count_of_key}
use Rattle.view_tree.specs.Views.{IsLive, IsTree, Views, held_of}

-- so far, what is seen of each view before `next` that is given something is damage
abbrev pub NotesBefore : List StateEntry → Size → Rect → Views → Option ℕ → Type 0
NotesBefore entries window damage views next =
    (key : ℕ) → IsLive views key → is_some (wanted entries views.tree key) ≡ true → key_count key (rows_from next views.tree) ≡ 0 → IsIn window damage views key

pub given_start : (entries : List StateEntry) (window : Size) (damage : Rect) (views : Views) (next : Option ℕ) → rows_from next views.tree ≡ rows views.tree → NotesBefore entries window damage views next
given_start entries window damage views next whole key live some none =
    absurd (let all = ap (key_count key) (sym whole) ∙ none in let count = key_count-rows key views.tree in omega arith)

pub given_on : (entries : List StateEntry) (window : Size) (less more : Rect) (views : Views) (view : ℕ) (next : Option ℕ) → IsLive views view
    → rows_from next views.tree ≡ drop 1 (rows_from (Some view) views.tree) → LiesIn less more
    → (is_some (wanted entries views.tree view) ≡ true → IsIn window more views view)
    → NotesBefore entries window less views (Some view) → NotesBefore entries window more views next
given_on entries window less more views view next there is grew own before key live some none = elim (cases_eq view key) [
  | inl e ↦ subst (λ (k : ℕ). IsIn window more views k) e (own (subst (λ (k : ℕ). is_some (wanted entries views.tree k) ≡ true) (sym e) some))
  | inr ne ↦ in_more window less more views key grew (before key live some (earlier ne))
]
  where
    earlier : view ≢ key → key_count key (rows_from (Some view) views.tree) ≡ 0
    earlier ne =
        let f = status view views.tree there in
        let parts : rows_from (Some view) views.tree ≡ f.row ∷ rows_from next views.tree = f.is ∙ ap (λ (list : List Row). f.row ∷ list) (sym is) in
        let other : (f.row.key == key) ≡ false = ne_eqb f.row.key key (λ same. ne (sym f.key_is ∙ same)) in
        ap (key_count key) parts ∙ rw other (omega (arith, none))

-- a state was restored, and all of that was noted
pub shown_given : (window : Size) (less more : Rect) (old new : Views) (entries : List StateEntry) → IsTree old → IsTree new → Restates entries old new
    → ((key : ℕ) → held_of new key ≡ all_given entries old.tree (set_by entries old.tree) (held_of old) key)
    → LiesIn less more → NotesGiven entries window more new → KeepsShown window less more old new
shown_given window less more old new entries was is reported held grew noted = record {
  grew = grew;
  colors = λ x y inside out.
      colors_same window old new x y was is inside
      (ap (λ (tree : Forest Row). met_at x y (whole_window window) (placed_rows (held_of new) tree)) reported.tree
      ∙ met_reported entries old.tree was.keys x y (held_of new) (whole_window window) old.tree here (λ key live. unseen x y out key live (wanted entries old.tree key) refl)
      ∙ met_scrolled x y (held_of old) (held_of new) (whole_window window) old.tree was.keys bounds (λ key live. moved key (unseen x y out key live (wanted entries old.tree key) refl)));
}
  where
    bounds : (key : ℕ) → (held_of new key).state.bounds ≡ (held_of old key).state.bounds
    bounds key = ap (λ own. own.state.bounds) (held key) ∙ all_bounds entries old.tree (set_by entries old.tree) (held_of old) key

    unseen : (x y : ℤ) → holds more x y ≡ false → (key : ℕ) → 0 < count_of_key key old.tree → (given : Option Value) → wanted entries old.tree key ≡ given
        → (wanted entries old.tree key ≡ None) ⊎ (holds (seen_at (held_of new) (whole_window window) key old.tree) x y ≡ false)
    unseen x y out key live None e = inl e
    unseen x y out key live (Some value) e =
        let count : count_of_key key new.tree ≡ count_of_key key old.tree = ap (count_of_key key) reported.tree ∙ count-restated entries key old.tree in
        let live' : IsLive new key = omega arith in
        let some : is_some (wanted entries new.tree key) ≡ true =
        ap (λ (tree : Forest Row). is_some (wanted entries tree key)) reported.tree ∙ ap is_some (wanted-restated entries old.tree key ∙ e) in
        inr (ap (λ (rect : Rect). holds rect x y)
        (sym (seen-restated entries (held_of new) (whole_window window) key old.tree) ∙ ap (seen_at (held_of new) (whole_window window) key) (sym reported.tree))
        ∙ noted key live' some x y out)

    moved : {unseen : Type 0} (key : ℕ) → (wanted entries old.tree key ≡ None) ⊎ unseen → ((held_of new key).offset ≡ (held_of old key).offset) ⊎ unseen
    moved key (inl none) = inl (ap (λ own. own.offset) (held key) ∙ all_offsets entries old.tree (set_by entries old.tree) (held_of old) key none)
    moved key (inr out) = inr out
