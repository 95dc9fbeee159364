-- Scroll views that a log has as scrolled, and what is seen of these.
use Rattle.std.proofs.Common.{◌≡◌, ℕ, zero, suc, arith, ◌+◌, ◌<◌, ◌≤◌, ℤ, Bool, true, false, Some, None, List, [], ◌∷◌, ◌++◌, length, take, get_or, refl, sym, ap, ◌∙◌, subst, inl, inr, ◌⊎◌, eqb-true}
use Rattle.std.specs.Prelude.{◌==◌, ◌&&◌, ◌||◌}
use Rattle.std.proofs.lemmas.Bool.{and_parts, eq-eqb}
use Rattle.std.proofs.lemmas.List.{take_more, take_all}
use Rattle.damage_rect.specs.Within.{LiesIn}
use Rattle.damage_rect.proofs.RectLaws.{outside, outside_second}
use Rattle.geom_core.specs.Rects.{holds, hull_of}
use Rattle.geom_core.specs.declared.geometry.Rect.{Rect}
use Rattle.geom_core.specs.declared.geometry.Size.{Size}
use Rattle.seen_edits.proofs.ShownLaws.{colors_same}
use Rattle.seen_edits.specs.Scrolled.{IsIn, NotesAll, NotesEntry}
use Rattle.seen_edits.specs.Shown.{KeepsShown}
use Rattle.seen_parts.proofs.ChangeLaws.{met_scrolled}
use Rattle.seen_parts.specs.Meeting.{met_at, placed_rows, seen_at}
use Rattle.touch_dispatch.proofs.steps.SceneLaws.{offset_live}
use Rattle.touch_dispatch.proofs.scrolls.ScrollLaws.{LogsScrolls, dispatch_logs}
use Rattle.touch_dispatch.specs.Dispatch.{dispatched}
use Rattle.touch_dispatch.specs.handling.Handling.{Reached}
use Rattle.touch_event.specs.declared.event.Event.{Event}
use Rattle.touch_dispatch.specs.gesture.Kept.{Kept}
use Rattle.touch_dispatch.specs.handling.Scrolled.{has_scrolled, is_scroll}
use Rattle.touch_dispatch.specs.reaching.TreeEvents.{OnlyScrolls, offsets_in, progress_of, scene_of}
use Rattle.touch_dispatch.specs.declared.log.Entry.{Entry}
use Rattle.touch_dispatch.specs.declared.log.Log.{Log}
use Rattle.view_model.specs.Forest.{Forest}
use Rattle.view_model.specs.PlainTree.{PlainView}
use Rattle.view_model.specs.Visible.{whole_window}
use Rattle.view_tree.proofs.forest.PlainLaws.{agree_live, key_where_number}
use Rattle.view_tree.proofs.values.KeptLaws.{is_tree-same}
use Rattle.view_tree.specs.Rows.{Row, count_of_key, head_view, key_where, part_from, views_of}
use Rattle.view_tree.specs.Views.{Held, IsLive, IsTree, Views, held_of, number_of}

either : (s t : Bool) → (s || t) ≡ true → (s ≡ true) ⊎ (t ≡ true)
either true t e = inl refl
either false t e = inr e

scrolled_parts : (n : ℕ) (one : List Entry) (entry : Entry) → has_scrolled n (one ++ entry ∷ []) ≡ true → (has_scrolled n one ≡ true) ⊎ ((is_scroll entry.kind && entry.view == n) ≡ true)
scrolled_parts n [] entry e = elim (either (is_scroll entry.kind && entry.view == n) false e) [ inl here ↦ inr here | inr none ↦ inl none ]
scrolled_parts n (first ∷ one) entry e = elim (either (is_scroll first.kind && first.view == n) (has_scrolled n (one ++ entry ∷ [])) e) [
  | inl here ↦ inl (rw here refl)
  | inr later ↦ elim (scrolled_parts n one entry later) [
    | inl some ↦ inl (or_true (is_scroll first.kind && first.view == n) (has_scrolled n one) some)
    | inr last ↦ inr last
  ]
]
  where
    or_true : (s t : Bool) → t ≡ true → (s || t) ≡ true
    or_true true t e = refl
    or_true false t e = e

-- more damage keeps what was recorded
pub in_more : (window : Size) (less more : Rect) (views : Views) (key : ℕ) → LiesIn less more → IsIn window less views key → IsIn window more views key
in_more window less more views key grew is x y out = is x y (outside less more grew x y out)

pub notes_none : (window : Size) (damage : Rect) (views : Views) → NotesAll window damage views []
notes_none window damage views key live e = absurd (cc)

pub notes_more : (window : Size) (less more : Rect) (views : Views) (entries : List Entry) (i : ℕ) (d : Entry) → i < length entries → LiesIn less more
    → NotesAll window less views (take i entries) → NotesEntry window more views (get_or entries i d) → NotesAll window more views (take (i + 1) entries)
notes_more window less more views entries i d lt grew all one key live e =
    elim (scrolled_parts (number_of views key) (take i entries) (get_or entries i d) (ap (has_scrolled (number_of views key)) (sym (take_more entries i d lt)) ∙ e)) [
      | inl before ↦ in_more window less more views key grew (all key live before)
      | inr now ↦ one key live now
    ]

pub notes_all : (window : Size) (damage : Rect) (views : Views) (entries : List Entry) (i : ℕ) → length entries ≤ i → NotesAll window damage views (take i entries) → NotesAll window damage views entries
notes_all window damage views entries i le all = subst (NotesAll window damage views) (take_all i entries le) all

-- the view of a number is the one that is found
key_is : (views : Views) (key found number : ℕ) → IsTree views → IsLive views key → Some found ≡ key_where (λ (view : PlainView). view.number == number) views.tree → number ≡ number_of views key → found ≡ key
key_is views key found number is live at same =
    some_same (at ∙ ap (λ (n : ℕ). key_where (λ (view : PlainView). view.number == n) views.tree) same
    ∙ key_where_number key (number_of views key) views.tree live (agree_live views key is live))
  where
    some_same : {x y : ℕ} → Some x ≡ Some y → x ≡ y
    some_same e = cc

pub notes_found : (window : Size) (damage more one : Rect) (views : Views) (entry : Entry) (found : ℕ) → IsTree views → Some found ≡ key_where (λ (view : PlainView). view.number == entry.view) views.tree
    → more ≡ hull_of damage one → ((x y : ℤ) → holds one x y ≡ holds (seen_at (held_of views) (whole_window window) found views.tree) x y) → NotesEntry window more views entry
notes_found window damage more one views entry found is at grew seen key live e x y out =
    let number : entry.view ≡ number_of views key = eqb-true _ _ (and_parts (is_scroll entry.kind) (entry.view == number_of views key) e).1 in
    ap (λ (k : ℕ). holds (seen_at (held_of views) (whole_window window) k views.tree) x y) (sym (key_is views key found entry.view is live at number))
    ∙ sym (seen x y) ∙ outside_second damage one x y (ap (λ (rect : Rect). holds rect x y) (sym grew) ∙ out)

pub notes_absent : (window : Size) (damage : Rect) (views : Views) (entry : Entry) → IsTree views → None ≡ key_where (λ (view : PlainView). view.number == entry.view) views.tree → NotesEntry window damage views entry
notes_absent window damage views entry is none key live e =
    let number : entry.view ≡ number_of views key = eqb-true _ _ (and_parts (is_scroll entry.kind) (entry.view == number_of views key) e).1 in
    let some : None ≡ Some key = none ∙ ap (λ (n : ℕ). key_where (λ (view : PlainView). view.number == n) views.tree) number
    ∙ key_where_number key (number_of views key) views.tree live (agree_live views key is live) in
    absurd (cc)

pub scrolled_at : (n : ℕ) (entries : List Entry) (i : ℕ) (d : Entry) → i < length entries
    → (is_scroll (get_or entries i d).kind && (get_or entries i d).view == n) ≡ true → has_scrolled n entries ≡ true
scrolled_at n [] i d lt e = absurd (omega arith)
scrolled_at n (entry ∷ entries) zero d lt e = rw e refl
scrolled_at n (entry ∷ entries) (suc i) d lt e = later (is_scroll entry.kind && entry.view == n) (scrolled_at n entries i d (omega arith) e)
  where
    later : (t : Bool) → has_scrolled n entries ≡ true → (t || has_scrolled n entries) ≡ true
    later true has = refl
    later false has = has

-- the entry of a view that was found
pub is_of : (entry : Entry) (number : ℕ) → is_scroll entry.kind ≡ true → number ≡ entry.view → (is_scroll entry.kind && entry.view == number) ≡ true
is_of entry number scroll same = rw (scroll, eq-eqb entry.view number (sym same)) refl

pub notes_other : (window : Size) (damage : Rect) (views : Views) (entry : Entry) → is_scroll entry.kind ≡ false → NotesEntry window damage views entry
notes_other window damage views entry other key live e = absurd (let h = (and_parts (is_scroll entry.kind) (entry.view == number_of views key) e).0 in let f : true ≡ false = sym h ∙ other in cc)

-- an event has moved children, and all of that was recorded
pub shown_scrolled : (window : Size) (less more : Rect) (old new : Views) (before after : Kept) (log new_log : Log) → IsTree new → OnlyScrolls old new → LiesIn less more
    → LogsScrolls (progress_of old before log) (progress_of new after new_log) → NotesAll window more new new_log.entries.items → KeepsShown window less more old new
shown_scrolled window less more old new before after log new_log is scrolls grew logs noted = record {
  grew = grew;
  colors = λ x y inside out.
      colors_same window old new x y was is inside
      (ap (λ (tree : Forest Row). met_at x y (whole_window window) (placed_rows (held_of new) tree)) scrolls.same.tree
      ∙ met_scrolled x y (held_of old) (held_of new) (whole_window window) old.tree was.keys bounds (λ key live. moved x y out key live));
}
  where
    was : IsTree old
    was = is_tree-same new old is (sym scrolls.same.tree) (sym scrolls.same.next)

    bounds : (key : ℕ) → (held_of new key).state.bounds ≡ (held_of old key).state.bounds
    bounds key = ap (λ (held : Held). held.state.bounds) (scrolls.held key)

    moved : (x y : ℤ) → holds more x y ≡ false → (key : ℕ) → 0 < count_of_key key old.tree
        → ((held_of new key).offset ≡ (held_of old key).offset) ⊎ (holds (seen_at (held_of new) (whole_window window) key old.tree) x y ≡ false)
    moved x y out key live =
        let live' : IsLive new key = subst (λ (tree : Forest Row). 0 < count_of_key key tree) (sym scrolls.same.tree) live in
        let number : number_of new key ≡ number_of old key = ap (λ (tree : Forest Row). (head_view (part_from key tree)).number) scrolls.same.tree in
        elim (logs.logged (number_of old key)) [
          | inl same ↦ inl (sym (offset_live new key is live') ∙ ap (offsets_in new) number ∙ same ∙ offset_live old key was live)
          | inr some ↦ inr (ap (λ (tree : Forest Row). holds (seen_at (held_of new) (whole_window window) key tree) x y) (sym scrolls.same.tree)
              ∙ noted key live' (ap (λ (n : ℕ). has_scrolled n new_log.entries.items) number ∙ some) x y out)
        ]

-- what the log of an event has
pub logs_by : (old new : Views) (before after : Kept) (log new_log : Log) (slop : ℤ) (event : Event) (yes_ : Bool)
    → (let reached : Reached = record { yes = yes_; progress = progress_of new after new_log } in
    dispatched (scene_of old slop) (views_of old.tree) event (progress_of old before log) ≡ reached)
    → LogsScrolls (progress_of old before log) (progress_of new after new_log)
logs_by old new before after log new_log slop event yes_ is =
    subst (λ (r : Reached). LogsScrolls (progress_of old before log) r.progress) is (dispatch_logs (scene_of old slop) (views_of old.tree) event (progress_of old before log))
