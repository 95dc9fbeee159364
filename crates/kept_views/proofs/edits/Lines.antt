-- An edit with its request keeps what a tree keeps between lines.
use Rattle.std.proofs.Common.{◌≡◌, ◌≢◌, ℕ, ◌+◌, ◌<◌, ◌≤◌, ◌==◌, Bool, true, false, List, [], ◌∷◌, ◌++◌, arith, ap, ◌∙◌, sym, refl, subst, inl, inr}
use mathlib.Core.Path.{fun_ext}
use Rattle.std.proofs.lemmas.Bool.{cases_eq}
use Rattle.std.specs.Prelude.{if◌then◌else◌}
use Rattle.view_model.specs.Facts.{is_shown}
use Rattle.view_model.specs.Forest.{Forest, Nothing, Branch}
use Rattle.view_model.specs.PlainTree.{PlainView}
use Rattle.view_tree.specs.Rows.{Row, changed_at_key, count_of_key, first_tree, grown_at_key, head_view, part_from, pruned_at_key}
use Rattle.view_tree.proofs.forest.KeyLaws.{times_self, zero_or_more}
use Rattle.view_tree.proofs.forest.NumberLaws.{count_of_key-cut_le, sum-grown, sum-put}
use Rattle.view_tree.specs.Views.{Held}
use Rattle.kept_views.specs.Kept.{Around, Cleared, HiddenView, IsKept, Kept, Reached, asked, firm, inside, loose, reach}
use Rattle.kept_views.specs.Passes.{InPass, settled_at}
use Rattle.view_tree.specs.tree.Requests.{among, asking, pressed}
use Rattle.kept_views.specs.Pressing.{all_pressed, path_of}
use Rattle.kept_views.proofs.edits.AroundEdits.{ClearedAt, IsCalm, cleared_at, cleared_each, flags_replaced, reached_at, reached_each}
use Rattle.kept_views.proofs.edits.EditParts.{SameBut, apart_part}
use Rattle.kept_views.proofs.edits.Edits.{AllHidden, Kept_hide, Kept_put, Kept_show, put_but, row_key, row_put}
use Rattle.kept_views.proofs.edits.Emptied.{emptied_kept}
use Rattle.kept_views.proofs.grown.Grown.{Kept_grow, done_added, id_key, id_row, with_added}
use Rattle.kept_views.proofs.edits.InPass.{request_in_pass}
use Rattle.kept_views.proofs.KeptFrames.{Same}
use Rattle.kept_views.proofs.edits.Paths.{FlagsAbove, among_first, among_rest}
use Rattle.kept_views.proofs.grown.Pruned.{HasChild, Kept_prune, apart_same, pruned_is, same_key, same_row}
use Rattle.kept_views.proofs.edits.Requested.{cleared-pressed, done_kept, pressed_marks, reached-marks, request_done, request_kept}

-- after an edit, before its request at this view
pub record IsBeforeRequest (view : ℕ) (held : ℕ → Held) (tree : Forest Row) : Type 0 where
  pub kept : Kept (view ∷ []) held loose tree
  pub flags : FlagsAbove view held loose tree
  pub cleared : Cleared held tree
  pub reached : Reached held false tree

pub edit_kept : (view : ℕ) (held : ℕ → Held) (tree : Forest Row) → ((key : ℕ) → count_of_key key tree ≤ 1) → 0 < count_of_key view tree
    → IsBeforeRequest view held tree → IsKept (pressed held (asking held view tree)) tree
edit_kept view held tree once live e = record {
  kept = request_kept view held tree once live [] e.kept e.flags e.cleared;
  reached = reached-marks held (pressed held (asking held view tree)) false tree (pressed_marks held (asking held view tree)) e.reached;
  cleared = cleared-pressed held (asking held view tree) tree e.cleared;
}

pub same_kept : (old new : ℕ → Held) (tree : Forest Row) → ((key : ℕ) → new key ≡ old key) → IsKept old tree → IsKept new tree
same_kept old new tree same k = subst (λ held. IsKept held tree) (sym (fun_ext same)) k

-- a view of which at most the offset is another
pub record SameButOffset (old new : Held) : Type 0 where
  pub state : new.state ≡ old.state
  pub cache : new.cache ≡ old.cache

moved_cleared : (old new : Held) → SameButOffset old new → ClearedAt old → ClearedAt new
moved_cleared old new m c = λ f. m.cache ∙ c (ap (λ state. state.forced) (sym m.state) ∙ f)

moved_calm : (old new : Held) → SameButOffset old new → IsCalm old → IsCalm new
moved_calm old new m c = record { needed = ap (λ state. state.layout_needed) m.state ∙ c.needed; first = ap (λ state. state.measure_first) m.state ∙ c.first }

moved_hidden : (old new : Held) → SameButOffset old new → HiddenView old → HiddenView new
moved_hidden old new m h = record { forced = ap (λ state. state.forced) m.state ∙ h.forced; bounds = ap (λ state. state.bounds) m.state ∙ h.bounds; cache = m.cache ∙ h.cache }

count-put : (other key : ℕ) (change : PlainView → PlainView) (tree : Forest Row) → count_of_key other (changed_at_key key change tree) ≡ count_of_key other tree
count-put other key change tree = sum-put (λ (row : Row). if row.key == other then 1 else 0) key change tree (λ row. refl)

-- edits of one view
module _ (key : ℕ) (change : PlainView → PlainView) (tree : Forest Row) (once : (other : ℕ) → count_of_key other tree ≤ 1) (live : 0 < count_of_key key tree) where
  abbrev put_tree : Forest Row
  put_tree = changed_at_key key change tree

  pub put_once : (other : ℕ) → count_of_key other put_tree ≤ 1
  put_once other = let e = count-put other key change tree in let o = once other in omega arith

  pub put_live : (other : ℕ) → 0 < count_of_key other tree → 0 < count_of_key other put_tree
  put_live other here = let e = count-put other key change tree in omega arith

  put_back : (other : ℕ) → 0 < count_of_key other put_tree → 0 < count_of_key other tree
  put_back other here = let e = count-put other key change tree in omega arith

  put_flags : (old new : ℕ → Held) → SameBut key old new tree → Kept [] old loose tree → FlagsAbove key new loose put_tree
  put_flags old new same k =
      flags_replaced key (row_put key change) (λ kids. kids) (row_key key change) old new loose tree (apart_part key old new tree once same) (put_once key) k

  -- facts that leave a view to take part in layout or not, a text, or an offset
  pub put_kept : (old new : ℕ → Held) → is_shown (change (head_view (part_from key tree))).facts ≡ is_shown (head_view (part_from key tree)).facts
      → ((other : ℕ) → other ≢ key → new other ≡ old other) → SameButOffset (old key) (new key) → IsKept old tree → IsKept (pressed new (asking new key put_tree)) put_tree
  put_kept old new keeps others moved k = edit_kept key new put_tree put_once (put_live key live) (record {
    kept = Kept_put key change tree once live [] old new loose keeps others (ap (λ state. state.forced) moved.state) (moved_hidden _ _ moved) k.kept;
    flags = put_flags old new (put_but key change tree once live [] old new others) k.kept;
    cleared = cleared_each new put_tree (λ other here. elim (cases_eq other key) [
      | inl e ↦ subst (λ other. ClearedAt (new other)) (sym e) (moved_cleared _ _ moved (cleared_at old tree k.cleared key live))
      | inr ne ↦ subst ClearedAt (sym (others other ne)) (cleared_at old tree k.cleared other (put_back other here))
    ]);
    reached = reached_each new put_tree (λ other here. elim (cases_eq other key) [
      | inl e ↦ subst (λ other. IsCalm (new other)) (sym e) (moved_calm _ _ moved (reached_at old tree k.reached key live))
      | inr ne ↦ subst IsCalm (sym (others other ne)) (reached_at old tree k.reached other (put_back other here))
    ]);
  })

  -- a view that is gone from now on; all below it is hidden
  pub hide_kept : (old new : ℕ → Held) → AllHidden new (first_tree (part_from key tree)) → ((other : ℕ) → 0 < count_of_key other tree → IsCalm (old other) → IsCalm (new other))
      → SameBut key old new tree → IsKept old tree → IsKept (pressed new (asking new key put_tree)) put_tree
  hide_kept old new all calm same k = edit_kept key new put_tree put_once (put_live key live) (record {
    kept = Kept_hide key change tree once live [] old new loose all same k.kept;
    flags = put_flags old new same k.kept;
    cleared = cleared_each new put_tree (λ other here. elim (zero_or_more (count_of_key other (first_tree (part_from key tree)))) [
      | inl z ↦ subst ClearedAt (sym (same other (put_back other here) z)) (cleared_at old tree k.cleared other (put_back other here))
      | inr p ↦ λ f. (all other p).cache
    ]);
    reached = reached_each new put_tree (λ other here. calm other (put_back other here) (reached_at old tree k.reached other (put_back other here)));
  })

  -- a view that was gone
  pub show_kept : (held : ℕ → Held) → is_shown (head_view (part_from key tree)).facts ≡ false → IsKept held tree → IsKept (pressed held (asking held key put_tree)) put_tree
  show_kept held gone k = edit_kept key held put_tree put_once (put_live key live) (record {
    kept = Kept_show key change tree once live [] held held loose gone (λ other. refl) k.kept;
    flags = put_flags held held (λ other here z. refl) k.kept;
    cleared = cleared_each held put_tree (λ other here. cleared_at held tree k.cleared other (put_back other here));
    reached = reached_each held put_tree (λ other here. reached_at held tree k.reached other (put_back other here));
  })

  -- an edit of a hook, in the pass in which it fired
  pub hook_put : (keys : List ℕ) (root : ℕ) (held : ℕ → Held) → is_shown (change (head_view (part_from key tree))).facts ≡ is_shown (head_view (part_from key tree)).facts
      → InPass keys root held tree → InPass (key ∷ keys) root (pressed held (asking held key put_tree)) put_tree
  hook_put keys root held keeps p = request_in_pass root key held put_tree keys put_once (put_live key live) (record {
    kept = Kept_put key change tree once live keys (settled_at root held) (settled_at root held) firm keeps (λ other ne. refl) refl (λ h. h) p.kept;
    cleared = cleared_each (settled_at root held) put_tree (λ other here. cleared_at (settled_at root held) tree p.cleared other (put_back other here));
    reached = reached_each (settled_at root held) put_tree (λ other here. reached_at (settled_at root held) tree p.reached other (put_back other here));
  })

-- a view is removed; its parent requests layout
pub prune_kept : (parent view : ℕ) (old new : ℕ → Held) (tree : Forest Row) → ((key : ℕ) → count_of_key key tree ≤ 1) → HasChild parent view tree → 0 < count_of_key parent (pruned_at_key view tree)
    → ((key : ℕ) → count_of_key key (first_tree (part_from view tree)) ≡ 0 → new key ≡ old key)
    → ((key : ℕ) → 0 < count_of_key key (pruned_at_key view tree) → count_of_key key (first_tree (part_from view tree)) ≡ 0)
    → IsKept old tree → IsKept (pressed new (asking new parent (pruned_at_key view tree))) (pruned_at_key view tree)
prune_kept parent view old new tree once h stays others apart k =
    let left : (key : ℕ) → count_of_key key (pruned_at_key view tree) ≤ 1 = λ key. let le = count_of_key-cut_le key view tree in let o = once key in omega arith in
    let back : (key : ℕ) → 0 < count_of_key key (pruned_at_key view tree) → 0 < count_of_key key tree = λ key here. let le = count_of_key-cut_le key view tree in omega arith in
    let same : (key : ℕ) → 0 < count_of_key key (pruned_at_key view tree) → new key ≡ old key = λ key here. others key (apart key here) in
    let is = pruned_is parent view tree once h in
    let flags : FlagsAbove parent old loose (pruned_at_key view tree) =
    rw is (flags_replaced parent same_row (pruned_at_key view) same_key old old loose tree (apart_same parent old tree) (subst (λ list. count_of_key parent list ≤ 1) is (left parent)) k.kept) in
    edit_kept parent new (pruned_at_key view tree) left stays (record {
      kept = Kept_prune parent view [] old new loose tree once h others k.kept;
      flags = flags_along parent old new loose (pruned_at_key view tree) same flags;
      cleared = cleared_each new (pruned_at_key view tree) (λ key here. subst ClearedAt (sym (same key here)) (cleared_at old tree k.cleared key (back key here)));
      reached = reached_each new (pruned_at_key view tree) (λ key here. subst IsCalm (sym (same key here)) (reached_at old tree k.reached key (back key here)));
    })
  where
    flags_along : (view : ℕ) (old new : ℕ → Held) (up : Around) (list : Forest Row) → Same old new list → FlagsAbove view old up list → FlagsAbove view new up list
    flags_along view old new up Nothing same f = tt
    flags_along view old new up (Branch row kids siblings) same f =
        let own : new row.key ≡ old row.key = same row.key (times_self row kids siblings) in (
          λ live shown forced. f.0 live shown (ap (λ (own : Held). own.state.forced) (sym own) ∙ forced),
          subst (λ own. FlagsAbove view new (inside up row own) kids) (sym own) (flags_along view old new (inside up row (old row.key)) kids (λ key here. same key (omega arith)) f.1),
          flags_along view old new up siblings (λ key here. same key (omega arith)) f.2,
        )

-- views are added; their parent requests layout
module _ (parent : ℕ) (new_row : Row) (below : Forest Row) (tree : Forest Row) (old new : ℕ → Held) where
  abbrev grown_tree : Forest Row
  grown_tree = grown_at_key parent (Branch new_row below Nothing) tree

  pub grow_kept : ((key : ℕ) → count_of_key key tree ≤ 1) → 0 < count_of_key parent tree → ((key : ℕ) → count_of_key key grown_tree ≤ 1) → count_of_key new_row.key tree ≡ 0 → count_of_key new_row.key below ≡ 0
      → AllHidden new (Branch new_row below Nothing) → ((key : ℕ) → 0 < count_of_key key (Branch new_row below Nothing) → IsCalm (new key)) → Same old new tree
      → IsKept old tree → IsKept (pressed new (asking new parent grown_tree)) grown_tree
  grow_kept once live grown_once absent lone all calm same k =
      let count : (key : ℕ) → count_of_key key grown_tree ≡ count_of_key key tree + count_of_key key (Branch new_row below Nothing) =
      λ key. sum-grown (λ (row : Row). if row.key == key then 1 else 0) parent (Branch new_row below Nothing) tree live (once parent) in
      let there : 0 < count_of_key parent grown_tree = let c = count parent in omega arith in
      let kept = Kept_grow parent new_row below tree once live old new loose all same k.kept in
      let flags : FlagsAbove parent new loose grown_tree =
      flags_replaced parent id_row (with_added parent new_row below) id_key old new loose tree (apart_part parent old new tree once (λ other here z. same other here)) (grown_once parent) k.kept in
      let cleared : Cleared new grown_tree = cleared_each new grown_tree (λ key here. elim (zero_or_more (count_of_key key tree)) [
        | inl z ↦ λ f. (all key (let c = count key in omega arith)).cache
        | inr p ↦ subst ClearedAt (sym (same key p)) (cleared_at old tree k.cleared key p)
      ]) in
      let reached : Reached new false grown_tree = reached_each new grown_tree (λ key here. elim (zero_or_more (count_of_key key tree)) [
        | inl z ↦ calm key (let c = count key in omega arith)
        | inr p ↦ subst IsCalm (sym (same key p)) (reached_at old tree k.reached key p)
      ]) in
      let keys = asking new parent grown_tree in
      let done = request_done parent new grown_tree grown_once there (parent ∷ new_row.key ∷ []) kept flags cleared in
      let own : HiddenView (pressed new keys new_row.key) = pressed_hidden new keys new_row.key (all new_row.key (times_self new_row below Nothing)) in
      record {
        kept = done_kept new_row.key [] (pressed new keys) loose grown_tree (done_added parent new_row below (pressed new keys) loose tree absent lone own done)
            (request_kept parent new grown_tree grown_once there (new_row.key ∷ []) kept flags cleared);
        reached = reached-marks new (pressed new keys) false grown_tree (pressed_marks new keys) reached;
        cleared = cleared-pressed new keys grown_tree cleared;
      }
    where
      pressed_hidden : (held : ℕ → Held) (keys : List ℕ) (key : ℕ) → HiddenView (held key) → HiddenView (pressed held keys key)
      pressed_hidden held keys key h = by_test (among key keys)
        where
          by_test : (v : Bool) → HiddenView (if v then record (held key) { state = record (held key).state { forced = true }; cache = [] } else held key)
          by_test true = record { forced = refl; bounds = h.bounds; cache = refl }
          by_test false = h

-- the end of a pass: the root has settled, and each requester is forced with all above it
kept_loose : (keys : List ℕ) (held : ℕ → Held) (list : Forest Row) → Kept keys held firm list → Kept keys held loose list
kept_loose keys held Nothing k = tt
kept_loose keys held (Branch row kids siblings) k = (
  k.0,
  λ shown. let v = k.1 shown in record { flags = λ none f. refl; cache = v.cache; sized = v.sized; placed = v.placed; ranged = v.ranged },
  k.2,
  kept_loose keys held siblings k.3,
)

record Emptying (keys : List ℕ) (held : ℕ → Held) (tree : Forest Row) : Type 0 where
  pub kept : Kept keys held loose tree
  pub reached : Reached held false tree
  pub cleared : Cleared held tree

emptied_all : (keys : List ℕ) (held : ℕ → Held) (tree : Forest Row) → ((key : ℕ) → count_of_key key tree ≤ 1) → ((key : ℕ) → among key keys ≡ true → 0 < count_of_key key tree)
    → Emptying keys held tree → IsKept (all_pressed held keys tree) tree
emptied_all [] held tree once live e = record { kept = e.kept; reached = e.reached; cleared = e.cleared }
emptied_all (key ∷ keys) held tree once live e = emptied_all keys (pressed held (path_of key tree)) tree once (λ other there. live other (among_rest other key keys there)) (record {
  kept = emptied_kept key keys held tree once (live key (among_first key keys)) e.kept;
  reached = reached-marks held (pressed held (path_of key tree)) false tree (pressed_marks held (path_of key tree)) e.reached;
  cleared = cleared-pressed held (path_of key tree) tree e.cleared;
})

pub pass_end : (keys : List ℕ) (root : ℕ) (held : ℕ → Held) (tree : Forest Row) → ((key : ℕ) → count_of_key key tree ≤ 1) → ((key : ℕ) → among key keys ≡ true → 0 < count_of_key key tree)
    → InPass keys root held tree → IsKept (all_pressed (settled_at root held) keys tree) tree
pass_end keys root held tree once live p =
    emptied_all keys (settled_at root held) tree once live (record { kept = kept_loose keys (settled_at root held) tree p.kept; reached = p.reached; cleared = p.cleared })

-- requesters in another order
pub kept_order : (keys more : List ℕ) (held : ℕ → Held) (up : Around) (list : Forest Row) → ((part : Forest Row) → asked more part ≡ asked keys part) → Kept keys held up list → Kept more held up list
kept_order keys more held up Nothing same k = tt
kept_order keys more held up (Branch row kids siblings) same k = (
  k.0,
  λ shown. let v = k.1 shown in let e = same (Branch row kids Nothing) in record {
    flags = λ none. v.flags (sym e ∙ none);
    cache = λ none. v.cache (sym e ∙ none);
    sized = λ none. v.sized (sym e ∙ none);
    placed = λ none. v.placed (sym e ∙ none);
    ranged = λ none. v.ranged (sym e ∙ none);
  },
  kept_order keys more held (inside up row (held row.key)) kids same k.2,
  kept_order keys more held up siblings same k.3,
)

asked_last : (view : ℕ) (keys : List ℕ) (list : Forest Row) → asked (keys ++ view ∷ []) list ≡ reach view list + asked keys list
asked_last view [] list = refl
asked_last view (key ∷ keys) list = let rest = asked_last view keys list in let goal : reach key list + asked (keys ++ view ∷ []) list ≡ reach view list + (reach key list + asked keys list) = omega arith in goal

pub last_requester : (view : ℕ) (keys : List ℕ) (root : ℕ) (held : ℕ → Held) (tree : Forest Row) → InPass (view ∷ keys) root held tree → InPass (keys ++ view ∷ []) root held tree
last_requester view keys root held tree p =
    record { kept = kept_order (view ∷ keys) (keys ++ view ∷ []) (settled_at root held) firm tree (asked_last view keys) p.kept; reached = p.reached; cleared = p.cleared }
