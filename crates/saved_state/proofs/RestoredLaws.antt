-- What is kept with the views of a tree while they are given what a state has.
use Rattle.std.proofs.Common.{◌≡◌, ◌≢◌, ℕ, ◌<◌, ◌≤◌, ℤ, pos, Bool, true, false, Option, Some, None, refl, sym, ◌∙◌, ap, subst, arith, inl, inr, List, [], ◌∷◌, ◌++◌}
use Rattle.std.proofs.lemmas.Bool.{cases_Bool, cases_eq, eq-eqb, ne_eqb}
use Rattle.std.proofs.lemmas.List.Elements.{All-head, All-tail, All-weaker}
use Rattle.std.specs.List.{All, fold}
use Rattle.std.specs.Prelude.{◌==◌, if◌then◌else◌, is_some}
use mathlib.Core.Path.{fun_ext}
use Rattle.kept_views.proofs.edits.AskedViews.{asked_same, off_path}
use Rattle.kept_views.proofs.edits.Lines.{SameButOffset, put_kept}
use Rattle.kept_views.proofs.edits.Requested.{pressed_in, pressed_out}
use Rattle.kept_views.specs.Kept.{IsKept}
use Rattle.kept_views.specs.Pressing.{path_of}
use Rattle.saved_state.proofs.RestatedLaws.{put_once}
use Rattle.saved_state.specs.Restored.{all_given, all_set, given_held, given_keys, given_values, moved_one, on_paths, paired, restated, set_by, wanted, with_text_at, with_text_of}
use Rattle.saved_state.specs.Restoring.{given}
use Rattle.saved_state.specs.State.{StateEntry}
use Rattle.saved_state.specs.declared.value.Value.{Value}
use Rattle.saved_state.specs.declared.value.Value.TheVariants.{Offset, Text}
use Rattle.view_model.specs.Forest.{Forest, Nothing, Branch}
use Rattle.view_model.specs.PlainTree.{PlainView}
use Rattle.view_tree.proofs.forest.PreorderLaws.{key_count}
use Rattle.view_tree.proofs.values.GeometryLaws.{laid_along}
use Rattle.view_tree.proofs.values.KeptLaws.{ancestors-put}
use Rattle.view_tree.specs.tree.Requests.{among, asking, pressed, unforced}
use Rattle.view_tree.specs.Rows.{Row, ancestors, count_of_key}
use Rattle.view_tree.specs.Views.{Held, Views, geometry_of, held_of, laid_rows}

moved_at : (view : ℕ) (offset : ℤ) (held : ℕ → Held) → moved_one view offset held view ≡ record (held view) { offset = offset }
moved_at view offset held = rw (eq-eqb view view refl) refl

moved_other : (view : ℕ) (offset : ℤ) (held : ℕ → Held) (key : ℕ) → key ≢ view → moved_one view offset held key ≡ held key
moved_other view offset held key ne = rw (ne_eqb key view ne) refl

-- one view was written
pub one_moved : (view : ℕ) (offset : ℤ) (old new : ℕ → Held) → new view ≡ record (old view) { offset = offset } → ((other : ℕ) → other ≢ view → new other ≡ old other)
    → (key : ℕ) → new key ≡ moved_one view offset old key
one_moved view offset old new own others key = elim (cases_eq key view) [
  | inl e ↦ subst (λ (key : ℕ). new key ≡ moved_one view offset old key) (sym e) (own ∙ sym (moved_at view offset old))
  | inr ne ↦ others key ne ∙ sym (moved_other view offset old key ne)
]

-- a request after that
pub one_asked : (view : ℕ) (old mid new : ℕ → Held) (set : ℕ → Held) (tree now : Forest Row) → ((key : ℕ) → mid key ≡ set key) → ancestors view now ≡ ancestors view tree
    → ((key : ℕ) → new key ≡ pressed mid (asking mid view now) key) → (key : ℕ) → new key ≡ pressed set (asking set view tree) key
one_asked view old mid new set tree now moved same asked key =
    asked key
    ∙ ap (λ (above : List ℕ). pressed mid (view ∷ unforced mid above) key) same
    ∙ ap (λ (held : ℕ → Held). pressed held (asking held view tree) key) (let e : mid ≡ set = fun_ext moved in e)

-- what a request leaves of a view
pressed_offset : (held : ℕ → Held) (keys : List ℕ) (key : ℕ) → (pressed held keys key).offset ≡ (held key).offset
pressed_offset held keys key = elim (cases_Bool (among key keys)) [
  | inl e ↦ ap (λ (own : Held). own.offset) (pressed_in held keys key e)
  | inr e ↦ ap (λ (own : Held). own.offset) (pressed_out held keys key e)
]

pressed_bounds : (held : ℕ → Held) (keys : List ℕ) (key : ℕ) → (pressed held keys key).state.bounds ≡ (held key).state.bounds
pressed_bounds held keys key = elim (cases_Bool (among key keys)) [
  | inl e ↦ ap (λ (own : Held). own.state.bounds) (pressed_in held keys key e)
  | inr e ↦ ap (λ (own : Held). own.state.bounds) (pressed_out held keys key e)
]

moved_bounds : (view : ℕ) (offset : ℤ) (held : ℕ → Held) (key : ℕ) → (moved_one view offset held key).state.bounds ≡ (held key).state.bounds
moved_bounds view offset held key = elim (cases_Bool (key == view)) [ inl e ↦ rw e refl | inr e ↦ rw e refl ]

-- an offset, or what it was before
abbrev pub offset_by : Option Value → ℤ → ℤ
offset_by None before = before
offset_by (Some (Offset offset)) before = pos offset
offset_by (Some (Text text)) before = before

given_own : (given : Option Value) (view : ℕ) (tree : Forest Row) (held : ℕ → Held) → (given_held given view tree held view).offset ≡ offset_by given (held view).offset
given_own None view tree held = refl
given_own (Some (Offset offset)) view tree held =
    let set = moved_one view (pos offset) held in
    pressed_offset set (asking set view tree) view ∙ ap (λ (own : Held). own.offset) (moved_at view (pos offset) held)
given_own (Some (Text text)) view tree held = pressed_offset held (asking held view tree) view

given_others : (given : Option Value) (view : ℕ) (tree : Forest Row) (held : ℕ → Held) (key : ℕ) → key ≢ view → (given_held given view tree held key).offset ≡ (held key).offset
given_others None view tree held key ne = refl
given_others (Some (Offset offset)) view tree held key ne =
    let set = moved_one view (pos offset) held in
    pressed_offset set (asking set view tree) key ∙ ap (λ (own : Held). own.offset) (moved_other view (pos offset) held key ne)
given_others (Some (Text text)) view tree held key ne = pressed_offset held (asking held view tree) key

given_bounds : (given : Option Value) (view : ℕ) (tree : Forest Row) (held : ℕ → Held) (key : ℕ) → (given_held given view tree held key).state.bounds ≡ (held key).state.bounds
given_bounds None view tree held key = refl
given_bounds (Some (Offset offset)) view tree held key =
    let set = moved_one view (pos offset) held in
    pressed_bounds set (asking set view tree) key ∙ moved_bounds view (pos offset) held key
given_bounds (Some (Text text)) view tree held key = pressed_bounds held (asking held view tree) key

-- a view that is not on its path stays as it is
given_off : (given : Option Value) (view : ℕ) (tree : Forest Row) (held : ℕ → Held) (key : ℕ) → among key (path_of view tree) ≡ false → given_held given view tree held key ≡ held key
given_off None view tree held key off = refl
given_off (Some (Offset offset)) view tree held key off =
    let set = moved_one view (pos offset) held in
    asked_same set (pressed set (asking set view tree)) view tree (λ key. refl) key off ∙ moved_other view (pos offset) held key (off_path view key tree off)
given_off (Some (Text text)) view tree held key off = asked_same held (pressed held (asking held view tree)) view tree (λ key. refl) key off

-- a view asks by the views above it alone
same_asked : (value : Value) (view : ℕ) (tree now : Forest Row) (held : ℕ → Held) → ancestors view now ≡ ancestors view tree
    → given_held (Some value) view now held ≡ given_held (Some value) view tree held
same_asked (Offset offset) view tree now held same = ap (λ (above : List ℕ). pressed (moved_one view (pos offset) held) (view ∷ unforced (moved_one view (pos offset) held) above)) same
same_asked (Text text) view tree now held same = ap (λ (above : List ℕ). pressed held (view ∷ unforced held above)) same

-- a tree keeps what it does between lines while a view is given something
set_kept : (value : Value) (view : ℕ) (tree : Forest Row) (held : ℕ → Held) → ((key : ℕ) → count_of_key key tree ≤ 1) → 0 < count_of_key view tree
    → IsKept held tree → IsKept (given_held (Some value) view tree held) (with_text_at tree (view, value))
set_kept (Offset offset) view tree held once live k =
    let set = moved_one view (pos offset) held in
    let change = with_text_of (Some (Offset offset)) in
    let own : SameButOffset (held view) (set view) = record { state = ap (λ (own : Held). own.state) (moved_at view (pos offset) held); cache = ap (λ (own : Held). own.cache) (moved_at view (pos offset) held) } in
    subst (λ (above : List ℕ). IsKept (pressed set (view ∷ unforced set above)) (with_text_at tree (view, Offset offset))) (ancestors-put view view change tree)
    (put_kept view change tree once live held set refl (moved_other view (pos offset) held) own k)
set_kept (Text text) view tree held once live k =
    let change = with_text_of (Some (Text text)) in
    let own : SameButOffset (held view) (held view) = record { state = refl; cache = refl } in
    subst (λ (above : List ℕ). IsKept (pressed held (view ∷ unforced held above)) (with_text_at tree (view, Text text))) (ancestors-put view view change tree)
    (put_kept view change tree once live held held refl (λ other ne. refl) own k)

abbrev pub IsLiveIn : Forest Row → ℕ × Value → Type 0
IsLiveIn tree set = 0 < count_of_key set.0 tree

-- and while one view after the other is; they ask by the views of the tree before that
pub all_kept : (first : Forest Row) (sets : List (ℕ × Value)) (tree : Forest Row) (held : ℕ → Held) → ((key : ℕ) → ancestors key tree ≡ ancestors key first) → ((key : ℕ) → count_of_key key tree ≤ 1)
    → All (IsLiveIn tree) sets → IsKept held tree → IsKept (all_set first sets held) (fold with_text_at tree sets)
all_kept first [] tree held paths once live k = k
all_kept first (set ∷ more) tree held paths once live k =
    all_kept first more (with_text_at tree set) (given_held (Some set.1) set.0 first held)
    (λ key. ancestors-put key set.0 (with_text_of (Some set.1)) tree ∙ paths key)
    (λ key. let a = put_once set tree key in let b = once key in omega arith)
    (All-weaker (IsLiveIn tree) (IsLiveIn (with_text_at tree set)) (λ other here. let a = put_once set tree other.0 in omega arith) more (All-tail (IsLiveIn tree) set more live))
    (subst (λ (held : ℕ → Held). IsKept held (with_text_at tree set)) (same_asked set.1 set.0 first tree held (paths set.0))
    (set_kept set.1 set.0 tree held once (All-head (IsLiveIn tree) set more live) k))

-- one view more
pub all_set_push : (tree : Forest Row) (sets : List (ℕ × Value)) (set : ℕ × Value) (held : ℕ → Held)
    → all_set tree (sets ++ set ∷ []) held ≡ given_held (Some set.1) set.0 tree (all_set tree sets held)
all_set_push tree [] set held = refl
all_set_push tree (first ∷ more) set held = all_set_push tree more set (given_held (Some first.1) first.0 tree held)

pub set_on : (first now : Forest Row) (done : List (ℕ × Value)) (set : ℕ × Value) (start old new : ℕ → Held) → now ≡ fold with_text_at first done
    → ((key : ℕ) → old key ≡ all_set first done start key) → ((key : ℕ) → new key ≡ given_held (Some set.1) set.0 now old key)
    → (key : ℕ) → new key ≡ all_set first (done ++ set ∷ []) start key
set_on first now done set start old new same was came key =
    let paths : ancestors set.0 now ≡ ancestors set.0 first = ap (ancestors set.0) same ∙ set_paths set.0 done first in
    came key
    ∙ ap (λ (held : ℕ → Held). held key) (same_asked set.1 set.0 first now old paths)
    ∙ ap (λ (held : ℕ → Held). given_held (Some set.1) set.0 first held key) (let e : old ≡ all_set first done start = fun_ext was in e)
    ∙ ap (λ (held : ℕ → Held). held key) (sym (all_set_push first done set start))
  where
    set_paths : (key : ℕ) (sets : List (ℕ × Value)) (tree : Forest Row) → ancestors key (fold with_text_at tree sets) ≡ ancestors key tree
    set_paths key [] tree = refl
    set_paths key (set ∷ more) tree = set_paths key more (with_text_at tree set) ∙ ancestors-put key set.0 (with_text_of (Some set.1)) tree

-- what was set is what the state gives
pub set_given : (entries : List StateEntry) (tree : Forest Row) (list : List Row) (held : ℕ → Held)
    → all_set tree (given_values entries tree list) held ≡ all_given entries tree (given_keys entries tree list) held
set_given entries tree [] held = refl
set_given entries tree (row ∷ more) held = step (set_given entries tree more) (wanted entries tree row.key) refl
  where
    step : ((held : ℕ → Held) → all_set tree (given_values entries tree more) held ≡ all_given entries tree (given_keys entries tree more) held)
        → (given : Option Value) → wanted entries tree row.key ≡ given
        → all_set tree (paired row.key given ++ given_values entries tree more) held
        ≡ all_given entries tree (if is_some given then row.key ∷ given_keys entries tree more else given_keys entries tree more) held
    step rest None e = rest held
    step rest (Some value) e =
        rest (given_held (Some value) row.key tree held)
        ∙ ap (λ (given : Option Value). all_given entries tree (given_keys entries tree more) (given_held given row.key tree held)) (sym e)

-- the first of some views, and then the others
given_first : (entries : List StateEntry) (tree : Forest Row) (row : Row) (more : List Row) (held : ℕ → Held)
    → all_given entries tree (given_keys entries tree (row ∷ more)) held ≡ all_given entries tree (given_keys entries tree more) (given_held (wanted entries tree row.key) row.key tree held)
given_first entries tree row more held = step (wanted entries tree row.key) refl
  where
    step : (given : Option Value) → wanted entries tree row.key ≡ given
        → all_given entries tree (if is_some given then row.key ∷ given_keys entries tree more else given_keys entries tree more) held
        ≡ all_given entries tree (given_keys entries tree more) (given_held given row.key tree held)
    step None e = refl
    step (Some value) e = ap (λ (given : Option Value). all_given entries tree (given_keys entries tree more) (given_held given row.key tree held)) e

-- the offset of a view that occurs this often among those that are given something
abbrev pub set_at : ℕ → Option Value → ℤ → ℤ
set_at count given offset = if count == 0 then offset else offset_by given offset

pub set_more : (n : ℕ) (given : Option Value) (offset : ℤ) → 0 < n → set_at n given offset ≡ offset_by given offset
set_more n given offset more = let some : n ≢ 0 = omega arith in rw ne_eqb

set_again : (given : Option Value) (before : ℤ) → offset_by given (offset_by given before) ≡ offset_by given before
set_again None before = refl
set_again (Some (Offset offset)) before = refl
set_again (Some (Text text)) before = refl

set_twice : (n : ℕ) (given : Option Value) (before : ℤ) → set_at n given (offset_by given before) ≡ offset_by given before
set_twice n given before = elim (cases_eq n 0) [
  | inl none ↦ rw none refl
  | inr some ↦ set_more n given (offset_by given before) (omega arith) ∙ set_again given before
]

pub given_offsets : (entries : List StateEntry) (tree : Forest Row) (list : List Row) (held : ℕ → Held) (key : ℕ)
    → (all_given entries tree (given_keys entries tree list) held key).offset ≡ set_at (key_count key list) (wanted entries tree key) (held key).offset
given_offsets entries tree [] held key = refl
given_offsets entries tree (row ∷ more) held key =
    let next : ℕ → Held = given_held (wanted entries tree row.key) row.key tree held in
    let given = wanted entries tree key in
    ap (λ (all : ℕ → Held). (all key).offset) (given_first entries tree row more held)
    ∙ given_offsets entries tree more next key
    ∙ elim (cases_eq row.key key) [
      | inl e ↦
          let some : 0 < key_count key (row ∷ more) = rw (eq-eqb row.key key e) (omega arith) in
          let own : (next key).offset ≡ offset_by given (held key).offset =
          subst (λ (key : ℕ). (next key).offset ≡ offset_by (wanted entries tree key) (held key).offset) e (given_own (wanted entries tree row.key) row.key tree held) in
          ap (set_at (key_count key more) given) own
          ∙ set_twice (key_count key more) given (held key).offset
          ∙ sym (set_more (key_count key (row ∷ more)) given (held key).offset some)
      | inr ne ↦
          let none : key_count key more ≡ key_count key (row ∷ more) = rw (ne_eqb row.key key ne) (omega arith) in
          ap (set_at (key_count key more) given) (given_others (wanted entries tree row.key) row.key tree held key (λ same. ne (sym same)))
          ∙ ap (λ n. set_at n given (held key).offset) none
    ]

pub all_bounds : (entries : List StateEntry) (tree : Forest Row) (keys : List ℕ) (held : ℕ → Held) (key : ℕ) → (all_given entries tree keys held key).state.bounds ≡ (held key).state.bounds
all_bounds entries tree [] held key = refl
all_bounds entries tree (view ∷ views) held key =
    all_bounds entries tree views (given_held (wanted entries tree view) view tree held) key ∙ given_bounds (wanted entries tree view) view tree held key

-- a view that is given nothing keeps its offset
pub all_offsets : (entries : List StateEntry) (tree : Forest Row) (keys : List ℕ) (held : ℕ → Held) (key : ℕ) → wanted entries tree key ≡ None
    → (all_given entries tree keys held key).offset ≡ (held key).offset
all_offsets entries tree [] held key none = refl
all_offsets entries tree (view ∷ views) held key none =
    all_offsets entries tree views (given_held (wanted entries tree view) view tree held) key none
    ∙ elim (cases_eq key view) [
      | inl e ↦ ap (λ (given : Option Value). (given_held given view tree held key).offset) (ap (wanted entries tree) (sym e) ∙ none)
      | inr ne ↦ given_others (wanted entries tree view) view tree held key ne
    ]

all_off : (entries : List StateEntry) (tree : Forest Row) (keys : List ℕ) (held : ℕ → Held) (key : ℕ) → on_paths key keys tree ≡ false → all_given entries tree keys held key ≡ held key
all_off entries tree [] held key off = refl
all_off entries tree (view ∷ views) held key off =
    let both = neither (among key (path_of view tree)) (on_paths key views tree) off in
    all_off entries tree views (given_held (wanted entries tree view) view tree held) key both.1 ∙ given_off (wanted entries tree view) view tree held key both.0
  where
    neither : (one two : Bool) → (if one then true else two) ≡ false → (one ≡ false) × (two ≡ false)
    neither true two e = absurd (let no : true ≡ false = e in cc)
    neither false two e = (refl, e)

-- texts move no view
with_text_number : (given : Option Value) (view : PlainView) → (with_text_of given view).number ≡ view.number
with_text_number None view = refl
with_text_number (Some (Offset offset)) view = refl
with_text_number (Some (Text text)) view = refl

pub laid-restated : (entries : List StateEntry) (held : ℕ → Held) (list : Forest Row) → laid_rows held (restated entries list) ≡ laid_rows held list
laid-restated entries held Nothing = refl
laid-restated entries held (Branch row kids siblings) =
    rw (with_text_number (given entries row.view) row.view, laid-restated entries held kids, laid-restated entries held siblings) refl

-- a tree of the code, once all are set
module _ (old new : Views) (entries : List StateEntry)
    (came : (key : ℕ) → held_of new key ≡ all_given entries old.tree (set_by entries old.tree) (held_of old) key) where
  pub restored_geometry : new.tree ≡ restated entries old.tree → geometry_of new ≡ geometry_of old
  restored_geometry reported =
      ap (laid_rows (held_of new)) reported
      ∙ laid-restated entries (held_of new) old.tree
      ∙ laid_along (held_of old) (held_of new) old.tree
      (λ key live. ap (λ (own : Held). own.state.bounds) (came key) ∙ all_bounds entries old.tree (set_by entries old.tree) (held_of old) key)

  pub restored_off : (key : ℕ) → on_paths key (set_by entries old.tree) old.tree ≡ false → held_of new key ≡ held_of old key
  restored_off key off = came key ∙ all_off entries old.tree (set_by entries old.tree) (held_of old) key off
