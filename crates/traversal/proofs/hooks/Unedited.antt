-- Views that no edit of a hook reaches: their caches stay.
use Rattle.std.proofs.Common.{◌≡◌, ◌≢◌, ℕ, zero, suc, true, false, List, [], ◌∷◌, ◌++◌, drop, Option, Some, None, refl, sym, ◌∙◌, ap, subst, arith, inl, inr}
use Rattle.std.proofs.lemmas.Bool.{cases_Bool, cases_eq}
use Rattle.std.specs.Prelude.{◌==◌, ℤ, IfSome}
use Rattle.kept_views.specs.Passes.{settled}
use Rattle.kept_views.specs.Pressing.{all_pressed, path_of}
use Rattle.kept_views.proofs.edits.Paths.{among_first, among_rest}
use Rattle.kept_views.proofs.edits.Requested.{pressed_out}
use Rattle.view_model.specs.declared.changes.NumEdit.{NumEdit}
use Rattle.view_model.specs.Forest.{Forest}
use Rattle.view_model.specs.PlainTree.{PlainView}
use Rattle.view_tree.specs.tree.Requests.{among, asking, pressed, unforced}
use Rattle.view_tree.specs.Rows.{Row, ancestors, changed_at_key, count_of_key}
use Rattle.view_tree.specs.Views.{Held, Views}
use Rattle.view_tree.proofs.values.KeptLaws.{ancestors-put}
use Rattle.traversal.specs.Changing.{SameShape}
use Rattle.traversal.specs.Growing.{IsEdited, IsOffPaths, IsUnedited}
use Rattle.traversal.proofs.laid.ShapeLaws.{count_of_key-same, number_of-same, path_of-same}

edited_left : (some more : List NumEdit) (number : ℕ) → IsEdited some number → IsEdited (some ++ more) number
edited_left [] more number named = absurd named
edited_left (edit ∷ some) more number (inl e) = inl e
edited_left (edit ∷ some) more number (inr named) = inr (edited_left some more number named)

edited_right : (some more : List NumEdit) (number : ℕ) → IsEdited more number → IsEdited (some ++ more) number
edited_right [] more number named = named
edited_right (edit ∷ some) more number named = inr (edited_right some more number named)

pub unedited_left : (tree : Forest Row) (some more : List NumEdit) (key : ℕ) → IsUnedited tree (some ++ more) key → IsUnedited tree some key
unedited_left tree some more key un = λ view live named. un view live (edited_left some more _ named)

pub unedited_right : (tree : Forest Row) (some more : List NumEdit) (key : ℕ) → IsUnedited tree (some ++ more) key → IsUnedited tree more key
unedited_right tree some more key un = λ view live named. un view live (edited_right some more _ named)

edited_next : (k : ℕ) (edits rest : List NumEdit) (edit : NumEdit) → drop k edits ≡ edit ∷ rest → IsEdited edits edit.view
edited_next zero edits rest edit e = subst (λ edits. IsEdited edits edit.view) (sym e) (inl refl)
edited_next (suc k) [] rest edit e = absurd (cc)
edited_next (suc k) (first ∷ edits) rest edit e = inr (edited_next k edits rest edit e)

-- by an edit that is next among some that do not reach it
pub unedited_next : (tree : Forest Row) (k : ℕ) (edits rest : List NumEdit) (edit : NumEdit) (key : ℕ) → drop k edits ≡ edit ∷ rest → IsUnedited tree edits key → IsUnedited tree (edit ∷ []) key
unedited_next tree k edits rest edit key next un = λ view live named. un view live (by named)
  where
    by : {number : ℕ} → IsEdited (edit ∷ []) number → IsEdited edits number
    by (inl e) = subst (IsEdited edits) e (edited_next k edits rest edit next)
    by (inr none) = absurd none

-- that does not depend on facts
pub unedited_same : {old new : Views} (edits : List NumEdit) (key : ℕ) → SameShape old new → IsUnedited old.tree edits key → IsUnedited new.tree edits key
unedited_same {old = old} {new = new} edits key shape un = λ view live named.
    let count : count_of_key view new.tree ≡ count_of_key view old.tree = count_of_key-same view shape in
    subst (λ path. among key path ≡ false) (sym (path_of-same view shape))
    (un view (omega arith) (subst (IsEdited edits) (number_of-same view shape) named))

off_cons : (key first : ℕ) (more : List ℕ) → among key (first ∷ more) ≡ false → ((first == key) ≡ false) × (among key more ≡ false)
off_cons key first more off = elim (cases_Bool (first == key)) [
  | inl e ↦ absurd (let no : true ≡ false = rw e at off in cc)
  | inr e ↦ (e, rw e at off)
]

off_unforced : (held : ℕ → Held) (list : List ℕ) (key : ℕ) → among key list ≡ false → among key (unforced held list) ≡ false
off_unforced held [] key off = refl
off_unforced held (first ∷ more) key off =
    let parts = off_cons key first more off in
    elim (cases_Bool (held first).state.forced) [
      | inl e ↦ rw e refl
      | inr e ↦ rw (e, parts.0) (off_unforced held more key parts.1)
    ]

-- a request only reaches the path of its view
off_asking : (held : ℕ → Held) (view : ℕ) (tree : Forest Row) (key : ℕ) → among key (path_of view tree) ≡ false → among key (asking held view tree) ≡ false
off_asking held view tree key off =
    let parts = off_cons key view (ancestors view tree) off in
    rw parts.0 (off_unforced held (ancestors view tree) key parts.1)

-- an edit of a hook, with its request
pub made_cache : (view : ℕ) (old mid new : ℕ → Held) (offset : ℤ) (change : PlainView → PlainView) (tree put : Forest Row) (key : ℕ) → mid view ≡ record (old view) { offset = offset }
    → ((other : ℕ) → other ≢ view → mid other ≡ old other) → put ≡ changed_at_key view change tree → ((key : ℕ) → new key ≡ pressed mid (asking mid view put) key)
    → among key (path_of view tree) ≡ false → (new key).cache ≡ (old key).cache
made_cache view old mid new offset change tree put key own others made asked off =
    let path : path_of view put ≡ path_of view tree = ap (λ list. view ∷ list) (ap (ancestors view) made ∙ ancestors-put view view change tree) in
    let out = off_asking mid view put key (subst (λ path. among key path ≡ false) (sym path) off) in
    ap (λ (h : Held). h.cache) (asked key ∙ pressed_out mid (asking mid view put) key out) ∙ written
  where
    written : (mid key).cache ≡ (old key).cache
    written = elim (cases_eq key view) [
      | inl e ↦ ap (λ key. (mid key).cache) e ∙ ap (λ (h : Held). h.cache) own ∙ ap (λ key. (old key).cache) (sym e)
      | inr ne ↦ ap (λ (h : Held). h.cache) (others key ne)
    ]

off_first : (view : ℕ) (views : List ℕ) (tree : Forest Row) (key : ℕ) → IsOffPaths (view ∷ views) tree key → among key (path_of view tree) ≡ false
off_first view views tree key off = off view (among_first view views)

off_rest : (view : ℕ) (views : List ℕ) (tree : Forest Row) (key : ℕ) → IsOffPaths (view ∷ views) tree key → IsOffPaths views tree key
off_rest view views tree key off = λ other named. off other (among_rest other view views named)

all_out : (held : ℕ → Held) (views : List ℕ) (tree : Forest Row) (key : ℕ) → IsOffPaths views tree key → all_pressed held views tree key ≡ held key
all_out held [] tree key off = refl
all_out held (view ∷ views) tree key off =
    all_out (pressed held (path_of view tree)) views tree key (off_rest view views tree key off) ∙ pressed_out held (path_of view tree) key (off_first view views tree key off)

-- the end of a pass
pub ended_cache : (root : ℕ) (requesters : List ℕ) (old mid new : ℕ → Held) (tree : Forest Row) (key : ℕ) → mid root ≡ settled (old root) → ((other : ℕ) → other ≢ root → mid other ≡ old other)
    → new key ≡ all_pressed mid requesters tree key → IsOffPaths requesters tree key → (new key).cache ≡ (old key).cache
ended_cache root requesters old mid new tree key own others pressed off = ap (λ (h : Held). h.cache) (pressed ∙ all_out mid requesters tree key off) ∙ rested
  where
    rested : (mid key).cache ≡ (old key).cache
    rested = elim (cases_eq key root) [
      | inl e ↦ ap (λ key. (mid key).cache) e ∙ ap (λ (h : Held). h.cache) own ∙ ap (λ key. (old key).cache) (sym e)
      | inr ne ↦ ap (λ (h : Held). h.cache) (others key ne)
    ]

-- paths do not depend on facts
pub off_same : {old new : Views} (views : List ℕ) (key : ℕ) → SameShape old new → IsOffPaths views old.tree key → IsOffPaths views new.tree key
off_same views key shape off = λ view named. subst (λ path. among key path ≡ false) (sym (path_of-same view shape)) (off view named)

pub some_off : {old new : Views} (requester : Option ℕ) (key : ℕ) → SameShape old new → IfSome requester (λ view. among key (path_of view new.tree) ≡ false)
    → IfSome requester (λ view. among key (path_of view old.tree) ≡ false)
some_off None key shape off = off
some_off (Some view) key shape off = subst (λ path. among key path ≡ false) (path_of-same view shape) off
