-- Edits of hooks in a pass, and the end of a pass.
use Rattle.std.proofs.Common.{◌≡◌, ◌≢◌, ℕ, ◌<◌, ◌≤◌, true, false, Option, Some, None, List, [], ◌∷◌, ◌++◌, refl, sym, ◌∙◌, ap, subst, inl, inr}
use Rattle.std.proofs.lemmas.Bool.{cases_Bool, cases_eq, ne_eqb}
use Rattle.std.proofs.lemmas.List.{append-nil}
use Rattle.std.specs.Prelude.{ℤ, if◌then◌else◌, IfSome}
use mathlib.Core.Path.{fun_ext}
use Rattle.geom_core.specs.declared.geometry.Size.{Size}
use Rattle.kept_views.specs.Kept.{IsKept}
use Rattle.kept_views.specs.Passes.{InPass, settled, settled_at}
use Rattle.kept_views.specs.Pressing.{all_pressed, path_of}
use Rattle.kept_views.proofs.edits.Lines.{hook_put, last_requester, pass_end, same_kept}
use Rattle.kept_views.proofs.edits.Paths.{among_append}
use Rattle.size_hooks.specs.Hook.{Hook}
use Rattle.view_model.specs.declared.facts.Facts.{Facts}
use Rattle.view_model.specs.Facts.{is_shown, unscrolled_facts}
use Rattle.view_model.specs.Forest.{Forest, map_rows}
use Rattle.view_model.specs.Geometry.{Laid}
use Rattle.view_model.specs.Layout.{full_layout}
use Rattle.view_model.specs.Offsets.{ranged}
use Rattle.view_model.specs.PlainTree.{PlainView}
use Rattle.view_tree.specs.tree.Requests.{among, asking, forced_one, pressed}
use Rattle.view_tree.specs.Rows.{Row, changed_at_key, count_of_key}
use Rattle.view_tree.specs.Views.{Held, IsLive, IsTree, KeepsOthers, Views, facts_of, geometry_of, held_of, plain_of, plain_rows, scrolled}
use Rattle.traversal.specs.Changing.{IsPassed}
use Rattle.traversal.specs.Frames.{Pass, after_pass, fired_in, spent}
use Rattle.traversal.specs.Requesters.{listed, with_requester}
use Rattle.traversal.proofs.laid.LaidAt.{settled_is}
use Rattle.traversal.proofs.offsets.Ranging.{ranged_nowhere}

-- the plain tree by the offsets
pub plain_same : (old new : ℕ → Held) (tree : Forest Row) → ((key : ℕ) → (new key).offset ≡ (old key).offset) → plain_rows new tree ≡ plain_rows old tree
plain_same old new tree same =
    ap (λ (f : Row → PlainView). map_rows f tree)
    (fun_ext {f = scrolled new} {g = scrolled old} (λ (row : Row). ap (λ offset. let v : PlainView = record row.view { facts = record row.view.facts { offset = offset } } in v) (same row.key)))

pub pressed_offset : (held : ℕ → Held) (keys : List ℕ) (key : ℕ) → (pressed held keys key).offset ≡ (held key).offset
pressed_offset held keys key = elim (among key keys) as (λ v. (if v then forced_one (held key) else held key).offset ≡ (held key).offset) [ true ↦ refl | false ↦ refl ]

pub pressed_bounds : (held : ℕ → Held) (keys : List ℕ) (key : ℕ) → (pressed held keys key).state.bounds ≡ (held key).state.bounds
pressed_bounds held keys key = elim (among key keys) as (λ v. (if v then forced_one (held key) else held key).state.bounds ≡ (held key).state.bounds) [ true ↦ refl | false ↦ refl ]

pub all_offset : (held : ℕ → Held) (views : List ℕ) (tree : Forest Row) (key : ℕ) → (all_pressed held views tree key).offset ≡ (held key).offset
all_offset held [] tree key = refl
all_offset held (view ∷ views) tree key = all_offset (pressed held (path_of view tree)) views tree key ∙ pressed_offset held (path_of view tree) key

pub all_bounds : (held : ℕ → Held) (views : List ℕ) (tree : Forest Row) (key : ℕ) → (all_pressed held views tree key).state.bounds ≡ (held key).state.bounds
all_bounds held [] tree key = refl
all_bounds held (view ∷ views) tree key = all_bounds (pressed held (path_of view tree)) views tree key ∙ pressed_bounds held (path_of view tree) key

-- an edit of a hook, with its request
pub made_in_pass : (old mid new : Views) (view : ℕ) (facts : Facts) (keys : List ℕ) (root : ℕ) → IsTree old → IsLive old view
    → mid.tree ≡ changed_at_key view (λ (v : PlainView). record v { facts = unscrolled_facts facts }) old.tree
    → held_of mid view ≡ record (held_of old view) { offset = facts.offset } → KeepsOthers old mid view
    → facts.offset ≡ (facts_of old view).offset → is_shown facts ≡ is_shown (facts_of old view)
    → new.tree ≡ mid.tree → ((key : ℕ) → held_of new key ≡ pressed (held_of mid) (asking (held_of mid) view mid.tree) key)
    → InPass keys root (held_of old) old.tree → InPass (view ∷ keys) root (held_of new) new.tree
made_in_pass old mid new view facts keys root is live tree own others offset shown same asked p =
    let change : PlainView → PlainView = λ v. record v { facts = unscrolled_facts facts } in
    let put = changed_at_key view change old.tree in
    let still : held_of mid ≡ held_of old = fun_ext (λ key. elim (cases_eq key view) [
      | inl e ↦ ap (held_of mid) e ∙ own ∙ ap (λ offset. let h : Held = record (held_of old view) { offset = offset } in h) offset ∙ ap (held_of old) (sym e)
      | inr ne ↦ others key ne
    ]) in
    let whole : InPass (view ∷ keys) root (pressed (held_of old) (asking (held_of old) view put)) put = hook_put view change old.tree is.keys live keys root (held_of old) shown p in
    let moved : InPass (view ∷ keys) root (pressed (held_of mid) (asking (held_of mid) view mid.tree)) mid.tree =
    subst (λ tree. InPass (view ∷ keys) root (pressed (held_of mid) (asking (held_of mid) view tree)) tree) (sym tree)
    (subst (λ held. InPass (view ∷ keys) root (pressed held (asking held view put)) put) (sym still) whole) in
    subst (λ tree. InPass (view ∷ keys) root (held_of new) tree) (sym same)
    (subst (λ held. InPass (view ∷ keys) root held mid.tree) (sym (fun_ext asked)) moved)

-- one requester more, if there is one
pub noted : (requester : Option ℕ) (keys : List ℕ) (root : ℕ) (held : ℕ → Held) (tree : Forest Row) → InPass (with_requester requester keys) root held tree → InPass (keys ++ listed requester) root held tree
noted None keys root held tree p = subst (λ keys. InPass keys root held tree) (sym (append-nil keys)) p
noted (Some view) keys root held tree p = last_requester view keys root held tree p

among_parts : (key : ℕ) (some more : List ℕ) → among key (some ++ more) ≡ true → among key some ≡ false → among key more ≡ true
among_parts key some more e f = elim (cases_Bool (among key more)) [ inl t ↦ t | inr n ↦ absurd (let no : true ≡ false = sym e ∙ among_append key some more f n in cc) ]

among_listed : (key : ℕ) (requester : Option ℕ) (P : ℕ → Type 0) → among key (listed requester) ≡ true → IfSome requester P → P key
among_listed key None P e h = absurd (let no : false ≡ true = e in cc)
among_listed key (Some view) P e h = elim (cases_eq view key) [ inl i ↦ subst P i h | inr ne ↦ absurd (let no : false ≡ true = sym (is_off ne) ∙ e in cc) ]
  where
    is_off : (view ≡ key → ⊥) → among key (view ∷ []) ≡ false
    is_off ne = rw (ne_eqb view key ne) refl

pub noted_live : (keys : List ℕ) (requester : Option ℕ) (P : ℕ → Type 0) → ((key : ℕ) → among key keys ≡ true → P key)
    → IfSome requester P → (key : ℕ) → among key (keys ++ listed requester) ≡ true → P key
noted_live keys requester P old new key e = elim (cases_Bool (among key keys)) [
  | inl here ↦ old key here
  | inr off ↦ among_listed key requester P (among_parts key keys (listed requester) e off) new
]

pub put_bounds : (view : ℕ) (old mid : ℕ → Held) (offset : ℤ) → mid view ≡ record (old view) { offset = offset } → ((other : ℕ) → other ≢ view → mid other ≡ old other) → (key : ℕ) → (mid key).state.bounds ≡ (old key).state.bounds
put_bounds view old mid offset own others key = elim (cases_eq key view) [
  | inl e ↦ ap (λ key. (mid key).state.bounds) e ∙ ap (λ (h : Held). h.state.bounds) own ∙ ap (λ key. (old key).state.bounds) (sym e)
  | inr ne ↦ ap (λ (h : Held). h.state.bounds) (others key ne)
]

-- one view settles
pub one_offset : (root : ℕ) (old mid : ℕ → Held) → mid root ≡ settled (old root) → ((other : ℕ) → other ≢ root → mid other ≡ old other) → (key : ℕ) → (mid key).offset ≡ (old key).offset
one_offset root old mid own others key = elim (cases_eq key root) [
  | inl e ↦ ap (λ key. (mid key).offset) e ∙ ap (λ (h : Held). h.offset) own ∙ ap (λ key. (old key).offset) (sym e)
  | inr ne ↦ ap (λ (h : Held). h.offset) (others key ne)
]

pub one_bounds : (root : ℕ) (old mid : ℕ → Held) → mid root ≡ settled (old root) → ((other : ℕ) → other ≢ root → mid other ≡ old other) → (key : ℕ) → (mid key).state.bounds ≡ (old key).state.bounds
one_bounds root old mid own others key = elim (cases_eq key root) [
  | inl e ↦ ap (λ key. (mid key).state.bounds) e ∙ ap (λ (h : Held). h.state.bounds) own ∙ ap (λ key. (old key).state.bounds) (sym e)
  | inr ne ↦ ap (λ (h : Held). h.state.bounds) (others key ne)
]

-- the end of a pass
pub ended_kept : (root : ℕ) (requesters : List ℕ) (old mid new : ℕ → Held) (tree : Forest Row) → ((key : ℕ) → count_of_key key tree ≤ 1) → ((key : ℕ) → among key requesters ≡ true → 0 < count_of_key key tree)
    → mid root ≡ settled (old root) → ((other : ℕ) → other ≢ root → mid other ≡ old other) → ((key : ℕ) → new key ≡ all_pressed mid requesters tree key)
    → InPass requesters root old tree → IsKept new tree
ended_kept root requesters old mid new tree once live own others pressed p =
    let settled_held : mid ≡ settled_at root old = fun_ext (settled_is root old mid own others) in
    same_kept (all_pressed mid requesters tree) new tree pressed
    (subst (λ held. IsKept (all_pressed held requesters tree) tree) (sym settled_held) (pass_end requesters root old tree once live p))

-- what a pass leaves if no view has bounds
pub passed_nowhere : (hooks : List Hook) (window : Size) (views : Views) → geometry_of views ≡ [] → full_layout (plain_of views) window ≡ []
    → IsPassed (after_pass (plain_of views) hooks window) views hooks
passed_nowhere hooks window views lies none =
    let pass : List Laid → Pass = λ geometry. spent (ranged geometry (plain_of views)) hooks geometry (fired_in hooks geometry) in
    subst (λ geometry. IsPassed (pass geometry) views hooks) (sym none) (record { plain = sym (ranged_nowhere (plain_of views)); hooks_are = refl; geometry = lies })
