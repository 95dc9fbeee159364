-- What requests for layout leave of the views of a tree.
use Rattle.std.proofs.Common.{◌≡◌, ℕ, ◌<◌, Bool, true, false, List, [], ◌∷◌, ap, ◌∙◌, sym, refl, inl, inr}
use Rattle.std.specs.Prelude.{◌==◌, if◌then◌else◌}
use Rattle.kept_views.specs.Pressing.{path_of}
use Rattle.kept_views.proofs.edits.Emptied.{around_off}
use Rattle.kept_views.proofs.edits.Paths.{among_first, among_rest, unforced_off}
use Rattle.kept_views.proofs.edits.Requested.{pressed_out}
use Rattle.view_model.specs.Forest.{Forest}
use Rattle.view_model.specs.PlainTree.{PlainView}
use Rattle.view_tree.specs.tree.Requests.{among, asking, forced_one, pressed, requested, unforced}
use Rattle.view_tree.specs.Rows.{Row, ancestors, around, changed_at_key, count_of_key}
use Rattle.view_tree.specs.Views.{Held}
use Rattle.view_tree.proofs.forest.KeyLaws.{zero_or_more}
use Rattle.view_tree.proofs.values.KeptLaws.{ancestors-put}
use Rattle.tree_edits.specs.Asking.{is_on_paths}

-- a view that is not in a tree is around no view of it
pub ancestors_off : (key view : ℕ) (tree : Forest Row) → count_of_key key tree ≡ 0 → among key (ancestors view tree) ≡ false
ancestors_off key view tree none = around_off key view [] tree none refl

-- so that a view that is around another is there
pub ancestor_live : (key view : ℕ) (tree : Forest Row) → among key (ancestors view tree) ≡ true → 0 < count_of_key key tree
ancestor_live key view tree above = elim (zero_or_more (count_of_key key tree)) [
  | inl none ↦ let no : true ≡ false = sym above ∙ ancestors_off key view tree none in absurd (cc)
  | inr live ↦ live
]

-- a request forces the same views if the same is kept of those around its view
unforced_same : (old mid : ℕ → Held) (keys : List ℕ) → ((key : ℕ) → among key keys ≡ true → mid key ≡ old key) → unforced mid keys ≡ unforced old keys
unforced_same old mid [] same = refl
unforced_same old mid (first ∷ more) same =
    ap (λ (h : Held). if h.state.forced then [] else first ∷ unforced mid more) (same first (among_first first more))
    ∙ ap (λ (keys : List ℕ). if (old first).state.forced then [] else first ∷ keys) (unforced_same old mid more (λ key e. same key (among_rest key first more e)))

pub request_same : (old mid : ℕ → Held) (view : ℕ) (tree mid_tree : Forest Row) (key : ℕ) → ancestors view mid_tree ≡ ancestors view tree
    → ((other : ℕ) → among other (ancestors view tree) ≡ true → mid other ≡ old other)
    → mid key ≡ old key
    → requested mid (view ∷ []) mid_tree key ≡ requested old (view ∷ []) tree key
request_same old mid view tree mid_tree key path around own =
    let keys : asking mid view mid_tree ≡ asking old view tree =
    ap (λ (above : List ℕ). view ∷ unforced mid above) path ∙ ap (λ (above : List ℕ). view ∷ above) (unforced_same old mid (ancestors view tree) around) in
    ap (λ (forced : List ℕ). pressed mid forced key) keys ∙ ap (λ (h : Held). if among key (asking old view tree) then forced_one h else h) own

-- nor does it read the views themselves
pub requested-put : (held : ℕ → Held) (views : List ℕ) (view : ℕ) (change : PlainView → PlainView) (tree : Forest Row) → requested held views (changed_at_key view change tree) ≡ requested held views tree
requested-put held [] view change tree = refl
requested-put held (first ∷ more) view change tree =
    ap (λ (above : List ℕ). requested (pressed held (first ∷ unforced held above)) more (changed_at_key view change tree)) (ancestors-put first view change tree)
    ∙ requested-put (pressed held (asking held first tree)) more view change tree

-- the bounds of a view, and how far it has scrolled
pub record KeepsPlace (old new : Held) : Type 0 where
  pub bounds : new.state.bounds ≡ old.state.bounds
  pub offset : new.offset ≡ old.offset

pub requested_place : (held : ℕ → Held) (views : List ℕ) (tree : Forest Row) (key : ℕ) → KeepsPlace (held key) (requested held views tree key)
requested_place held [] tree key = record { bounds = refl; offset = refl }
requested_place held (view ∷ more) tree key =
    let own = pressed_place (among key (asking held view tree)) in
    let rest = requested_place (pressed held (asking held view tree)) more tree key in
    record { bounds = rest.bounds ∙ own.bounds; offset = rest.offset ∙ own.offset }
  where
    pressed_place : (forced : Bool) → KeepsPlace (held key) (if forced then forced_one (held key) else held key)
    pressed_place true = record { bounds = refl; offset = refl }
    pressed_place false = record { bounds = refl; offset = refl }

-- a view that is on no path
pub both_off : (first second : Bool) → (if first then true else second) ≡ false → (first ≡ false) × (second ≡ false)
both_off true second off = absurd (cc)
both_off false second off = (refl, off)

path_off : (held : ℕ → Held) (view key : ℕ) (tree : Forest Row) → among key (path_of view tree) ≡ false → among key (asking held view tree) ≡ false
path_off held view key tree off = by_test (view == key) off
  where
    by_test : (own : Bool) → (if own then true else among key (ancestors view tree)) ≡ false → (if own then true else among key (unforced held (ancestors view tree))) ≡ false
    by_test true off = off
    by_test false off = unforced_off key held (ancestors view tree) off

pub requested_off : (held : ℕ → Held) (views : List ℕ) (tree : Forest Row) (key : ℕ) → is_on_paths views tree key ≡ false → requested held views tree key ≡ held key
requested_off held [] tree key off = refl
requested_off held (view ∷ more) tree key off =
    let both = both_off (among key (path_of view tree)) (is_on_paths more tree key) off in
    requested_off (pressed held (asking held view tree)) more tree key both.1 ∙ pressed_out held (asking held view tree) key (path_off held view key tree both.0)
