-- The layout of a whole tree.
use Rattle.std.proofs.Common.{◌≡◌, ℕ, ℤ, pos, true, false, Some, refl, sym, ◌∙◌, ap, arith}
use Rattle.std.proofs.lemmas.Int.{ints}
use Rattle.std.proofs.lemmas.Bool.{both_ways, eq-eqb, false_from_ne_true}
use Rattle.geom_core.specs.Limits.{IsSide}
use Rattle.geom_core.specs.declared.geometry.Rect.{Rect}
use Rattle.geom_core.specs.declared.geometry.Size.{Size}
use Rattle.kept_views.specs.Kept.{Kept, Reached, Ready, debt, firm, loose, owed}
use Rattle.kept_views.specs.Laying.{layout_of}
use Rattle.kept_views.proofs.laid.LaidCalm.{gone_nowhere, shown_in}
use Rattle.kept_views.proofs.laid.LaidFrames.{Reached-loose}
use Rattle.kept_views.proofs.laid.PlacedKids.{laid_gone}
use Rattle.measure_pass.specs.Measured.{calls_under, size_under}
use Rattle.view_model.specs.Facts.{is_shown}
use Rattle.view_model.specs.Forest.{Forest, Nothing, Branch}
use Rattle.view_model.specs.Geometry.{rect_at}
use Rattle.view_model.specs.Layout.{full_layout, laid_views, measured_size, root_calls, root_specs}
use Rattle.view_model.specs.Measuring.{Specs}
use Rattle.view_tree.specs.Rows.{Row, later_siblings, first_tree, first_key, part_from, head_view, views_of, count_of_key}
use Rattle.view_tree.specs.Views.{Held, laid_rows, plain_rows, specs_of}
use Rattle.view_tree.proofs.values.LayoutLaws.{full_layout_scrolled, root_calls_scrolled}
use Rattle.traversal.specs.Narrow.{IsNarrow}
use Rattle.view_tree.proofs.forest.KeyLaws.{times_self}
use Rattle.std.proofs.Common.{Bool, ◌+◌, ◌<◌, [], subst}
use Rattle.std.specs.Prelude.{if◌then◌else◌}

-- a tree of one root
record HasOneRoot (tree : Forest Row) (root : ℕ) : Type 0 where
  row : Row
  kids : Forest Row
  is : tree ≡ Branch row kids Nothing
  from_is : part_from root (Branch row kids Nothing) ≡ Branch row kids Nothing

rooted : (tree : Forest Row) (root : ℕ) → first_key tree ≡ Some root → later_siblings tree ≡ Nothing → HasOneRoot tree root
rooted Nothing root first none = absurd (cc)
rooted (Branch row kids siblings) root first none =
    let key : row.key ≡ root = cc in
    record { row = row; kids = kids; is = rw none refl; from_is = rw (eq-eqb row.key root key) refl }

-- the root alone is the whole tree
pub root_alone : (tree : Forest Row) (root : ℕ) → first_key tree ≡ Some root → later_siblings tree ≡ Nothing → first_tree (part_from root tree) ≡ tree
root_alone tree root first none = let r = rooted tree root first none in rw (r.is, r.from_is) refl

pub root_from : (tree : Forest Row) (root : ℕ) → first_key tree ≡ Some root → later_siblings tree ≡ Nothing → part_from root tree ≡ tree
root_from tree root first none = let r = rooted tree root first none in rw (r.is, r.from_is) refl

pub root_live : (tree : Forest Row) (root : ℕ) → first_key tree ≡ Some root → 0 < count_of_key root tree
root_live Nothing root first = absurd (cc)
root_live (Branch row kids siblings) root first = let key : row.key ≡ root = cc in subst (λ k. 0 < count_of_key k (Branch row kids siblings)) key (times_self row kids siblings)

-- a root that takes part in layout has its size
pub root_sized : (tree : Forest Row) (root : ℕ) (held : ℕ → Held) → first_key tree ≡ Some root → is_shown (head_view tree).facts ≡ true → Kept [] held firm tree
    → (held root).state.measured ≡ size_under tree (specs_of (held root).state)
root_sized Nothing root held first shown k = absurd (cc)
root_sized (Branch row kids siblings) root held first shown k =
    let key : row.key ≡ root = cc in
    let v = k.1 (shown_in row shown) in
    let unforced = false_from_ne_true (held row.key).state.forced (λ f. let no : false ≡ true = v.flags refl f in absurd (cc)) in
    subst (λ key. (held key).state.measured ≡ measured_size row.view (views_of kids) (specs_of (held key).state)) key (v.sized refl unforced).size

-- and if no view needs layout, it is not marked
pub root_unmarked : (tree : Forest Row) (root : ℕ) (held : ℕ → Held) → first_key tree ≡ Some root → Reached held false tree → (held root).state.measure_first ≡ false
root_unmarked Nothing root held first r = absurd (cc)
root_unmarked (Branch row kids siblings) root held first r =
    let key : row.key ≡ root = cc in
    let needed = false_from_ne_true (held row.key).state.layout_needed (λ e. let no : false ≡ true = (r.0 e).1 in absurd (cc)) in
    subst (λ key. (held key).state.measure_first ≡ false) key (false_from_ne_true (held row.key).state.measure_first (λ e. both_ways (held row.key).state.layout_needed needed (r.1 e)))

-- the layout of a tree whose root is gone, or that has none
pub gone_whole : (tree : Forest Row) (held : ℕ → Held) (window : Size) → later_siblings tree ≡ Nothing → (is_shown (head_view tree).facts ≡ true → tree ≡ Nothing) → Kept [] held loose tree
    → (laid_rows held tree ≡ []) × (full_layout (plain_rows held tree) window ≡ [])
gone_whole Nothing held window none gone k = (refl, refl)
gone_whole (Branch row kids siblings) held window none gone k =
    let hidden : is_shown row.view.facts ≡ false = false_from_ne_true _ (λ here. let no : Branch row kids siblings ≡ Nothing = gone here in absurd (cc)) in
    rw none (
      gone_nowhere [] held loose row kids hidden k.0 k.2,
      full_layout_scrolled held (Branch row kids Nothing) window ∙ laid_gone row kids _ _ hidden,
    )

-- a rectangle of a measured size
pub at_narrow : (left top : ℤ) (size : Size) → IsSide size.w → IsSide size.h → IsNarrow (rect_at left top size)
at_narrow left top size width height =
    let a = width.low in
    let b = width.high in
    let c = height.low in
    let d = height.high in
    record {
      width = record { low = grind (arith, ints); high = grind (arith, ints) };
      height = record { low = grind (arith, ints); high = grind (arith, ints) };
    }

-- between lines nothing remains to be done
pub owed_none : (held : ℕ → Held) (list : Forest Row) → Reached held false list → owed held list ≡ 0
owed_none held Nothing r = refl
owed_none held (Branch row kids siblings) r =
    let own = held row.key in
    let d : own.state.layout_needed ≡ false = false_from_ne_true own.state.layout_needed (λ e. let no : false ≡ true = (r.0 e).1 in absurd (cc)) in
    let m : own.state.measure_first ≡ false = false_from_ne_true own.state.measure_first (λ e. both_ways own.state.layout_needed d (r.1 e)) in
    let below = owed_none held kids (subst (λ b. Reached held b kids) d r.2) in
    let rest = owed_none held siblings r.3 in
    let free : debt row kids own ≡ 0 = rw m refl in
    owes (is_shown row.view.facts) (debt row kids own) (owed held kids) (owed held siblings) free below rest
  where
    owes : (v : Bool) (a b c : ℕ) → a ≡ 0 → b ≡ 0 → c ≡ 0 → ◌≡◌ {A = ℕ} ((if v then a + b else 0) + c) 0
    owes true a b c x y z = omega arith
    owes false a b c x y z = omega arith

pub ready_whole : (held : ℕ → Held) (list : Forest Row) → Kept [] held loose list → Reached held false list → Ready held list
ready_whole held list k r = record { kept = k; reached = Reached-loose held false list r }

-- the layout of a tree whose root was laid at the origin under the specs of the root
pub laid_whole : (tree : Forest Row) (root : ℕ) (old new : ℕ → Held) (window : Size) (specs : Specs) (rect : Rect) (size : Size) → first_key tree ≡ Some root → later_siblings tree ≡ Nothing
    → laid_rows new (first_tree (part_from root tree)) ≡ layout_of (part_from root tree) specs rect → specs ≡ root_specs window (head_view (part_from root tree)).facts
    → rect ≡ rect_at (pos 0) (pos 0) size → size ≡ size_under (part_from root tree) specs
    → laid_rows new tree ≡ full_layout (plain_rows old tree) window
laid_whole tree root old new window specs rect size first none laid under place measured =
    let r = rooted tree root first none in
    let lies : laid_rows new (Branch r.row r.kids Nothing) ≡ laid_views r.row.view (views_of r.kids) specs rect = rw r.from_is at (rw r.is at laid) in
    let under : specs ≡ root_specs window r.row.view.facts = rw r.from_is at (rw r.is at under) in
    let measured : size ≡ size_under (Branch r.row r.kids Nothing) specs = rw r.from_is at (rw r.is at measured) in
    rw r.is
    (lies
    ∙ ap (λ (rect : Rect). laid_views r.row.view (views_of r.kids) specs rect) place
    ∙ ap (λ (size : Size). laid_views r.row.view (views_of r.kids) specs (rect_at (pos 0) (pos 0) size)) measured
    ∙ ap (λ (specs : Specs). laid_views r.row.view (views_of r.kids) specs (rect_at (pos 0) (pos 0) (size_under (Branch r.row r.kids Nothing) specs))) under
    ∙ sym (full_layout_scrolled old (Branch r.row r.kids Nothing) window))

-- how many views are measured for the root
pub calls_whole : (tree : Forest Row) (root : ℕ) (held : ℕ → Held) (window : Size) (specs : Specs) → first_key tree ≡ Some root → later_siblings tree ≡ Nothing
    → is_shown (head_view (part_from root tree)).facts ≡ true → specs ≡ root_specs window (head_view (part_from root tree)).facts
    → calls_under (part_from root tree) specs ≡ root_calls (plain_rows held tree) window
calls_whole tree root held window specs first none shown under =
    let r = rooted tree root first none in
    let shown : is_shown r.row.view.facts ≡ true = rw r.from_is at (rw r.is at shown) in
    let under : specs ≡ root_specs window r.row.view.facts = rw r.from_is at (rw r.is at under) in
    let all : root_calls (views_of (Branch r.row r.kids Nothing)) window ≡ calls_under (Branch r.row r.kids Nothing) specs = rw (shown, under) refl in
    rw (r.is, r.from_is) (sym all ∙ sym (root_calls_scrolled held (Branch r.row r.kids Nothing) window))
