-- The last specs of the children of a view are among those under which its measuring asked for them.
use Rattle.std.proofs.Common.{◌≡◌, ◌<◌, ℕ, zero, suc, Bool, true, false, Some, None, List, [], ◌∷◌, refl, sym, ◌∙◌, ap, subst, inl, inr}
use Rattle.std.proofs.lemmas.Bool.{cases_Bool}
use Rattle.std.specs.Prelude.{if◌then◌else◌}
use Rattle.kept_views.specs.Kept.{Sized, last_specs}
use Rattle.kept_views.proofs.laid.PlacedKids.{cons_head, cons_tail}
use Rattle.measure_pass.specs.Caches.{Among, AskedAt, asked_under, course_under}
use Rattle.measure_pass.specs.Courses.{has_requests}
use Rattle.measure_pass.proofs.rules.Laws.{lawful_of}
use Rattle.measure_pass.proofs.walks.Whole.{AllAsked, lasts_of}
use Rattle.view_model.specs.declared.facts.Facts.{Facts}
use Rattle.view_model.specs.Course.{Child, Requested, last_of}
use Rattle.view_model.specs.Facts.{is_shown}
use Rattle.view_model.specs.Forest.{Forest, Nothing, Branch}
use Rattle.view_model.specs.Classes.{is_group}
use Rattle.view_model.specs.Layout.{child_under, children_of, course_in, for_layout, manner_of}
use Rattle.view_model.specs.Measuring.{BySiblings, ByRule, Manner, Specs}
use Rattle.view_model.specs.PlainTree.{PlainView}
use Rattle.view_model.specs.RelativeCourse.{Arrangement, arranged, each_from, edges_at, requested_at, requests_at}
use Rattle.view_model.proofs.CourseLaws.{children_in, course_children}
use Rattle.view_tree.specs.Rows.{Row, children_of_first, count_of_key, first_tree, head_view, part_from, views_of}
use Rattle.view_tree.specs.Views.{Held, IsTree, Views, specs_of}
use Rattle.view_tree.proofs.forest.KeyLaws.{located}
use Rattle.view_tree.proofs.values.KeptLaws.{no_children_of}
use Rattle.traversal.specs.Growing.{LastAt}

-- every child that takes part in layout is asked for
asked_each : (own : Facts) (specs : Specs) (all : List Child) (found : Arrangement) (place : ℕ) (kids : List Child) → AllAsked (each_from place (requested_at own specs all found) kids)
asked_each own specs all found place [] = tt
asked_each own specs all found place (kid ∷ kids) = (by_test (is_shown kid.facts) refl, asked_each own specs all found (suc place) kids)
  where
    by_test : (v : Bool) → is_shown kid.facts ≡ v
        → (let one : Requested = if v then record { child = kid; requests = requests_at own specs all found place; edges = Some (edges_at own specs all found place) }
        else record { child = kid; requests = []; edges = None } in is_shown one.child.facts ≡ true → has_requests one.requests ≡ true)
    by_test true is = λ here. refl
    by_test false is = λ here. absurd (let no : true ≡ false = sym here ∙ is in cc)

asked_all : (manner : Manner) (view : PlainView) (specs : Specs) (kids : List Child) → (is_group view.class ≡ false → kids ≡ []) → manner_of view specs ≡ manner
    → AllAsked (course_in manner view kids specs).kids
asked_all (ByRule rule) view specs kids leaf is = (lawful_of view specs rule is).asked kids leaf
asked_all BySiblings view specs kids leaf is = asked_each view.facts specs kids (arranged view.facts specs kids) 0 kids

last_among : (default last : Specs) (requests : List Specs) → has_requests requests ≡ true → last_of default requests ≡ last → Among requests last
last_among default last [] has is = absurd (let no : false ≡ true = has in cc)
last_among default last (first ∷ []) has is = inl is
last_among default last (first ∷ next ∷ more) has is = inr (last_among first last (next ∷ more) refl is)

lasts_cons : (specs : Specs) (kid : Requested) (kids : List Requested)
    → lasts_of specs (kid ∷ kids) ≡ (if is_shown kid.child.facts then last_of specs kid.requests ∷ lasts_of specs kids else lasts_of specs kids)
lasts_cons specs kid kids = elim (cases_Bool (is_shown kid.child.facts)) [ inl e ↦ rw e refl | inr e ↦ rw e refl ]

open_both : (v w : Bool) (a b : Specs) (x y : List Specs) → w ≡ v → (if v then a ∷ x else x) ≡ (if w then b ∷ y else y) → (v ≡ true → a ≡ b) × (x ≡ y)
open_both true true a b x y e h = (λ t. cons_head h, cons_tail h)
open_both false false a b x y e h = (λ t. absurd (let no : false ≡ true = t in cc), h)
open_both true false a b x y e h = absurd (let no : false ≡ true = e in cc)
open_both false true a b x y e h = absurd (let no : true ≡ false = e in cc)

last_asked : (held : ℕ → Held) (list : Forest Row) (specs : Specs) (kids : List Requested) (place : ℕ) (other : Specs) → children_in kids ≡ children_of (views_of list) → AllAsked kids
    → last_specs held list ≡ lasts_of specs kids → LastAt held list place other → AskedAt kids place other
last_asked held Nothing specs kids place other same all lasts at = absurd at
last_asked held (Branch row below siblings) specs [] place other same all lasts at = absurd (cc)
last_asked held (Branch row below siblings) specs (kid ∷ kids) zero other same all lasts at =
    let child : kid.child ≡ child_under row.view (views_of below) = cons_head same in
    let shown : is_shown kid.child.facts ≡ is_shown row.view.facts = ap (λ (child : Child). is_shown child.facts) child in
    let both = open_both (is_shown row.view.facts) (is_shown kid.child.facts) (specs_of (held row.key).state) (last_of specs kid.requests) (last_specs held siblings) (lasts_of specs kids) shown (lasts ∙ lasts_cons specs kid kids) in
    last_among specs other kid.requests (all.0 (shown ∙ at.0)) (sym (both.0 at.0) ∙ sym at.1)
last_asked held (Branch row below siblings) specs (kid ∷ kids) (suc place) other same all lasts at =
    let child : kid.child ≡ child_under row.view (views_of below) = cons_head same in
    let shown : is_shown kid.child.facts ≡ is_shown row.view.facts = ap (λ (child : Child). is_shown child.facts) child in
    let both = open_both (is_shown row.view.facts) (is_shown kid.child.facts) (specs_of (held row.key).state) (last_of specs kid.requests) (last_specs held siblings) (lasts_of specs kids) shown (lasts ∙ lasts_cons specs kid kids) in
    last_asked held siblings specs kids place other (cons_tail same) all.1 both.1 at

-- of a view that is measured and not marked
pub kids_asked : (views : Views) (view : ℕ) (held : ℕ → Held) → IsTree views → 0 < count_of_key view views.tree → is_shown (head_view (part_from view views.tree)).facts ≡ true
    → Sized held (first_tree (part_from view views.tree)) → (held view).state.measure_first ≡ false
    → (place : ℕ) (other : Specs) → LastAt held (children_of_first (part_from view views.tree)) place other → asked_under (part_from view views.tree) (specs_of (held view).state) place other
kids_asked views view held is live shown sized unmarked =
    let x = located view views.tree live in
    let shown : is_shown x.row.view.facts ≡ true = rw x.is at shown in
    let sized : Sized held (Branch x.row x.kids Nothing) = rw x.is at sized in
    let childless : is_group x.row.view.class ≡ false → x.kids ≡ Nothing = rw x.is at (no_children_of views view is) in
    let own = (sized.0 shown).0 in
    let unmarked : (held x.row.key).state.measure_first ≡ false = subst (λ key. (held key).state.measure_first ≡ false) (sym x.key_is) unmarked in
    let specs = specs_of (held x.row.key).state in
    let row = for_layout x.row.view in
    let kids = children_of (views_of x.kids) in
    let all = asked_all (manner_of row specs) row specs kids (λ leaf. ap (λ list. children_of (views_of list)) (childless leaf)) refl in
    rw x.is (subst (λ key. (place : ℕ) (other : Specs) → LastAt held x.kids place other → AskedAt (course_under x.row x.kids (specs_of (held key).state)) place other) x.key_is
    (λ place other at. last_asked held x.kids specs (course_under x.row x.kids specs) place other (course_children (manner_of row specs) row kids specs) all (own.finals unmarked) at))
