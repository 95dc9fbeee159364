-- An event of a script at the root.
use Rattle.std.proofs.Common.{◌≡◌, ℕ, ℤ, ◌≤◌, ◌+◌, ◌*◌, Bool, true, false, refl, sym, ◌∙◌, ap, subst, arith}
use Rattle.std.specs.Prelude.{◌&&◌, is_some}
use Rattle.touch_event.specs.declared.event.Event.{Event}
use Rattle.view_model.specs.Facts.{is_shown}
use Rattle.view_model.specs.Forest.{Forest, Nothing, Branch, count_of}
use Rattle.view_tree.specs.Rows.{Row, first_tree, part_from, head_view, views_of, later_siblings, count_of_number}
use Rattle.view_tree.specs.Views.{IsLive, IsTree, Views, facts_of, number_of, state_of}
use Rattle.view_tree.proofs.forest.KeyLaws.{located, number-within}
use Rattle.touch_dispatch.proofs.counts.OnceTheorem.{IsOnce, once_part, room_root}
use Rattle.touch_dispatch.proofs.steps.SceneLaws.{rect_live}
use Rattle.touch_dispatch.specs.Dispatch.{Scene, dispatched, reach}
use Rattle.touch_dispatch.specs.handling.Handling.{Progress, many}
use Rattle.touch_dispatch.specs.Once.{AllDistinct}
use Rattle.touch_dispatch.specs.reaching.TreeEvents.{scene_of}
use Rattle.view_tree.proofs.forest.Forests.{count-within}

dispatch_yes : (scene : Scene) (list : Forest Row) (row : Row) (kids siblings : Forest Row) (event : Event) (progress : Progress) → list ≡ Branch row kids siblings → later_siblings list ≡ Nothing
    → (is_some (scene.rects row.view.number) && is_shown row.view.facts) ≡ true → dispatched scene (views_of list) event progress ≡ reach scene (views_of (first_tree list)) event progress
dispatch_yes scene Nothing row kids siblings event progress is single yes_ = refl
dispatch_yes scene (Branch r b Nothing) row kids siblings event progress is single yes_ =
    let same : r ≡ row = ap (λ (t : Forest Row). head_or r t) is in
    rw (ap (λ (r : Row). is_some (scene.rects r.view.number) && is_shown r.view.facts) same ∙ yes_) refl
  where
    head_or : Row → Forest Row → Row
    head_or row Nothing = row
    head_or row (Branch r b a) = r
dispatch_yes scene (Branch r b (Branch r' b' a')) row kids siblings event progress is single yes_ = absurd (cc)

dispatch_no : (scene : Scene) (list : Forest Row) (row : Row) (kids siblings : Forest Row) (event : Event) (progress : Progress) → list ≡ Branch row kids siblings
    → (is_some (scene.rects row.view.number) && is_shown row.view.facts) ≡ false → dispatched scene (views_of list) event progress ≡ record { yes = false; progress = progress }
dispatch_no scene list row kids siblings event progress is not_ = rw (is, not_) refl

tested : (views : Views) (slop : ℤ) (root : ℕ) (b : Bool) → IsTree views → IsLive views root → (is_some (state_of views root).bounds && is_shown (facts_of views root)) ≡ b
    → (is_some ((scene_of views slop).rects (number_of views root)) && is_shown (facts_of views root)) ≡ b
tested views slop root b is live e = ap (λ r. is_some r && is_shown (facts_of views root)) (rect_live views slop root is live) ∙ e

pub root_yes : (views : Views) (slop : ℤ) (root : ℕ) (event : Event) (progress : Progress) → IsTree views → IsLive views root → part_from root views.tree ≡ views.tree
    → (is_some (state_of views root).bounds && is_shown (facts_of views root)) ≡ true
    → dispatched (scene_of views slop) (views_of views.tree) event progress ≡ reach (scene_of views slop) (views_of (first_tree (part_from root views.tree))) event progress
root_yes views slop root event progress is live whole e =
    let f = located root views.tree live in
    let t = tested views slop root true is live e in
    dispatch_yes (scene_of views slop) views.tree f.row f.kids f.siblings event progress (sym whole ∙ f.is) is.root (subst (λ (t : Forest Row). (is_some ((scene_of views slop).rects (head_view t).number) && is_shown (head_view t).facts) ≡ true) f.is t)
    ∙ ap (λ t. reach (scene_of views slop) (views_of (first_tree t)) event progress) (sym whole)

pub root_no : (views : Views) (slop : ℤ) (root : ℕ) (event : Event) (progress : Progress) → IsTree views → IsLive views root → part_from root views.tree ≡ views.tree
    → (is_some (state_of views root).bounds && is_shown (facts_of views root)) ≡ false
    → dispatched (scene_of views slop) (views_of views.tree) event progress ≡ record { yes = false; progress = progress }
root_no views slop root event progress is live whole e =
    let f = located root views.tree live in
    let t = tested views slop root false is live e in
    dispatch_no (scene_of views slop) views.tree f.row f.kids f.siblings event progress (sym whole ∙ f.is) (subst (λ (t : Forest Row). (is_some ((scene_of views slop).rects (head_view t).number) && is_shown (head_view t).facts) ≡ false) f.is t)

-- the part of a view has no number twice, and is no greater than the tree
pub part_numbers : (views : Views) (view : ℕ) → IsTree views → IsLive views view → (n : ℕ) → count_of_number n (first_tree (part_from view views.tree)) ≤ 1
part_numbers views view is live n =
    let f = located view views.tree live in
    let w = number-within n f.within in
    let one = is.numbers n in
    rw f.is (omega (arith, w, one))

pub part_count : (views : Views) (view : ℕ) → IsLive views view → count_of (first_tree (part_from view views.tree)) ≤ count_of views.tree
part_count views view live =
    let f = located view views.tree live in
    let w = count-within f.within in
    rw f.is (omega (arith, w))

pub part_single : (list : Forest Row) → later_siblings (first_tree list) ≡ Nothing
part_single Nothing = refl
part_single (Branch row kids siblings) = refl

-- what is recorded of an event of a view fits if there is room for three entries of each view
pub part_room : (views : Views) (slop : ℤ) (view : ℕ) (event : Event) (progress : Progress) → IsTree views → IsLive views view → AllDistinct progress.gesture.targets
    → many (reach (scene_of views slop) (views_of (first_tree (part_from view views.tree))) event progress).progress ≤ many progress + 3 * count_of views.tree
part_room views slop view event progress is live all =
    let r = room_root (scene_of views slop) (first_tree (part_from view views.tree)) event progress (part_numbers views view is live) (part_single (part_from view views.tree)) all in
    let c = part_count views view live in
    omega (arith, r, c)

pub part_once : (n : ℕ) (views : Views) (slop : ℤ) (view : ℕ) (event : Event) (progress : Progress) → IsTree views → IsLive views view → AllDistinct progress.gesture.targets
    → IsOnce n progress (reach (scene_of views slop) (views_of (first_tree (part_from view views.tree))) event progress).progress
part_once n views slop view event progress is live all =
    once_part n (scene_of views slop) (first_tree (part_from view views.tree)) event progress (part_numbers views view is live) (part_single (part_from view views.tree)) all
