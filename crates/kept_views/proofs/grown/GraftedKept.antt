-- A sapling is added: with a request at its parent it keeps what every tree keeps between lines.
use Rattle.std.proofs.Common.{◌≡◌, ℕ, ◌+◌, ◌<◌, ◌≤◌, ◌==◌, Bool, true, false, Some, None, ◌∷◌, arith, ap, ◌∙◌, sym, refl, subst, inl, inr}
use Rattle.std.specs.Prelude.{if◌then◌else◌}
use mathlib.Core.Path.{fun_ext}
use Rattle.view_model.specs.Forest.{Forest, Nothing, Branch}
use Rattle.view_model.specs.Sprouts.{Seed}
use Rattle.view_tree.specs.tree.Grafted.{Grafted}
use Rattle.view_tree.specs.tree.Requests.{among, asking, pressed, unforced}
use Rattle.view_tree.specs.Rows.{Row, ancestors, count_of_key, first_key, grown_at_key, later_siblings}
use Rattle.view_tree.specs.Views.{IsLive, IsTree, Views, held_of}
use Rattle.view_tree.proofs.forest.DepthLaws.{ancestors-grown}
use Rattle.view_tree.proofs.forest.GrownParts.{count_of_key-grown_more}
use Rattle.view_tree.proofs.forest.KeyLaws.{own_more, times_self, zero_or_more}
use Rattle.view_tree.proofs.forest.NumberLaws.{sum-grown}
use Rattle.kept_views.specs.Kept.{IsConsistent, IsKept}
use Rattle.kept_views.specs.Pressing.{path_of}
use Rattle.kept_views.proofs.edits.Edits.{AllHidden}
use Rattle.kept_views.proofs.grown.Fresh.{AllCalm, came_calm, came_hidden, new_tree}
use Rattle.kept_views.proofs.KeptFrames.{Same}
use Rattle.kept_views.proofs.edits.Lines.{grow_kept}
use Rattle.kept_views.proofs.edits.Paths.{unforced_off}
use Rattle.kept_views.proofs.edits.Requested.{pressed_out}

-- a sapling that is the whole tree
pub grafted_root : (old new : Views) (sapling : Forest Seed) (key : ℕ) → Grafted old None sapling key new → IsConsistent new
grafted_root old new sapling key came =
    subst (IsKept (held_of new)) (sym came.gained.tree)
    (new_tree (held_of new) came.added (came_hidden old new None came.added came.gained) (came_calm old new None came.added came.gained))

-- one view with all below it
record IsOne (list : Forest Row) : Type 0 where
  row : Row
  kids : Forest Row
  is : list ≡ Branch row kids Nothing

one_view : (list : Forest Row) (key : ℕ) → first_key list ≡ Some key → later_siblings list ≡ Nothing → IsOne list
one_view Nothing key first alone = absurd (cc)
one_view (Branch row kids siblings) key first alone = record { row = row; kids = kids; is = ap (Branch row kids) alone }

-- the parent of a sapling is still there, so that layout can be requested of it
pub grafted_live : (old mid : Views) (sapling : Forest Seed) (parent key : ℕ) → IsLive old parent → Grafted old (Some parent) sapling key mid → IsLive mid parent
grafted_live old mid sapling parent key live came =
    let more = count_of_key-grown_more parent parent came.added old.tree in
    subst (λ tree. 0 < count_of_key parent tree) (sym came.gained.tree) (omega arith)

-- a sapling below a parent: the tree before it is added, after that, and after the request
module _ (old mid new : Views) (sapling : Forest Seed) (parent key : ℕ) (is : IsTree old) (after : IsTree mid) (live : IsLive old parent) (came : Grafted old (Some parent) sapling key mid)
    (same : new.tree ≡ mid.tree) (held : (other : ℕ) → held_of new other ≡ pressed (held_of mid) (asking (held_of mid) parent mid.tree) other) where
  -- what was there has other keys
  apart : (other : ℕ) → 0 < count_of_key other old.tree → count_of_key other came.added ≡ 0
  apart other here = elim (zero_or_more (count_of_key other came.added)) [
    | inl none ↦ none
    | inr more ↦ let none = came.gained.unused other more in absurd (omega arith)
  ]

  stays : Same (held_of old) (held_of mid) old.tree
  stays other here = came.gained.others other (apart other here)

  requested : IsKept (pressed (held_of mid) (asking (held_of mid) parent mid.tree)) mid.tree → IsConsistent new
  requested k = subst (IsKept (held_of new)) (sym same) (subst (λ held. IsKept held mid.tree) (sym (fun_ext held)) k)

  grown_once : (list : Forest Row) → came.added ≡ list → (other : ℕ) → count_of_key other (grown_at_key parent list old.tree) ≤ 1
  grown_once list one other = subst (λ tree. count_of_key other tree ≤ 1) (came.gained.tree ∙ ap (λ list. grown_at_key parent list old.tree) one) (after.keys other)

  with_one : (row : Row) (kids : Forest Row) → came.added ≡ Branch row kids Nothing → IsConsistent old → IsConsistent new
  with_one row kids one k =
      let there : 0 < count_of_key row.key came.added = subst (λ list. 0 < count_of_key row.key list) (sym one) (times_self row kids Nothing) in
      let count : count_of_key row.key (grown_at_key parent (Branch row kids Nothing) old.tree) ≡ count_of_key row.key old.tree + count_of_key row.key (Branch row kids Nothing) =
      sum-grown (λ (other : Row). if other.key == row.key then 1 else 0) parent (Branch row kids Nothing) old.tree live (is.keys parent) in
      let own = own_more row kids Nothing row.key refl in
      let few = grown_once (Branch row kids Nothing) one row.key in
      let lone : count_of_key row.key kids ≡ 0 = omega arith in
      let tree : mid.tree ≡ grown_at_key parent (Branch row kids Nothing) old.tree = came.gained.tree ∙ ap (λ list. grown_at_key parent list old.tree) one in
      let kept = grow_kept parent row kids old.tree (held_of old) (held_of mid) is.keys live (grown_once (Branch row kids Nothing) one) (came.gained.unused row.key there) lone
      (subst (AllHidden (held_of mid)) one (came_hidden old mid (Some parent) came.added came.gained)) (subst (AllCalm (held_of mid)) one (came_calm old mid (Some parent) came.added came.gained)) stays k in
      requested (subst (λ tree. IsKept (pressed (held_of mid) (asking (held_of mid) parent tree)) tree) (sym tree) kept)

  -- the tree is consistent again
  pub grafted_kept : IsConsistent old → IsConsistent new
  grafted_kept k = let one = one_view came.added key came.first came.alone in with_one one.row one.kids one.is k

  -- and each view that was there and is not on the path of the parent keeps all that is kept of it
  pub grafted_unasked : (other : ℕ) → IsLive old other → among other (path_of parent old.tree) ≡ false → held_of new other ≡ held_of old other
  grafted_unasked other here off =
      let path : ancestors parent mid.tree ≡ ancestors parent old.tree = ap (ancestors parent) came.gained.tree ∙ ancestors-grown parent parent came.added old.tree (apart parent live) in
      held other ∙ pressed_out (held_of mid) (asking (held_of mid) parent mid.tree) other (step (parent == other) (ap (λ above. among other (parent ∷ above)) path ∙ off)) ∙ stays other here
    where
      step : (own : Bool) → (if own then true else among other (ancestors parent mid.tree)) ≡ false → (if own then true else among other (unforced (held_of mid) (ancestors parent mid.tree))) ≡ false
      step true e = e
      step false e = unforced_off other (held_of mid) (ancestors parent mid.tree) e
