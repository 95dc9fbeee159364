-- Parents of views that are added or removed.
use Rattle.std.proofs.Common.{◌≡◌, ℕ, ◌+◌, ◌<◌, ◌≤◌, ◌==◌, true, Option, Some, None, [], ◌∷◌, arith, inl, inr}
use Rattle.std.proofs.lemmas.Bool.{cases_Bool}
use Rattle.std.specs.Prelude.{if◌then◌else◌, IfSome, MatchOption}
use Rattle.kept_views.proofs.grown.Pruned.{HasChild, has_child, parent_live, pruned_is, same_row}
use Rattle.kept_views.proofs.edits.Replaced.{replaced}
use Rattle.view_model.specs.Forest.{Forest, Nothing, Branch}
use Rattle.view_tree.specs.Rows.{Row, ancestors, count_of_key, grown_at_key, pruned_at_key, with_child}
use Rattle.view_tree.specs.Views.{IsLive, IsTree, Views}
use Rattle.view_tree.proofs.forest.GrownParts.{count_of_key-grown_more}
use Rattle.view_tree.proofs.forest.KeyLaws.{zero_or_more}
use Rattle.tree_edits.specs.Applied.{IsAddable}

replaced_head : (key : ℕ) (row : Row) (kids siblings : Forest Row) → row.key == key ≡ true → 0 < count_of_key key (Branch row kids siblings)
replaced_head key row kids siblings e = rw e (omega arith)

-- a view stays if others are added
pub still_live : (parent : ℕ) (new tree : Forest Row) → 0 < count_of_key parent tree → 0 < count_of_key parent (grown_at_key parent new tree)
still_live parent new tree live = let more = count_of_key-grown_more parent parent new tree in omega arith

-- a view stays if its children change
replaced_more : (key : ℕ) (g : Forest Row → Forest Row) (list : Forest Row) → 0 < count_of_key key list → 0 < count_of_key key (replaced key same_row g list)
replaced_more key g Nothing live = absurd (omega arith)
replaced_more key g (Branch row kids siblings) live = elim (cases_Bool (row.key == key)) [
  | inl e ↦ rw e (replaced_head key row (g kids) siblings e)
  | inr ne ↦
      let live : 0 < (if row.key == key then 1 else 0) + (count_of_key key kids + count_of_key key siblings) = live in
      let live = rw ne at live in
      elim (zero_or_more (count_of_key key kids)) [
        | inl z ↦ let b = replaced_more key g siblings (omega arith) in rw ne (omega arith)
        | inr p ↦ let a = replaced_more key g kids p in rw ne (omega arith)
      ]
]

-- a parent stays if a child of it is removed
pub parent_stays : (parent view : ℕ) (list : Forest Row) → ((key : ℕ) → count_of_key key list ≤ 1) → HasChild parent view list → 0 < count_of_key parent (pruned_at_key view list)
parent_stays parent view list once h = rw (pruned_is parent view list once h) (replaced_more parent (pruned_at_key view) list (parent_live parent view list h))

-- the parent of an added view, and that of a removed one, are there
pub parent_after : (old mid : Views) (parent : Option ℕ) (new : Forest Row) → IsAddable old parent → mid.tree ≡ with_child parent new old.tree → IfSome parent (λ above. IsLive mid above)
parent_after old mid None new addable tree = tt
parent_after old mid (Some parent) new addable tree = rw tree (still_live parent new old.tree addable.0)

pub parent_left : (old mid : Views) (view : ℕ) (parent : Option ℕ) → IsTree old → IsLive old view
    → MatchOption parent (ancestors view old.tree ≡ []) (λ above. ancestors view old.tree ≡ above ∷ ancestors above old.tree)
    → mid.tree ≡ pruned_at_key view old.tree → IfSome parent (λ above. IsLive mid above)
parent_left old mid view None is live path tree = tt
parent_left old mid view (Some parent) is live path tree =
    rw tree (parent_stays parent view old.tree is.keys (has_child parent view (ancestors parent old.tree) old.tree live path))
