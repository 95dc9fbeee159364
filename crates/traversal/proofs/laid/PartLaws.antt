-- The bounds of the views of a part of a tree, by those of its parts.
use Rattle.std.proofs.Common.{◌≡◌, ℕ, ◌<◌, List, [], ◌++◌, sym, ap, append_assoc}
use Rattle.std.proofs.lemmas.List.{append-nil}
use Rattle.view_model.specs.Forest.{Forest}
use Rattle.view_model.specs.Geometry.{Laid}
use Rattle.view_tree.specs.Rows.{Row, children_of_first, count_of_key, first_tree, head_view, later_siblings, part_from}
use Rattle.view_tree.specs.Views.{Held, laid_at, laid_rows}
use Rattle.view_tree.proofs.forest.KeyLaws.{located}

-- the bounds of a view itself
abbrev pub laid_head : (ℕ → Held) → ℕ → Forest Row → List Laid
laid_head held key tree = laid_at (head_view (part_from key tree)).number (held key).state.bounds

module _ (held : ℕ → Held) (key : ℕ) (tree : Forest Row) (live : 0 < count_of_key key tree) where
  -- the bounds of a view and of all below it
  pub laid_alone : laid_rows held (first_tree (part_from key tree)) ≡ laid_head held key tree ++ laid_rows held (children_of_first (part_from key tree))
  laid_alone =
      let f = located key tree live in
      rw (f.is, f.key_is) (ap (λ (l : List Laid). laid_at f.row.view.number (held key).state.bounds ++ l) (append-nil (laid_rows held f.kids)))

  -- and its later siblings
  pub laid_list : laid_rows held (part_from key tree) ≡ laid_rows held (first_tree (part_from key tree)) ++ laid_rows held (later_siblings (part_from key tree))
  laid_list =
      let f = located key tree live in
      rw f.is (parts (laid_at f.row.view.number (held f.row.key).state.bounds) (laid_rows held f.kids) (laid_rows held f.siblings))
    where
      parts : (own kids siblings : List Laid) → own ++ (kids ++ siblings) ≡ (own ++ (kids ++ [])) ++ siblings
      parts own kids siblings = rw append-nil (sym (append_assoc own kids siblings))
