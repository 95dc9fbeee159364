-- The ancestors of a view, by the keys of the views and by their numbers.
use Rattle.std.proofs.Common.{◌≡◌, ℕ, ◌<◌, true, List, [], ◌∷◌, map, refl, sym, ◌∙◌, ap, arith, inl, inr}
use Rattle.std.proofs.lemmas.Bool.{cases_Bool}
use Rattle.std.specs.Prelude.{◌==◌}
use Rattle.touch_dispatch.specs.reaching.TreeEvents.{first_number, parent_number}
use Rattle.view_model.specs.Forest.{Forest, Nothing, Branch, EveryRow, has_row}
use Rattle.view_model.specs.PlainTree.{part_of}
use Rattle.view_tree.proofs.forest.DepthLaws.{positive}
use Rattle.view_tree.proofs.forest.KeyLaws.{Agree, Within, here, in_below, in_after, absent, from_within, located, zero_or_more}
use Rattle.view_tree.proofs.forest.PlainLaws.{agree_live, plain-part}
use Rattle.view_tree.specs.Rows.{Row, ancestors, around, count_of_key, first_tree, head_view}
use Rattle.view_tree.specs.Views.{Held, IsLive, IsTree, Views, held_of, number_of, plain_of, plain_rows}
use Rattle.world_parts.specs.Touching.{ancestors_of, around_number, nearest, parent_of}

-- if no view has a key, none has its number
part_unkeyed : (held : ℕ → Held) (key number : ℕ) (tree : Forest Row) → count_of_key key tree ≡ 0 → Agree key number tree → part_of number (plain_rows held tree) ≡ Nothing
part_unkeyed held key number tree none agree = plain-part held key number tree agree ∙ ap (λ t. plain_rows held (first_tree t)) (absent key tree none)

part_keyed : (held : ℕ → Held) (key number : ℕ) (tree : Forest Row) → 0 < count_of_key key tree → Agree key number tree → has_row (part_of number (plain_rows held tree)) ≡ true
part_keyed held key number tree live agree = ap has_row (plain-part held key number tree agree) ∙ (let f = located key tree live in rw f.is refl)

-- the views around a view, if each key has its number
around-named : (named : ℕ → ℕ) (held : ℕ → Held) (outer : List ℕ) (key number : ℕ) (tree : Forest Row) → EveryRow (λ (row : Row). named row.key ≡ row.view.number) tree
    → 0 < count_of_key key tree → Agree key number tree → around_number (map named outer) number (plain_rows held tree) ≡ map named (around outer key tree)
around-named named held outer key number Nothing names live agree = absurd (omega arith)
around-named named held outer key number (Branch row kids siblings) names live agree =
    elim (cases_Bool (row.key == key)) [
      | inl e ↦ rw (agree.0, e) refl
      | inr e ↦
          let live = rw e at live in
          elim (zero_or_more (count_of_key key kids)) [
            | inl z ↦ rw (agree.0, e, part_unkeyed held key number kids z agree.1, z) (around-named named held outer key number siblings names.2 (omega arith) agree.2)
            | inr l ↦ rw (agree.0, e, part_keyed held key number kids l agree.1, positive (count_of_key key kids) l) (
                ap (λ n. around_number (n ∷ map named outer) number (plain_rows held kids)) (sym names.0)
                ∙ around-named named held (row.key ∷ outer) key number kids names.1 l agree.1
                )
          ]
    ]

every_named : (named : ℕ → ℕ) (tree : Forest Row) → ((row : Row) (kids siblings : Forest Row) → Within (Branch row kids siblings) tree → named row.key ≡ row.view.number)
    → EveryRow (λ (row : Row). named row.key ≡ row.view.number) tree
every_named named Nothing each = tt
every_named named (Branch row kids siblings) each = (
  each row kids siblings here,
  every_named named kids (λ r b a w. each r b a (in_below w)),
  every_named named siblings (λ r b a w. each r b a (in_after w)),
)

-- each view of a tree has the number of its key
pub numbers_named : (views : Views) → IsTree views → EveryRow (λ (row : Row). number_of views row.key ≡ row.view.number) views.tree
numbers_named views is =
    every_named (number_of views) views.tree
    (λ row kids siblings w. ap (λ (t : Forest Row). (head_view t).number) (from_within row kids siblings w (is.keys row.key)))

-- the ancestors of a number are the numbers of the ancestors of its key
pub ancestors_named : (views : Views) (key : ℕ) → IsTree views → IsLive views key
    → ancestors_of (number_of views key) (plain_of views) ≡ map (number_of views) (ancestors key views.tree)
ancestors_named views key is live =
    around-named (number_of views) (held_of views) [] key (number_of views key) views.tree (numbers_named views is) live (agree_live views key is live)

nearest_named : (views : Views) (keys : List ℕ) → nearest (map (number_of views) keys) ≡ first_number views keys
nearest_named views [] = refl
nearest_named views (key ∷ keys) = refl

-- the parent of a number is the number of the parent of its key
pub parent_named : (views : Views) (key : ℕ) → IsTree views → IsLive views key → parent_of (number_of views key) (plain_of views) ≡ parent_number views key
parent_named views key is live = ap nearest (ancestors_named views key is live) ∙ nearest_named views (ancestors key views.tree)
