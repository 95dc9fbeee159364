-- Views of a tree that has the texts that a state gives.
use Rattle.std.proofs.Common.{◌≡◌, ℕ, Some, None, Option, refl, ◌∙◌, ap, inl, inr, List}
use Rattle.std.proofs.lemmas.Bool.{cases_Bool}
use Rattle.std.specs.Prelude.{◌==◌}
use Rattle.saved_state.specs.Restored.{restated, wanted, with_text_of}
use Rattle.saved_state.specs.Restoring.{given}
use Rattle.saved_state.specs.State.{StateEntry}
use Rattle.saved_state.specs.declared.value.Value.{Value}
use Rattle.saved_state.specs.declared.value.Value.TheVariants.{Offset, Text}
use Rattle.view_model.specs.Forest.{Forest, Nothing, Branch, or_else}
use Rattle.view_model.specs.PlainTree.{PlainView}
use Rattle.view_tree.specs.Rows.{Row, head_view, part_from}

-- the part from a key on
or_restated : (entries : List StateEntry) (first second : Forest Row) → or_else (restated entries first) (restated entries second) ≡ restated entries (or_else first second)
or_restated entries Nothing second = refl
or_restated entries (Branch row kids siblings) second = refl

pub part-restated : (entries : List StateEntry) (key : ℕ) (tree : Forest Row) → part_from key (restated entries tree) ≡ restated entries (part_from key tree)
part-restated entries key Nothing = refl
part-restated entries key (Branch row kids siblings) = elim (cases_Bool (row.key == key)) [
  | inl e ↦ rw e refl
  | inr e ↦ rw (e, part-restated entries key kids, part-restated entries key siblings) (or_restated entries (part_from key kids) (part_from key siblings))
]

-- a view that is given a text is given the same again, and has its number
given_again : (entries : List StateEntry) (own : Option Value) (view : PlainView) → given entries (with_text_of own view) ≡ given entries view
given_again entries None view = refl
given_again entries (Some (Offset offset)) view = refl
given_again entries (Some (Text text)) view = refl

pub same_number : (own : Option Value) (view : PlainView) → (with_text_of own view).number ≡ view.number
same_number None view = refl
same_number (Some (Offset offset)) view = refl
same_number (Some (Text text)) view = refl

pub wanted-restated : (entries : List StateEntry) (tree : Forest Row) (key : ℕ) → wanted entries (restated entries tree) key ≡ wanted entries tree key
wanted-restated entries tree key = ap (λ (part : Forest Row). given entries (head_view part)) (part-restated entries key tree) ∙ by (part_from key tree)
  where
    by : (part : Forest Row) → given entries (head_view (restated entries part)) ≡ given entries (head_view part)
    by Nothing = refl
    by (Branch row kids siblings) = given_again entries (given entries row.view) row.view

pub number-restated : (entries : List StateEntry) (tree : Forest Row) (key : ℕ) → (head_view (part_from key (restated entries tree))).number ≡ (head_view (part_from key tree)).number
number-restated entries tree key = ap (λ (part : Forest Row). (head_view part).number) (part-restated entries key tree) ∙ by (part_from key tree)
  where
    by : (part : Forest Row) → (head_view (restated entries part)).number ≡ (head_view part).number
    by Nothing = refl
    by (Branch row kids siblings) = same_number (given entries row.view) row.view
