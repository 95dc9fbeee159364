-- The offsets that a state gives are within their limits.
use Rattle.std.proofs.Common.{ℕ, List, [], ◌∷◌, Bool, true, false, Option, Some, None, arith, inl, inr}
use Rattle.std.proofs.lemmas.Bool.{cases_Bool}
use Rattle.std.proofs.lemmas.Int.{ints}
use Rattle.std.specs.Prelude.{◌==◌, IfSome, if◌then◌else◌}
use Rattle.saved_state.specs.Restoring.{given_by, restored, restored_view, suits, value_for, with_value}
use Rattle.saved_state.specs.Saving.{FitsOffset, OffsetsFit}
use Rattle.saved_state.specs.State.{IsState, IsValueOf, RisesFrom, StateEntry}
use Rattle.saved_state.specs.Numbers.{last_version}
use Rattle.saved_state.specs.declared.value.Value.{Value}
use Rattle.saved_state.specs.declared.value.Value.TheVariants.{Offset, Text}
use Rattle.view_model.specs.Forest.{Forest, Nothing, Branch}
use Rattle.view_model.specs.PlainTree.{PlainView}

given_few : (before : ℕ) (entries : List StateEntry) (id : ℕ) → RisesFrom last_version before entries → IfSome (value_for entries id) (IsValueOf last_version)
given_few before [] id rises = tt
given_few before (entry ∷ entries) id rises = elim (cases_Bool (entry.0 == id)) [
  | inl e ↦ rw e rises.2
  | inr e ↦ rw e (given_few entry.0 entries id rises.3)
]

-- a view with a value that suits it, or with none
value_set : (value : Option Value) (view : PlainView) → IfSome value (IsValueOf last_version) → FitsOffset view → FitsOffset (with_value (given_by value view.class) view)
value_set None view few fits = fits
value_set (Some value) view few fits = step value few (suits value view.class)
  where
    step : (value : Value) → IsValueOf last_version value → (taken : Bool) → FitsOffset (with_value (if taken then Some value else None) view)
    step value few false = fits
    step (Offset offset) few true = λ scrolls. (grind (arith, ints), grind (arith, ints))
    step (Text text) few true = fits

view_fits : (entries : List StateEntry) (view : PlainView) → IsState last_version entries → FitsOffset view → FitsOffset (restored_view entries view)
view_fits entries view is fits = value_set (value_for entries view.facts.id) view (given_few 0 entries view.facts.id is.rises) fits

-- the tree with the offsets and texts that a state gives
pub restored_fits : (entries : List StateEntry) (tree : Forest PlainView) → IsState last_version entries → OffsetsFit tree → OffsetsFit (restored entries tree)
restored_fits entries Nothing is every = tt
restored_fits entries (Branch view below after) is every = (view_fits entries view is every.0, restored_fits entries below is every.1, restored_fits entries after is every.2)
