-- A state without an entry: every tree fits it, and it gives no view anything.
use Rattle.std.proofs.Common.{◌≡◌, ℕ, false, refl, List, [], ◌∷◌}
use Rattle.std.specs.List.{list_any}
use Rattle.std.specs.Prelude.{is_some}
use Rattle.saved_state.specs.Restored.{given_values, wanted}
use Rattle.saved_state.specs.Restoring.{is_for_other_class, is_unmet}
use Rattle.saved_state.specs.State.{StateEntry}
use Rattle.view_model.specs.Forest.{Forest}
use Rattle.view_model.specs.PlainTree.{PlainView}
use Rattle.view_tree.specs.Rows.{Row}

none_unmet : (all views : List PlainView) → list_any (is_unmet [] all) views ≡ false
none_unmet all [] = refl
none_unmet all (view ∷ views) = none_unmet all views

pub fits_all : (entries : List StateEntry) (views : List PlainView) → entries ≡ [] → is_for_other_class entries views ≡ false
fits_all entries views none = rw none (none_unmet views views)

none_given : (tree : Forest Row) (list : List Row) → given_values [] tree list ≡ []
none_given tree [] = refl
none_given tree (row ∷ more) = none_given tree more

pub gives_none : (entries : List StateEntry) (tree : Forest Row) (list : List Row) → entries ≡ [] → given_values entries tree list ≡ []
gives_none entries tree list none = rw none (none_given tree list)

pub wants_none : (entries : List StateEntry) (tree : Forest Row) (key : ℕ) → entries ≡ [] → is_some (wanted entries tree key) ≡ false
wants_none entries tree key none = rw none refl
