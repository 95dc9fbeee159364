-- Acts that are refused for a cycle, or done if there is none.
use Rattle.std.proofs.Common.{◌≡◌, ℕ, Bool, true, false, List, [], ◌∷◌, Option, Some, None, refl, inl, inr}
use Rattle.std.proofs.lemmas.Bool.{cases_Bool}
use Rattle.std.specs.Option.{option_or}
use Rattle.std.specs.Prelude.{Ok}
use Rattle.view_model.specs.Changes.{facts_after_act}
use Rattle.view_model.specs.Classes.{is_relative}
use Rattle.view_model.specs.Cycles.{cycle_below, cycle_with, cyclic, first_cycle}
use Rattle.view_model.specs.declared.changes.Act.{Act}
use Rattle.view_model.specs.declared.class.Class.{Class}
use Rattle.view_model.specs.declared.refusal.Member.{Member}
use Rattle.view_model.specs.declared.refusal.Member.TheVariants as member
use Rattle.view_model.specs.Numbers.{cycle}
use Rattle.view_model.specs.declared.relative.Axis.TheVariants.{Horizontal, Vertical}
use Rattle.view_model.specs.Forest.{Forest, Nothing, Branch}
use Rattle.view_model.specs.PlainTree.{PlainView, with_facts}
use Rattle.view_model.specs.Refusals.{PlainRefusal}
use Rattle.tree_edits.specs.Applied.{IsDoneOrCyclic}
use Rattle.tree_edits.specs.Editing.{after_act, cycle_of_act, names_views, outcome_unless}
use Rattle.tree_edits.specs.Scene.{EditScene}

-- a reason, if there is one, that has the number of a cycle
abbrev IsOfCycle : Option PlainRefusal → Type 0
IsOfCycle None = Unit {0}
IsOfCycle (Some refusal) = refusal.number ≡ cycle

with_is : (name : ℕ → Member) (down : Bool) (members : List ℕ) → IsOfCycle (cycle_with name down members)
with_is name down [] = tt
with_is name down (number ∷ more) = refl

or_is : (first other : Option PlainRefusal) → IsOfCycle first → IsOfCycle other → IsOfCycle (option_or first other)
or_is None other first_is other_is = other_is
or_is (Some refusal) other first_is other_is = first_is

below_is : (name : ℕ → Member) (class : Class) (kids : Forest PlainView) → IsOfCycle (cycle_below name class kids)
below_is name class kids = elim (cases_Bool (is_relative class)) [
  | inl relative ↦ rw relative (or_is (cycle_with name false (cyclic Horizontal kids)) (cycle_with name true (cyclic Vertical kids)) (with_is name false (cyclic Horizontal kids)) (with_is name true (cyclic Vertical kids)))
  | inr other ↦ rw other tt
]

first_is : (name : ℕ → Member) (tree : Forest PlainView) → IsOfCycle (first_cycle name tree)
first_is name Nothing = tt
first_is name (Branch view below after) =
    or_is (cycle_below name view.class below) (option_or (first_cycle name below) (first_cycle name after)) (below_is name view.class below)
    (or_is (first_cycle name below) (first_cycle name after) (first_is name below) (first_is name after))

done_or_cyclic : (scene : EditScene) (number : ℕ) (act : Act) (reason : Option PlainRefusal) → IsOfCycle reason → IsDoneOrCyclic (outcome_unless scene number act reason)
done_or_cyclic scene number act None is = tt
done_or_cyclic scene number act (Some refusal) is = is

module _ (scene : EditScene) (number : ℕ) (act : Act) where
  -- the cycle of an act that names views
  pub cycle_named : names_views act ≡ true → cycle_of_act scene.tree number act ≡ first_cycle member.View (with_facts number (facts_after_act act) scene.tree)
  cycle_named names = rw names refl

  -- an act that names none has no cycle
  pub unnamed : names_views act ≡ false → outcome_unless scene number act (cycle_of_act scene.tree number act) ≡ Ok (after_act scene number act, None)
  unnamed names = rw names refl

  -- an act that a view takes is refused at most for a cycle
  pub taken_or_cyclic : names_views act ≡ true → IsDoneOrCyclic (outcome_unless scene number act (cycle_of_act scene.tree number act))
  taken_or_cyclic names =
      rw names (done_or_cyclic scene number act (first_cycle member.View (with_facts number (facts_after_act act) scene.tree)) (first_is member.View (with_facts number (facts_after_act act) scene.tree)))
