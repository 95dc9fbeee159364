-- Worked hooks, by computation.
use Rattle.std.specs.Prelude.{◌≡◌, pos, refl, List, [], ◌∷◌, None, Some}
use Rattle.geom_core.specs.declared.geometry.Size.{Size}
use Rattle.size_hooks.specs.Hook.{Hook}
use Rattle.size_hooks.specs.Hooks.{armed, disarmed, edit_of, hook_of, reported_as}
use Rattle.view_model.specs.declared.changes.Change.TheVariants as change
use Rattle.view_model.specs.declared.changes.NumEdit.{NumEdit}

abbrev small : Size
small = record { w = pos 10; h = pos 20 }

abbrev large : Size
large = record { w = pos 40; h = pos 20 }

abbrev heavier : NumEdit
heavier = record { view = 2; change = change.Weight 512 }

abbrev wider : NumEdit
wider = record { view = 2; change = change.Size (pos 40) (pos 20) }

-- the hook of view 3 makes two edits of view 2
abbrev of_three : Hook
of_three = record { view = 3; reported = small; edits = wider ∷ heavier ∷ [] }

abbrev of_two : Hook
of_two = record { view = 2; reported = small; edits = [] }

abbrev both : List Hook
both = armed of_two (armed of_three [])

first_edit : edit_of (hook_of both 3) 0 ≡ Some wider
first_edit = refl

second_edit : edit_of (hook_of both 3) 1 ≡ Some heavier
second_edit = refl

no_third_edit : edit_of (hook_of both 3) 2 ≡ None
no_third_edit = refl

no_such_hook : hook_of both 4 ≡ None
no_such_hook = refl

-- a view has one hook
armed_again : hook_of (armed (record of_three { edits = heavier ∷ [] }) both) 3 ≡ Some (record of_three { edits = heavier ∷ [] })
armed_again = refl

one_is_taken_away : disarmed 3 both ≡ of_two ∷ []
one_is_taken_away = refl

a_size_is_reported : reported_as 3 large both ≡ record of_three { reported = large } ∷ of_two ∷ []
a_size_is_reported = refl

-- a view without a hook gets none
nothing_is_reported : reported_as 4 large both ≡ both
nothing_is_reported = refl
