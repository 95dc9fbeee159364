-- At which views lines request layout, and what they leave with all others.
use Rattle.std.specs.Prelude.{◌≡◌, ℕ, Bool, true, false, if◌then◌else◌, is_some, List, [], ◌∷◌, ◌++◌, map, Option, Some}
use Rattle.std.specs.Prelude.{None, Result, Ok, Err}
use Rattle.std.specs.Option.{option_map}
use Rattle.saved_state.specs.Restoring.{given}
use Rattle.saved_state.specs.State.{StateEntry, decoded}
use Rattle.script_lines.specs.commands.PlainCommands.{PlainCommand}
use Rattle.script_lines.specs.commands.PlainCommands as command
use Rattle.tree_edits.specs.Asking.{requests_layout as act_requests}
use Rattle.tree_edits.specs.Editing.{hides, turns}
use Rattle.tree_edits.specs.declared.edits.Edit.{Edit}
use Rattle.tree_edits.specs.declared.edits.Edit.TheVariants as edit
use Rattle.view_model.specs.declared.changes.Act.{Act}
use Rattle.view_model.specs.Changes.{facts_after_act}
use Rattle.view_model.specs.Directed.{turned}
use Rattle.view_model.specs.Forest.{Forest, rows}
use Rattle.view_model.specs.PlainTree.{PlainView, numbers_of, part_of, with_facts}
use Rattle.view_tree.specs.Views.{IsLive, Views, cache_of, number_of, plain_of, state_of}
use Rattle.world_parts.specs.Naming.{named}
use Rattle.world_replies.specs.Replies.{state_bytes}
use Rattle.world_parts.specs.Touching.{ancestors_of, is_among, parent_of}
use Rattle.world_parts.specs.World.{World}

-- a view, if there is one
abbrev pub listed : Option ℕ → List ℕ
listed None = []
listed (Some number) = number ∷ []

-- the parent of a view, if both are there
abbrev pub parent_listed : Option ℕ → Forest PlainView → List ℕ
parent_listed None tree = []
parent_listed (Some number) tree = listed (parent_of number tree)

-- the numbers of those of these views whose offset or text a state sets
abbrev pub given_numbers : List StateEntry → List PlainView → List ℕ
given_numbers entries [] = []
given_numbers entries (view ∷ views) =
    if is_some (given entries view) then view.number ∷ given_numbers entries views else given_numbers entries views

-- the same by what was read of a state
abbrev pub set_numbers : Result (List StateEntry) ℕ → Forest PlainView → List ℕ
set_numbers (Ok entries) tree = given_numbers entries (rows tree)
set_numbers (Err place) tree = []

-- the same of the saved state, or of the one of a text
abbrev pub restored_numbers : World → Option (List ℕ) → List ℕ
restored_numbers world None = given_numbers world.kept (rows world.tree)
restored_numbers world (Some text) = set_numbers (decoded (state_bytes text)) world.tree

-- the views that run another way once an act has set the direction of a view
abbrev pub turned_by_act : Forest PlainView → Option ℕ → Act → List ℕ
turned_by_act tree None act = []
turned_by_act tree (Some number) act =
    if turns act
    then map (λ (view : PlainView). view.number)
    (turned (λ (view : PlainView). view.facts) false (with_facts number (facts_after_act act) tree))
    else []

-- the view of an act, if layout may be another one after it, and each that runs another way then
abbrev pub asked_by_act : Forest PlainView → Option ℕ → Act → List ℕ
asked_by_act tree view act = if act_requests act then listed view ++ turned_by_act tree view act else []

-- the view of an act, if the act takes it out of layout
abbrev pub gone_by_act : Option ℕ → Act → List ℕ
gone_by_act view act = if hides act then listed view else []

-- the numbers of the views at which a line that is no frame requests layout
abbrev pub asked_views : World → PlainCommand → List ℕ
asked_views world (command.Window w h) = []
asked_views world (command.Dpi dpi) = []
asked_views world (command.Res id value) = []
asked_views world (command.Inflate name None) = []
asked_views world (command.Inflate name (Some into)) = listed (named world.tree into)
asked_views world (command.Add None class width height) = []
asked_views world (command.Add (Some parent) class width height) = listed (named world.tree parent)
asked_views world (command.Remove view) = parent_listed (named world.tree view) world.tree
asked_views world (command.Act view act) = asked_by_act world.tree (named world.tree view) act
asked_views world (command.SetText view text) = listed (named world.tree view)
asked_views world (command.Disallow view on) = []
asked_views world (command.Hook view edits bad) = []
asked_views world (command.Down p x y) = []
asked_views world (command.Move p x y) = []
asked_views world (command.Up p) = []
asked_views world command.Cancel = []
asked_views world command.Frame = []
asked_views world (command.Bounds view) = []
asked_views world (command.Pixels x y w h) = []
asked_views world command.Digest = []
asked_views world command.Save = []
asked_views world (command.Restore text) = restored_numbers world text

-- the numbers of the views that a line takes out of layout
abbrev pub gone_views : World → PlainCommand → List ℕ
gone_views world (command.Act view act) = gone_by_act (named world.tree view) act
gone_views world line = []

-- whether a view is one of these, or around one of them
abbrev pub is_on_paths : List ℕ → Forest PlainView → ℕ → Bool
is_on_paths [] tree number = false
is_on_paths (asked ∷ more) tree number =
    if is_among number (asked ∷ ancestors_of asked tree) then true else is_on_paths more tree number

-- whether a view is one of these, or below one of them
abbrev pub is_in_parts : List ℕ → Forest PlainView → ℕ → Bool
is_in_parts [] tree number = false
is_in_parts (gone ∷ more) tree number =
    if is_among number (numbers_of (part_of gone tree)) then true else is_in_parts more tree number

-- whether layout was requested at a view or below it, or the view was taken out of layout
abbrev pub is_excused : List ℕ → List ℕ → Forest PlainView → ℕ → Bool
is_excused asked gone tree number = if is_on_paths asked tree number then true else is_in_parts gone tree number

-- all other views that stay keep what layout left with them, and their sizes
abbrev pub LeavesBut : List ℕ → List ℕ → Forest PlainView → Views → Views → Type 0
LeavesBut asked gone tree old new =
    (key : ℕ) → IsLive old key → IsLive new key → is_excused asked gone tree (number_of old key) ≡ false
    → (state_of new key ≡ state_of old key) × (cache_of new key ≡ cache_of old key)

-- a line leaves all views that it has no reason to lay out
abbrev pub LeavesUnasked : World → PlainCommand → Views → Views → Type 0
LeavesUnasked world line old new = LeavesBut (asked_views world line) (gone_views world line) world.tree old new

-- the numbers of the views at which an edit requests layout
abbrev pub numbers_asked : Views → Edit → List ℕ
numbers_asked views (edit.Add parent class width height) = listed (option_map (number_of views) parent)
numbers_asked views (edit.Remove view) = listed (parent_of (number_of views view) (plain_of views))
numbers_asked views (edit.Act view act) = asked_by_act (plain_of views) (Some (number_of views view)) act
numbers_asked views (edit.Text view text) = number_of views view ∷ []

-- the numbers of the views that an edit takes out of layout
abbrev pub numbers_gone : Views → Edit → List ℕ
numbers_gone views (edit.Add parent class width height) = []
numbers_gone views (edit.Remove view) = []
numbers_gone views (edit.Act view act) = gone_by_act (Some (number_of views view)) act
numbers_gone views (edit.Text view text) = []
