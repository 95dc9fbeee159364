-- Commands, and their texts.
use Rattle.std.proofs.Common.{◌≡◌, refl, [], ◌∷◌}
use Rattle.std.specs.Prelude.{codes, Some, None, pos, negsuc, true, false}
use Rattle.std.specs.Fmt.{digits}
use Rattle.view_model.specs.Dimensions.{mantissa}
use Rattle.view_model.specs.Facts.{no_gravity}
use Rattle.view_model.specs.declared.changes.Act.TheVariants as act
use Rattle.view_model.specs.declared.changes.Change.TheVariants as change
use Rattle.view_model.specs.declared.changes.Flag.TheVariants as flag
use Rattle.view_model.specs.declared.answer.Answer.TheVariants as answer
use Rattle.view_model.specs.declared.class.Class.TheVariants as class
use Rattle.view_model.specs.declared.placing.Across.TheVariants as across
use Rattle.view_model.specs.declared.placing.Down.TheVariants as down
use Rattle.script_lines.specs.commands.Spelled.{spelled}
use Rattle.script_lines.specs.commands.PlainCommands.{Window, Add, Act, Bounds, Dpi, Res, Inflate, Disallow, Hook, Down, Move, Up, Cancel, Save, Restore, Color, Dimen, Text}
use Rattle.line_words.specs.declared.words.naming.Name.TheVariants.{Number, Id}

pub a_window : spelled (Window (pos 100) (pos 4096)) ≡ codes "window 100 4096"
unfolding digits
a_window = refl

pub a_root : spelled (Add None class.FrameLayout (negsuc 0) (negsuc 1)) ≡ codes "add root FrameLayout match wrap"
unfolding digits
a_root = refl

pub a_child : spelled (Add (Some (Number 10)) class.View (pos 0) (pos 7)) ≡ codes "add v10 View 0 7"
unfolding digits
a_child = refl

pub an_id : spelled (Act (Number 1) (act.Id 48879)) ≡ codes "id v1 @beef"
unfolding digits
an_id = refl

pub margins : spelled (Act (Id 10) (act.Change (change.Margins (record { left = negsuc 4; top = pos 0; right = pos 1; bottom = pos 20 })))) ≡ codes "margins @a -5 0 1 20"
unfolding digits
margins = refl

pub two_axes : spelled (Act (Number 2) (act.Change (change.Gravity false (record { given = true; across = across.End; down = down.Center })))) ≡ codes "gravity v2 self end|center_vertical"
unfolding digits
two_axes = refl

pub no_axis : spelled (Act (Number 2) (act.Change (change.Gravity false no_gravity))) ≡ codes "gravity v2 self none"
unfolding digits
no_axis = refl

pub all_bounds : spelled (Bounds None) ≡ codes "bounds"
all_bounds = refl

pub a_weight : spelled (Act (Number 3) (act.Change (change.Weight 300))) ≡ codes "weight v3 1 44"
unfolding digits
a_weight = refl

pub a_way : spelled (Act (Number 3) (act.Orient true)) ≡ codes "orient v3 vertical"
unfolding digits
a_way = refl

pub an_offset : spelled (Act (Number 3) (act.Scroll (pos 60))) ≡ codes "scroll v3 60"
unfolding digits
an_offset = refl

pub a_color : spelled (Res 127 (Color (record { 0 = 255 }))) ≡ codes "res @7f color #000000ff"
unfolding digits
a_color = refl

pub a_dimension : spelled (Res 1 (Dimen 4294967041)) ≡ codes "res @1 dimen -1 dp"
unfolding digits mantissa
a_dimension = refl

pub a_text : spelled (Res 1 (Text (codes " a "))) ≡ codes "res @1 text  a "
unfolding digits
a_text = refl

pub a_file : spelled (Inflate (codes "a.xml") (Some (Number 1))) ≡ codes "inflate a.xml into v1"
unfolding digits
a_file = refl

pub a_density : spelled (Dpi 240) ≡ codes "dpi 240"
unfolding digits
a_density = refl

pub an_answer : spelled (Act (Number 3) (act.Answer answer.Click)) ≡ codes "answer v3 click"
unfolding digits
an_answer = refl

pub no_action : spelled (Act (Number 1) (act.Intercept 0)) ≡ codes "intercept v1 none"
unfolding digits
no_action = refl

pub two_actions : spelled (Act (Number 1) (act.Intercept 36)) ≡ codes "intercept v1 move pup"
unfolding digits
two_actions = refl

pub a_flag : spelled (Act (Number 1) (act.Flag flag.Split false)) ≡ codes "flag v1 split no"
unfolding digits
a_flag = refl

pub a_disallowing : spelled (Disallow (Number 2) true) ≡ codes "disallow v2 yes"
unfolding digits
a_disallowing = refl

pub a_pointer_down : spelled (Down 0 (pos 5) (negsuc 29)) ≡ codes "down 0 5 -30"
unfolding digits
a_pointer_down = refl

pub a_pointer_that_moves : spelled (Move 9 (pos 0) (pos 1048576)) ≡ codes "move 9 0 1048576"
unfolding digits
a_pointer_that_moves = refl

pub a_pointer_up : spelled (Up 9) ≡ codes "up 9"
unfolding digits
a_pointer_up = refl

pub a_cancel : spelled Cancel ≡ codes "cancel"
a_cancel = refl

pub a_saving : spelled Save ≡ codes "save"
a_saving = refl

pub the_kept_state : spelled (Restore None) ≡ codes "restore"
the_kept_state = refl

pub a_state : spelled (Restore (Some (codes "56aB"))) ≡ codes "restore 56aB"
a_state = refl

pub a_hook : spelled (Hook (Number 3) (record { view = Number 2; change = change.Size (pos 40) (negsuc 0) } ∷ record { view = Id 7; change = change.Weight 256 } ∷ []) false) ≡ codes "hook v3 size v2 40 match ; weight @7 1 0"
unfolding digits
a_hook = refl

pub a_hook_that_cannot_be_armed : spelled (Hook (Number 3) (record { view = Number 2; change = change.Size (pos 40) (negsuc 0) } ∷ []) true) ≡ codes "hook v3 size v2 40 match ; frame"
unfolding digits
a_hook_that_cannot_be_armed = refl

pub a_hook_without_edits : spelled (Hook (Number 3) [] true) ≡ codes "hook v3 frame"
unfolding digits
a_hook_without_edits = refl
