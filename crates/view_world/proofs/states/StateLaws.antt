-- A world that saves a state, or restores one.
use Rattle.std.proofs.Common.{◌≡◌, ◌≢◌, ℕ, true, List, [], Option, Some, None, Result, Ok, Err, refl, sym, ◌∙◌, ap}
use Rattle.std.specs.Prelude.{OnErr, OnOk, is_some}
use Rattle.saved_state.specs.Restored.{Restates}
use Rattle.saved_state.specs.Restoring.{is_for_other_class, restored}
use Rattle.saved_state.specs.Saving.{saved_of}
use Rattle.saved_state.specs.State.{StateEntry, decoded, encoded}
use Rattle.view_model.specs.Forest.{Forest, Nothing, Branch, rows}
use Rattle.view_model.specs.Geometry.{Laid}
use Rattle.view_model.specs.PlainTree.{PlainView}
use Rattle.view_tree.specs.Rows.{Row, first_key}
use Rattle.view_tree.specs.Views.{Held, Views, geometry_of, held_of, plain_of, plain_rows}
use Rattle.view_world.specs.screen.Changed.{CarriesOut}
use Rattle.view_world.specs.screen.KeyedScreen.{KeyedScreen, geometry_in, world_of}
use Rattle.world_replies.specs.Replies.{state_bytes, state_text}
use Rattle.view_world.specs.saving.Stated.{TakesUp}
use Rattle.world_parts.specs.Reply.{Done, Refused, Reply}
use Rattle.view_world.specs.world.Step.{saved, taken_up, with_values, with_state}
use Rattle.world_parts.specs.World.{World}
use Rattle.world_parts.specs.declared.fault.StepFault.{StepFault}
use Rattle.world_parts.specs.declared.fault.StepFault.TheVariants as fault
use Rattle.world_replies.specs.declared.response.Response.{Response}
use Rattle.world_replies.specs.declared.response.Response.TheVariants as response
use Rattle.view_world.proofs.worlds.WorldLaws.{geometry_in-same}

-- the state of a tree that has a root

pub rooted : (tree : Forest Row) (root : Option ℕ) → root ≡ first_key tree → is_some root ≡ true → tree ≢ Nothing
rooted Nothing root is some none = absurd (let e = ap is_some is in cc)
rooted (Branch row kids siblings) root is some none = absurd (cc)

saved_some : (world : World) (held : ℕ → Held) (tree : Forest Row) (reply : Reply) → tree ≢ Nothing
    → Done (record world { kept = saved_of world.tree }) (state_text (encoded (saved_of world.tree))) ≡ reply → saved world (plain_rows held tree) ≡ reply
saved_some world held Nothing reply some is = absurd (some refl)
saved_some world held (Branch row kids siblings) reply some is = is

ok_states : {A : Type 0} (read : Result A ℕ) (one other : A) → read ≡ Ok one → read ≡ Ok other → other ≡ one
ok_states read one other first second = (cc)

-- the bytes of a state were read back
pub state_kept : (old : KeyedScreen) (bytes : List ℕ) (states : List StateEntry) → old.views.tree ≢ Nothing → bytes ≡ encoded (saved_of (plain_of old.views))
    → decoded bytes ≡ Ok (saved_of (plain_of old.views)) → decoded bytes ≡ Ok states
    → CarriesOut (saved (world_of old) (plain_of old.views)) (record old { kept = states; saved = bytes }) (Ok response.State)
state_kept old bytes states some is back read = (
  saved_some (world_of old) (held_of old.views) old.views.tree _ some
      (rw (ok_states (decoded bytes) (saved_of (plain_of old.views)) states back read, is) refl),
  tt,
)

-- a state that is restored in a tree that has a root

taken_none : (world : World) (held : ℕ → Held) (tree : Forest Row) → tree ≢ Nothing → taken_up world (plain_rows held tree) None ≡ with_values world world.kept
taken_none world held Nothing some = absurd (some refl)
taken_none world held (Branch row kids siblings) some = refl

taken_some : (world : World) (held : ℕ → Held) (tree : Forest Row) (text : List ℕ) → tree ≢ Nothing → taken_up world (plain_rows held tree) (Some text) ≡ with_state world (decoded (state_bytes text))
taken_some world held Nothing text some = absurd (some refl)
taken_some world held (Branch row kids siblings) text some = refl

-- the world with another tree that has the bounds of the old one
world_restored : (old : KeyedScreen) (new : Views) (tree : Forest PlainView) → plain_of new ≡ tree → new.next ≡ old.views.next → geometry_of new ≡ geometry_of old.views
    → record (world_of old) { tree = tree } ≡ world_of (record old { views = new })
world_restored old new tree plain next geometry =
    let with : Forest PlainView → ℕ → List Laid → World = λ trees next laid. record (world_of old) { tree = trees; next = next; geometry = laid } in
    ap (λ (trees : Forest PlainView). with trees old.views.next (geometry_in old.stage old.views)) (sym plain)
    ∙ ap (λ (next : ℕ). with (plain_of new) next (geometry_in old.stage old.views)) (sym next)
    ∙ ap (with (plain_of new) new.next) (sym (geometry_in-same old.stage old.views new geometry))

pub values_taken : (old : KeyedScreen) (new : Views) (states : List StateEntry) (result : Result Response StepFault) → TakesUp (is_for_other_class states (rows (plain_of old.views))) result
    → OnOk result (plain_of new ≡ restored states (plain_of old.views)) → OnErr result (new ≡ old.views) → OnOk result (Restates states old.views new) → geometry_of new ≡ geometry_of old.views
    → CarriesOut (with_values (world_of old) states) (record old { views = new }) result
values_taken old new states (Ok reported) taken plain unchanged same geometry =
    let reply : with_values (world_of old) states ≡ Done (world_of (record old { views = new })) [] =
    rw taken.0 (ap (λ (world : World). Done world []) (world_restored old new (restored states (plain_of old.views)) plain same.next geometry)) in
    rw taken.1 (reply, tt)
values_taken old new states (Err (fault.Refused refusal)) taken plain unchanged same geometry = rw taken.0 (ap Refused (sym taken.1))
values_taken old new states (Err fault.NoMemory) taken plain unchanged same geometry = tt
values_taken old new states (Err fault.Sink) taken plain unchanged same geometry = absurd taken
values_taken old new states (Err fault.Shelf) taken plain unchanged same geometry = absurd taken

pub kept_taken : (old : KeyedScreen) (new : KeyedScreen) (result : Result Response StepFault) → old.views.tree ≢ Nothing
    → CarriesOut (with_values (world_of old) old.kept) new result → CarriesOut (taken_up (world_of old) (plain_of old.views) None) new result
kept_taken old new result some carried = rw (taken_none (world_of old) (held_of old.views) old.views.tree some) carried

pub text_taken : (old : KeyedScreen) (new : KeyedScreen) (text bytes : List ℕ) (states : List StateEntry) (result : Result Response StepFault) → old.views.tree ≢ Nothing
    → bytes ≡ state_bytes text → decoded bytes ≡ Ok states
    → CarriesOut (with_values (world_of old) states) new result → CarriesOut (taken_up (world_of old) (plain_of old.views) (Some text)) new result
text_taken old new text bytes states result some is read carried =
    let at : decoded (state_bytes text) ≡ Ok states = ap decoded (sym is) ∙ read in
    rw (taken_some (world_of old) (held_of old.views) old.views.tree text some, at) carried
