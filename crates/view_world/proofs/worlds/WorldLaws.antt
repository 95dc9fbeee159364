-- How lines change the world of a script.
use Rattle.std.proofs.Common.{◌≡◌, ℕ, Bool, true, false, List, [], refl, sym, ◌∙◌, ap, subst, arith}
use Rattle.std.specs.Prelude.{if◌then◌else◌, ◌&&◌, ◌≢◌, ℤ, pos, negsuc, ◌≤ℤ◌, ◌+ℤ◌, int_le, unsigned_abs, Option, Some, None, Result, Ok, Err}
use Rattle.std.proofs.lemmas.Int.{ints}
use Rattle.geom_core.specs.declared.geometry.Size.{Size}
use Rattle.pixel_raster.specs.Cuts.{from_zero}
use Rattle.pixel_raster.specs.Raster.{Raster, black_raster, size_of}
use Rattle.script_lines.specs.reading.Pixels.{IsPart}
use Rattle.line_words.specs.declared.words.naming.Name.{Name}
use Rattle.tree_edits.specs.Applied.{AppliesEdit}
use Rattle.view_model.specs.Classes.{has_text}
use Rattle.tree_edits.specs.Editing.{NumberedEdit, Add, Remove, ActOn, SetText, Outcome, cycle_of_act, outcome_of_add, outcome_of_act, outcome_of_edit, outcome_unless, hidden, hides, outcome_of_text, tree_after_act}
use Rattle.view_model.specs.Facets.{takes}
use Rattle.tree_edits.specs.Scene.{EditScene, scene_of}
use Rattle.view_model.specs.declared.fault.Fault.{Fault}
use Rattle.view_model.specs.declared.fault.Fault.TheVariants as fault
use Rattle.view_model.specs.declared.changes.Act.{Act}
use Rattle.view_model.specs.declared.class.Class.{Class}
use Rattle.view_model.specs.Forest.{Forest, Nothing, Branch}
use Rattle.view_model.specs.Growth.{refusal_at}
use Rattle.view_model.specs.PlainTree.{PlainView, view_in, with_text}
use Rattle.view_model.specs.Refusals.{PlainRefusal, refusal_numbered, plain_refusal}
use Rattle.view_model.specs.Numbers.{no_view, wrong_class}
use Rattle.world_parts.specs.World as plain
use Rattle.world_parts.specs.World.{World}
use Rattle.view_tree.specs.Views.{Views, geometry_of, number_of, plain_of, view_at}
use Rattle.view_world.specs.screen.Changed.{CarriesOut}
use Rattle.world_replies.specs.Responses.{IsPartOf, part_of, response_text}
use Rattle.view_world.specs.screen.Changed.{made, response_of}
use Rattle.world_parts.specs.Naming.{named}
use Rattle.world_parts.specs.Reply.{Reply, Done, Refused, on_view, with_named}
use Rattle.view_world.specs.world.Step.{acted, after_edit, after_outcome, bounds_in, bounds_reported, picture_asked, pixels_reported, touch_asked, touched, with_window}
use Rattle.world_replies.specs.Bounds.{bounds_of, bounds_text}
use Rattle.world_replies.specs.Responses.{lies_in}
use Rattle.view_world.specs.screen.KeyedScreen.{KeyedScreen, geometry_in, stage_of, window_in, window_of, world_of}
use Rattle.world_replies.specs.declared.pixels.Part.{Part}
use Rattle.world_replies.specs.declared.response.Response.{Response}
use Rattle.world_replies.specs.declared.response.Response.TheVariants as response
use Rattle.world_parts.specs.declared.fault.StepFault.{StepFault}
use Rattle.view_world.specs.declared.screen.stage.Stage.{Stage}
use Rattle.view_world.specs.declared.screen.stage.Stage.TheVariants.{NoWindow, NoFrame, Unsettled, Settled}

-- a scene in which nothing is laid out
abbrev pub unlaid : EditScene → EditScene
unlaid scene = record scene { geometry = [] }

abbrev pub unlaid_outcome : Outcome → Outcome
unlaid_outcome (Ok outcome) = Ok (unlaid outcome.0, outcome.1)
unlaid_outcome (Err refusal) = Err refusal

added-unlaid : (scene : EditScene) (parent : Option ℕ) (class : Class) (width height : ℤ) (reason : Option PlainRefusal)
    → outcome_of_add (unlaid scene) parent class width height reason ≡ unlaid_outcome (outcome_of_add scene parent class width height reason)
added-unlaid scene parent class width height None = refl
added-unlaid scene parent class width height (Some refusal) = refl

act-unlaid : (hides_it : Bool) (scene : EditScene) (number : ℕ) → (if hides_it then hidden number (unlaid scene) else []) ≡ []
act-unlaid true scene number = refl
act-unlaid false scene number = refl

unless-unlaid : (scene : EditScene) (number : ℕ) (act : Act) (reason : Option PlainRefusal) → outcome_unless (unlaid scene) number act reason ≡ unlaid_outcome (outcome_unless scene number act reason)
unless-unlaid scene number act None =
    ap (λ geometry. let s : EditScene = record { tree = tree_after_act number act scene.tree; next = scene.next; geometry = geometry } in let o : Outcome = Ok (s, None) in o)
    (act-unlaid (hides act) scene number)
unless-unlaid scene number act (Some refusal) = refl

taken-unlaid : (b : Bool) (scene : EditScene) (number : ℕ) (act : Act)
    → (let o : Outcome = if b then outcome_unless (unlaid scene) number act (cycle_of_act scene.tree number act) else Err (refusal_numbered wrong_class) in o)
    ≡ unlaid_outcome (if b then outcome_unless scene number act (cycle_of_act scene.tree number act) else Err (refusal_numbered wrong_class))
taken-unlaid true scene number act = unless-unlaid scene number act (cycle_of_act scene.tree number act)
taken-unlaid false scene number act = refl

done-unlaid : (scene : EditScene) (number : ℕ) (act : Act) (view : Option PlainView) → outcome_of_act (unlaid scene) number act view ≡ unlaid_outcome (outcome_of_act scene number act view)
done-unlaid scene number act None = refl
done-unlaid scene number act (Some view) = taken-unlaid (takes view.class act) scene number act

texted-unlaid : (b : Bool) (scene : EditScene) (number : ℕ) (text : List ℕ)
    → (let o : Outcome = if b then Ok (record (unlaid scene) { tree = with_text number text scene.tree }, None) else Err (refusal_numbered wrong_class) in o)
    ≡ unlaid_outcome (if b then Ok (record scene { tree = with_text number text scene.tree }, None) else Err (refusal_numbered wrong_class))
texted-unlaid true scene number text = refl
texted-unlaid false scene number text = refl

written-unlaid : (scene : EditScene) (number : ℕ) (text : List ℕ) (view : Option PlainView) → outcome_of_text (unlaid scene) number text view ≡ unlaid_outcome (outcome_of_text scene number text view)
written-unlaid scene number text None = refl
written-unlaid scene number text (Some view) = texted-unlaid (has_text view.class) scene number text

-- the effect of an edit is the same if nothing is laid out
pub edited-unlaid : (scene : EditScene) (edit : NumberedEdit) → outcome_of_edit (unlaid scene) edit ≡ unlaid_outcome (outcome_of_edit scene edit)
edited-unlaid scene (Add parent class width height) = added-unlaid scene parent class width height (refusal_at scene.tree parent)
edited-unlaid scene (Remove number) = refl
edited-unlaid scene (ActOn number act) = done-unlaid scene number act (view_in scene.tree number)
edited-unlaid scene (SetText number text) = written-unlaid scene number text (view_in scene.tree number)

-- a world with these views, at this stage
abbrev pub at_stage : KeyedScreen → Views → Stage → KeyedScreen
at_stage rest views stage = record rest { views = views; stage = stage }

abbrev pub outcome_in : Stage → Outcome → Outcome
outcome_in NoWindow outcome = unlaid_outcome outcome
outcome_in NoFrame outcome = unlaid_outcome outcome
outcome_in Unsettled outcome = unlaid_outcome outcome
outcome_in Settled outcome = outcome

edit-in : (rest : KeyedScreen) (stage : Stage) (old : Views) (edit : NumberedEdit)
    → after_edit (world_of (at_stage rest old stage)) edit ≡ after_outcome (world_of (at_stage rest old stage)) (outcome_in stage (outcome_of_edit (scene_of old) edit))
edit-in rest NoWindow old edit = ap (after_outcome (world_of (at_stage rest old NoWindow))) (edited-unlaid (scene_of old) edit)
edit-in rest NoFrame old edit = ap (after_outcome (world_of (at_stage rest old NoFrame))) (edited-unlaid (scene_of old) edit)
edit-in rest Unsettled old edit = ap (after_outcome (world_of (at_stage rest old Unsettled))) (edited-unlaid (scene_of old) edit)
edit-in rest Settled old edit = refl

-- the reply if an edit has this outcome
abbrev reply_in : KeyedScreen → Stage → Views → Outcome → Reply
reply_in rest stage old outcome = after_outcome (world_of (at_stage rest old stage)) (outcome_in stage outcome)

reply_in-ok : (rest : KeyedScreen) (stage : Stage) (old new : Views) (number : Option ℕ)
    → CarriesOut (reply_in rest stage old (Ok (scene_of new, number))) (at_stage rest new stage) (Ok (made number))
reply_in-ok rest NoWindow old new None = (refl, tt)
reply_in-ok rest NoWindow old new (Some number) = (refl, tt)
reply_in-ok rest NoFrame old new None = (refl, tt)
reply_in-ok rest NoFrame old new (Some number) = (refl, tt)
reply_in-ok rest Unsettled old new None = (refl, tt)
reply_in-ok rest Unsettled old new (Some number) = (refl, tt)
reply_in-ok rest Settled old new None = (refl, tt)
reply_in-ok rest Settled old new (Some number) = (refl, tt)

reply_in-refused : (rest : KeyedScreen) (stage : Stage) (old : Views) (refusal : PlainRefusal) → reply_in rest stage old (Err refusal) ≡ Refused refusal
reply_in-refused rest NoWindow old refusal = refl
reply_in-refused rest NoFrame old refusal = refl
reply_in-refused rest Unsettled old refusal = refl
reply_in-refused rest Settled old refusal = refl

pub Changed-as : (reply same : Reply) (new : KeyedScreen) (result : Result Response StepFault) → reply ≡ same → CarriesOut same new result → CarriesOut reply new result
Changed-as reply same new result e changed = subst (λ (r : Reply). CarriesOut r new result) (sym e) changed

-- an edit that was made of the tree, or was not
pub Changed-edit : (rest : KeyedScreen) (stage : Stage) (old new : Views) (edit : NumberedEdit) (result : Result (Option ℕ) Fault)
    → AppliesEdit (outcome_of_edit (scene_of old) edit) (scene_of new) result → CarriesOut (after_edit (world_of (at_stage rest old stage)) edit) (at_stage rest new stage) (response_of result)
Changed-edit rest stage old new edit (Ok number) applied =
    Changed-as _ _ (at_stage rest new stage) (Ok (made number)) (edit-in rest stage old edit ∙ ap (reply_in rest stage old) applied) (reply_in-ok rest stage old new number)
Changed-edit rest stage old new edit (Err (fault.Refused refusal)) applied =
    edit-in rest stage old edit ∙ ap (reply_in rest stage old) applied ∙ reply_in-refused rest stage old (plain_refusal refusal)
Changed-edit rest stage old new edit (Err fault.NoMemory) applied = tt

-- what is done with a view that a line names
pub Changed-on : (tree : Views) (now new : KeyedScreen) (name : Name) (view : ℕ) (next : ℕ → Reply) (result : Result Response StepFault) → tree ≡ now.views
    → ((next : ℕ → Reply) → on_view (plain_of tree) name next ≡ next (number_of tree view)) → CarriesOut (next (number_of now.views view)) new result
    → CarriesOut (on_view (plain_of now.views) name next) new result
Changed-on tree now new name view next result same found changed =
    let P : Views → Type 0 = λ v. (next : ℕ → Reply) → on_view (plain_of v) name next ≡ next (number_of v view) in
    Changed-as (on_view (plain_of now.views) name next) (next (number_of now.views view)) new result (subst P same found next) changed

-- an act that hides nothing is an edit alone
otherwise : {A : Type 0} (test : Bool) (first second : A) → test ≡ false → (if test then first else second) ≡ second
otherwise true first second e = absurd (cc)
otherwise false first second e = refl

pub Changed-acted : (world : World) (number : ℕ) (act : Act) (new : KeyedScreen) (result : Result Response StepFault) → hides act ≡ false
    → CarriesOut (after_edit world (ActOn number act)) new result → CarriesOut (acted world number act) new result
Changed-acted world number act new result stays changed =
    Changed-as (acted world number act) (after_edit world (ActOn number act)) new result (otherwise (hides act) _ (after_edit world (ActOn number act)) stays) changed

-- the window of a picture has its size
pub window-size : (now : KeyedScreen) (size : Size) → window_of now ≡ Some size → size_of now.surface ≡ size
window-size now size e = sized now.stage e
  where
    sized : (stage : Stage) → window_in stage now.surface ≡ Some size → size_of now.surface ≡ size
    sized NoWindow e = absurd cc
    sized NoFrame e = cc e
    sized Unsettled e = cc e
    sized Settled e = cc e

side-pos : (n : ℤ) → pos 0 ≤ℤ n → pos (from_zero n) ≡ n
unfolding from_zero
side-pos (pos n) h = refl
side-pos (negsuc n) h = absurd (omega (arith, ints, h))

black-size : (size : Size) → pos 0 ≤ℤ size.w → pos 0 ≤ℤ size.h → size_of (black_raster size) ≡ size
black-size size wide high = rw (side-pos size.w wide, side-pos size.h high) refl

-- a window opens
pub Changed-window : (now : KeyedScreen) (size : Size) (surface : Raster) → pos 0 ≤ℤ size.w → pos 0 ≤ℤ size.h → surface ≡ black_raster size
    → with_window (world_of now) size ≡ world_of (record now { stage = NoFrame; surface = surface })
Changed-window now size surface wide high black = rw black (ap (λ (window : Size). with_window (world_of now) window) (sym (black-size size wide high)))

-- a picture that was made black is that of its window, black
pub black_opened : (size : Size) (surface : Raster) → surface ≡ black_raster size → (black_raster (size_of surface)).pixels ≡ surface.pixels
unfolding from_zero
black_opened size surface black = rw black refl

-- where views can be touched, there are some
pub touchable-some : (world : World) → ((next : Reply) → touched world next ≡ next) → world.tree ≢ Nothing
touchable-some world touchable = some_at world.window world.tree world.stage (touchable (Done world []))
  where
    some_at : (window : Option Size) (tree : Forest PlainView) (stage : plain.Stage) → touch_asked window tree stage (Done world []) ≡ Done world [] → tree ≢ Nothing
    some_at None tree stage is e = absurd cc
    some_at (Some size) Nothing stage is e = absurd cc
    some_at (Some size) (Branch row kids siblings) stage is e = absurd cc

-- the bounds of one view are asked for
pub Changed-bounds : (now : KeyedScreen) (asked : Option Name) (name : Name) (view : ℕ) → now.stage ≡ Settled → ((next : Reply) → touched (world_of now) next ≡ next) → asked ≡ Some name
    → Some (number_of now.views view) ≡ named (plain_of now.views) name → view_in (plain_of now.views) (number_of now.views view) ≡ Some (view_at now.views view)
    → touched (world_of now) (bounds_reported (world_of now) asked) ≡ Done (world_of now) (bounds_of (geometry_of now.views) (view_at now.views view))
Changed-bounds now asked name view settled touchable en found there =
    let world = world_of now in
    touchable (bounds_reported world asked) ∙ ap (bounds_reported world) en
    ∙ ap (λ o. with_named o (λ number. bounds_in world (view_in (plain_of now.views) number))) (sym found)
    ∙ ap (bounds_in world) there
    ∙ ap (λ (stage : Stage). Done world (bounds_of (geometry_in stage now.views) (view_at now.views view))) settled

-- the bounds of a view that is not there are asked for
pub Changed-no-bounds : (now : KeyedScreen) (asked : Option Name) (name : Name) → ((next : Reply) → touched (world_of now) next ≡ next) → asked ≡ Some name
    → named (plain_of now.views) name ≡ None → touched (world_of now) (bounds_reported (world_of now) asked) ≡ Refused (refusal_numbered no_view)
Changed-no-bounds now asked name touchable en absent =
    let world = world_of now in
    touchable (bounds_reported world asked) ∙ ap (bounds_reported world) en
    ∙ ap (λ o. with_named o (λ number. bounds_in world (view_in (plain_of now.views) number))) absent

-- the bounds of all views are asked for
pub Changed-all-bounds : (now : KeyedScreen) (asked : Option Name) → now.stage ≡ Settled → ((next : Reply) → touched (world_of now) next ≡ next) → asked ≡ None
    → touched (world_of now) (bounds_reported (world_of now) asked) ≡ Done (world_of now) (bounds_text (geometry_of now.views) (plain_of now.views))
Changed-all-bounds now asked settled touchable en =
    let world = world_of now in
    touchable (bounds_reported world asked) ∙ ap (bounds_reported world) en
    ∙ ap (λ (stage : Stage). Done world (bounds_text (geometry_in stage now.views) (plain_of now.views))) settled

abs-pos : (n : ℤ) → pos 0 ≤ℤ n → pos (unsigned_abs n) ≡ n
abs-pos (pos n) h = refl
abs-pos (negsuc n) h = absurd (omega (arith, ints, h))

both-true : (a b : Bool) → (a && b) ≡ true → (a ≡ true) × (b ≡ true)
both-true true true e = (refl, refl)
both-true true false e = absurd cc
both-true false b e = absurd cc

lies-within : (at length limit : ℤ) → int_le (at +ℤ length) limit ≡ true → (at +ℤ length) ≤ℤ limit
lies-within at length limit e = grind (arith, ints)

-- a part that is in its window
pub part-lies : (surface : Raster) (x y w h : ℤ) → IsPart x y w h → lies_in (size_of surface) x y w h ≡ true → IsPartOf surface (part_of x y w h)
unfolding lies_in
part-lies surface x y w h bounds lies =
    let tests = both-true _ _ lies in
    let across = lies-within x w (pos surface.width) tests.0 in
    let down = lies-within y h (pos surface.height) tests.1 in
    let left = abs-pos x bounds.0.0 in
    let top = abs-pos y bounds.1.0 in
    let wide : pos (unsigned_abs w) ≡ w = abs-pos w (omega (arith, ints, bounds.2.0)) in
    let high : pos (unsigned_abs h) ≡ h = abs-pos h (omega (arith, ints, bounds.3.0)) in
    record {
      some = omega (arith, ints, high, bounds.3.0);
      right = omega (arith, ints, across, left, wide);
      bottom = omega (arith, ints, down, top, high);
      across = omega (arith, ints, left, wide, bounds.0.1, bounds.2.1);
      down = omega (arith, ints, top, high, bounds.1.1, bounds.3.1);
    }

pixels-settled : (now : KeyedScreen) (x y w h : ℤ) → lies_in (size_of now.surface) x y w h ≡ true
    → (let settled : KeyedScreen = record now { stage = Settled } in
    picture_asked (window_of settled) (stage_of settled.stage) (pixels_reported (world_of settled) x y w h)
    ≡ Done (world_of settled) (response_text now.views now.surface now.reported now.saved (response.Pixels (part_of x y w h))))
pixels-settled now x y w h lies = rw lies refl

-- a part of the picture of a settled frame is asked for
pub Changed-pixels : (now : KeyedScreen) (window : Size) (x y w h : ℤ) (part : Part) → now.stage ≡ Settled → window ≡ size_of now.surface → lies_in window x y w h ≡ true → part ≡ part_of x y w h
    → picture_asked (window_of now) (stage_of now.stage) (pixels_reported (world_of now) x y w h) ≡ Done (world_of now) (response_text now.views now.surface now.reported now.saved (response.Pixels part))
Changed-pixels now window x y w h part settled size lies is =
    let P : Stage → Type 0 = λ stage. let at : KeyedScreen = record now { stage = stage } in
    picture_asked (window_of at) (stage_of at.stage) (pixels_reported (world_of at) x y w h) ≡ Done (world_of at) (response_text now.views now.surface now.reported now.saved (response.Pixels (part_of x y w h))) in
    let reported = subst P (sym settled) (pixels-settled now x y w h (rw size at lies)) in
    reported ∙ ap (λ (part : Part). Done (world_of now) (response_text now.views now.surface now.reported now.saved (response.Pixels part))) (sym is)

-- a view that keeps its bounds in the tree has the same bounds in the world
pub geometry_in-same : (stage : Stage) (old new : Views) → geometry_of new ≡ geometry_of old → geometry_in stage new ≡ geometry_in stage old
geometry_in-same NoWindow old new same = refl
geometry_in-same NoFrame old new same = refl
geometry_in-same Unsettled old new same = refl
geometry_in-same Settled old new same = same
