-- What stays if a line is not carried out, what it has left by the time its text is written, and what it asks for.
use Rattle.std.proofs.Common.{◌≡◌, ◌≢◌, ℕ, List, refl, sym, ap, subst, inl, inr}
use Rattle.std.specs.Prelude.{◌⊎◌, Option, None, Some, Result, Ok, Err}
use Rattle.geom_core.specs.declared.geometry.Rect.{Rect}
use Rattle.line_words.specs.declared.words.naming.Name.{Name}
use Rattle.tool_io.specs.Fetched.{Files}
use Rattle.tool_io.specs.Fetches.{Fetches, with_fetch}
use Rattle.tool_io.specs.SinkState.{SinkState}
use Rattle.view_model.specs.Forest.{Forest}
use Rattle.view_model.specs.PlainTree.{PlainView}
use Rattle.view_tree.specs.Views.{Views}
use Rattle.view_world.proofs.edits.FileLaws.{asks_none}
use Rattle.world_parts.specs.declared.fault.StepFault.{StepFault}
use Rattle.world_parts.specs.declared.fault.StepFault.TheVariants as fault
use Rattle.world_replies.specs.declared.response.Response.{Response}
use Rattle.view_world.specs.world.AfterLine.{IsAsBefore, Reports}
use Rattle.world_parts.specs.Shelves.{AsksShelf, CountsShelf, fetches_after, layout_fetch}
use Rattle.view_world.specs.world.Carried.{IsDone, WritesReply}
use Rattle.view_world.specs.screen.Changed.{CarriesOut}
use Rattle.world_parts.specs.Given.{Gives, IsPlace}
use Rattle.world_parts.specs.Inflating.{asked_at, asked_for, place_in}
use Rattle.view_world.specs.screen.KeyedScreen.{KeyedScreen, world_of}
use Rattle.view_world.specs.world.KeyedWorld.{KeyedWorld}
use Rattle.world_replies.specs.Responses.{IsReportable, response_text}
use Rattle.world_parts.specs.Reply.{Reply, Done}
use Rattle.view_world.specs.frames.Watched.{HasBox, IsWatched, watched_in}

-- the same world has each part as it was
same_parts : (old new : KeyedWorld) → new ≡ old → IsAsBefore old new
same_parts old new same = record {
  tree = ap (λ (w : KeyedWorld). w.screen.views) same;
  next = ap (λ (w : KeyedWorld). w.screen.views.next) same;
  stage = ap (λ (w : KeyedWorld). w.screen.stage) same;
  shown = ap (λ (w : KeyedWorld). w.screen.surface) same;
  damage = ap (λ (w : KeyedWorld). w.screen.damage) same;
  dpi = ap (λ (w : KeyedWorld). w.screen.dpi) same;
  resources = ap (λ (w : KeyedWorld). w.screen.resources) same;
  gesture = ap (λ (w : KeyedWorld). w.screen.gesture) same;
  pointers = ap (λ (w : KeyedWorld). w.screen.pointers) same;
  deliveries = ap (λ (w : KeyedWorld). w.screen.reported) same;
  hooks = ap (λ (w : KeyedWorld). w.screen.hooks) same;
  kept = ap (λ (w : KeyedWorld). w.screen.kept) same;
  saved = ap (λ (w : KeyedWorld). w.screen.saved) same;
  marks = ap (λ (w : KeyedWorld). w.marks) same;
  box = λ (box : Rect) (has : HasBox old box).
      let held : IsWatched old (watched_in old box) = record { same = refl; box = has } in
      subst (λ (w : KeyedWorld). IsWatched w (watched_in old box)) (sym same) held;
}

pub parts_stay : {P : Type 0} (result : Result (Unit {0}) StepFault) (old new : KeyedWorld) → IsDone result ⊎ ((new ≡ old) × P) → IsDone result ⊎ IsAsBefore old new
parts_stay result old new (inl done) = inl done
parts_stay result old new (inr same) = inr (same_parts old new same.0)

-- a line that was not carried out has written nothing, unless a call on the sink has failed
pub undone : (line_fault : StepFault) (result : Result (Unit {0}) StepFault) → result ≡ Err line_fault → line_fault ≢ fault.Sink → IsDone result → ⊥
undone line_fault result e none done = fails line_fault none (subst (λ (r : Result (Unit {0}) StepFault). IsDone r) e done)
  where
    fails : (line_fault : StepFault) → line_fault ≢ fault.Sink → IsDone (Err line_fault) → ⊥
    fails (fault.Refused refusal) none done = done
    fails fault.NoMemory none done = done
    fails fault.Sink none done = none refl
    fails fault.Shelf none done = done

pub sinkless : (reply : Reply) (new : KeyedScreen) (line_fault : StepFault) → CarriesOut reply new (Err line_fault) → line_fault ≢ fault.Sink
sinkless reply new line_fault carried e = subst (λ (f : StepFault). CarriesOut reply new (Err f)) e carried

-- a response that was written without a change of the screen
pub reported : (old new : KeyedScreen) (before after : SinkState) (result : Result (Unit {0}) StepFault) (response : Response)
    → IsReportable old.views old.surface old.reported old.saved response → new ≡ old
    → WritesReply (Done (world_of old) (response_text old.views old.surface old.reported old.saved response)) (world_of new) before after result → Reports new before after result
reported old new before after result response there same written = record {
  response = response;
  there = subst (λ (s : KeyedScreen). IsReportable s.views s.surface s.reported s.saved response) (sym same) there;
  written = subst (λ (s : KeyedScreen). WritesReply (Done (world_of s) (response_text s.views s.surface s.reported s.saved response)) (world_of new) before after result) (sym same) written;
}

-- a tree that has a place asks for its file, and no other does
file_placed : (tree : Forest PlainView) (name : List ℕ) (into : Option Name) (place : Option ℕ) → place_in tree into ≡ Ok place → asked_for tree (Some (name, into)) ≡ Some name
file_placed tree name into place e = ap (asked_at name) e

file_unplaced : (views : Views) (tree : Forest PlainView) (name : List ℕ) (into : Option Name) (line_fault : StepFault) → Gives (IsPlace views) (place_in tree into) (Err line_fault)
    → line_fault ≢ fault.NoMemory → line_fault ≢ fault.Shelf → asked_for tree (Some (name, into)) ≡ None
file_unplaced views tree name into (fault.Refused refusal) gives memory shelf = ap (asked_at name) gives
file_unplaced views tree name into fault.NoMemory gives memory shelf = absurd (memory refl)
file_unplaced views tree name into fault.Sink gives memory shelf = absurd gives
file_unplaced views tree name into fault.Shelf gives memory shelf = absurd (shelf refl)

-- and so its file is fetched once, or nothing is
pub asks_placed : {S A : Type 0} (files : S → Option Files) (fetches : S → Fetches) (faults : S → ℕ) (tree : Forest PlainView) (name : List ℕ) (into : Option Name) (place : Option ℕ) (result : Result A StepFault) (old new : S)
    → place_in tree into ≡ Ok place → files new ≡ files old → CountsShelf (faults old) (faults new) result → fetches new ≡ with_fetch (fetches old) (layout_fetch name)
    → AsksShelf files fetches faults (asked_for tree (Some (name, into))) result old new
asks_placed files fetches faults tree name into place result old new e stay counts once =
    let is = file_placed tree name into place e in
    record {
      files_stay = stay;
      unasked = λ none. absurd (cc (is, none));
      fetched = subst (λ (file : Option (List ℕ)). fetches new ≡ fetches_after file (fetches old)) (sym is) once;
      shelf_failed = counts;
      asked = λ failed none. absurd (cc (is, none));
    }

pub asks_unplaced : {S A : Type 0} (files : S → Option Files) (fetches : S → Fetches) (faults : S → ℕ) (views : Views) (tree : Forest PlainView) (name : List ℕ) (into : Option Name) (line_fault : StepFault)
    (result : Result A StepFault) (shelf : S) → result ≡ Err line_fault → Gives (IsPlace views) (place_in tree into) (Err line_fault) → line_fault ≢ fault.NoMemory → line_fault ≢ fault.Shelf
    → AsksShelf files fetches faults (asked_for tree (Some (name, into))) result shelf shelf
asks_unplaced files fetches faults views tree name into line_fault result shelf e gives no_memory no_shelf =
    subst (λ (file : Option (List ℕ)). AsksShelf files fetches faults file result shelf shelf) (sym (file_unplaced views tree name into line_fault gives no_memory no_shelf))
    (asks_none files fetches faults result shelf (λ failed. no_shelf (cc (e, failed))))
