-- How the views of a file are added to the world.
use Rattle.std.proofs.Common.{◌≡◌, ◌≢◌, ◌-◌, ℕ, List, [], refl, sym, ap, subst, ◌∙◌, inl, inr}
use Rattle.text_lines.specs.Joined.{◌⧺◌}
use Rattle.std.specs.Prelude.{Option, None, Some, Result, Ok, Err}
use Rattle.std.specs.Option.{option_map}
use Rattle.inflater.specs.Inflating.{Plan}
use Rattle.line_words.specs.declared.words.naming.Name.{Name}
use Rattle.tool_io.specs.Fetched.{Files, file_of}
use Rattle.tool_io.specs.Fetches.{Fetches}
use Rattle.view_model.specs.Directed.{directed, rtl_at}
use Rattle.view_model.specs.Forest.{Forest}
use Rattle.view_model.specs.Geometry.{Laid}
use Rattle.view_model.specs.Growth.{grown_at}
use Rattle.view_model.specs.Sprouts.{numbered}
use Rattle.view_model.specs.PlainTree.{PlainView}
use Rattle.view_model.specs.Refusals.{PlainRefusal}
use Rattle.view_model.specs.Resources.{Entries}
use Rattle.world_parts.specs.World.{World}
use Rattle.view_tree.specs.Views.{Views, number_of, plain_of}
use Rattle.tool_io.specs.SinkState.{SinkState}
use Rattle.world_parts.specs.Shelves.{AreAtHand, AsksShelf, CountsShelf}
use Rattle.view_world.specs.world.Carried.{IsDone, WritesReply}
use Rattle.view_world.specs.screen.Changed.{CarriesOut, Inflates}
use Rattle.world_parts.specs.Given.{IsPlace}
use Rattle.world_parts.specs.Inflating.{asked_for, bytes_in, place_in, views_in, views_of}
use Rattle.view_world.specs.screen.KeyedScreen.{KeyedScreen, world_of}
use Rattle.world_parts.specs.Places.{HasGained}
use Rattle.world_replies.specs.Replies.{inflated_text}
use Rattle.world_parts.specs.Reply.{Reply, Done}
use Rattle.view_world.specs.world.Step.{graft_reason, grafted, inflation, reply_with}
use Rattle.world_parts.specs.declared.fault.StepFault.{StepFault}
use Rattle.world_parts.specs.declared.fault.StepFault.TheVariants as fault
use Rattle.world_replies.specs.declared.response.Response.{Response}
use Rattle.world_replies.specs.declared.response.Response.TheVariants as response
use Rattle.view_world.proofs.worlds.WorldLaws.{geometry_in-same}

-- the number of a place, and that the place is there
pub place_number : (views : Views) (number place : Option ℕ) → IsPlace views number place → number ≡ option_map (number_of views) place
place_number views number None p = p.0
place_number views number (Some key) p = p.1

-- a tree that has a place asks for its file, and then the shelf gives the files at hand
pub reported_where_asked : (files : Files) (reported : Option Files) (tree : Forest PlainView) (name : List ℕ) (into : Option Name) (place : Option ℕ) → place_in tree into ≡ Ok place
    → AreAtHand files reported (asked_for tree (Some (name, into))) → reported ≡ Some files
reported_where_asked files reported tree name into place e (inl reported_so) = reported_so
reported_where_asked files reported tree name into place e (inr none) = absurd (let clash = rw e at none in cc)

-- the result of a line, step by step
pub inflated_as : (files : Files) (world : World) (name : List ℕ) (into : Option Name) (place : Option ℕ) (plan : Plan) → place_in world.tree into ≡ Ok place
    → views_of files name world.resources world.dpi ≡ Ok plan → inflation files world name into ≡ grafted world place plan (graft_reason world.tree place world.next plan.seeds)
inflated_as files world name into place plan e f = rw (e, f) refl

pub views_of-bytes : (files : Files) (name : List ℕ) (resources : Entries) (dpi : ℕ) (bytes : List ℕ) → bytes_in (file_of files name) ≡ Ok bytes → views_of files name resources dpi ≡ views_in bytes resources dpi
views_of-bytes files name resources dpi bytes e = rw e refl

-- the world once the views of a file were added
pub grafted_world : (old : KeyedScreen) (new : Views) (number parent : Option ℕ) (plan : Plan) (ignored : ℕ) → IsPlace old.views number parent → HasGained old.views parent plan.seeds new
    → ignored ≡ plan.ignored → CarriesOut (grafted (world_of old) number plan None) (record old { views = new }) (Ok (response.Inflated old.views.next (new.next - 1) ignored))
grafted_world old new number parent plan ignored place came same_count =
    let laid = geometry_in-same old.stage old.views new came.geometry in
    let grown = ap (λ place. grown_at place (directed (rtl_at place (plain_of old.views)) (numbered old.views.next plan.seeds)) (plain_of old.views)) (place_number old.views number parent place) ∙ sym came.plain in
    (replies (world_of old) old.views.next grown (sym came.next) (sym laid) (sym same_count), tt)
  where
    replies : {tree tree' : Forest PlainView} {next next' : ℕ} {geometry geometry' : List Laid} {ignored ignored' : ℕ} (world : World) (first : ℕ)
        → tree ≡ tree' → next ≡ next' → geometry ≡ geometry' → ignored ≡ ignored'
        → Done (record world { tree = tree; next = next; geometry = geometry }) (inflated_text first (next - 1) ignored)
        ≡ Done (record world { tree = tree'; next = next'; geometry = geometry' }) (inflated_text first (next' - 1) ignored')
    replies world first e f g h = rw (e, f, g, h) refl

-- what a command has done that did not ask a shelf, as one that might have
pub inflates_as : (reply : Reply) (new : KeyedScreen) (result : Result Response StepFault) → CarriesOut reply new result → Inflates reply new result
inflates_as reply new (Ok response) changed = changed
inflates_as reply new (Err (fault.Refused refusal)) changed = changed
inflates_as reply new (Err fault.NoMemory) changed = tt
inflates_as reply new (Err fault.Sink) changed = changed
inflates_as reply new (Err fault.Shelf) changed = tt

-- a line that was not carried out
pub writes_fault : (reply : Reply) (new : KeyedScreen) (before after : SinkState) (line_fault : StepFault) (result : Result (Unit {0}) StepFault) → result ≡ Err line_fault → Inflates reply new (Err line_fault)
    → WritesReply reply (world_of new) before after result
writes_fault reply new before after (fault.Refused refusal) result e changed = rw e changed
writes_fault reply new before after fault.NoMemory result e changed = rw e tt
writes_fault reply new before after fault.Sink result e changed = absurd changed
writes_fault reply new before after fault.Shelf result e changed = rw e tt

-- printing it does not ask a shelf
reported_counts : (before now : ℕ) (result : Result (Unit {0}) StepFault) → IsDone result → now ≡ before → CountsShelf before now result
reported_counts before now (Ok _) done same = same
reported_counts before now (Err (fault.Refused refusal)) done same = absurd done
reported_counts before now (Err fault.NoMemory) done same = absurd done
reported_counts before now (Err fault.Sink) done same = same
reported_counts before now (Err fault.Shelf) done same = absurd done

pub asks_reported : {S A : Type 0} (files : S → Option Files) (fetches : S → Fetches) (faults : S → ℕ) (name : Option (List ℕ)) (value : A) (result : Result (Unit {0}) StepFault) (old new : S)
    → IsDone result → AsksShelf files fetches faults name (Ok value) old new → AsksShelf files fetches faults name result old new
asks_reported files fetches faults name value result old new done asks = record {
  files_stay = asks.files_stay;
  unasked = asks.unasked;
  fetched = asks.fetched;
  shelf_failed = reported_counts (faults old) (faults new) result done asks.shelf_failed;
  asked = λ failed. absurd (subst (λ (r : Result (Unit {0}) StepFault). IsDone r) failed done);
}

-- a line that inflates a file always prints something
grafted_recalls : (world after : World) (place : Option ℕ) (plan : Plan) (reason : Option PlainRefusal) → grafted world place plan reason ≢ Done after []
unfolding inflated_text ◌⧺◌
grafted_recalls world after place plan (Some refusal) e = absurd cc
grafted_recalls world after place plan None e = absurd cc

views_recall : (world after : World) (place : Option ℕ) (views : Result Plan PlainRefusal) → reply_with views (λ plan. grafted world place plan (graft_reason world.tree place world.next plan.seeds)) ≢ Done after []
views_recall world after place (Ok plan) e = grafted_recalls world after place plan (graft_reason world.tree place world.next plan.seeds) e
views_recall world after place (Err refusal) e = absurd cc

pub inflation_recalls : (files : Files) (world after : World) (name : List ℕ) (into : Option Name) → inflation files world name into ≢ Done after []
inflation_recalls files world after name into = placed (place_in world.tree into)
  where
    placed : (place : Result (Option ℕ) PlainRefusal)
        → reply_with place (λ at. reply_with (views_of files name world.resources world.dpi) (λ plan. grafted world at plan (graft_reason world.tree at world.next plan.seeds))) ≢ Done after []
    placed (Ok place) e = views_recall world after place (views_of files name world.resources world.dpi) e
    placed (Err refusal) e = absurd cc
