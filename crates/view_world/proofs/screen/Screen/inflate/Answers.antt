use Rattle.std.proofs.Common.{◌≡◌, ◌≢◌, [], List, ℕ, ap, sym, subst, ◌∙◌}
use Rattle.std.specs.Prelude.{Ok, Err, Some}
use Rattle.std.specs.declared.alloc.Global.{Global}
use Rattle.std.specs.declared.vec.Vec.{Vec}
use Rattle.std.proofs.lemmas.Result.{err_from_is_err_and}
use Rattle.world_parts.specs.declared.fault.StepFault.TheVariants.{Shelf}
use Rattle.view_tree.specs.Views.{plain_of}
use Rattle.world_parts.specs.Shelves.{AreAtHand, AsksShelf}
use Rattle.world_parts.specs.Given.{IsPlace}
use Rattle.world_parts.specs.Inflating.{asked_for, views_in, views_of}
use Rattle.view_world.specs.screen.KeyedScreen.{KeyedScreen, world_of}
use Rattle.view_world.specs.world.Step.{graft_reason, grafted, inflation}
use Rattle.view_world.specs.screen.Sound.{keyed}
use Rattle.view_world.proofs.worlds.AfterLineLaws.{asks_placed, asks_unplaced}
use Rattle.view_world.proofs.edits.FileLaws.{counts_failed, counts_nothing}
use Rattle.view_world.proofs.edits.InflatingLaws.{inflated_as, inflates_as, reported_where_asked, views_of-bytes}
use Rattle.world_parts.proofs.edits.SeedOffsets.{grown_unscrolled}
use Rattle.view_world.proofs.edits.InflatingLaws.{place_number}
use Rattle.view_world.proofs.edits.NamedLaws.{place_asked}
use Rattle.std.specs.Prelude.{OnOk}
use Rattle.view_tree.specs.Views.{number_of}
use Rattle.std.specs.Option.{option_map}
use Rattle.view_world.specs.frames.Asked.{asked_views, listed}
use Rattle.script_lines.specs.commands.PlainCommands.{Inflate}
use Rattle.view_world.specs.frames.Resting.{KeepsBut}
use Rattle.view_world.specs.declared.world.marks.Effect.TheVariants.{Asks}
use Rattle.view_world.proofs.screen.Screen.inflate.Goals as goal

pub graft-requires-clause-unscrolled : goal.graft-requires-clause-unscrolled
graft-requires-clause-unscrolled g c =
    let views = c.in_ok-grown.ensures.views in
    grown_unscrolled c.as_slice.result.now c.self.inside.resources c.self.inside.dpi views.0 c.in_ok-grown.grown views.1 views.2

pub returns-clause-changed : goal.returns-clause-changed
returns-clause-changed g c files at =
    let old : KeyedScreen = keyed c.self.inside in
    let name = c.args.name.now in
    let place = c.in_ok-place.ensures.place in
    let asked = subst (λ (w : KeyedScreen). AreAtHand files (g.F.Shelf.files c.args.shelf.now) (asked_for (plain_of w.views) (Some (name, c.args.into)))) (sym c.self.view_is) at in
    let reported = reported_where_asked files (g.F.Shelf.files c.args.shelf.now) (plain_of old.views) name c.args.into place.0 place.1 asked in
    let bytes = c.in_ok-bytes.ensures.bytes files reported in
    let views = c.in_ok-grown.ensures.views in
    let same = ap (λ (b : List ℕ). views_in b old.resources old.dpi) (sym bytes.2 ∙ sym c.as_slice.ensures.value) in
    let plan : views_of files name old.resources old.dpi ≡ Ok views.0 = views_of-bytes files name old.resources old.dpi bytes.0 bytes.1 ∙ same ∙ views.1 in
    let reply = inflated_as files (world_of old) name c.args.into place.0 views.0 place.1 plan in
    let changed = c.graft.ensures.changed place.0 views.0 (subst (λ (w : KeyedScreen). IsPlace w.views place.0 c.in_ok-place.place) c.self.view_is place.2) views.2 in
    let replies = λ (w : KeyedScreen). inflation files (world_of w) name c.args.into in
    let grown = λ (w : KeyedScreen). grafted (world_of w) place.0 views.0 (graft_reason (plain_of w.views) place.0 w.views.next views.0.seeds) in
    inflates_as (replies c.args.self.now) c.graft.new.self c.graft.result (rw (subst (λ (w : KeyedScreen). replies w ≡ grown w) c.self.view_is reply) changed)

pub returns-clause-keeps : goal.returns-clause-keeps
returns-clause-keeps g c =
    let old : KeyedScreen = keyed c.self.inside in
    let name = c.args.name.now in
    let place = c.in_ok-place.ensures.place in
    let asked : asked_views (world_of old) (Inflate name c.args.into) ≡ listed (option_map (number_of old.views) c.in_ok-place.place) =
    place_asked (world_of old) name c.args.into place.0 place.1 ∙ ap listed (place_number old.views place.0 c.in_ok-place.place place.2) in
    let now = subst (λ (w : KeyedScreen). asked_views (world_of w) (Inflate name c.args.into) ≡ listed (option_map (number_of w.views) c.in_ok-place.place)) c.self.view_is asked in
    subst (λ (numbers : List ℕ). OnOk c.graft.result (KeepsBut Asks numbers [] [] c.args.self.now c.graft.new.self)) (sym now) c.graft.ensures.keeps

pub returns-in_err-place-clause-shelf : goal.returns-in_err-place-clause-shelf
returns-in_err-place-clause-shelf g c =
    let p = err_from_is_err_and c.from_residual.result c.from_residual.ensures.1 in
    let e : c.from_residual.result ≡ Err c.in_err-place.field-0.0 = cc (p.1, p.2) in
    subst (λ (w : KeyedScreen). AsksShelf g.F.Shelf.files g.F.Shelf.fetches g.F.Shelf.faults (asked_for (plain_of w.views) (Some (c.args.name.now, c.args.into))) c.from_residual.result c.args.shelf.now c.args.shelf.now) c.self.view_is
    (asks_unplaced g.F.Shelf.files g.F.Shelf.fetches g.F.Shelf.faults c.self.inside.tree (plain_of c.self.inside.tree) c.args.name.now c.args.into c.in_err-place.field-0.0 c.from_residual.result c.args.shelf.now e
    c.in_err-place.ensures.place (λ e. c.in_err-place.ensures.no_memory (ap Err e)) (λ e. c.in_err-place.ensures.no_shelf (ap Err e)))

pub returns-in_err-bytes-clause-shelf : goal.returns-in_err-bytes-clause-shelf
returns-in_err-bytes-clause-shelf g c =
    let place = c.in_ok-place.ensures.place in
    let said = c.in_err-bytes.ensures in
    let result = c.from_residual-in_err-bytes.result in
    let p = err_from_is_err_and result c.from_residual-in_err-bytes.ensures.1 in
    let e : result ≡ Err c.in_err-bytes.field-0.0 = cc (p.1, p.2) in
    let counts = counts_failed (Vec ℕ Global) (g.F.Shelf.faults c.args.shelf.now) (g.F.Shelf.faults c.fetch.new.shelf) c.in_err-bytes.field-0.0 result e said.shelf_failed in
    subst (λ (w : KeyedScreen). AsksShelf g.F.Shelf.files g.F.Shelf.fetches g.F.Shelf.faults (asked_for (plain_of w.views) (Some (c.args.name.now, c.args.into))) result c.args.shelf.now c.fetch.new.shelf) c.self.view_is
    (asks_placed g.F.Shelf.files g.F.Shelf.fetches g.F.Shelf.faults (plain_of c.self.inside.tree) c.args.name.now c.args.into place.0 result c.args.shelf.now c.fetch.new.shelf place.1 said.files_stay counts said.fetched)

pub returns-in_err-grown-clause-shelf : goal.returns-in_err-grown-clause-shelf
returns-in_err-grown-clause-shelf g c =
    let place = c.in_ok-place.ensures.place in
    let said = c.in_ok-bytes.ensures in
    let result = c.from_residual-in_err-grown.result in
    let p = err_from_is_err_and result c.from_residual-in_err-grown.ensures.1 in
    let e : result ≡ Err c.in_err-grown.field-0.0 = cc (p.1, p.2) in
    let never : result ≢ Err Shelf = λ failed. let same : c.in_err-grown.field-0.0 ≡ Shelf = cc (e, failed) in c.in_err-grown.ensures.no_shelf (ap Err same) in
    subst (λ (w : KeyedScreen). AsksShelf g.F.Shelf.files g.F.Shelf.fetches g.F.Shelf.faults (asked_for (plain_of w.views) (Some (c.args.name.now, c.args.into))) result c.args.shelf.now c.fetch.new.shelf) c.self.view_is
    (asks_placed g.F.Shelf.files g.F.Shelf.fetches g.F.Shelf.faults (plain_of c.self.inside.tree) c.args.name.now c.args.into place.0 result c.args.shelf.now c.fetch.new.shelf place.1 said.files_stay
    (rw said.shelf_failed (counts_nothing _ result never)) said.fetched)

pub returns-clause-shelf : goal.returns-clause-shelf
returns-clause-shelf g c =
    let place = c.in_ok-place.ensures.place in
    let said = c.in_ok-bytes.ensures in
    subst (λ (w : KeyedScreen). AsksShelf g.F.Shelf.files g.F.Shelf.fetches g.F.Shelf.faults (asked_for (plain_of w.views) (Some (c.args.name.now, c.args.into))) c.graft.result c.args.shelf.now c.fetch.new.shelf) c.self.view_is
    (asks_placed g.F.Shelf.files g.F.Shelf.fetches g.F.Shelf.faults (plain_of c.self.inside.tree) c.args.name.now c.args.into place.0 c.graft.result c.args.shelf.now c.fetch.new.shelf place.1 said.files_stay
    (rw said.shelf_failed (counts_nothing _ c.graft.result c.graft.ensures.no_shelf)) said.fetched)
