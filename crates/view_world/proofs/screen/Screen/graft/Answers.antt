use Rattle.std.proofs.Common.{◌≡◌, ◌∙◌, ℕ, [], arith, length, refl, sym, subst}
use Rattle.std.specs.Prelude.{Option, None, Result, Ok, Err}
use Rattle.std.specs.Option.{option_map}
use Rattle.view_model.specs.Cycles.{graft_cycle}
use Rattle.view_model.specs.Forest.{Forest, Nothing}
use Rattle.view_model.specs.Sprouts.{Seed, seeds_of}
use Rattle.view_model.specs.Grafts.{graft_refusal}
use Rattle.view_tree.specs.Faults.{IsRefusedOrCyclic}
use Rattle.view_model.specs.declared.fault.Fault.{Fault}
use Rattle.view_tree.specs.Views.{number_of, plain_of}
use Rattle.world_parts.proofs.edits.FreshLaws.{are_free}
use Rattle.view_world.proofs.edits.GraftingLaws.{graft_reported, sound_grafted}
use Rattle.view_world.proofs.edits.GrowingLaws.{carried_with, same_world, sound_same}
use Rattle.view_world.proofs.edits.InflatingLaws.{grafted_world, place_number}
use Rattle.view_world.specs.screen.Changed.{CarriesOut}
use Rattle.world_parts.specs.Given.{IsPlace}
use Rattle.view_world.specs.screen.KeyedScreen.{KeyedScreen, world_of}
use Rattle.world_parts.specs.Places.{AreFree, AreOpened, hooks_in}
use Rattle.view_world.specs.screen.Sound.{keyed}
use Rattle.view_world.specs.world.Step.{graft_reason, grafted}
use Rattle.world_replies.specs.declared.response.Response.TheVariants as response
use Rattle.view_world.proofs.states.OffsetLaws.{offsets_grafted}
use Rattle.view_world.proofs.frames.AskedLaws.{graft_keeps}
use Rattle.view_world.specs.frames.Asked.{listed}
use Rattle.view_world.specs.frames.Resting.{KeepsBut}
use Rattle.view_world.specs.declared.world.marks.Effect.TheVariants.{Asks}
use Rattle.std.specs.Prelude.{IfSome}
use Rattle.view_tree.specs.Views.{IsLive}
use Rattle.view_world.proofs.screen.Screen.graft.Goals as goal

pub open_all-requires-clause-free : goal.open_all-requires-clause-free
open_all-requires-clause-free c =
    subst (λ n. AreFree n c.self.inside.gesture) (sym c.next_number-first.ensures)
    (are_free c.self.inside.tree c.self.inside.gesture c.recall_tree.ensures c.self.invariant.caught c.self.invariant.closed)

pub invariant_of-self-in-Ok : goal.invariant_of-self-in-Ok
invariant_of-self-in-Ok c =
    let a = c.self.inside in
    let room = c.in_ok-reserve.ensures.room in
    let sum = c.saturating_add.ensures in
    let product = c.saturating_mul.ensures in
    let len = c.len.ensures.value in
    let count : c.len-count.result ≡ length c.args.grown.sapling.sprouts.items = c.len-count.ensures ∙ c.args.grown.sapling.sprouts.ok.0 in
    let few = c.recall_tree-in-Ok.ensures.few in
    sound_grafted a c.graft.new.tree c.open_all.new.gesture c.reserve.new.self c.make_hooks.new.hooks c.args.place c.args.grown.sapling.sprouts.items c.self.invariant c.recall_tree.ensures
    (subst (λ (w : KeyedScreen). IfSome c.args.place (λ (view : ℕ). IsLive w.views view)) (sym c.self.view_is) c.requires.live)
    (subst (λ (w : KeyedScreen). c.args.place ≡ None → w.views.tree ≡ Nothing) (sym c.self.view_is) c.requires.root)
    c.args.grown.sapling.preorder c.in-Ok.ensures.gained (c.graft.ensures.consistent c.self.invariant.consistent) c.open_all.ensures.gesture
    (subst (λ n. AreOpened n (length c.args.grown.sapling.sprouts.items) a.gesture c.open_all.new.gesture) c.next_number-first.ensures
    (subst (λ n. AreOpened c.next_number-first.result n a.gesture c.open_all.new.gesture) (c.len-count.ensures ∙ c.args.grown.sapling.sprouts.ok.0) c.in_ok-open_all.ensures.opened))
    (λ most. omega (arith, room, sum, product, len, count, few, most)) c.in_ok-make_hooks.ensures.made
    (offsets_grafted a.tree c.graft.new.tree (option_map (number_of a.tree) c.args.place) a.tree.next (seeds_of c.args.grown.sapling.sprouts.items) c.in-Ok.ensures.gained.plain c.requires.unscrolled c.self.invariant.offsets)

pub invariant_of-self-in-Err : goal.invariant_of-self-in-Err
invariant_of-self-in-Err c =
    let a = c.self.inside in
    let room = c.in_ok-reserve.ensures.room in
    let sum = c.saturating_add.ensures in
    let product = c.saturating_mul.ensures in
    let len = c.len.ensures.value in
    let few = c.len.ensures.few in
    let free : AreFree c.next_number-first.result a.gesture =
    subst (λ n. AreFree n a.gesture) (sym c.next_number-first.ensures) (are_free a.tree a.gesture c.recall_tree.ensures c.self.invariant.caught c.self.invariant.closed) in
    let gesture = c.close_all.ensures a.gesture c.in_ok-open_all.ensures.added free c.in_ok-open_all.ensures.unknown in
    sound_same a c.graft.new.tree c.close_all.new.gesture c.reserve.new.self c.make_hooks.new.hooks c.in-Err.ensures.unchanged gesture (omega (arith, room, sum, product, len, few)) c.in_ok-make_hooks.ensures.made c.self.invariant

pub returns-in-Err-clause-unchanged : goal.returns-in-Err-clause-unchanged
returns-in-Err-clause-unchanged c =
    let a = c.self.inside in
    let free : AreFree c.next_number-first.result a.gesture =
    subst (λ n. AreFree n a.gesture) (sym c.next_number-first.ensures) (are_free a.tree a.gesture c.recall_tree.ensures c.self.invariant.caught c.self.invariant.closed) in
    let gesture = c.close_all.ensures a.gesture c.in_ok-open_all.ensures.added free c.in_ok-open_all.ensures.unknown in
    same_world (keyed a) c.graft.new.tree c.close_all.new.gesture c.reserve.new.self.entries.items (hooks_in c.make_hooks.new.hooks) c.in-Err.ensures.unchanged gesture c.reserve.ensures.same c.make_hooks.ensures.same ∙ c.self.view_is

pub returns-in-Ok-clause-changed : goal.returns-in-Ok-clause-changed
returns-in-Ok-clause-changed c number plan place grown =
    let old : KeyedScreen = keyed c.self.inside in
    let grown_views : KeyedScreen = record old { views = c.graft.new.tree } in
    let at : IsPlace old.views number c.args.place = subst (λ (w : KeyedScreen). IsPlace w.views number c.args.place) (sym c.self.view_is) place in
    let reply = λ (w : KeyedScreen). grafted (world_of w) number plan (graft_reason (plain_of w.views) number w.views.next plan.seeds) in
    let came = rw grown.seeds at c.in-Ok.ensures.gained in
    let taken = rw (grown.seeds, ← place_number old.views number c.args.place at) at c.in-Ok.ensures.refused in
    let reported : CarriesOut (reply old) grown_views (Ok (response.Inflated c.next_number-first.result c.saturating_sub.result c.args.grown.ignored)) =
    rw (taken, c.next_number-first.ensures, c.saturating_sub.ensures, c.next_number.ensures)
    (grafted_world old c.graft.new.tree number c.args.place plan c.args.grown.ignored at came grown.ignored) in
    let now : KeyedScreen = record grown_views { gesture = c.open_all.new.gesture; reported = c.reserve.new.self.entries.items; hooks = hooks_in c.make_hooks.new.hooks } in
    let result = Ok (response.Inflated c.next_number-first.result c.saturating_sub.result c.args.grown.ignored) in
    subst (λ (w : KeyedScreen). CarriesOut (reply w) now result) c.self.view_is
    (carried_with (reply old) grown_views c.open_all.new.gesture c.reserve.new.self.entries.items (hooks_in c.make_hooks.new.hooks) result c.open_all.ensures.gesture c.reserve.ensures.same c.make_hooks.ensures.same reported)

pub returns-in-Err-clause-changed : goal.returns-in-Err-clause-changed
returns-in-Err-clause-changed c number plan place grown =
    let old : KeyedScreen = keyed c.self.inside in
    let now = c.args.self.now in
    let at : IsPlace old.views number c.args.place = subst (λ (w : KeyedScreen). IsPlace w.views number c.args.place) (sym c.self.view_is) place in
    let why : Result (Unit {0}) Fault = Err c.in-Err.fault in
    let reads = λ (n : Option ℕ) (seeds : Forest Seed). IsRefusedOrCyclic (graft_refusal (plain_of old.views) n seeds) (graft_cycle (plain_of old.views) n old.views.next seeds) why in
    let first : reads (option_map (number_of old.views) c.args.place) (seeds_of c.args.grown.sapling.sprouts.items) = c.in-Err.ensures.refused in
    let refused = subst (λ n. reads n plan.seeds) (sym (place_number old.views number c.args.place at)) (subst (reads (option_map (number_of old.views) c.args.place)) grown.seeds first) in
    let refusal = λ (w : KeyedScreen). graft_refusal (plain_of w.views) number plan.seeds in
    let cycle = λ (w : KeyedScreen). graft_cycle (plain_of w.views) number w.views.next plan.seeds in
    let reported : IsRefusedOrCyclic (refusal now) (cycle now) why = subst (λ (w : KeyedScreen). IsRefusedOrCyclic (refusal w) (cycle w) why) c.self.view_is refused in
    let new : KeyedScreen = record old { views = c.graft.new.tree; gesture = c.close_all.new.gesture; reported = c.reserve.new.self.entries.items; hooks = hooks_in c.make_hooks.new.hooks } in
    rw c.into.ensures (graft_reported (world_of now) number plan new (refusal now) (cycle now) c.in-Err.fault reported)

pub returns-in-Ok-clause-keeps : goal.returns-in-Ok-clause-keeps
returns-in-Ok-clause-keeps c =
    let old : KeyedScreen = keyed c.self.inside in
    let now : KeyedScreen = record old { views = c.graft.new.tree; gesture = c.open_all.new.gesture; reported = c.reserve.new.self.entries.items; hooks = hooks_in c.make_hooks.new.hooks } in
    let live = subst (λ (w : KeyedScreen). IfSome c.args.place (λ (view : ℕ). IsLive w.views view)) (sym c.self.view_is) c.requires.live in
    subst (λ (w : KeyedScreen). KeepsBut Asks (listed (option_map (number_of w.views) c.args.place)) [] [] w now) c.self.view_is
    (graft_keeps old now c.args.place c.recall_tree.ensures live c.in-Ok.ensures.asked c.graft.ensures.counts refl refl refl)
