use Rattle.std.proofs.Common.{◌≡◌, ℕ, Bool, true, false, sym, ◌∙◌, ap, subst}
use Rattle.std.specs.Prelude.{not, ◌&&◌}
use Rattle.std.specs.Option.{is_some}
use Rattle.touch_dispatch.specs.handling.Handling.{is_nil}
use Rattle.view_model.specs.Facts.{is_shown}
use Rattle.view_tree.specs.Views.{IsLive, facts_of, number_of}
use Rattle.view_world.specs.screen.KeyedScreen.{KeyedScreen, world_of}
use Rattle.view_world.specs.screen.Sound.{keyed}
use Rattle.world_parts.specs.Touching.{is_reported, parent_of}
use Rattle.view_world.proofs.edits.LeaveLaws.{nil-length, reported_child, reported_root}
use Rattle.view_world.proofs.screen.Screen.is_reported.Goals as goal

-- whether a view of a world gets a cancel is what was found
SaysReported : Bool → ℕ → KeyedScreen → Type 0
SaysReported found view world = found ≡ is_reported (parent_of (number_of world.views view) (world_of world).tree) (facts_of world.views view) world.pointers

pub returns-then-is_some-clause-reported : goal.returns-then-is_some-clause-reported
unfolding SaysReported
returns-then-is_some-clause-reported c =
    let old = keyed c.self.inside in
    let live : IsLive old.views c.args.view = subst (λ (w : KeyedScreen). IsLive w.views c.args.view) (sym c.self.view_is) c.requires in
    let some : is_some c.parent.result ≡ true = sym c.is_some.ensures ∙ c.if-is_some.true in
    subst (SaysReported c.is_some.result c.args.view) c.self.view_is
    (c.if-is_some.true ∙ sym (reported_child old.views c.args.view c.parent.result (facts_of old.views c.args.view) old.pointers c.facts-facts.ensures.is_tree live some c.parent.ensures.path))

pub returns-then-is_shown-clause-reported : goal.returns-then-is_shown-clause-reported
unfolding SaysReported
returns-then-is_shown-clause-reported c =
    let old = keyed c.self.inside in
    let live : IsLive old.views c.args.view = subst (λ (w : KeyedScreen). IsLive w.views c.args.view) (sym c.self.view_is) c.requires in
    let none : is_some c.parent.result ≡ false = sym c.is_some.ensures ∙ c.if-is_some.false in
    let facts = facts_of old.views c.args.view in
    let shown : true ≡ is_shown facts = sym c.if-is_shown.true ∙ c.is_shown.ensures ∙ ap is_shown c.facts-facts.ensures.value in
    let empty : not c.is_empty.result ≡ not (is_nil old.pointers) = ap not (c.is_empty.ensures ∙ nil-length old.pointers) in
    subst (SaysReported (not c.is_empty.result) c.args.view) c.self.view_is
    (empty ∙ ap (λ (b : Bool). b && not (is_nil old.pointers)) shown ∙ sym (reported_root old.views c.args.view c.parent.result facts old.pointers c.facts-facts.ensures.is_tree live none c.parent.ensures.path))

pub returns-else-is_shown-clause-reported : goal.returns-else-is_shown-clause-reported
unfolding SaysReported
returns-else-is_shown-clause-reported c =
    let old = keyed c.self.inside in
    let live : IsLive old.views c.args.view = subst (λ (w : KeyedScreen). IsLive w.views c.args.view) (sym c.self.view_is) c.requires in
    let none : is_some c.parent.result ≡ false = sym c.is_some.ensures ∙ c.if-is_some.false in
    let facts = facts_of old.views c.args.view in
    let hidden : false ≡ is_shown facts = sym c.if-is_shown.false ∙ c.is_shown.ensures ∙ ap is_shown c.facts-facts.ensures.value in
    subst (SaysReported c.is_shown.result c.args.view) c.self.view_is
    (c.if-is_shown.false ∙ ap (λ (b : Bool). b && not (is_nil old.pointers)) hidden ∙ sym (reported_root old.views c.args.view c.parent.result facts old.pointers c.facts-facts.ensures.is_tree live none c.parent.ensures.path))
