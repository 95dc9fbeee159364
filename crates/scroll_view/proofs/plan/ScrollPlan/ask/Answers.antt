use Rattle.std.proofs.Common.{◌≡◌, true, false, Some, None, [], ap, sym, ◌∙◌}
use Rattle.std.specs.Option.{option_map}
use Rattle.std.specs.Prelude.{if◌then◌else◌}
use Rattle.scroll_view.proofs.PlanLaws.{ask-filling}
use Rattle.scroll_view.specs.ScrollPlan.{own_in, specs_in}
use Rattle.view_model.specs.Facts.{layout_facts}
use Rattle.view_model.specs.Measuring.{Measured, pair_of}
use Rattle.view_model.specs.ScrollView.{filling_specs, is_short}
use Rattle.scroll_view.proofs.plan.ScrollPlan.ask.Goals as goal

pub returns-then-is_short : goal.returns-then-is_short
returns-then-is_short c = λ own specs past taken represents.
    let plan = c.args.self.now in
    let room = c.finish-room.result in
    let kid : Measured = record { facts = layout_facts c.args.kid.now; size = c.args.size } in
    let pair = filling_specs (own_in plan) (specs_in plan) room.h kid.facts in
    let short : true ≡ is_short (own_in plan) room.h kid = sym c.if-is_short.true ∙ c.is_short.ensures in
    ap Some c.filling_specs.ensures
    ∙ ap (λ v. option_map pair_of (if v then Some pair else None)) short
    ∙ ap (option_map pair_of) (ask-filling plan own specs past taken kid room (cc) (λ own specs first. c.finish-room.ensures.value own specs [] first) represents)

pub returns-else-is_short : goal.returns-else-is_short
returns-else-is_short c = λ own specs past taken represents.
    let plan = c.args.self.now in
    let room = c.finish-room.result in
    let kid : Measured = record { facts = layout_facts c.args.kid.now; size = c.args.size } in
    let pair = filling_specs (own_in plan) (specs_in plan) room.h kid.facts in
    let tall : false ≡ is_short (own_in plan) room.h kid = sym c.if-is_short.false ∙ c.is_short.ensures in
    ap (λ v. option_map pair_of (if v then Some pair else None)) tall
    ∙ ap (option_map pair_of) (ask-filling plan own specs past taken kid room (cc) (λ own specs first. c.finish-room.ensures.value own specs [] first) represents)
