use Rattle.std.proofs.Common.{sym, ◌∙◌, ap}
use Rattle.std.specs.Prelude.{Option}
use Rattle.view_model.specs.Facets.{takes_change}
use Rattle.view_model.specs.PlainTree.{PlainView}
use Rattle.view_model.specs.declared.class.Class.{Class}
use Rattle.view_world.specs.world.Step.{may_change}
use Rattle.view_world.proofs.hooking.may_change.Goals as goal

pub returns-in-None : goal.returns-in-None
returns-in-None c = sym (ap (λ (view : Option PlainView). may_change view c.args.edit.change) c.in-None.ensures.found)

pub returns-in-Some : goal.returns-in-Some
returns-in-Some c =
    c.takes_change.ensures
    ∙ ap (λ (class : Class). takes_change class c.args.edit.change) c.class.ensures.value
    ∙ sym (ap (λ (view : Option PlainView). may_change view c.args.edit.change) c.in-Some.ensures.found)
