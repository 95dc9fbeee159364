use Rattle.std.proofs.Common.{◌∙◌, ap, sym}
use Rattle.view_model.specs.Resources.{definition_refusal, resource_of}
use Rattle.res_values.specs.Values.{resource}
use Rattle.res_values.proofs.EntryLaws.{defined, no_memory, refusal_is, refused_as, resource_of-with}
use Rattle.res_values.proofs.resources.Resources.define.Goals as goal

pub returns-in_err-may_define-clause-refused : goal.returns-in_err-may_define-clause-refused
returns-in_err-may_define-clause-refused c =
    let reported = refusal_is c.self.inside.values.entries c.args.self.now c.args.id c.len.result c.get.result c.self.view_is c.len.ensures.len c.get.ensures.value
    ∙ ap (definition_refusal c.len.result) (sym c.is_some.ensures) ∙ c.in_err-may_define.ensures in
    refused_as _ c.in_err-may_define.field-0.0 c.from_residual.result reported c.from_residual.ensures.1

pub returns-in_err-insert-clause-refused : goal.returns-in_err-insert-clause-refused
returns-in_err-insert-clause-refused c =
    let none = refusal_is c.self.inside.values.entries c.args.self.now c.args.id c.len.result c.get.result c.self.view_is c.len.ensures.len c.get.ensures.value
    ∙ ap (definition_refusal c.len.result) (sym c.is_some.ensures) ∙ c.in_ok-may_define.ensures in
    no_memory _ c.from_residual-in_err-insert.result none c.from_residual-in_err-insert.ensures.1

pub returns-clause-entries : goal.returns-clause-entries
returns-clause-entries c =
    defined c.self.inside.values.entries c.insert.new.self.entries c.args.self.now c.args.id c.args.value c.self.view_is c.in_ok-insert.ensures.entries

pub returns-clause-value : goal.returns-clause-value
returns-clause-value c other =
    ap (λ all. resource_of all other) (defined c.self.inside.values.entries c.insert.new.self.entries c.args.self.now c.args.id c.args.value c.self.view_is c.in_ok-insert.ensures.entries)
    ∙ resource_of-with c.args.self.now c.args.id (resource c.args.value) other

pub returns-clause-refused : goal.returns-clause-refused
returns-clause-refused c =
    refusal_is c.self.inside.values.entries c.args.self.now c.args.id c.len.result c.get.result c.self.view_is c.len.ensures.len c.get.ensures.value
    ∙ ap (definition_refusal c.len.result) (sym c.is_some.ensures) ∙ c.in_ok-may_define.ensures
