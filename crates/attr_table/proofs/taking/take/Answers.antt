use Rattle.std.proofs.Common.{sym, subst, arith}
use Rattle.axml_reader.specs.declared.doc.Node.TheVariants.{Start}
use Rattle.axml_reader.specs.Meaning.{document}
use Rattle.attr_table.specs.Taken.{IsTakenAs}
use Rattle.attr_table.proofs.TakingLaws.{facets-start, taken-finished, taken-stopped}
use Rattle.attr_table.proofs.NamedLaws.{sets_named}
use Rattle.attr_table.proofs.taking.take.Goals as goal

pub take_attrs-requires : goal.take_attrs-requires
take_attrs-requires c = rw c.new-draft.ensures (omega (arith, c.attrs_of.ensures.few))

pub returns-in_err-take_attrs-clause-value : goal.returns-in_err-take_attrs-clause-value
returns-in_err-take_attrs-clause-value c =
    let start = Start c.requires.line c.requires.ns c.requires.name c.requires.first c.requires.count in
    let sets = facets-start (document c.args.doc.now) c.args.res.now c.args.dpi c.args.node start c.attrs_of.result.now c.new-draft.result c.requires.is
    (c.attrs_of.ensures.value start c.requires.is) c.new-draft.ensures in
    subst (λ sets. IsTakenAs sets c.from_residual.result) (sym sets)
    (taken-stopped _ c.take_attrs.new.draft c.in_err-take_attrs.field-0.0 c.from_residual.result c.in_err-take_attrs.ensures.value c.from_residual.ensures.1)

pub returns-clause-value : goal.returns-clause-value
returns-clause-value c =
    let start = Start c.requires.line c.requires.ns c.requires.name c.requires.first c.requires.count in
    let sets = facets-start (document c.args.doc.now) c.args.res.now c.args.dpi c.args.node start c.attrs_of.result.now c.new-draft.result c.requires.is
    (c.attrs_of.ensures.value start c.requires.is) c.new-draft.ensures in
    subst (λ sets. IsTakenAs sets c.finish.result) (sym sets)
    (taken-finished _ c.take_attrs.new.draft c.finish.result c.in_ok-take_attrs.ensures.value c.finish.ensures.value)

pub returns-clause-named : goal.returns-clause-named
returns-clause-named c = sets_named (document c.args.doc.now) c.args.res.now c.args.dpi c.args.node c.finish.result (returns-clause-value c)
