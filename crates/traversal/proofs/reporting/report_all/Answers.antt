use Rattle.std.proofs.Common.{sym}
use Rattle.view_tree.specs.Views.{geometry_of}
use Rattle.traversal.proofs.hooks.ReportLaws.{reported_over_none}
use Rattle.traversal.proofs.reporting.report_all.Goals as goal

pub returns-then-is_empty-clause-hooks : goal.returns-then-is_empty-clause-hooks
returns-then-is_empty-clause-hooks c = rw (c.is_empty.ensures.empty.0 c.if-is_empty.true) (sym (reported_over_none (geometry_of c.args.tree.now)))
