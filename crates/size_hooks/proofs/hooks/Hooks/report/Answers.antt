use Rattle.std.proofs.Common.{List, length, ap, subst, sym, ◌≡◌, ◌∙◌}
use Rattle.size_hooks.specs.Entries.{hooks_of}
use Rattle.size_hooks.specs.Hook.{Hook}
use Rattle.size_hooks.specs.Hooks.{IsMap, hook_of, reported_as}
use Rattle.size_hooks.specs.declared.entry.Entry.{Entry}
use Rattle.std.specs.List.{refill}
use Rattle.size_hooks.proofs.EntryLaws.{refilled}
use Rattle.size_hooks.proofs.MapLaws.{hook_of-reported, reported_map}
use Rattle.size_hooks.proofs.hooks.Hooks.report.Goals as goal

-- the entries that were written back represent the hooks to which the size is reported
reported : (c : goal.After-self-1) → hooks_of (refill (length c.self.inside.entries.items) c.self.inside.entries.items c.report_in.new.entries)
    ≡ reported_as c.args.view c.args.size (hooks_of c.self.inside.entries.items)
reported c =
    let same = c.report_in.auto.entries ∙ ap length c.as_mut_slice.ensures.value in
    ap hooks_of (refilled c.self.inside.entries.items c.report_in.new.entries same)
    ∙ c.report_in.ensures
    ∙ ap (λ (l : List Entry). reported_as c.args.view c.args.size (hooks_of l)) c.as_mut_slice.ensures.value

pub returns-clause-value : goal.returns-clause-value
returns-clause-value c other =
    ap (λ (hooks : List Hook). hook_of hooks other) (reported c ∙ ap (reported_as c.args.view c.args.size) c.self.view_is)
    ∙ hook_of-reported c.args.view c.args.size c.args.self.now other

pub invariant_of-self : goal.invariant_of-self
invariant_of-self c = subst IsMap (sym (reported c)) (reported_map c.args.view c.args.size (hooks_of c.self.inside.entries.items) c.self.invariant)
