use Rattle.std.proofs.Common.{List, ◌≡◌, ◌==◌, ◌∙◌, ap, rules, subst, sym}
use Rattle.std.specs.Prelude.{not}
use Rattle.arrayvec.proofs.ArrayVecLemmas.{filter-from_retain}
use Rattle.size_hooks.specs.Entries.{hooks_of}
use Rattle.size_hooks.specs.Hook.{Hook}
use Rattle.size_hooks.specs.Hooks.{IsMap, disarmed, hook_of}
use Rattle.size_hooks.specs.declared.entry.Entry.{Entry}
use Rattle.size_hooks.proofs.EntryLaws.{entries_disarmed}
use Rattle.size_hooks.proofs.MapLaws.{disarmed_map, hook_of-disarmed}
use Rattle.size_hooks.proofs.hooks.Hooks.disarm.Goals as goal

-- the entries that are left represent the hooks that are
left : (c : goal.After-retain) → hooks_of c.retain.new.self.items ≡ disarmed c.args.view (hooks_of c.self.inside.entries.items)
left c =
    let kept = filter-from_retain _ (λ (entry : Entry). not (entry.view == c.args.view)) _ (λ x b f' y called. search rules) _ _ c.retain.ensures.filtered in
    ap hooks_of kept ∙ entries_disarmed c.args.view c.self.inside.entries.items

pub returns-clause-hooks : goal.returns-clause-hooks
returns-clause-hooks c = left c ∙ ap (disarmed c.args.view) c.self.view_is

pub returns-clause-value : goal.returns-clause-value
returns-clause-value c other = ap (λ (hooks : List Hook). hook_of hooks other) (returns-clause-hooks c) ∙ hook_of-disarmed c.args.view c.args.self.now other

pub invariant_of-self : goal.invariant_of-self
invariant_of-self c = subst IsMap (sym (left c)) (disarmed_map c.args.view (hooks_of c.self.inside.entries.items) c.self.invariant)
