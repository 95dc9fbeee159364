use Rattle.std.proofs.Common.{◌≡◌, ◌≤◌, ◌<◌, arith, ap, sym, ◌∙◌, length, refl, subst, eqb-true}
use Rattle.std.proofs.Common.{List, ◌++◌, ◌∷◌, []}
use Rattle.std.proofs.lemmas.Bool.{eqb-false}
use Rattle.std.proofs.lemmas.List.{map-append}
use Rattle.size_hooks.specs.declared.entry.Entry.{Entry}
use Rattle.size_hooks.specs.Hook.{Hook}
use Rattle.view_model.specs.Numbers.{max_hooks}
use Rattle.size_hooks.specs.Entries.{hook_in, hooks_of}
use Rattle.size_hooks.specs.Hooks.{IsMap, armed, disarmed, hook_of}
use Rattle.view_model.specs.declared.changes.NumEdit.{NumEdit}
use Rattle.size_hooks.proofs.EntryLaws.{length_hooks}
use Rattle.size_hooks.proofs.MapLaws.{all_disarmed, armed_map, hook_of-armed, none_armed, none_disarmed}
use Rattle.size_hooks.proofs.hooks.Hooks.arm.Goals as goal

-- a list that is still full has lost nothing
still_full : (c : goal.Then-is_full) → length (disarmed c.args.view c.args.self.now) ≡ max_hooks
still_full c = ap length (sym (c.self.view_is ∙ c.disarm.ensures.hooks)) ∙ length_hooks c.self.inside.entries.items ∙ eqb-true _ _ (sym c.if-is_full.ensures.value)

pub returns-then-is_full-clause-full : goal.returns-then-is_full-clause-full
returns-then-is_full-clause-full c =
    let full = still_full c in
    let few = c.disarm.ensures.map.few in
    let stay : length c.args.self.now ≤ length (disarmed c.args.view c.args.self.now) = omega arith in
    (λ e. (sym (ap length (all_disarmed c.args.view c.args.self.now stay)) ∙ full, none_armed c.args.view c.args.self.now stay), λ b. refl)

pub returns-then-is_full-clause-unchanged : goal.returns-then-is_full-clause-unchanged
returns-then-is_full-clause-unchanged c =
    let full = still_full c in
    let few = c.disarm.ensures.map.few in
    c.disarm.ensures.hooks ∙ all_disarmed c.args.view c.args.self.now (omega arith)

-- the hook that is armed
abbrev new_hook : goal.After-push → Hook
new_hook c = record { view = c.args.view; reported = c.args.reported; edits = c.args.edits.now.items }

-- with one entry more the entries represent the hooks with this one
with_it : (c : goal.After-push) → hooks_of c.push.new.self.items ≡ armed (new_hook c) c.args.self.now
with_it c =
    let entry : Entry = record { view = c.args.view; reported = c.args.reported; edits = c.copied.result } in
    ap hooks_of c.push.ensures.items
    ∙ map-append hook_in c.self.inside.entries.items (entry ∷ [])
    ∙ ap (λ (l : List Hook). l ++ hook_in entry ∷ []) (c.self.view_is ∙ c.disarm.ensures.hooks)
    ∙ ap (λ (l : List NumEdit). disarmed c.args.view c.args.self.now ++ record { view = c.args.view; reported = c.args.reported; edits = l } ∷ []) c.copied.ensures.same

pub invariant_of-self : goal.invariant_of-self
invariant_of-self c =
    let left = c.self.view_is ∙ c.disarm.ensures.hooks in
    let room = c.if-is_full.ensures in
    let fits = room.fits in
    let less = eqb-false _ _ (sym room.value) in
    let few : length (disarmed c.args.view c.args.self.now) < max_hooks = rw (← ap length left, length_hooks c.self.inside.entries.items) (omega arith) in
    subst IsMap (sym (with_it c)) (armed_map (new_hook c) c.args.self.now c.disarm.ensures.map few c.copied.ensures.few)

pub returns-clause-value : goal.returns-clause-value
returns-clause-value c other = ap (λ (hooks : List Hook). hook_of hooks other) (with_it c) ∙ hook_of-armed (new_hook c) c.args.self.now other

pub returns-clause-full : goal.returns-clause-full
returns-clause-full c = (
  λ e. absurd cc,
  λ both.
      let same = none_disarmed c.args.view c.args.self.now both.1 in
      let full = sym (length_hooks c.self.inside.entries.items) ∙ ap length (c.self.view_is ∙ c.disarm.ensures.hooks ∙ same) ∙ both.0 in
      let room = c.if-is_full.ensures in
      absurd (eqb-false _ _ (sym room.value) full),
)
