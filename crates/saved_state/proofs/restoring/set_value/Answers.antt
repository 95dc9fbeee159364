use Rattle.std.proofs.Common.{◌≡◌, ◌≤◌, ℕ, ℤ, Some, pos, sym, ap, subst, ◌∙◌, arith, w32}
use Rattle.std.proofs.lemmas.Int.{to_z_pos}
use Rattle.view_tree.proofs.forest.NumberLaws.{count_of_key-put}
use Rattle.view_tree.proofs.values.KeptLaws.{ancestors-put}
use Rattle.view_tree.specs.Rows.{ancestors, count_of_key}
use Rattle.view_tree.specs.Views.{held_of}
use Rattle.saved_state.specs.Restored.{moved_one, with_text_of}
use Rattle.saved_state.specs.State.{IsValue}
use Rattle.saved_state.specs.declared.value.Value.TheVariants.{Text}
use Rattle.saved_state.proofs.RestoredLaws.{one_asked}
use Rattle.saved_state.proofs.RestatedLaws.{same_put}
use Rattle.saved_state.proofs.restoring.set_value.Goals as goal

pub request-requires-in-Text : goal.request-requires-in-Text
request-requires-in-Text c =
    let put : count_of_key c.args.view c.set_text.new.self.tree ≡ count_of_key c.args.view c.args.tree.now.tree =
    ap (count_of_key c.args.view) c.set_text.ensures.tree ∙ count_of_key-put c.args.view c.args.view (with_text_of (Some (Text c.in-Text.text))) c.args.tree.now.tree in
    let live = c.requires.live in
    omega arith

pub returns-in-Offset-clause-tree : goal.returns-in-Offset-clause-tree
returns-in-Offset-clause-tree c =
    rw c.in-Offset.is (c.request.ensures.same.tree ∙ c.set_offset.ensures.same.tree ∙ sym (same_put c.args.view c.args.tree.now.tree))

pub returns-in-Offset-clause-held : goal.returns-in-Offset-clause-held
returns-in-Offset-clause-held c = λ key.
    let old = held_of c.args.tree.now in
    let few : c.in-Offset.offset ≤ 16777215 = subst IsValue c.in-Offset.is c.requires.fits in
    let moved : (key : ℕ) → held_of c.set_offset.new.tree key ≡ moved_one c.args.view (pos c.in-Offset.offset) old key =
    λ key. c.set_offset.ensures.held key ∙ ap (λ (offset : ℤ). moved_one c.args.view offset old key) (to_z_pos w32 c.in-Offset.offset (omega arith)) in
    rw c.in-Offset.is
    (one_asked c.args.view old (held_of c.set_offset.new.tree) (held_of c.request.new.self) (moved_one c.args.view (pos c.in-Offset.offset) old) c.args.tree.now.tree c.set_offset.new.tree.tree
    moved (ap (ancestors c.args.view) c.set_offset.ensures.same.tree) c.request.ensures.held key)

pub returns-in-Text-clause-held : goal.returns-in-Text-clause-held
returns-in-Text-clause-held c = λ key.
    let old = held_of c.args.tree.now in
    rw c.in-Text.is
    (one_asked c.args.view old (held_of c.set_text.new.self) (held_of c.request-in-Text.new.self) old c.args.tree.now.tree c.set_text.new.self.tree
    c.set_text.ensures.held
    (ap (ancestors c.args.view) c.set_text.ensures.tree ∙ ancestors-put c.args.view c.args.view (with_text_of (Some (Text c.in-Text.text))) c.args.tree.now.tree) c.request-in-Text.ensures.held key)
