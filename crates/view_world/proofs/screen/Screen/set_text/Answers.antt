use Rattle.std.proofs.Common.{◌≡◌, ℕ, List, Result, ap, sym, ◌∙◌}
use Rattle.std.specs.Str.{chars}
use Rattle.line_words.specs.declared.words.naming.Name.{Name}
use Rattle.tree_edits.specs.Editing.{SetText}
use Rattle.view_tree.specs.Views.{Views, number_of, plain_of}
use Rattle.world_parts.specs.declared.fault.StepFault.{StepFault}
use Rattle.world_replies.specs.declared.response.Response.{Response}
use Rattle.view_world.specs.screen.Changed.{CarriesOut}
use Rattle.view_world.specs.screen.KeyedScreen.{KeyedScreen, world_of}
use Rattle.world_parts.specs.Reply.{Reply, on_view}
use Rattle.view_world.specs.world.Step.{after_edit}
use Rattle.view_world.proofs.worlds.WorldLaws.{Changed-on}
use Rattle.view_world.proofs.edits.NamedLaws.{named_on}
use Rattle.view_world.proofs.screen.Screen.set_text.Goals as goal

-- the bytes that were made are those of the text that the line means
text_on : (tree : Views) (now new : KeyedScreen) (name : Name) (view : ℕ) (bytes text : List ℕ) (result : Result Response StepFault) → tree ≡ now.views
    → ((next : ℕ → Reply) → on_view (plain_of tree) name next ≡ next (number_of tree view)) → chars bytes ≡ text
    → CarriesOut (after_edit (world_of now) (SetText (number_of now.views view) (chars bytes))) new result
    → CarriesOut (on_view (plain_of now.views) name (λ number. after_edit (world_of now) (SetText number text))) new result
text_on tree now new name view bytes text result same found is changed =
    Changed-on tree now new name view (λ number. after_edit (world_of now) (SetText number text)) result same found (rw is at changed)

pub returns-clause-changed : goal.returns-clause-changed
returns-clause-changed c =
    text_on c.self.inside.tree c.args.self.now c.edit-2.new.self c.args.view c.in_ok-view.view c.as_str.result.now _ c.edit-2.result
    (ap (λ (w : KeyedScreen). w.views) c.self.view_is) c.in_ok-view.ensures.1 (ap chars c.as_str.ensures.value ∙ c.in_ok-text.ensures.value) c.edit-2.ensures.changed

pub returns-clause-keeps : goal.returns-clause-keeps
returns-clause-keeps c =
    rw (named_on c.self.inside.tree c.args.self.now c.args.view c.in_ok-view.view (ap (λ (w : KeyedScreen). w.views) c.self.view_is) c.in_ok-view.ensures.1) c.edit-2.ensures.keeps

pub returns-then-is_plain-clause-changed : goal.returns-then-is_plain-clause-changed
returns-then-is_plain-clause-changed c =
    text_on c.self.inside.tree c.args.self.now c.edit.new.self c.args.view c.in_ok-view.view c.args.text.now _ c.edit.result
    (ap (λ (w : KeyedScreen). w.views) c.self.view_is) c.in_ok-view.ensures.1 (sym (c.is_plain.ensures.plain c.if-is_plain.true)) c.edit.ensures.changed

pub returns-then-is_plain-clause-keeps : goal.returns-then-is_plain-clause-keeps
returns-then-is_plain-clause-keeps c =
    rw (named_on c.self.inside.tree c.args.self.now c.args.view c.in_ok-view.view (ap (λ (w : KeyedScreen). w.views) c.self.view_is) c.in_ok-view.ensures.1) c.edit.ensures.keeps
