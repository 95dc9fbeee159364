use Rattle.std.proofs.Common.{◌≡◌, ◌<◌, [], ◌∷◌, Err, None, Ok, chars, ◌∙◌, sym, ap, arith, refl, true, false, rules}
use Rattle.std.proofs.lemmas.Str.{chars_from_encodes}
use Rattle.view_model.specs.PlainTree.{PlainView, with_text}
use Rattle.view_tree.specs.Rows.{changed_at_key, count_of_key}
use Rattle.view_tree.proofs.forest.NumberLaws.{count_of_key-put}
use Rattle.view_tree.specs.Views.{number_of, plain_of}
use Rattle.tree_edits.specs.Scene.{EditScene, scene_of}
use Rattle.tree_edits.proofs.ConsistentLaws.{change_kept}
use Rattle.tree_edits.proofs.EditLaws.{no_memory, text_scene, written_by}
use Rattle.tree_edits.proofs.KeepLaws.{after_request, put_keeps}
use Rattle.tree_edits.proofs.SceneLaws.{requested_scene}
use Rattle.tree_edits.proofs.UnaskedLaws.{leaves_unasked}
use Rattle.tree_edits.specs.declared.edits.Edit.TheVariants as edit
use Rattle.tree_edits.proofs.applying.write.Goals as goal
use Rattle.tree_edits.proofs.applying.write.Goals.{After-request}

pub returns-then-not-has_text-clause-applied : goal.returns-then-not-has_text-clause-applied
returns-then-not-has_text-clause-applied c =
    let refused : c.has_text.result ≡ false = search rules in
    written_by c.args.tree.now c.args.view (chars c.args.text.now) c.class.result c.has_text.result c.class.ensures.is_tree c.requires.live c.class.ensures.value c.has_text.ensures
    ∙ rw refused (sym (ap (λ t. Err t) c.plain.ensures))

pub returns-in_err-text-clause-applied : goal.returns-in_err-text-clause-applied
returns-in_err-text-clause-applied c =
    let has : c.has_text.result ≡ true = search rules in
    let is =
    written_by c.args.tree.now c.args.view (chars c.args.text.now) c.class.result c.has_text.result c.class.ensures.is_tree c.requires.live c.class.ensures.value c.has_text.ensures in
    no_memory _ (record (scene_of c.args.tree.now) { tree = with_text (number_of c.args.tree.now c.args.view) (chars c.args.text.now) (plain_of c.args.tree.now) }) (scene_of c.args.tree.now)
    c.from_residual.result (rw has at is) c.from_residual.ensures.1

written : (c : After-request) → c.in_ok-text.text ≡ chars c.args.text.now
written c = chars_from_encodes c.in_ok-text.text c.args.text.now c.utf8.text c.in_ok-text.ensures

pub request-requires : goal.request-requires
request-requires c =
    let live : 0 < count_of_key c.args.view c.args.tree.now.tree = c.requires.live in
    let put : count_of_key c.args.view c.set_text.new.self.tree ≡ count_of_key c.args.view c.args.tree.now.tree =
    ap (count_of_key c.args.view) c.set_text.ensures.tree ∙ count_of_key-put c.args.view c.args.view _ c.args.tree.now.tree in
    omega arith

pub returns-clause-applied : goal.returns-clause-applied
returns-clause-applied c =
    let has : c.has_text.result ≡ true = search rules in
    written_by c.args.tree.now c.args.view (chars c.args.text.now) c.class.result c.has_text.result c.class.ensures.is_tree c.requires.live c.class.ensures.value c.has_text.ensures
    ∙ rw has (ap (λ (scene : EditScene). Ok (scene, None))
    (sym (requested_scene c.set_text.new.self c.request.new.self (c.args.view ∷ []) c.request.ensures.same c.request.ensures.held
    ∙ text_scene c.args.tree.now c.set_text.new.self c.args.view (chars c.args.text.now) c.in_ok-text.text (written c)
    c.set_text.ensures.tree c.set_text.ensures.plain c.set_text.ensures.next c.set_text.ensures.held)))

pub returns-clause-kept : goal.returns-clause-kept
returns-clause-kept c =
    let change : PlainView → PlainView = λ v. record v { text = c.in_ok-text.text } in
    put_keeps c.args.tree.now c.request.new.self (edit.Text c.args.view c.args.text) c.args.view change
    (c.request.ensures.same.tree ∙ c.set_text.ensures.tree) (ap (λ t. changed_at_key c.args.view (λ (v : PlainView). record v { text = t }) c.args.tree.now.tree) (written c))
    (c.request.ensures.same.next ∙ c.set_text.ensures.next)
    (after_request c.args.tree.now c.set_text.new.self c.request.new.self (edit.Text c.args.view c.args.text) c.args.view change c.set_text.ensures.tree c.set_text.ensures.held c.request.ensures.held)

pub returns-clause-consistent : goal.returns-clause-consistent
returns-clause-consistent c =
    change_kept c.args.tree.now c.set_text.new.self c.request.new.self c.args.view (λ (v : PlainView). record v { text = c.in_ok-text.text }) c.class.ensures.is_tree c.requires.live (λ _. refl)
    c.set_text.ensures.tree c.set_text.ensures.held c.request.ensures.same c.request.ensures.held

pub returns-clause-asked : goal.returns-clause-asked
returns-clause-asked c = leaves_unasked c.args.tree.now c.request.new.self (edit.Text c.args.view c.args.text) (returns-clause-kept c)
