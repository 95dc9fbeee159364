use Rattle.std.proofs.Common.{◌≡◌, ◌+◌, false, List, drop, ap, sym, ◌∙◌}
use Rattle.kept_views.specs.Pressing.{path_of}
use Rattle.size_hooks.specs.Hooks.{hook_of}
use Rattle.view_model.specs.declared.changes.NumEdit.{NumEdit}
use Rattle.std.proofs.Common.{arith}
use Rattle.view_tree.specs.tree.Requests.{among}
use Rattle.view_tree.specs.Views.{IsLive, held_of, plain_of}
use Rattle.traversal.proofs.hooks.PassEdits.{noted, noted_live}
use Rattle.traversal.proofs.laid.ShapeLaws.{count_of_key-same}
use Rattle.traversal.specs.Frames.{edited_by, edits_of}
use Rattle.traversal.proofs.hooks.EditLaws.{next_edit, none_left, shape_then}
use Rattle.traversal.proofs.hooks.Unedited.{some_off, unedited_next, unedited_same}
use Rattle.traversal.proofs.firing.fire.Goals as goal

pub loop-edit-preserved : goal.loop-edit-preserved
loop-edit-preserved c =
    let i = c.loop-edit.invariant in
    let hook = hook_of c.args.hooks.now c.args.view in
    record {
      plain =
          ap (edited_by (drop (c.loop-edit.k + 1) (edits_of hook))) c.make-requester.ensures.plain
          ∙ ap (λ (edits : List NumEdit). edited_by edits (plain_of c.loop-edit.tree)) (sym (next_edit hook c.loop-edit.k c.in-Some.edit c.in-Some.ensures.value))
          ∙ i.plain;
      geometry = c.make-requester.ensures.geometry ∙ i.geometry;
      shape = shape_then i.shape c.make-requester.ensures.shape;
      bounds = λ key. c.make-requester.ensures.bounds key ∙ i.bounds key;
      in_pass = λ root p. rw c.note.ensures.items
          (noted c.make-requester.result c.loop-edit.requesters.items root (held_of c.make-requester.new.tree) c.make-requester.new.tree.tree (c.make-requester.ensures.in_pass _ root (i.in_pass root p)));
      live = rw c.note.ensures.items
          (noted_live c.loop-edit.requesters.items c.make-requester.result (λ key. IsLive c.make-requester.new.tree key)
          (λ key here. let same = count_of_key-same key c.make-requester.ensures.shape in let l = i.live key here in omega arith) c.make-requester.ensures.live);
      few = let n = c.note.ensures.few in let f = i.few in omega arith;
      caches = λ key un.
          let had = i.caches key un in
          let next = unedited_next c.loop-edit.tree.tree c.loop-edit.k (edits_of hook) (drop (c.loop-edit.k + 1) (edits_of hook)) c.in-Some.edit key
          (next_edit hook c.loop-edit.k c.in-Some.edit c.in-Some.ensures.value) (unedited_same (edits_of hook) key i.shape un) in
          let made = c.make-requester.ensures.caches key next in (
            made.0 ∙ had.0,
            rw c.note.ensures.items (noted_live c.loop-edit.requesters.items c.make-requester.result (λ view. among key (path_of view c.args.tree.now.tree) ≡ false) had.1 (some_off c.make-requester.result key i.shape made.1)),
          );
      counts = c.make-requester.ensures.counts ∙ i.counts;
    }

pub returns-clause-plain : goal.returns-clause-plain
returns-clause-plain c =
    ap (λ (edits : List NumEdit). edited_by edits (plain_of c.loop-edit.tree)) (sym (none_left (hook_of c.args.hooks.now c.args.view) c.loop-edit.k c.in_default.ensures.value))
    ∙ c.loop-edit.invariant.plain
