use Rattle.std.proofs.Common.{ap, sym, ◌∙◌}
use Rattle.measure_pass.specs.Siblings.{edges_of}
use Rattle.measure_pass.proofs.relatives.Edged.{edged, edged-write, ready-edged}
use Rattle.kept_views.specs.Laying.{Wrote}
use Rattle.measure_pass.proofs.relatives.SiblingTurns.{moved_at, size_at}
use Rattle.view_model.specs.declared.facts.Facts.{Facts}
use Rattle.view_model.specs.declared.relative.Edges.{Edges}
use Rattle.view_model.specs.Facts.{is_shown, layout_facts}
use Rattle.view_model.specs.RelativeLayout.{final_rect, relative_size}
use Rattle.view_tree.specs.Rows.{head_view, part_from}
use Rattle.view_tree.specs.Views.{Held, held_of}
use Rattle.view_tree.specs.declared.node.state.State.{State}
use Rattle.measure_pass.proofs.siblings.settle_kid.Goals as goal
use Rattle.measure_pass.proofs.siblings.settle_kid.Goals.{After-keep_edges}

pub settle-rect-requires-clause-width : goal.settle-rect-requires-clause-width
settle-rect-requires-clause-width c =
    let shown = sym (ap is_shown c.facts.ensures.value) ∙ sym c.is_shown.ensures ∙ c.if-not-is_shown.false in
    rw c.state-state.ensures.value (size_at c.args.tree.now.tree c.args.kid (held_of c.args.tree.now) c.requires.live shown c.requires.size).0

pub settle-rect-requires-clause-height : goal.settle-rect-requires-clause-height
settle-rect-requires-clause-height c =
    let shown = sym (ap is_shown c.facts.ensures.value) ∙ sym c.is_shown.ensures ∙ c.if-not-is_shown.false in
    rw c.state-state.ensures.value (size_at c.args.tree.now.tree c.args.kid (held_of c.args.tree.now) c.requires.live shown c.requires.size).1

pub returns-clause-settled : goal.returns-clause-settled
returns-clause-settled c = λ own specs asked first second edges represents h.
    let room = relative_size own specs first second in
    let rect =
    c.settle-rect.ensures own specs first second represents
    ∙ ap (λ (facts : Facts). final_rect own specs room (layout_facts facts) c.state-state.result.edges c.state-state.result.measured) c.facts-2.ensures.value
    ∙ ap (λ (state : State). final_rect own specs room (layout_facts (head_view (part_from c.args.kid c.args.tree.now.tree)).facts) state.edges state.measured) c.state-state.ensures.value in
    let own_held = held_of c.args.tree.now c.args.kid in
    let wrote : Wrote (held_of c.args.tree.now) (held_of c.keep_edges.new.tree) c.args.kid (record own_held { state = record own_held.state { edges = edges_of c.settle-rect.result } }) = record {
      at = c.keep_edges.ensures.held ∙ ap (λ (edges : Edges). let held : Held = record own_held { state = record own_held.state { edges = edges } } in held) c.edges_of.ensures;
      others = c.keep_edges.ensures.others;
    } in
    moved_at c.args.tree.now.tree c.args.kid (held_of c.args.tree.now) (held_of c.keep_edges.new.tree) own specs asked (relative_size own specs first second) edges c.settle-rect.result
    c.requires.live c.facts.ensures.is_tree.keys rect wrote h

wrote : (c : After-keep_edges) → Wrote (held_of c.args.tree.now) (held_of c.keep_edges.new.tree) c.args.kid (edged (held_of c.args.tree.now c.args.kid) (edges_of c.settle-rect.result))
wrote c = record {
  at = c.keep_edges.ensures.held ∙ ap (edged (held_of c.args.tree.now c.args.kid)) c.edges_of.ensures;
  others = c.keep_edges.ensures.others;
}

pub returns-clause-edged : goal.returns-clause-edged
returns-clause-edged c =
    edged-write (held_of c.args.tree.now) (held_of c.keep_edges.new.tree) c.args.kid (edges_of c.settle-rect.result) (wrote (goal.at.returns-clause-edged c).After-keep_edges)

pub returns-clause-ready : goal.returns-clause-ready
returns-clause-ready c = λ ready.
    ready-edged c.args.tree.now.tree c.args.kid (held_of c.args.tree.now) (held_of c.keep_edges.new.tree) (edges_of c.settle-rect.result) c.facts.ensures.is_tree.keys c.requires.live
    (wrote (goal.at.returns-clause-ready c).After-keep_edges) ready
