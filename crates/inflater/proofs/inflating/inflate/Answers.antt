use Rattle.std.proofs.Common.{◌≡◌, ◌<◌, Some, Ok, Err, [], drop, length, arith}
use Rattle.std.proofs.lemmas.List.{drop_all}
use Rattle.std.proofs.lemmas.Result.{err_from_is_err_and}
use Rattle.axml_reader.specs.Fields.{same_text}
use Rattle.axml_reader.specs.Meaning.{document}
use Rattle.inflater.specs.Answers.{one_view}
use Rattle.inflater.proofs.Left.{done, fault_out, few_there, left_chars, left_end, left_first, left_ns_end, left_ns_start, left_start, now, some_open, viewed}
use Rattle.inflater.proofs.RootLaws.{rooted}
use Rattle.inflater.proofs.inflating.inflate.Goals.{in-Start+in_ok-view-in-Start+in_ok-push-in-Start, in-End, in-NsStart, in-NsEnd, in-Chars}
use Rattle.inflater.proofs.inflating.inflate.Goals as goal

pub loop-node-init : goal.loop-node-init
loop-node-init c =
    let root = rooted (same_text (Some c.args.doc.now.pool)) c.args.doc.now.nodes.items c.args.doc.now.rooted in
    record { within = omega arith; left = rw c.new-sprouts.ensures.items (left_first (document c.args.doc.now) c.args.res.now c.args.dpi root.ends c.args.doc.now.few) }

pub element_view-requires : goal.element_view-requires
element_view-requires c =
    let lt : c.loop-node.node < length c.args.doc.now.nodes.items = (let t = c.loop-node-test.true in let l = c.len-node-end.ensures in omega arith) in
    let n = now c.args.doc.now.nodes.items c.loop-node.node c.index.result.now _ lt c.index.ensures c.in-Start.is in
    record { line = c.in-Start.line; ns = c.in-Start.ns; name = c.in-Start.name; first = c.in-Start.first; count = c.in-Start.count; is = n.is }

pub returns-in_err-view-in-Start : goal.returns-in_err-view-in-Start
returns-in_err-view-in-Start c =
    let lt : c.loop-node.node < length c.args.doc.now.nodes.items = (let t = c.loop-node-test.true in let l = c.len-node-end.ensures in omega arith) in
    let n = now c.args.doc.now.nodes.items c.loop-node.node c.index.result.now _ lt c.index.ensures c.in-Start.is in
    let left = rw n.rest at c.loop-node.invariant.left in
    let p = err_from_is_err_and c.from_residual.result c.from_residual.ensures.1 in
    rw (p.1, p.2) (fault_out _ _ _ _ _ _ _ _ _ _ _ _ _ c.in_err-view-in-Start.field-0.0 left (viewed (document c.args.doc.now) c.args.res.now c.args.dpi _ c.loop-node.node _ (Err c.in_err-view-in-Start.field-0.0) n.is c.in_err-view-in-Start.ensures.value))

pub overflow_add-ignored : goal.overflow_add-ignored
overflow_add-ignored c =
    let lt : c.loop-node.node < length c.args.doc.now.nodes.items = (let t = c.loop-node-test.true in let l = c.len-node-end.ensures in omega arith) in
    let n = now c.args.doc.now.nodes.items c.loop-node.node c.index.result.now _ lt c.index.ensures c.in-Start.is in
    let own = c.in_ok-view-in-Start.ensures.few _ _ _ _ _ n.is in
    let few = few_there _ _ _ _ _ _ _ lt c.args.doc.now.few_attrs n.is in
    let left = c.loop-node.invariant.left in
    omega (arith, own, few, left.unknown, left.few)

pub overflow_sub-depth : goal.overflow_sub-depth
overflow_sub-depth c =
    let lt : c.loop-node.node < length c.args.doc.now.nodes.items = (let t = c.loop-node-test.true in let l = c.len-node-end.ensures in omega arith) in
    let n = now c.args.doc.now.nodes.items c.loop-node.node c.index.result.now _ lt c.index.ensures c.in-End.is in
    some_open _ _ _ _ _ _ _ _ _ _ _ _ (rw n.rest at c.loop-node.invariant.left)

pub loop-node-preserved : goal.loop-node-preserved
loop-node-preserved c =
    let lt : c.loop-node.node < length c.args.doc.now.nodes.items = (let t = c.loop-node-test.true in let l = c.len-node-end.ensures in omega arith) in
    record {
      within = omega arith;
      left = elim c.match-index.branch [
        | in-Start+in_ok-view-in-Start+in_ok-push-in-Start w ↦
            let n = now c.args.doc.now.nodes.items c.loop-node.node c.index.result.now _ lt c.index.ensures w.in-Start.is in
            let left = rw n.rest at c.loop-node.invariant.left in
            let view = viewed (document c.args.doc.now) c.args.res.now c.args.dpi _ c.loop-node.node _ (Ok w.in_ok-view-in-Start.view) n.is w.in_ok-view-in-Start.ensures.value in
            let own = w.in_ok-view-in-Start.ensures.few _ _ _ _ _ n.is in
            let few = few_there _ _ _ _ _ _ _ lt c.args.doc.now.few_attrs n.is in
            let on = left_start _ _ _ _ _ _ _ _ _ _ _ _ _ _ (one_view w.in_ok-view-in-Start.view) left view (omega (arith, own, few)) in
            rw (w.sprouts-is, w.depth-is, w.element-is, w.ignored-is, w.in_ok-push-in-Start.ensures.items) on
        | in-End w ↦
            let n = now c.args.doc.now.nodes.items c.loop-node.node c.index.result.now _ lt c.index.ensures w.in-End.is in
            let on = left_end _ _ _ _ _ _ _ _ _ _ _ _ (rw n.rest at c.loop-node.invariant.left) in
            rw (w.sprouts-is, w.depth-is, w.element-is, w.ignored-is) on
        | in-NsStart w ↦
            let n = now c.args.doc.now.nodes.items c.loop-node.node c.index.result.now _ lt c.index.ensures w.in-NsStart.is in
            let on = left_ns_start _ _ _ _ _ _ _ _ _ _ _ (rw n.rest at c.loop-node.invariant.left) in
            rw (w.sprouts-is, w.depth-is, w.element-is, w.ignored-is) on
        | in-NsEnd w ↦
            let n = now c.args.doc.now.nodes.items c.loop-node.node c.index.result.now _ lt c.index.ensures w.in-NsEnd.is in
            let on = left_ns_end _ _ _ _ _ _ _ _ _ _ _ (rw n.rest at c.loop-node.invariant.left) in
            rw (w.sprouts-is, w.depth-is, w.element-is, w.ignored-is) on
        | in-Chars w ↦
            let n = now c.args.doc.now.nodes.items c.loop-node.node c.index.result.now _ lt c.index.ensures w.in-Chars.is in
            let on = left_chars _ _ _ _ _ _ _ _ _ _ _ _ _ (rw n.rest at c.loop-node.invariant.left) in
            rw (w.sprouts-is, w.depth-is, w.element-is, w.ignored-is) on
      ];
    }

pub invariant_of-result : goal.invariant_of-result
invariant_of-result c =
    let all : drop c.loop-node.node c.args.doc.now.nodes.items ≡ [] =
    drop_all c.loop-node.node c.args.doc.now.nodes.items (let f = c.loop-node-test.false in let l = c.len-node-end.ensures in omega arith) in
    let root = rooted (same_text (Some c.args.doc.now.pool)) c.args.doc.now.nodes.items c.args.doc.now.rooted in
    let d = done _ _ _ _ _ _ _ root (rw all at c.loop-node.invariant.left) in
    record { preorder = d.in_preorder }

pub returns : goal.returns
returns c =
    let all : drop c.loop-node.node c.args.doc.now.nodes.items ≡ [] =
    drop_all c.loop-node.node c.args.doc.now.nodes.items (let f = c.loop-node-test.false in let l = c.len-node-end.ensures in omega arith) in
    let root = rooted (same_text (Some c.args.doc.now.pool)) c.args.doc.now.nodes.items c.args.doc.now.rooted in
    let d = done _ _ _ _ _ _ _ root (rw all at c.loop-node.invariant.left) in
    (d.plan, d.plan_is, record { sprouts = d.sprouts_are; seeds = d.seeds_are; ignored = d.ignored_is })
