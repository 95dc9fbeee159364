use Rattle.std.proofs.Common.{ℕ, ◌-◌, Bool, ap, sym, ◌∙◌, arith}
use Rattle.measure_pass.specs.Siblings.{kids_in}
use Rattle.measure_pass.proofs.relatives.AnchorKeys.{facts_at, walk_end, walk_found, walk_none, walk_on, walk_past}
use Rattle.view_model.specs.Facts.{is_shown}
use Rattle.view_model.specs.RelativeCourse.{child_at, links_of}
use Rattle.view_model.specs.SiblingRules.{named_sibling}
use Rattle.measure_pass.specs.Replacing.{instead_of}
use Rattle.view_tree.specs.Rows.{children_of_first, part_from}
use Rattle.measure_pass.proofs.anchors.past_gone.Goals as goal

pub loop-left-init : goal.loop-left-init
loop-left-init c =
    let tree = c.args.tree.now.tree in
    let list = children_of_first (part_from c.args.search.view tree) in
    record {
      live = c.requires.search.kid;
      walk = λ place part. walk_past tree list c.args.search c.args.gone place c.saturating_sub-left.result (c.saturating_sub-left.ensures ∙ ap (λ n. n - 1) c.turns.ensures.value) part;
    }

pub loop-left-preserved : goal.loop-left-preserved
loop-left-preserved c =
    let tree = c.args.tree.now.tree in
    let list = children_of_first (part_from c.args.search.view tree) in
    let kids = kids_in list in
    let shown : ℕ → Bool = λ sibling. is_shown (child_at kids sibling).facts in
    let named = named_sibling c.args.search.rtl c.args.search.axis c.args.search.tie (links_of kids) in
    let live = rw c.in-Some.is at c.named_sibling.ensures.live in
    record {
      live = live;
      walk = λ place part.
          let w = c.loop-left.invariant.walk place part in
          walk_on tree list shown named (instead_of c.args.search kids place) c.loop-left.at c.loop-left.left c.in-Some.named w c.loop-left-test.true
          (rw c.in-Some.is at (c.named_sibling.ensures.key w.here w.part))
          (λ at same. ap is_shown (facts_at tree list c.in-Some.named at live same) ∙ ap is_shown (sym c.facts.ensures.value) ∙ sym c.is_shown.ensures ∙ c.if-is_shown.false);
    }

pub returns-in_default-clause-key : goal.returns-in_default-clause-key
returns-in_default-clause-key c = λ place part.
    let tree = c.args.tree.now.tree in
    let list = children_of_first (part_from c.args.search.view tree) in
    let kids = kids_in list in
    let shown : ℕ → Bool = λ sibling. is_shown (child_at kids sibling).facts in
    let named = named_sibling c.args.search.rtl c.args.search.axis c.args.search.tie (links_of kids) in
    let w = c.loop-left.invariant.walk place part in
    walk_none tree list shown named (instead_of c.args.search kids place) c.loop-left.at c.loop-left.left w (rw c.in_default.is at (c.named_sibling.ensures.key w.here w.part))

pub returns-then-is_shown-clause-key : goal.returns-then-is_shown-clause-key
returns-then-is_shown-clause-key c = λ place part.
    let tree = c.args.tree.now.tree in
    let list = children_of_first (part_from c.args.search.view tree) in
    let kids = kids_in list in
    let shown : ℕ → Bool = λ sibling. is_shown (child_at kids sibling).facts in
    let named = named_sibling c.args.search.rtl c.args.search.axis c.args.search.tie (links_of kids) in
    let live = rw c.in-Some.is at c.named_sibling.ensures.live in
    let w = c.loop-left.invariant.walk place part in
    walk_found tree list shown named (instead_of c.args.search kids place) c.loop-left.at c.loop-left.left c.in-Some.named w c.loop-left-test.true
    (rw c.in-Some.is at (c.named_sibling.ensures.key w.here w.part))
    (λ at same. ap is_shown (facts_at tree list c.in-Some.named at live same) ∙ ap is_shown (sym c.facts.ensures.value) ∙ sym c.is_shown.ensures ∙ c.if-is_shown.true)

pub returns-clause-key : goal.returns-clause-key
returns-clause-key c = λ place part.
    let tree = c.args.tree.now.tree in
    let list = children_of_first (part_from c.args.search.view tree) in
    let kids = kids_in list in
    let shown : ℕ → Bool = λ sibling. is_shown (child_at kids sibling).facts in
    let named = named_sibling c.args.search.rtl c.args.search.axis c.args.search.tie (links_of kids) in
    walk_end tree list shown named (instead_of c.args.search kids place) c.loop-left.at c.loop-left.left (c.loop-left.invariant.walk place part) (omega arith)
