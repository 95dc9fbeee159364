use Rattle.std.proofs.Common.{ℕ, Bool, ap, sym, ◌∙◌, length, refl, subst}
use Rattle.measure_pass.specs.Siblings.{IsKidAt, kids_in}
use Rattle.measure_pass.proofs.relatives.AnchorKeys.{facts_at, some_kids, walk_found, walk_none, walk_on, walk_start}
use Rattle.view_model.specs.Facts.{is_shown}
use Rattle.view_model.specs.RelativeCourse.{child_at, links_of}
use Rattle.view_model.specs.SiblingRules.{anchor_of, named_sibling}
use Rattle.view_tree.specs.Rows.{children_of_first, part_from}
use Rattle.measure_pass.proofs.anchors.anchor_key.Goals as goal

pub returns-in_default-clause-key : goal.returns-in_default-clause-key
returns-in_default-clause-key c = λ place part.
    let tree = c.args.tree.now.tree in
    let list = children_of_first (part_from c.args.search.view tree) in
    let kids = kids_in list in
    let shown : ℕ → Bool = λ sibling. is_shown (child_at kids sibling).facts in
    let named = named_sibling c.args.search.rtl c.args.search.axis c.args.search.tie (links_of kids) in
    let w = walk_start tree list kids c.args.search.rtl c.args.search.axis c.args.search.tie c.args.kid place (length kids) refl part in
    walk_none tree list shown named (anchor_of c.args.search.rtl c.args.search.axis c.args.search.tie (links_of kids) shown place) c.args.kid (length kids) w (rw c.in_default.is at (c.named_sibling.ensures.key w.here w.part))

pub returns-then-is_shown-clause-key : goal.returns-then-is_shown-clause-key
returns-then-is_shown-clause-key c = λ place part.
    let tree = c.args.tree.now.tree in
    let list = children_of_first (part_from c.args.search.view tree) in
    let kids = kids_in list in
    let shown : ℕ → Bool = λ sibling. is_shown (child_at kids sibling).facts in
    let named = named_sibling c.args.search.rtl c.args.search.axis c.args.search.tie (links_of kids) in
    let live = rw c.in-Some.is at c.named_sibling.ensures.live in
    let w = walk_start tree list kids c.args.search.rtl c.args.search.axis c.args.search.tie c.args.kid place (length kids) refl part in
    walk_found tree list shown named (anchor_of c.args.search.rtl c.args.search.axis c.args.search.tie (links_of kids) shown place) c.args.kid (length kids) c.in-Some.named w (some_kids tree list c.args.kid place c.requires.search.kid part)
    (rw c.in-Some.is at (c.named_sibling.ensures.key w.here w.part))
    (λ at same. ap is_shown (facts_at tree list c.in-Some.named at live same) ∙ ap is_shown (sym c.facts.ensures.value) ∙ sym c.is_shown.ensures ∙ c.if-is_shown.true)

pub returns-clause-key : goal.returns-clause-key
returns-clause-key c = λ place part.
    let tree = c.args.tree.now.tree in
    let list = children_of_first (part_from c.args.search.view tree) in
    let kids = kids_in list in
    let shown : ℕ → Bool = λ sibling. is_shown (child_at kids sibling).facts in
    let named = named_sibling c.args.search.rtl c.args.search.axis c.args.search.tie (links_of kids) in
    let live = rw c.in-Some.is at c.named_sibling.ensures.live in
    let w = walk_start tree list kids c.args.search.rtl c.args.search.axis c.args.search.tie c.args.kid place (length kids) refl part in
    let past = walk_on tree list shown named (anchor_of c.args.search.rtl c.args.search.axis c.args.search.tie (links_of kids) shown place) c.args.kid (length kids) c.in-Some.named w (some_kids tree list c.args.kid place c.requires.search.kid part)
    (rw c.in-Some.is at (c.named_sibling.ensures.key w.here w.part))
    (λ at same. ap is_shown (facts_at tree list c.in-Some.named at live same) ∙ ap is_shown (sym c.facts.ensures.value) ∙ sym c.is_shown.ensures ∙ c.if-is_shown.false) in
    subst (λ anchor. IsKidAt tree list anchor c.replacement_of.result) past.same (c.replacement_of.ensures.replaced.0 past.here past.part)
