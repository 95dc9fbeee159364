use Rattle.std.proofs.Common.{Some, None, ap, sym, ◌∙◌, subst}
use Rattle.measure_pass.specs.Siblings.{IsKidAt, kids_in}
use Rattle.measure_pass.proofs.relatives.AnchorKeys.{named_by, named_none, named_other, named_self}
use Rattle.view_model.specs.SiblingRules.{anchor_id, last_with_id, no_link}
use Rattle.view_model.specs.RelativeCourse.{links_of}
use Rattle.view_tree.specs.Rows.{children_of_first, part_from}
use Rattle.std.specs.Prelude.{slice_index_or}
use Rattle.measure_pass.proofs.anchors.named_sibling.Goals as goal

pub returns-in_default-clause-key : goal.returns-in_default-clause-key
returns-in_default-clause-key c = λ place part.
    let tree = c.args.tree.now.tree in
    let list = children_of_first (part_from c.args.search.view tree) in
    named_none tree list place (last_with_id (links_of (kids_in list)) (anchor_id c.args.search.rtl c.args.search.axis c.args.search.tie (slice_index_or (links_of (kids_in list)) place no_link).rules))
    (named_by tree c.args.search.view c.args.kid place c.args.search.rtl c.args.search.axis c.args.search.tie c.anchor_id-id.result None c.requires.search.live c.requires.search.kid c.facts.ensures.is_tree.keys part
    (c.anchor_id-id.ensures ∙ ap (λ facts. anchor_id c.args.search.rtl c.args.search.axis c.args.search.tie facts.rules) c.facts.ensures.value) (sym c.in_default.is ∙ c.last_child_with_id.ensures.value))

pub returns-then-named-kid-clause-key : goal.returns-then-named-kid-clause-key
returns-then-named-kid-clause-key c = λ place part.
    let tree = c.args.tree.now.tree in
    let list = children_of_first (part_from c.args.search.view tree) in
    named_self tree list place (last_with_id (links_of (kids_in list)) (anchor_id c.args.search.rtl c.args.search.axis c.args.search.tie (slice_index_or (links_of (kids_in list)) place no_link).rules)) c.args.kid c.requires.search.kid part
    (subst (λ key. IsKidAt tree list (last_with_id (links_of (kids_in list)) (anchor_id c.args.search.rtl c.args.search.axis c.args.search.tie (slice_index_or (links_of (kids_in list)) place no_link).rules)) (Some key)) c.if-named-kid.true (named_by tree c.args.search.view c.args.kid place c.args.search.rtl c.args.search.axis c.args.search.tie c.anchor_id-id.result (Some c.in-Some.named) c.requires.search.live c.requires.search.kid c.facts.ensures.is_tree.keys part
    (c.anchor_id-id.ensures ∙ ap (λ facts. anchor_id c.args.search.rtl c.args.search.axis c.args.search.tie facts.rules) c.facts.ensures.value) (sym c.in-Some.is ∙ c.last_child_with_id.ensures.value)))

pub returns-else-named-kid-clause-key : goal.returns-else-named-kid-clause-key
returns-else-named-kid-clause-key c = λ place part.
    let tree = c.args.tree.now.tree in
    let list = children_of_first (part_from c.args.search.view tree) in
    named_other tree list place (last_with_id (links_of (kids_in list)) (anchor_id c.args.search.rtl c.args.search.axis c.args.search.tie (slice_index_or (links_of (kids_in list)) place no_link).rules)) c.args.kid c.in-Some.named c.requires.search.kid part
    c.if-named-kid.false (named_by tree c.args.search.view c.args.kid place c.args.search.rtl c.args.search.axis c.args.search.tie c.anchor_id-id.result (Some c.in-Some.named) c.requires.search.live c.requires.search.kid c.facts.ensures.is_tree.keys part
    (c.anchor_id-id.ensures ∙ ap (λ facts. anchor_id c.args.search.rtl c.args.search.axis c.args.search.tie facts.rules) c.facts.ensures.value) (sym c.in-Some.is ∙ c.last_child_with_id.ensures.value))
