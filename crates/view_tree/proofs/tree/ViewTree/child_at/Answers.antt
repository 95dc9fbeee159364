use Rattle.std.proofs.Common.{◌≡◌, ◌∙◌, ◌<◌, ℕ, List, Some, None, ap, arith, get_or, length, subst, sym}
use Rattle.std.specs.Option.{option_copied}
use Rattle.std.specs.Prelude.{◌==◌}
use Rattle.std.specs.Vec.{vec_len}
use Rattle.view_model.specs.PlainTree.{PlainView}
use Rattle.view_model.specs.Cycles.{numbers_in}
use Rattle.view_tree.specs.Rows.{children_of_first, key_where, part_from, views_of}
use Rattle.view_tree.specs.Views.{number_of}
use Rattle.view_tree.proofs.forest.Forests.{some_is}
use Rattle.view_tree.proofs.forest.PlainLaws.{agree_live, key_where_number}
use Rattle.view_tree.proofs.nodes.NodeReads.{is_tree}
use Rattle.view_tree.proofs.orders.GroupReads.{never_none, numbers_found}
use Rattle.view_tree.proofs.orders.ListLaws.{read_any}
use Rattle.view_tree.proofs.orders.RowLaws.{ChildAt, child_there, within_children}
use Rattle.view_tree.proofs.tree.ViewTree.child_at.Goals as goal
use Rattle.view_tree.proofs.tree.ViewTree.child_at.Goals.{After-index}

pub unreachable-requires : goal.unreachable-requires
unreachable-requires c =
    never_none c.self.inside c.args.self.now c.args.view c.number.result c.self.invariant c.self.view_is c.requires.live c.requires.relative c.number.ensures.value
    (sym c.get.ensures.value ∙ ap option_copied c.in-None.is)

pub index-requires : goal.index-requires
index-requires c =
    let numbers = numbers_found c.self.inside c.args.self.now c.args.view c.number.result c.self.invariant c.self.view_is c.requires.live c.requires.relative c.number.ensures.value c.in-Some.group.now
    (sym c.get.ensures.value ∙ ap option_copied c.in-Some.is) in
    let size : vec_len c.in-Some.group.now.kids ≡ length c.in-Some.group.now.kids.items = c.in-Some.group.now.kids.ok.0 in
    let there = c.requires.there in
    let all = ap length numbers in
    omega arith

child : (c : After-index) → ChildAt c.args.self.now (children_of_first (part_from c.args.view c.args.self.now.tree)) c.args.place
child c =
    child_there c.args.self.now (children_of_first (part_from c.args.view c.args.self.now.tree)) c.args.place
    (is_tree c.self.inside c.args.self.now c.self.invariant.planted c.self.view_is) (within_children c.args.self.now c.args.view c.requires.live) c.requires.there

numbered : (c : After-index) → number_of c.args.self.now (child c).key ≡ c.index.result.now
numbered c =
    let numbers = numbers_found c.self.inside c.args.self.now c.args.view c.number.result c.self.invariant c.self.view_is c.requires.live c.requires.relative c.number.ensures.value c.in-Some.group.now
    (sym c.get.ensures.value ∙ ap option_copied c.in-Some.is) in
    let all : length c.in-Some.group.now.kids.items ≡ length (numbers_in (views_of (children_of_first (part_from c.args.view c.args.self.now.tree)))) = ap length numbers in
    let small : c.args.place < length c.in-Some.group.now.kids.items = (let there = c.requires.there in omega arith) in
    (child c).number ∙ ap (λ (list : List ℕ). get_or list c.args.place 0) (sym numbers)
    ∙ read_any c.in-Some.group.now.kids.items c.args.place 0 c.index.result.now small ∙ sym c.index.ensures

pub unreachable-requires-in-None-find : goal.unreachable-requires-in-None-find
unreachable-requires-in-None-find c =
    let d = (goal.at.unreachable-requires-in-None-find c).After-index in
    let found : c.find.result ≡ Some (child d).key = c.find.ensures.key
    ∙ subst (λ (n : ℕ). key_where (λ (view : PlainView). view.number == n) c.args.self.now.tree ≡ Some (child d).key) (numbered d)
    (key_where_number (child d).key (number_of c.args.self.now (child d).key) c.args.self.now.tree (child d).live
    (agree_live c.args.self.now (child d).key (is_tree c.self.inside c.args.self.now c.self.invariant.planted c.self.view_is) (child d).live)) in
    let none : None ≡ Some (child d).key = sym c.in-None-find.is ∙ found in
    absurd (cc)

pub returns-clause-key : goal.returns-clause-key
returns-clause-key c =
    let d = (goal.at.returns-clause-key c).After-index in
    let found : c.find.result ≡ Some (child d).key = c.find.ensures.key
    ∙ subst (λ (n : ℕ). key_where (λ (view : PlainView). view.number == n) c.args.self.now.tree ≡ Some (child d).key) (numbered d)
    (key_where_number (child d).key (number_of c.args.self.now (child d).key) c.args.self.now.tree (child d).live
    (agree_live c.args.self.now (child d).key (is_tree c.self.inside c.args.self.now c.self.invariant.planted c.self.view_is) (child d).live)) in
    sym c.in-Some-find.is ∙ found ∙ sym (child d).first

pub returns-clause-part : goal.returns-clause-part
returns-clause-part c =
    let d = (goal.at.returns-clause-part c).After-index in
    let found : c.find.result ≡ Some (child d).key = c.find.ensures.key
    ∙ subst (λ (n : ℕ). key_where (λ (view : PlainView). view.number == n) c.args.self.now.tree ≡ Some (child d).key) (numbered d)
    (key_where_number (child d).key (number_of c.args.self.now (child d).key) c.args.self.now.tree (child d).live
    (agree_live c.args.self.now (child d).key (is_tree c.self.inside c.args.self.now c.self.invariant.planted c.self.view_is) (child d).live)) in
    let same : c.in-Some-find.kid ≡ (child d).key = some_is (sym c.in-Some-find.is ∙ found) in
    ap (λ (k : ℕ). part_from k c.args.self.now.tree) same ∙ (child d).part
