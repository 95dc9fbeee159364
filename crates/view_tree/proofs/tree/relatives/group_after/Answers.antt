use Rattle.std.proofs.Common.{◌≡◌, ap, arith, length, subst, suc, sym}
use Rattle.std.specs.Prelude.{List, ℕ, slice_index, ◌+◌}
use Rattle.view_model.specs.Cycles.{member_from}
use Rattle.view_model.specs.Numbers.{max_views}
use Rattle.view_model.specs.declared.relative.Link.{Link}
use Rattle.sibling_orders.specs.Latest.{AreRising}
use Rattle.sibling_orders.specs.Cycles.{IsGroupOrCycle}
use Rattle.view_tree.specs.tree.Grafting.{links_following, numbers_following, sprout_link}
use Rattle.view_tree.proofs.grafts.EntryLaws.{following-alike, following-few, following-near, following-rising}
use Rattle.view_tree.proofs.tree.relatives.group_after.Goals as goal

pub group_of-requires-clause-few : goal.group_of-requires-clause-few
group_of-requires-clause-few c =
    let few = following-few (λ number sprout. sprout_link sprout) c.args.depth (c.args.number + 1) c.args.sprouts.now in
    let links = ap length c.in-Ok.ensures.links in
    let all = c.requires.few in
    let late = c.requires.late in
    omega arith

pub group_of-requires-clause-alike : goal.group_of-requires-clause-alike
group_of-requires-clause-alike c =
    let same = following-alike c.args.depth (c.args.number + 1) c.args.sprouts.now in
    let links = ap length c.in-Ok.ensures.links in
    let numbers = ap length c.in-Ok.ensures.numbers in
    omega arith

pub group_of-requires-clause-near : goal.group_of-requires-clause-near
group_of-requires-clause-near c = λ p small.
    let numbers = ap length c.in-Ok.ensures.numbers in
    let all = c.requires.few in
    let near = following-near (c.args.next + max_views) c.args.depth (c.args.number + 1) c.args.sprouts.now (omega arith) p (omega arith) in
    let same = ap (λ (numbers : List ℕ). slice_index numbers p) c.in-Ok.ensures.numbers in
    omega arith

pub returns-in-Ok : goal.returns-in-Ok
returns-in-Ok c =
    let step : c.args.number + 1 ≡ suc c.args.number = omega arith in
    subst (λ n. IsGroupOrCycle (member_from c.args.next) (links_following c.args.depth n c.args.sprouts.now) (numbers_following c.args.depth n c.args.sprouts.now) c.group_of.result) step
    (subst (λ (numbers : List ℕ). IsGroupOrCycle (member_from c.args.next) (links_following c.args.depth (c.args.number + 1) c.args.sprouts.now) numbers c.group_of.result) c.in-Ok.ensures.numbers
    (subst (λ (links : List Link). IsGroupOrCycle (member_from c.args.next) links c.in-Ok.kids.numbers.items c.group_of.result) c.in-Ok.ensures.links c.group_of.ensures))

pub group_of-requires-clause-rising : goal.group_of-requires-clause-rising
group_of-requires-clause-rising c = subst AreRising (sym c.in-Ok.ensures.numbers) (following-rising c.args.depth (c.args.number + 1) c.args.sprouts.now)
