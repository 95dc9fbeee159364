use Rattle.std.proofs.Common.{rules, ◌≡◌, suc, true}
use Rattle.view_model.specs.Classes.{is_relative}
use Rattle.view_model.specs.Cycles.{member_from}
use Rattle.view_tree.specs.tree.Grafting.{links_following, numbers_following}
use Rattle.view_tree.proofs.grafts.EntryLaws.{added}
use Rattle.view_tree.proofs.tree.relatives.add_entry.Goals as goal

pub returns-in-Ok : goal.returns-in-Ok
returns-in-Ok c =
    let relative : is_relative c.args.sprout.now.class ≡ true = search rules in
    added (is_relative c.args.sprout.now.class) (member_from c.args.next) c.args.number
    (links_following c.args.sprout.now.depth (suc c.args.number) c.args.more.now) (numbers_following c.args.sprout.now.depth (suc c.args.number) c.args.more.now) c.in-Ok.group
    c.args.entries.now.items c.push_entry.new.entries.items c.push_entry.result relative c.in-Ok.ensures c.push_entry.ensures
