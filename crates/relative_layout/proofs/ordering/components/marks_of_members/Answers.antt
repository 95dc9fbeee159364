use Rattle.relative_layout.proofs.orders.SearchLaws.{AreMarked-all, IsSearching-start}
use Rattle.relative_layout.proofs.ordering.components.marks_of_members.Goals as goal

pub search_all-requires-clause-search : goal.search_all-requires-clause-search
search_all-requires-clause-search c =
    let start = c.in_ok-search.ensures in
    IsSearching-start c.args.kids.now c.args.naming.now c.in_ok-search.search start.status start.path start.todo start.parts start.members

pub returns-clause-size : goal.returns-clause-size
returns-clause-size c = c.in_ok-search_all.ensures.search.reported.size

pub returns-clause-marks : goal.returns-clause-marks
returns-clause-marks c =
    let all = c.in_ok-search_all.ensures in
    AreMarked-all c.args.kids.now c.args.naming.now c.search_all.new.self c.requires.naming all.parts all.each all.search
