use Rattle.view_model.specs.Forest.{count_of}
use Rattle.view_tree.specs.Rows.{rest_from}
use Rattle.world_replies.proofs.WalkLaws.{SentWalk}
use Rattle.world_replies.proofs.bounds.+put_from.Given as goal

-- the views from the first one on
abbrev pub decreases-put_from : goal.decreases-put_from
decreases-put_from g l = count_of (rest_from l.first l.tree.now.tree)

abbrev pub invariant-loop-next : goal.invariant-loop-next
invariant-loop-next g l =
    SentWalk l.tree (rest_from l.fn.first l.tree.tree) l.next (g.K.Sink.state l.fn.sink) (g.K.Sink.state l.sink) l.fn.text l.text

abbrev pub decreases-loop-next : goal.decreases-loop-next
decreases-loop-next g l = count_of (rest_from l.next l.tree.tree)
