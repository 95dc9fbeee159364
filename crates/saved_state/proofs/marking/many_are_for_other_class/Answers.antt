use Rattle.saved_state.proofs.EntryLaws.{unmarked}
use Rattle.saved_state.proofs.marking.many_are_for_other_class.Goals as goal

pub mark_all-requires-clause-none : goal.mark_all-requires-clause-none
mark_all-requires-clause-none c = λ place. unmarked 65535 place
