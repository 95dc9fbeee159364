use Rattle.std.proofs.Common.{arith}
use Rattle.saved_state.proofs.marking.is_unmarked.Goals as goal

pub bounds-marks-place : goal.bounds-marks-place
bounds-marks-place c =
    let few = c.in-Some.ensures.few in
    let sized = c.requires.sized in
    let there = c.in-Some.ensures.entry.there in
    omega arith
