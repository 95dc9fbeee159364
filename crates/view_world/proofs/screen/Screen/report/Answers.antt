use Rattle.std.proofs.Common.{refl}
use Rattle.world_replies.specs.Responses.{response_text}
use Rattle.view_world.proofs.screen.Screen.report.Goals as goal
use Rattle.view_world.proofs.screen.Screen.report.Goals.{in-Ok, in-Err}

pub returns-clause-carried : goal.returns-clause-carried
returns-clause-carried g c =
    let text = response_text c.self.inside.tree c.self.inside.surface c.self.inside.log.entries.items c.self.inside.saved.items c.args.response in
    rw (← c.self.view_is) (elim c.match-write_response.branch [
      | in-Ok w ↦ let reported = rw c.as_slice.ensures.value at w.in-Ok.ensures.delivered in rw w.result-is (text, refl, reported.whole, reported.counted)
      | in-Err w ↦ let reported = rw c.as_slice.ensures.value at w.in-Err.ensures.delivered in rw w.result-is (text, refl, reported.prefix, reported.counted)
    ])
