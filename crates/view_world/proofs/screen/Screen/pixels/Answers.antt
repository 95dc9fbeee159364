use Rattle.std.proofs.Common.{sym, subst}
use Rattle.std.proofs.lemmas.Int.{to_z-of_z}
use Rattle.world_replies.specs.Responses.{IsPartOf}
use Rattle.world_replies.specs.declared.pixels.Part.{Part}
use Rattle.view_world.proofs.worlds.WorldLaws.{Changed-pixels, part-lies}
use Rattle.view_world.proofs.screen.Screen.pixels.Goals as goal

pub returns-in-Some-clause-changed : goal.returns-in-Some-clause-changed
returns-in-Some-clause-changed c =
    let now = c.args.self.now in
    let size = c.in_ok-window.ensures.1 in
    let lies = sym (simp (to_z-of_z, c.ranges.x, c.ranges.y, c.ranges.w, c.ranges.h) at c.in-Some.ensures.some) in
    let part = simp (to_z-of_z, c.ranges.x, c.ranges.y, c.ranges.w, c.ranges.h) at c.in-Some.ensures.value in
    let there = part-lies now.surface c.args.x c.args.y c.args.w c.args.h c.requires (rw size at lies) in (
      Changed-pixels now c.in_ok-window.window c.args.x c.args.y c.args.w c.args.h c.in-Some.part c.in_ok-window.ensures.0 size lies part,
      subst (λ (part : Part). IsPartOf now.surface part) (sym part) there,
    )
