use Rattle.std.proofs.Common.{◌≡◌, ◌∙◌, ◌+◌, ap, w32}
use Rattle.std.proofs.lemmas.Int.{to_z-of_z}
use Rattle.std.specs.Prelude.{pos}
use Rattle.stack_worlds.proofs.ComposedLaws.{is_composed, part_same}
use Rattle.stack_worlds.proofs.stack.Stack.compose.Goals as goal
use Rattle.stack_worlds.specs.Composed.{part_of}
use Rattle.stack_worlds.specs.KeptStack.{stack_of}
use Rattle.stack_worlds.specs.PlainStack.{composed}
use Rattle.stack_worlds.specs.declared.stack.composing.Part.{Part}
use Rattle.text_lines.proofs.Sending.{delivered, sends_as}
use Rattle.world_replies.specs.Replies.{pixels_text}

pub put_rows-requires : goal.put_rows-requires
put_rows-requires g c =
    let part : c.part_of.result ≡ part_of c.args.x c.args.y c.args.w c.args.h =
    c.part_of.ensures
    ∙ part_same _ _ _ _ c.args.x c.args.y c.args.w c.args.h (to_z-of_z w32 c.args.x c.ranges.x) (to_z-of_z w32 c.args.y c.ranges.y) (to_z-of_z w32 c.args.w c.ranges.w) (to_z-of_z w32 c.args.h c.ranges.h) in
    is_composed _ c.args.x c.args.y c.args.w c.args.h c.requires c.settled_sizes.ensures part

pub returns : goal.returns
returns g c =
    let part : c.part_of.result ≡ part_of c.args.x c.args.y c.args.w c.args.h =
    c.part_of.ensures
    ∙ part_same _ _ _ _ c.args.x c.args.y c.args.w c.args.h (to_z-of_z w32 c.args.x c.ranges.x) (to_z-of_z w32 c.args.y c.ranges.y) (to_z-of_z w32 c.args.w c.ranges.w) (to_z-of_z w32 c.args.h c.ranges.h) in
    let text = ap (λ (p : Part). pixels_text (λ column row. composed (stack_of c.args.self.now) (pos (p.left + column)) (pos (p.top + row))) p.width p.height) part in
    delivered c.finish.result c.new-text.ensures (sends_as text c.put_rows.ensures) c.finish.ensures.sends c.finish.ensures.empty c.finish.ensures.whole c.finish.ensures.failed
