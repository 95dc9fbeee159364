use Rattle.std.proofs.Common.{◌∙◌, ap, arith, length, map, sym}
use Rattle.std.specs.Option.{option_copied}
use Rattle.std.specs.Prelude.{List, ℕ, slice_index}
use Rattle.view_model.specs.declared.refusal.Member.{Member}
use Rattle.view_model.specs.declared.refusal.Member.TheVariants as member
use Rattle.view_model.specs.Numbers.{cycle}
use Rattle.view_model.specs.Refusals.{Cycle, PlainRefusal}
use Rattle.view_tree.proofs.orders.GroupReads.{never_none, numbers_found}
use Rattle.view_tree.proofs.tree.ViewTree.reported.Goals as goal

pub unreachable-requires : goal.unreachable-requires
unreachable-requires c =
    never_none c.self.inside c.args.self.now c.args.parent c.number.result c.self.invariant c.self.view_is c.requires.live c.requires.relative c.number.ensures.value
    (sym c.get.ensures.value ∙ ap option_copied c.in-None.is)

pub view_members-requires : goal.view_members-requires
view_members-requires c = λ p small.
    let numbers = numbers_found c.self.inside c.args.self.now c.args.parent c.number.result c.self.invariant c.self.view_is c.requires.live c.requires.relative c.number.ensures.value c.in-Some.group.now
    (sym c.get.ensures.value ∙ ap option_copied c.in-Some.is) in
    let all = ap length (c.deref.ensures.value ∙ numbers) in
    let inside = c.requires.inside p small in
    omega arith

pub returns-in-Ok : goal.returns-in-Ok
returns-in-Ok c =
    let numbers = numbers_found c.self.inside c.args.self.now c.args.parent c.number.result c.self.invariant c.self.view_is c.requires.live c.requires.relative c.number.ensures.value c.in-Some.group.now
    (sym c.get.ensures.value ∙ ap option_copied c.in-Some.is) in
    ap (λ (list : List Member). let reported : PlainRefusal = record { number = cycle; reason = Cycle c.args.down list } in reported)
    (c.in-Ok.ensures ∙ ap (λ (kids : List ℕ). map (λ place. member.View (slice_index kids place)) c.args.members.now) (c.deref.ensures.value ∙ numbers))
