use Rattle.std.proofs.Common.{◌≡◌, ◌∙◌, ap, sym, subst, ℕ, Option, Some}
use Rattle.std.specs.Prelude.{IfSome}
use Rattle.view_tree.proofs.nodes.HolderLaws.{stored_id}
use Rattle.view_tree.proofs.table.ids.find_holders.Goals as goal

pub returns-clause-place : goal.returns-clause-place
returns-clause-place c =
    let same : c.in_ok-place.field-0-1.now ≡ c.args.id = subst (λ (o : Option ℕ). IfSome o (λ k. k ≡ c.args.id)) (sym c.in_ok-place.ensures.key) (stored_id c.args.id c.args.ids.now.entries) in
    c.in_ok-place.ensures.entry ∙ ap (λ (k : ℕ). Some (k, c.in_ok-place.holders.now)) same
