use Rattle.std.proofs.Common.{◌≡◌, ℕ, get_or, refl, sym, ◌∙◌, arith, inl, inr}
use Rattle.std.proofs.lemmas.Bool.{cases_lt}
use Rattle.relative_layout.specs.ordering.Naming.{link_at, lists_of}
use Rattle.relative_layout.proofs.orders.NamingLaws.{AddsName-with_place, AreNamers-next, last_in_rows, length-lists_of, names-at}
use Rattle.relative_layout.proofs.ordering.naming.add_names.Goals as goal

pub add_to_row-requires : goal.add_to_row-requires
add_to_row-requires c =
    let id : ℕ = get_or c.named_ids.result c.loop-id.id-index 0 in
    let rows = c.loop-id.rows.items in
    last_in_rows c.args.kids.now id _ c.last_in.result (sym (length-lists_of rows) ∙ c.loop-id.invariant.rows.size) (c.last_in.ensures ∙ c.requires.table id)

pub loop-id-preserved : goal.loop-id-preserved
loop-id-preserved c =
    let kids = c.args.kids.now in
    let id : ℕ = get_or c.named_ids.result c.loop-id.id-index 0 in
    let rows = lists_of c.loop-id.rows.items in
    let named = names-at c.args.axis (link_at kids c.args.place).rules c.loop-id.id-index c.loop-id-test.true in
    let adds = AddsName-with_place c.args.axis kids c.args.place id c.last_in.result rows c.requires.place (c.last_in.ensures ∙ c.requires.table id)
    (rw (← c.named_ids.ensures) at named) c.loop-id.invariant.rows in
    record {
      rows = rw c.in_ok-add_to_row.ensures adds.rows;
      added = λ k q small last same. elim (cases_lt k c.loop-id.id-index) [
        | inl lt ↦ rw c.in_ok-add_to_row.ensures (adds.grows q c.args.place (c.loop-id.invariant.added k q lt last same))
        | inr le ↦ let at : k ≡ c.loop-id.id-index = omega arith in rw c.in_ok-add_to_row.ensures (adds.added q last (same ∙ rw (at, c.named_ids.ensures) refl))
      ];
    }

pub returns : goal.returns
returns c = AreNamers-next c.args.axis c.args.kids.now c.args.place (lists_of c.loop-id.rows.items) c.loop-id.invariant.rows (λ k q small. c.loop-id.invariant.added k q (omega arith))
