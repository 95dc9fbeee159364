use Rattle.std.proofs.Common.{ap, sym, ◌∙◌}
use Rattle.relative_layout.specs.ordering.Naming.{id_at, with_last}
use Rattle.relative_layout.proofs.orders.NamingLaws.{last_among-next}
use Rattle.relative_layout.proofs.ordering.ids.last_places.Goals as goal

pub loop-place-preserved : goal.loop-place-preserved
loop-place-preserved c = λ id.
    let kids = c.args.kids.now in
    let place = c.loop-place.place in
    c.in_ok-note_last.ensures id ∙ ap (λ before. with_last (id_at kids place) place before id) (c.loop-place.invariant id) ∙ sym (last_among-next kids id place)
