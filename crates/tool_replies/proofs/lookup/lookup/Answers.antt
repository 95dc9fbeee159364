use Rattle.std.proofs.Common.{ℕ, List, ◌∷◌, [], refl, sym, subst, ◌∙◌, inl, inr}
use Rattle.tool_io.specs.Counts.{raised}
use Rattle.tool_io.specs.Fetched.{Fetched}
use Rattle.tool_replies.proofs.EndingLaws.{failed_later, not_status, other_status}
use Rattle.tool_replies.proofs.lookup.lookup.Goals as goal

pub returns-in-Ok-clause-looks_up : goal.returns-in-Ok-clause-looks_up
returns-in-Ok-clause-looks_up g c files reported =
    let found = rw reported at c.in-Ok.ensures.found in
    c.lookup_found.ensures.looks_up files c.args.name.now (subst (λ (bytes : List ℕ). Fetched files c.args.name.now 16777216 c.in-Ok.found bytes) (sym c.as_slice.ensures.value) found)

pub returns-in-Ok-clause-nothing_written : goal.returns-in-Ok-clause-nothing_written
returns-in-Ok-clause-nothing_written g c h = elim h [
  | inl e ↦ c.lookup_found.ensures.sink.nothing_written e
  | inr e ↦ absurd (not_status c.lookup_found.result 6 (0 ∷ 1 ∷ 4 ∷ 5 ∷ []) c.lookup_found.ensures.sink.known refl e)
]

pub returns-in-Ok-clause-sink_failed : goal.returns-in-Ok-clause-sink_failed
returns-in-Ok-clause-sink_failed g c = c.lookup_found.ensures.sink.sink_failed

pub returns-in-Ok-clause-shelf_failed : goal.returns-in-Ok-clause-shelf_failed
returns-in-Ok-clause-shelf_failed g c = λ _.
    let before = g.F.Shelf.faults c.args.shelf.now in
    c.in-Ok.ensures.counted ∙ sym (other_status c.lookup_found.result 6 (0 ∷ 1 ∷ 4 ∷ 5 ∷ []) (raised before) before c.lookup_found.ensures.sink.known refl)

pub returns-in-Err-Failed-clause-shelf_later : goal.returns-in-Err-Failed-clause-shelf_later
returns-in-Err-Failed-clause-shelf_later g c = failed_later _ _ c.in-Err-Failed.field-0 c.in-Err-Failed.ensures.counted
