use Rattle.std.proofs.Common.{◌≡◌, ◌-◌, ◌∙◌, ℕ, ap, arith, List, [], ◌∷◌, ◌++◌, length, length-append, slice_index_or, slice_set}
use Rattle.std.proofs.Math.Seq.{get_or-append_seam, set-append_seam}
use Rattle.touch_event.specs.declared.event.Event.{Event}
use Rattle.touch_dispatch.proofs.log.Log.set_event.Goals as goal

-- the last item of a list, changed in its place
changed_last : {X : Type 0} (items before : List X) (count : ℕ) (last read : X) (change : X → X) → items ≡ before ++ last ∷ [] → count ≡ length items
    → read ≡ slice_index_or items (count - 1) read → slice_set items (count - 1) (change read) ≡ before ++ change last ∷ []
changed_last items before count last read change is all was =
    let size : count ≡ length (before ++ last ∷ []) = all ∙ ap length is in
    let place : count - 1 ≡ length before = omega (arith, size, length-append before (last ∷ [])) in
    let same : read ≡ last = was ∙ rw (is, place) (get_or-append_seam before last [] read) in
    rw (is, place) (rw same (set-append_seam before last [] (change last)))

pub returns-in-Some-clause-entries : goal.returns-in-Some-clause-entries
returns-in-Some-clause-entries c before entry is =
    let entries = c.args.self.now.entries in
    changed_last entries.items before entries.len entry c.in-Some.entry.now (λ e. record e { event = c.set.new.self }) is entries.ok.0 c.in-Some.ensures.value
    ∙ ap (λ (event : Event). before ++ record entry { event = event } ∷ []) c.set.ensures
