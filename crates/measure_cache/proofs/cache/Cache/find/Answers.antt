use Rattle.std.proofs.Common.{◌≡◌, ◌∙◌, ◌<◌, ◌+◌, ◌-◌, ap, sym, length, map, take, arith, Some}
use Rattle.measure_cache.proofs.CacheLaws.{found-last_is, found-last_not}
use Rattle.measure_cache.specs.declared.cache.Entry.{Entry}
use Rattle.measure_cache.specs.Entries.{found, is_of}
use Rattle.measure_cache.specs.Kept.{entry_of}
use Rattle.view_model.specs.Measuring.{Specs}
use Rattle.measure_cache.proofs.cache.Cache.find.Goals as goal

pub returns-then-is_for : goal.returns-then-is_for
returns-then-is_for c =
    let kept = c.as_slice-entries.result.now in
    let place = length kept - 1 - c.loop-newer.newer in
    let one_more : place + 1 ≡ length kept - c.loop-newer.newer = omega arith in
    let there : place < length kept = omega arith in
    let specs : Specs = record { across = c.args.ws; down = c.args.hs } in
    let last = found-last_is kept place _ specs there (ap (λ entry. is_of entry specs) (sym c.entry_of-entry.ensures) ∙ sym c.is_for.ensures ∙ c.if-is_for.true) in
    ap (λ (entry : Entry). Some entry.size) c.entry_of-entry.ensures
    ∙ sym (c.loop-newer.invariant ∙ ap (λ n. found (map entry_of (take n kept)) specs) (sym one_more) ∙ last)

pub loop-newer-preserved : goal.loop-newer-preserved
loop-newer-preserved c =
    let kept = c.as_slice-entries.result.now in
    let place = length kept - 1 - c.loop-newer.newer in
    let one_more : place + 1 ≡ length kept - c.loop-newer.newer = omega arith in
    let one_less : place ≡ length kept - (c.loop-newer.newer + 1) = omega arith in
    let there : place < length kept = omega arith in
    let specs : Specs = record { across = c.args.ws; down = c.args.hs } in
    let last = found-last_not kept place _ specs there (ap (λ entry. is_of entry specs) (sym c.entry_of-entry.ensures) ∙ sym c.is_for.ensures ∙ c.if-is_for.false) in
    c.loop-newer.invariant ∙ ap (λ n. found (map entry_of (take n kept)) specs) (sym one_more) ∙ last ∙ ap (λ n. found (map entry_of (take n kept)) specs) one_less
