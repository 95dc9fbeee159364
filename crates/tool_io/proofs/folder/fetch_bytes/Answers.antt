use Rattle.std.proofs.Common.{◌≡◌, ℕ, ◌<◌, List, [], ◌++◌, length, take, Option, Some, None, IfSome, arith, length-take}
use Rattle.std.specs.Option.{option_map}
use Rattle.std.proofs.lemmas.Grind.{common_steps}
use Rattle.std.proofs.lemmas.List.{take_all}
use Rattle.tool_io.proofs.folder.fetch_bytes.Goals as goal

-- fewer bytes than were asked for are all that there were
all_read : (remaining : Option (List ℕ)) (most : ℕ) (old items : List ℕ) → IfSome (option_map (take most) remaining) (λ bytes. items ≡ old ++ bytes) → old ≡ [] → length items < most → IfSome remaining (λ bytes. items ≡ bytes)
all_read None most old items read empty fewer = tt
all_read (Some bytes) most old items read empty fewer = grind (arith, common_steps, length-take most bytes, take_all)

pub returns-in-Ok-clause-whole : goal.returns-in-Ok-clause-whole
returns-in-Ok-clause-whole g c found =
    let read = rw c.take.ensures.inner at c.in-Ok.ensures.bytes in
    let fewer : length c.read_to_end-read.new.buf.items < c.take.result.limit = omega arith in
    all_read _ _ _ _ read c.requires fewer
