use Rattle.std.proofs.Common.{◌≡◌, ◌∙◌, w32, refl, rules}
use Rattle.std.proofs.lemmas.Int.{to_z-of_z}
use Rattle.measure_cache.proofs.KeptLaws.{across_kept, down_kept}
use Rattle.measure_cache.specs.Kept.{length_of}
use Rattle.measure_cache.proofs.cache.keep.Goals as goal

pub returns : goal.returns
returns c =
    let across : length_of c.length_bytes.result ≡ c.args.ws.size = c.length_bytes.ensures ∙ to_z-of_z w32 c.args.ws.size (search rules) in
    let down : length_of c.length_bytes-2.result ≡ c.args.hs.size = c.length_bytes-2.ensures ∙ to_z-of_z w32 c.args.hs.size (search rules) in
    let width : length_of c.length_bytes-3.result ≡ c.args.size.w = c.length_bytes-3.ensures ∙ to_z-of_z w32 c.args.size.w (search rules) in
    let height : length_of c.length_bytes-4.result ≡ c.args.size.h = c.length_bytes-4.ensures ∙ to_z-of_z w32 c.args.size.h (search rules) in
    rw (c.mode_number.ensures.value, c.mode_number-2.ensures.value, across_kept c.args.ws.mode c.args.hs.mode, down_kept c.args.ws.mode c.args.hs.mode, across, down, width, height) refl
