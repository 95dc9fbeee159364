use Rattle.std.proofs.Common.{◌≡◌, ◌<◌, ◌^◌, [], ◌∷◌, ◌++◌, ◌∙◌, ap, arith, length, refl, sym}
use Rattle.std.proofs.lemmas.Grind.{common_steps}
use Rattle.vindaesk_c.proofs.PackedLaws.{files_now_more, holds_none, length-packed_file, packed_more}
use Rattle.vindaesk_c.specs.FilesNow.{files_now}
use Rattle.vindaesk_c.specs.Packed.{packed}
use Rattle.vindaesk_c.proofs.packing.unpacked.Goals as goal

pub loop-left-smaller : goal.loop-left-smaller
loop-left-smaller c =
    omega (
      arith,
      ap length c.in-Some.ensures.found,
      length-packed_file c.in-Some.file.name.now c.in-Some.file.contents.now c.in-Some.rest.now,
    )

pub loop-left-preserved : goal.loop-left-preserved
loop-left-preserved c =
    let pushed : c.push.new.self.items ≡ c.loop-left.files.items ++ c.in-Some.file ∷ [] = grind (arith, common_steps) in
    packed_more c.args.bytes.now c.loop-left.left.now c.in-Some.file.name.now c.in-Some.file.contents.now c.in-Some.rest.now
    (files_now c.loop-left.files.items) c.loop-left.invariant c.in-Some.ensures.found
    ∙ ap (λ files. packed files ++ c.in-Some.rest.now)
    (sym (files_now_more c.loop-left.files.items c.in-Some.file) ∙ ap files_now (sym pushed))

pub returns-in-None-clause-broken : goal.returns-in-None-clause-broken
returns-in-None-clause-broken c =
    let some : 0 < length c.loop-left.left.now = grind (arith, common_steps) in
    let small : length (packed (files_now c.loop-left.files.items) ++ c.loop-left.left.now) < 2 ^ 64 =
    omega (arith, ap length c.loop-left.invariant) in
    λ broken held holds. holds_none c.loop-left.left.now (λ e. omega (arith, some, ap length e)) (c.in-None.ensures.none refl)
    (files_now c.loop-left.files.items) held small (sym c.loop-left.invariant ∙ holds)
