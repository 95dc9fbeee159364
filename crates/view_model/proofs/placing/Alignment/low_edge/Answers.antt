use Rattle.std.proofs.Common.{ℤ, pos, ◌+ℤ◌, ◌-ℤ◌, w32, w64, FitsSigned, int_div, arith, rules}
use Rattle.std.proofs.lemmas.Int.{ints, to_z-of_z}
use Rattle.view_model.proofs.placing.Alignment.low_edge.Goals as goal

-- each step to the low edge of a child in the middle fits 64 bits
middle : {Goal : Type 0} (room before after size low high : ℤ)
    → FitsSigned w32 room → FitsSigned w32 before → FitsSigned w32 after → FitsSigned w32 size → FitsSigned w32 low → FitsSigned w32 high
    → (let half = int_div (room -ℤ before -ℤ after -ℤ size) (pos 2) in
    FitsSigned w32 room → FitsSigned w32 before → FitsSigned w32 after → FitsSigned w32 size → FitsSigned w32 low → FitsSigned w32 high
    → FitsSigned w64 room → FitsSigned w64 before → FitsSigned w64 after → FitsSigned w64 size → FitsSigned w64 low → FitsSigned w64 high
    → FitsSigned w64 (room -ℤ before) → FitsSigned w64 (room -ℤ before -ℤ after) → FitsSigned w64 (room -ℤ before -ℤ after -ℤ size) → FitsSigned w64 half
    → FitsSigned w64 (before +ℤ half) → FitsSigned w64 (before +ℤ half +ℤ low) → FitsSigned w64 (before +ℤ half +ℤ low -ℤ high) → Goal)
    → Goal
middle room before after size low high r b a s l h go =
    go r b a s l h (omega (arith, ints)) (omega (arith, ints)) (omega (arith, ints)) (omega (arith, ints)) (omega (arith, ints)) (omega (arith, ints))
    (omega (arith, ints)) (omega (arith, ints)) (omega (arith, ints)) (omega (arith, ints)) (omega (arith, ints)) (omega (arith, ints)) (omega (arith, ints))

pub overflow_sub-result-in-Middle : goal.overflow_sub-result-in-Middle
overflow_sub-result-in-Middle c = omega (arith, ints)

pub overflow_sub-result-in-Middle-2 : goal.overflow_sub-result-in-Middle-2
overflow_sub-result-in-Middle-2 c = omega (arith, ints)

pub overflow_sub-result-in-Middle-3 : goal.overflow_sub-result-in-Middle-3
overflow_sub-result-in-Middle-3 c =
    middle c.args.group.size c.args.group.before c.args.group.after c.args.child.size c.args.child.before c.args.child.after
    (search rules) (search rules) (search rules) (search rules) (search rules) (search rules)
    λ room before after size low high room64 before64 after64 size64 low64 high64 rest1 rest2 rest half64 sum1 sum2 sum3.
    rw (c.from-room.ensures, c.from-before.ensures, c.from-after.ensures, c.from-size.ensures, c.from-margin_before.ensures, c.from-margin_after.ensures) (simp to_z-of_z sum3)

pub overflow_sub-result-in-High-2 : goal.overflow_sub-result-in-High-2
overflow_sub-result-in-High-2 c = omega (arith, ints)

pub overflow_sub-result-in-High-3 : goal.overflow_sub-result-in-High-3
overflow_sub-result-in-High-3 c = omega (arith, ints)

pub returns-in-Low : goal.returns-in-Low
returns-in-Low c = rw c.in-Low.is (omega (arith, ints))

pub returns-in-Middle : goal.returns-in-Middle
returns-in-Middle c =
    middle c.args.group.size c.args.group.before c.args.group.after c.args.child.size c.args.child.before c.args.child.after
    (search rules) (search rules) (search rules) (search rules) (search rules) (search rules)
    λ room before after size low high room64 before64 after64 size64 low64 high64 rest1 rest2 rest half64 sum1 sum2 sum3.
    rw (c.in-Middle.is, c.from-room.ensures, c.from-before.ensures, c.from-after.ensures, c.from-size.ensures, c.from-margin_before.ensures, c.from-margin_after.ensures) (simp to_z-of_z)

pub returns-in-High : goal.returns-in-High
returns-in-High c =
    let room : FitsSigned w32 c.args.group.size = search rules in
    let after : FitsSigned w32 c.args.group.after = search rules in
    let size : FitsSigned w32 c.args.child.size = search rules in
    let high : FitsSigned w32 c.args.child.after = search rules in
    let room64 : FitsSigned w64 c.args.group.size = omega (arith, ints) in
    let after64 : FitsSigned w64 c.args.group.after = omega (arith, ints) in
    let size64 : FitsSigned w64 c.args.child.size = omega (arith, ints) in
    let high64 : FitsSigned w64 c.args.child.after = omega (arith, ints) in
    let rest1 : FitsSigned w64 (c.args.group.size -ℤ c.args.group.after) = omega (arith, ints) in
    let rest2 : FitsSigned w64 (c.args.group.size -ℤ c.args.group.after -ℤ c.args.child.size) = omega (arith, ints) in
    let rest : FitsSigned w64 (c.args.group.size -ℤ c.args.group.after -ℤ c.args.child.size -ℤ c.args.child.after) = omega (arith, ints) in
    rw (c.in-High.is, c.from-room.ensures, c.from-after.ensures, c.from-size.ensures, c.from-margin_after.ensures) (simp to_z-of_z)
