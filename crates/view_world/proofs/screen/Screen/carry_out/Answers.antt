use Rattle.std.proofs.Common.{FitsSigned, w32, arith}
use Rattle.std.proofs.lemmas.Int.{ints, to_z-of_z}
use Rattle.script_lines.specs.reading.Pixels.{IsPart}
use Rattle.script_lines.specs.reading.Touches.{IsTouchInBounds}
use Rattle.view_world.proofs.states.CommandLaws.{restore_plain}
use Rattle.std.proofs.Common.{[]}
use Rattle.view_world.proofs.frames.RestLaws.{idle_keeps, idle_same, idle_still, ok_any, ok_then, window_keeps}
use Rattle.view_world.specs.declared.world.marks.Effect.TheVariants.{Leaves}
use Rattle.view_world.proofs.screen.Screen.carry_out.Goals as goal

pub returns-in-Down-clause-changed : goal.returns-in-Down-clause-changed
returns-in-Down-clause-changed c =
    let bounds : IsTouchInBounds c.in-Down.p c.in-Down.x c.in-Down.y = rw c.in-Down.is at c.requires.bounds in
    let x : FitsSigned w32 c.in-Down.x = omega (arith, ints, bounds.1) in
    let y : FitsSigned w32 c.in-Down.y = omega (arith, ints, bounds.2) in
    rw c.in-Down.is (simp (to_z-of_z, x, y) at c.down.ensures.changed)

pub returns-in-Move-clause-changed : goal.returns-in-Move-clause-changed
returns-in-Move-clause-changed c =
    let bounds : IsTouchInBounds c.in-Move.p c.in-Move.x c.in-Move.y = rw c.in-Move.is at c.requires.bounds in
    let x : FitsSigned w32 c.in-Move.x = omega (arith, ints, bounds.1) in
    let y : FitsSigned w32 c.in-Move.y = omega (arith, ints, bounds.2) in
    rw c.in-Move.is (simp (to_z-of_z, x, y) at c.drag.ensures.changed)

pub returns-in-Restore-clause-changed : goal.returns-in-Restore-clause-changed
returns-in-Restore-clause-changed c = rw (c.in-Restore.is, restore_plain c.in-Restore.text) c.restore.ensures.changed

pub returns-in-Pixels-clause-changed : goal.returns-in-Pixels-clause-changed
returns-in-Pixels-clause-changed c =
    let bounds : IsPart c.in-Pixels.x c.in-Pixels.y c.in-Pixels.w c.in-Pixels.h = rw c.in-Pixels.is at c.requires.bounds in
    let x : FitsSigned w32 c.in-Pixels.x = omega (arith, ints, bounds.0) in
    let y : FitsSigned w32 c.in-Pixels.y = omega (arith, ints, bounds.1) in
    let w : FitsSigned w32 c.in-Pixels.w = omega (arith, ints, bounds.2) in
    let h : FitsSigned w32 c.in-Pixels.h = omega (arith, ints, bounds.3) in
    rw c.in-Pixels.is (simp (to_z-of_z, x, y, w, h) at c.pixels.ensures.changed)

pub returns-in-Window-clause-keeps : goal.returns-in-Window-clause-keeps
returns-in-Window-clause-keeps c other = rw c.in-Window.is (ok_then c.open.result (window_keeps c.args.self.now c.open.new.self c.open.ensures.keeps) c.open.ensures.opened)

pub returns-in-Dpi-clause-keeps : goal.returns-in-Dpi-clause-keeps
returns-in-Dpi-clause-keeps c other = rw c.in-Dpi.is (ok_then c.set_dpi.result (idle_keeps Leaves [] [] [] c.args.self.now c.set_dpi.new.self (λ e. cc) (λ e. cc)) c.set_dpi.ensures.keeps)

pub returns-in-Res-clause-keeps : goal.returns-in-Res-clause-keeps
returns-in-Res-clause-keeps c other = rw c.in-Res.is (ok_then c.define.result (idle_keeps Leaves [] [] [] c.args.self.now c.define.new.self (λ e. cc) (λ e. cc)) c.define.ensures.keeps)

pub returns-in-Disallow-clause-keeps : goal.returns-in-Disallow-clause-keeps
returns-in-Disallow-clause-keeps c other = rw c.in-Disallow.is (ok_then c.disallow.result (idle_keeps Leaves [] [] [] c.args.self.now c.disallow.new.self (λ e. cc) (λ e. cc)) c.disallow.ensures.keeps)

pub returns-in-Save-clause-keeps : goal.returns-in-Save-clause-keeps
returns-in-Save-clause-keeps c other = rw c.in-Save.is (ok_then c.save.result (idle_keeps Leaves [] [] [] c.args.self.now c.save.new.self (λ e. cc) (λ e. cc)) c.save.ensures.keeps)

pub returns-in-Bounds-clause-keeps : goal.returns-in-Bounds-clause-keeps
returns-in-Bounds-clause-keeps c other = rw c.in-Bounds.is (ok_any c.bounds.result (idle_keeps Leaves [] [] [] c.args.self.now c.args.self.now (λ e. cc) (λ e. cc) (idle_still c.args.self.now)))

pub returns-in-Pixels-clause-keeps : goal.returns-in-Pixels-clause-keeps
returns-in-Pixels-clause-keeps c other = rw c.in-Pixels.is (ok_any c.pixels.result (idle_keeps Leaves [] [] [] c.args.self.now c.args.self.now (λ e. cc) (λ e. cc) (idle_still c.args.self.now)))

pub returns-in-Digest-clause-keeps : goal.returns-in-Digest-clause-keeps
returns-in-Digest-clause-keeps c other = rw c.in-Digest.is (ok_any c.digest.result (idle_keeps Leaves [] [] [] c.args.self.now c.digest.new.self (λ e. cc) (λ e. cc) (idle_same c.args.self.now c.digest.new.self c.digest.ensures.same)))

pub returns-in-Restore-clause-keeps : goal.returns-in-Restore-clause-keeps
returns-in-Restore-clause-keeps c other = rw (c.in-Restore.is, restore_plain c.in-Restore.text) c.restore.ensures.keeps

pub returns-in-Down-clause-keeps : goal.returns-in-Down-clause-keeps
returns-in-Down-clause-keeps c other =
    let bounds : IsTouchInBounds c.in-Down.p c.in-Down.x c.in-Down.y = rw c.in-Down.is at c.requires.bounds in
    let x : FitsSigned w32 c.in-Down.x = omega (arith, ints, bounds.1) in
    let y : FitsSigned w32 c.in-Down.y = omega (arith, ints, bounds.2) in
    rw c.in-Down.is (simp (to_z-of_z, x, y) at c.down.ensures.keeps)

pub returns-in-Move-clause-keeps : goal.returns-in-Move-clause-keeps
returns-in-Move-clause-keeps c other =
    let bounds : IsTouchInBounds c.in-Move.p c.in-Move.x c.in-Move.y = rw c.in-Move.is at c.requires.bounds in
    let x : FitsSigned w32 c.in-Move.x = omega (arith, ints, bounds.1) in
    let y : FitsSigned w32 c.in-Move.y = omega (arith, ints, bounds.2) in
    rw c.in-Move.is (simp (to_z-of_z, x, y) at c.drag.ensures.keeps)
