use Rattle.std.proofs.Common.{◌≡◌, ℕ, ◌+◌, ◌-◌, List, ◌++◌, length, take, drop, arith, length-drop, length-take}
use Rattle.std.proofs.lemmas.Grind.{common_steps}
use Rattle.std.proofs.lemmas.List.{drop-drop, take-append-drop, take_all}
use Rattle.std.proofs.Math.Seq.{take-append_seam}
use Rattle.tool_io.proofs.bytes_left.BytesLeft.move_into.Goals as goal

-- the first n bytes of what is left, and the bytes that are left then
split : (items moved tail : List ℕ) (at n : ℕ) → moved ≡ take n (drop at items) → length moved ≡ n → drop at items ≡ take n (moved ++ tail) ++ drop (at + n) items
split items moved tail at n copied count = grind (arith, common_steps, drop-drop n at items, take-append-drop n (drop at items), take-append_seam moved tail)

-- a slice from a place on is what is left there
suffix : (items : List ℕ) (at : ℕ) → take (length items - at) (drop at items) ≡ drop at items
suffix items at = grind (arith, common_steps, length-drop at items, take_all)

pub returns-clause-bytes : goal.returns-clause-bytes
returns-clause-bytes c =
    let value = c.deref.ensures.value in
    let copied = rw (value, suffix) at c.copy_from_slice.ensures.after in
    let count : length c.copy_from_slice.new.self ≡ c.min-count.result = omega (arith, length-take {A = ℕ}) in
    rw (← c.self.view_is) (split _ _ _ _ _ copied count)
