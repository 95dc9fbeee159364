use Rattle.std.proofs.Common.{◌≡◌, ◌++◌, length}
use Rattle.vindaesk_c.specs.FilesNow.{files_now}
use Rattle.vindaesk_c.specs.Packed.{packed}
use Rattle.vindaesk_c.proofs.packing.unpacked.Given as goal

-- the files so far are at the front of the buffer
abbrev pub invariant-loop-left : goal.invariant-loop-left
invariant-loop-left l = l.bytes ≡ packed (files_now l.files.items) ++ l.left

abbrev pub decreases-loop-left : goal.decreases-loop-left
decreases-loop-left l = length l.left
