-- What a pass counts.
use Rattle.std.specs.Prelude.{◌≡◌, ℕ, ◌+◌, ◌-◌, ◌^◌, min}
use Rattle.view_model.specs.declared.work.Work.{Work}
use Rattle.view_tree.specs.Views.{Views}

-- each measuring was counted both in the work and in the tree; a count stays at the greatest number once it is there.
-- Nothing was painted
pub record IsMeasuringCounted (before after : Views) (old new : Work) : Type 0 where
  pub by : ℕ
  pub work : min new.measured (2 ^ 64 - 1) ≡ min (old.measured + by) (2 ^ 64 - 1)
  pub tree : min after.counts.measures (2 ^ 64 - 1) ≡ min (before.counts.measures + by) (2 ^ 64 - 1)
  pub painted : new.painted ≡ old.painted
