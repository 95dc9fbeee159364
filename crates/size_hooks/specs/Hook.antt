-- What an armed hook is.
use Rattle.std.specs.Prelude.{ℕ, List}
use Rattle.geom_core.specs.declared.geometry.Size.{Size}
use Rattle.view_model.specs.declared.changes.NumEdit.{NumEdit}

pub record Hook : Type 0 where
  -- the number of the view whose size it waits for
  pub view : ℕ
  -- the size that was reported last
  pub reported : Size
  -- what is changed once the view has another size, in order
  pub edits : List NumEdit
