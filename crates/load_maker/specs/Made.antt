-- How an unfinished load and its lines belong together.
use Rattle.std.specs.Prelude.{◌≡◌, ℕ, false, List, ◌++◌}
use Rattle.load_maker.specs.declared.making.Maker.{Maker}
use Rattle.load_maker.specs.Load.{Load, text_of}

-- a text was put after a load, unless there was no memory
pub record Puts (old new : Maker) (text : List ℕ) : Type 0 where
  pub state : new.state ≡ old.state
  pub put : new.failed ≡ false → (old.failed ≡ false) × (new.text.items ≡ old.text.items ++ text)

-- the lines of a load, unless there was no memory
pub record Makes (maker : Maker) (load : Load) : Type 0 where
  pub state : maker.state ≡ load.state
  pub text : maker.failed ≡ false → maker.text.items ≡ text_of load.lines
