-- Views that are to come into a tree: as trees, and as a list in preorder with depths.
use Rattle.std.specs.Prelude.{◌≡◌, ℕ, suc, ◌+◌, ◌==◌, ◌&&◌, Bool, true, false, nat_lt, nat_le, List, [], ◌∷◌, ◌++◌}
use Rattle.std.specs.Prelude.{if◌then◌else◌}
use Rattle.view_model.specs.declared.facts.Facts.{Facts}
use Rattle.view_model.specs.declared.class.Class.{Class}
use Rattle.view_model.specs.declared.sprout.Sprout.{Sprout}
use Rattle.view_model.specs.Forest.{Forest, Nothing, Branch, count_of}
use Rattle.view_model.specs.PlainTree.{PlainView}

-- what a view is before it has a number
pub record Seed : Type 0 where
  pub class : Class
  pub facts : Facts
  pub text : List ℕ

abbrev pub seed_of : Sprout → Seed
seed_of sprout = record { class = sprout.class; facts = sprout.facts; text = sprout.text }

abbrev pub sprout_of : ℕ → Seed → Sprout
sprout_of depth seed = record { class = seed.class; facts = seed.facts; text = seed.text; depth = depth }

-- the views after one of this depth are deeper than the outermost, and each at most one deeper than the one before
abbrev pub follows : ℕ → List Sprout → Bool
follows before [] = true
follows before (sprout ∷ more) =
    nat_lt 1 sprout.depth && (nat_le sprout.depth (before + 1) && follows sprout.depth more)

-- there is a first one, which has the depth 1, and the others follow
abbrev pub is_preorder : List Sprout → Bool
is_preorder [] = false
is_preorder (sprout ∷ more) = (sprout.depth == 1) && follows 1 more

abbrev pub IsPreorder : List Sprout → Type 0
IsPreorder sprouts = is_preorder sprouts ≡ true

-- the views of trees in preorder, if the outermost have this depth
abbrev pub preorder : ℕ → Forest Seed → List Sprout
preorder depth Nothing = []
preorder depth (Branch seed below after) = sprout_of depth seed ∷ (preorder (suc depth) below ++ preorder depth after)

abbrev pub view_of : ℕ → Seed → PlainView
view_of number seed = record { number = number; class = seed.class; facts = seed.facts; text = seed.text }

-- the trees with numbers for their views, in preorder from this one on
abbrev pub numbered : ℕ → Forest Seed → Forest PlainView
numbered number Nothing = Nothing
numbered number (Branch seed below after) =
    Branch (view_of number seed) (numbered (suc number) below) (numbered (suc number + count_of below) after)

-- a view of some depth, with all that is below it
pub record Stem : Type 0 where
  pub depth : ℕ
  pub seed : Seed
  pub below : Forest Seed

-- the first stems, as long as they are deeper than this, as trees
abbrev pub deeper : ℕ → List Stem → Forest Seed
deeper depth [] = Nothing
deeper depth (stem ∷ more) =
    if nat_lt depth stem.depth then Branch stem.seed stem.below (deeper depth more) else Nothing

-- the stems after those
abbrev pub beyond : ℕ → List Stem → List Stem
beyond depth [] = []
beyond depth (stem ∷ more) = if nat_lt depth stem.depth then beyond depth more else stem ∷ more

-- the views of a list in preorder that are below no other: the deeper ones after a view are below it
abbrev pub stems : List Sprout → List Stem
stems [] = []
stems (sprout ∷ more) =
    record { depth = sprout.depth; seed = seed_of sprout; below = deeper sprout.depth (stems more) }
    ∷ beyond sprout.depth (stems more)

-- the trees of a list in preorder whose outermost views have the depth 1
abbrev pub seeds_of : List Sprout → Forest Seed
seeds_of sprouts = deeper 0 (stems sprouts)
