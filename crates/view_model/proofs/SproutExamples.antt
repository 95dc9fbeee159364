-- Worked lists in preorder, by computation: the trees that they represent.
use Rattle.std.specs.Prelude.{◌≡◌, ℕ, pos, refl, [], ◌∷◌, List, true, false}
use Rattle.view_model.specs.declared.class.Class.TheVariants.{FrameLayout}
use Rattle.view_model.specs.declared.sprout.Sprout.{Sprout}
use Rattle.view_model.specs.Facts.{new_facts}
use Rattle.view_model.specs.Forest.{Forest, Nothing, Branch}
use Rattle.view_model.specs.PlainTree.{numbers_of}
use Rattle.view_model.specs.Sprouts.{Seed, is_preorder, numbered, preorder, seeds_of, sprout_of}

-- a view that is distinguished from others by its width
seed : ℕ → Seed
seed width = record { class = FrameLayout; facts = new_facts (pos width) (pos 0); text = [] }

sprout : ℕ → ℕ → Sprout
unfolding seed
sprout depth width = sprout_of depth (seed width)

-- a view with two children, the first of which has one itself
family : Forest Seed
family = Branch (seed 1) (Branch (seed 2) (Branch (seed 3) Nothing Nothing) (Branch (seed 4) Nothing Nothing)) Nothing

listed : List Sprout
listed = sprout 1 1 ∷ sprout 2 2 ∷ sprout 3 3 ∷ sprout 2 4 ∷ []

family_in_preorder : preorder 1 family ≡ listed
unfolding family listed sprout seed
family_in_preorder = refl

family_again : seeds_of listed ≡ family
unfolding family listed sprout seed
family_again = refl

numbers_from_seven : numbers_of (numbered 7 family) ≡ 7 ∷ 8 ∷ 9 ∷ 10 ∷ []
unfolding family seed
numbers_from_seven = refl

family_is_one : is_preorder listed ≡ true
unfolding listed sprout seed
family_is_one = refl

-- a grandchild without a child between, two outermost ones, and none
grandchild_alone : is_preorder (sprout 1 1 ∷ sprout 3 2 ∷ []) ≡ false
unfolding sprout seed
grandchild_alone = refl

two_outermost : is_preorder (sprout 1 1 ∷ sprout 1 2 ∷ []) ≡ false
unfolding sprout seed
two_outermost = refl

none : is_preorder [] ≡ false
none = refl
