-- The view that a line names has the number that was found for it.
use Rattle.std.proofs.Common.{◌≡◌, ℕ, List, [], Option, Some, None, Ok, ap, subst}
use Rattle.script_lines.specs.commands.PlainCommands.{Inflate}
use Rattle.line_words.specs.declared.words.naming.Name.{Name}
use Rattle.view_model.specs.Forest.{Forest, Nothing, Branch}
use Rattle.view_model.specs.PlainTree.{PlainView}
use Rattle.view_tree.specs.Views.{Views, number_of, plain_of}
use Rattle.view_world.specs.frames.Asked.{asked_views, listed}
use Rattle.world_parts.specs.Inflating.{place_in, place_named}
use Rattle.view_world.specs.screen.KeyedScreen.{KeyedScreen}
use Rattle.world_parts.specs.Naming.{named}
use Rattle.world_parts.specs.Reply.{Done, Refused, Reply, on_view, with_named}
use Rattle.world_parts.specs.World.{World, empty_world}

-- a reply with a number
abbrev numbered : ℕ → Reply
numbered number = Done (record empty_world { next = number }) []

next_in : Reply → ℕ
next_in (Done world text) = world.next
next_in (Refused refusal) = 0

found_so : (found : Option ℕ) (number : ℕ) → with_named found numbered ≡ numbered number → found ≡ Some number
unfolding next_in
found_so None number is = absurd cc
found_so (Some other) number is = ap (λ (n : ℕ). Some n) (ap next_in is)

pub named_is : (tree : Forest PlainView) (name : Name) (number : ℕ) → ((next : ℕ → Reply) → on_view tree name next ≡ next number) → named tree name ≡ Some number
named_is Nothing name number found = absurd (let clash = found numbered in cc)
named_is (Branch root below after) name number found = found_so (named (Branch root below after) name) number (found numbered)

-- the same of a tree of the code
pub named_on : (tree : Views) (now : KeyedScreen) (name : Name) (key : ℕ) → tree ≡ now.views → ((next : ℕ → Reply) → on_view (plain_of tree) name next ≡ next (number_of tree key))
    → named (plain_of now.views) name ≡ Some (number_of now.views key)
named_on tree now name key same found =
    subst (λ (views : Views). named (plain_of views) name ≡ Some (number_of views key)) same (named_is (plain_of tree) name (number_of tree key) found)

-- the place of a file's tree is the view at which its line requests layout
placed_named : (found number : Option ℕ) → place_named found ≡ Ok number → found ≡ number
placed_named None number is = absurd cc
placed_named (Some view) number is = cc

pub place_asked : (world : World) (name : List ℕ) (into : Option Name) (number : Option ℕ) → place_in world.tree into ≡ Ok number → asked_views world (Inflate name into) ≡ listed number
place_asked world name into number is = placed world.tree into is
  where
    placed : (tree : Forest PlainView) (into : Option Name) → place_in tree into ≡ Ok number → asked_views (record world { tree = tree }) (Inflate name into) ≡ listed number
    placed Nothing None is = let none : None ≡ number = cc in ap listed none
    placed Nothing (Some name) is = absurd cc
    placed (Branch root below after) None is = absurd cc
    placed (Branch root below after) (Some name) is = ap listed (placed_named (named (Branch root below after) name) number is)
