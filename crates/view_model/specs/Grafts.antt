-- Why a tree does not take a sapling: the first reason, in preorder, with the number of the element that has it.
use Rattle.std.specs.Prelude.{ℕ, suc, ◌+◌, Bool, true, false, Option, Some, None}
use Rattle.std.specs.Option.{option_map, option_or}
use Rattle.view_model.specs.declared.class.Class.{Class}
use Rattle.view_model.specs.Forest.{Forest, Nothing, Branch, count_of}
use Rattle.view_model.specs.Growth.{growth_refusal}
use Rattle.view_model.specs.PlainTree.{PlainView, depth_of, has_child, view_in}
use Rattle.view_model.specs.Refusals.{PlainRefusal, Element}
use Rattle.view_model.specs.Sprouts.{Seed}

-- the reason, if there is one, reported for an element
abbrev pub at_element : ℕ → Option PlainRefusal → Option PlainRefusal
at_element element reason = option_map (λ (refusal : PlainRefusal). record refusal { reason = Element element }) reason

-- why a view of this class and depth, which has a child or none, does not take these trees as children in a tree of n
-- views; the first view of the trees is this element
abbrev pub refusal_below : (class : Class) (occupied : Bool) (depth count element : ℕ) → Forest Seed
    → Option PlainRefusal
refusal_below class occupied depth count element Nothing = None
refusal_below class occupied depth count element (Branch seed below after) =
    option_or (at_element element (growth_refusal class occupied depth count))
    (option_or (refusal_below seed.class false (suc depth) (suc count) (suc element) below)
    (refusal_below class true depth (suc count + count_of below) (suc element + count_of below) after))

abbrev pub refusal_below_of : (view : Option PlainView) (occupied : Bool) (depth count : ℕ) → Forest Seed
    → Option PlainRefusal
refusal_below_of None occupied depth count sapling = None
refusal_below_of (Some view) occupied depth count sapling = refusal_below view.class occupied depth count 1 sapling

-- why a tree of n views does not take a sapling as its root: because of what is below the outermost view, which is
-- taken
abbrev pub root_refusal : ℕ → Forest Seed → Option PlainRefusal
root_refusal count Nothing = None
root_refusal count (Branch seed below after) = refusal_below seed.class false 1 (suc count) 2 below

-- why the tree does not take a sapling as the last child of this parent, or as its root
abbrev pub graft_refusal : Forest PlainView → Option ℕ → Forest Seed → Option PlainRefusal
graft_refusal tree None sapling = root_refusal (count_of tree) sapling
graft_refusal tree (Some parent) sapling =
    refusal_below_of (view_in tree parent) (has_child parent tree) (depth_of parent tree) (count_of tree) sapling
