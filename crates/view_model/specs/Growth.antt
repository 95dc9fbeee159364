-- Where a tree takes a new view, and why it does not elsewhere.
use Rattle.std.specs.Prelude.{ℕ, nat_lt, Bool, not, ◌&&◌, if◌then◌else◌, Option, Some, None}
use Rattle.view_model.specs.declared.class.Class.{Class}
use Rattle.view_model.specs.Classes.{is_group, takes_one_child}
use Rattle.view_model.specs.Forest.{Forest, count_of}
use Rattle.view_model.specs.Numbers.{max_depth, max_views, not_group, scroll_full, too_deep, too_many_views}
use Rattle.view_model.specs.PlainTree.{PlainView, depth_of, grown, has_child, view_in}
use Rattle.view_model.specs.Refusals.{PlainRefusal, refusal_numbered}

-- why a view of this class and depth, which has a child or none, takes no more in a tree of n views: it is no group, it
-- has the one child that it takes, it is too deep, or the tree is full
unfoldable pub growth_refusal : (class : Class) (occupied : Bool) (depth count : ℕ) → Option PlainRefusal
growth_refusal class occupied depth count =
    if not (is_group class) then Some (refusal_numbered not_group)
    else (if takes_one_child class && occupied then Some (refusal_numbered scroll_full)
    else (if not (nat_lt depth max_depth) then Some (refusal_numbered too_deep)
    else (if not (nat_lt count max_views) then Some (refusal_numbered too_many_views)
    else None)))

abbrev pub growth_refusal_of : (view : Option PlainView) (occupied : Bool) (depth count : ℕ) → Option PlainRefusal
growth_refusal_of None occupied depth count = None
growth_refusal_of (Some view) occupied depth count = growth_refusal view.class occupied depth count

-- why the tree takes no child of this parent; a root is taken
abbrev pub refusal_at : Forest PlainView → Option ℕ → Option PlainRefusal
refusal_at tree None = None
refusal_at tree (Some parent) =
    growth_refusal_of (view_in tree parent) (has_child parent tree) (depth_of parent tree) (count_of tree)

-- the tree with a view after the children of its parent, or as its root
abbrev pub grown_at : Option ℕ → Forest PlainView → Forest PlainView → Forest PlainView
grown_at None new tree = new
grown_at (Some parent) new tree = grown parent new tree
