-- How the nodes of a tree turn with their parents.
use Rattle.std.specs.Prelude.{◌≡◌, ℕ, suc, ◌≤◌, Bool, true, if◌then◌else◌, not, [], Option, Some, option_map}
use Rattle.slab.specs.Slab.{Slab}
use Rattle.view_model.specs.Numbers.{max_views}
use Rattle.view_model.specs.Direction.{dir}
use Rattle.view_model.specs.Forest.{Forest, Nothing, Branch, count_of}
use Rattle.view_tree.specs.node.Nodes.{PlainNode, RepresentsPart, forest, plain_node_at}
use Rattle.view_tree.specs.Rows.{Row, count_of_key, first_key}
use Rattle.view_tree.specs.Views.{AreDirected}
use Rattle.view_tree.specs.declared.node.Node.{Node}

-- whether a view runs in this way
abbrev pub runs_so : Bool → Bool → Bool
runs_so rtl own = if rtl then own else not own

-- a node that is to run from right to left or not, with layout requested at it
abbrev pub running_node : Bool → Node → Node
running_node rtl node =
    record node { facts = record node.facts { rtl = rtl }; state = record node.state { forced = true }; cache = [] }

-- the same, where it does not run so yet
abbrev pub turned_node : Bool → Node → Node
turned_node rtl node = if runs_so rtl node.facts.rtl then node else running_node rtl node

-- the nodes of a list of trees run as their directions say, below a parent that runs from right to left or not
abbrev pub HaveTurned : (ℕ → Option Node) → (ℕ → Option Node) → Bool → Forest Row → Type 0
HaveTurned old new above Nothing = Unit {0}
HaveTurned old new above (Branch row kids siblings) =
    let rtl = dir above row.view.facts.direction in
    (new row.key ≡ option_map (turned_node rtl) (old row.key)) × HaveTurned old new rtl kids
    × HaveTurned old new above siblings

-- the trees from a view on, as the nodes have them
abbrev pub part_at : Slab Node → ℕ → Forest Row
part_at nodes view = forest (suc max_views) (plain_node_at nodes) (Some view)

-- what is below the first view of a list runs as that makes it
abbrev pub RunsBelow : Forest Row → Type 0
RunsBelow Nothing = Unit {0}
RunsBelow (Branch row kids siblings) = AreDirected row.view.facts.rtl kids

-- the nodes represent these trees, which begin with this view
pub record IsPart (at : ℕ → Option PlainNode) (view : ℕ) (part : Forest Row) : Type 0 where
  pub parent : Option ℕ
  pub before : Option ℕ
  pub represented : RepresentsPart at parent before part
  pub first : first_key part ≡ Some view
  pub once : (key : ℕ) → count_of_key key part ≤ 1
  pub few : count_of part ≤ max_views
  pub below : RunsBelow part
