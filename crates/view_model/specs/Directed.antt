-- How the directions of views go down a tree.
use Rattle.std.specs.Prelude.{◌≡◌, ℕ, Bool, false, if◌then◌else◌, not, List, [], ◌∷◌, ◌++◌, Option, Some, None}
use Rattle.view_model.specs.declared.facts.Facts.{Facts}
use Rattle.view_model.specs.declared.placing.Direction.{Direction}
use Rattle.view_model.specs.Direction.{dir}
use Rattle.view_model.specs.Forest.{Forest, Nothing, Branch}
use Rattle.view_model.specs.PlainTree.{PlainView, view_in, with_facts}

-- the trees with each row running as its direction says, below a parent that runs from right to left or not
abbrev pub directed_by : {R : Type 0} → (R → Direction) → (Bool → R → R) → Bool → Forest R → Forest R
directed_by direction run above Nothing = Nothing
directed_by direction run above (Branch row below after) =
    let rtl = dir above (direction row) in
    Branch (run rtl row) (directed_by direction run rtl below) (directed_by direction run above after)

-- a view that runs from right to left or not
abbrev pub running : Bool → PlainView → PlainView
running rtl view = record view { facts = record view.facts { rtl = rtl } }

abbrev pub directed : Bool → Forest PlainView → Forest PlainView
directed above trees = directed_by (λ (view : PlainView). view.facts.direction) running above trees

-- every row runs as its direction says
abbrev pub IsDirected : {R : Type 0} → (R → Facts) → Bool → Forest R → Type 0
IsDirected facts above Nothing = Unit {0}
IsDirected facts above (Branch row below after) =
    ((facts row).rtl ≡ dir above (facts row).direction) × IsDirected facts (facts row).rtl below
    × IsDirected facts above after

-- the rows that run another way than their directions say
abbrev pub turned : {R : Type 0} → (R → Facts) → Bool → Forest R → List R
turned facts above Nothing = []
turned facts above (Branch row below after) =
    let rtl = dir above (facts row).direction in
    (if (if rtl then (facts row).rtl else not (facts row).rtl) then [] else row ∷ [])
    ++ (turned facts rtl below ++ turned facts above after)

-- whether what comes below a view, or as all there is, has a parent that runs from right to left
abbrev pub rtl_of : Option PlainView → Bool
rtl_of None = false
rtl_of (Some view) = view.facts.rtl

abbrev pub rtl_at : Option ℕ → Forest PlainView → Bool
rtl_at None tree = false
rtl_at (Some number) tree = rtl_of (view_in tree number)

-- the tree once the view of this number has a direction, which has not gone down it yet
abbrev pub with_direction : ℕ → Direction → Forest PlainView → Forest PlainView
with_direction number direction tree = with_facts number (λ facts. record facts { direction = direction }) tree
