-- Cycles among the children of relative layouts, and why they make a tree refused.
use Rattle.std.specs.Prelude.{ℕ, suc, ◌-◌, Bool, true, false, if◌then◌else◌, nat_lt, List, [], ◌∷◌, length, map}
use Rattle.std.specs.Prelude.{slice_index, Option, Some, None}
use Rattle.std.specs.Option.{option_or}
use Rattle.view_model.specs.declared.class.Class.{Class}
use Rattle.view_model.specs.declared.refusal.Member.{Member}
use Rattle.view_model.specs.declared.refusal.Member.TheVariants as member
use Rattle.view_model.specs.declared.relative.Axis.{Axis}
use Rattle.view_model.specs.declared.relative.Axis.TheVariants.{Horizontal, Vertical}
use Rattle.view_model.specs.declared.relative.Link.{Link}
use Rattle.view_model.specs.Classes.{is_relative}
use Rattle.view_model.specs.Forest.{Forest, Nothing, Branch}
use Rattle.view_model.specs.Growth.{grown_at}
use Rattle.view_model.specs.Numbers.{cycle}
use Rattle.view_model.specs.Orders.{members_of}
use Rattle.view_model.specs.PlainTree.{PlainView}
use Rattle.view_model.specs.Refusals.{Cycle, PlainRefusal}
use Rattle.view_model.specs.SiblingRules.{leads}
use Rattle.view_model.specs.Sprouts.{Seed, numbered}

-- a value of each view of a list, but not of those below them
abbrev pub each : {X : Type 0} → (PlainView → X) → Forest PlainView → List X
each f Nothing = []
each f (Branch view below after) = f view ∷ each f after

-- what rules read of a view
abbrev pub link_of : PlainView → Link
link_of view = record { id = view.facts.id; rules = view.facts.rules }

abbrev pub links_in : Forest PlainView → List Link
links_in list = each link_of list

abbrev pub numbers_in : Forest PlainView → List ℕ
numbers_in list = each (λ view. view.number) list

-- the children of a list that reach themselves on an axis, in list order
abbrev pub cyclic : Axis → Forest PlainView → List ℕ
cyclic axis kids =
    map (slice_index (numbers_in kids)) (members_of (leads axis (links_in kids)) (length (links_in kids)))

-- a cycle with these members is reported, by the names that these numbers have
abbrev pub cycle_with : (ℕ → Member) → Bool → List ℕ → Option PlainRefusal
cycle_with name down [] = None
cycle_with name down (number ∷ more) = Some (record { number = cycle; reason = Cycle down (map name (number ∷ more)) })

-- why a relative layout can't have these children: their cycles on the horizontal axis, or else those on the vertical
abbrev pub cycle_among : (ℕ → Member) → Forest PlainView → Option PlainRefusal
cycle_among name kids =
    option_or (cycle_with name false (cyclic Horizontal kids)) (cycle_with name true (cyclic Vertical kids))

abbrev pub cycle_below : (ℕ → Member) → Class → Forest PlainView → Option PlainRefusal
cycle_below name class kids = if is_relative class then cycle_among name kids else None

-- why a tree can't be so: the cycles of the first relative layout in preorder that has any
abbrev pub first_cycle : (ℕ → Member) → Forest PlainView → Option PlainRefusal
first_cycle name Nothing = None
first_cycle name (Branch view below after) =
    option_or (cycle_below name view.class below) (option_or (first_cycle name below) (first_cycle name after))

-- a view that comes with a sapling, whose first view gets the number `next`, is reported as an element; another as a
-- view
abbrev pub member_from : ℕ → ℕ → Member
member_from next number = if nat_lt number next then member.View number else member.Element (suc number - next)

-- why a tree does not take a sapling, whose views get the numbers from `next` on, if its size is no reason
abbrev pub graft_cycle : Forest PlainView → Option ℕ → ℕ → Forest Seed → Option PlainRefusal
graft_cycle tree parent next sapling = first_cycle (member_from next) (grown_at parent (numbered next sapling) tree)
