-- What is kept of relative layouts when a sapling is added, and which of their cycles are reported then.
use Rattle.std.specs.Prelude.{◌≡◌, ℕ, suc, ◌==◌, ◌++◌, Bool, true, false, if◌then◌else◌, nat_lt, List, [], ◌∷◌}
use Rattle.std.specs.Prelude.{Option, Some, None}
use Rattle.std.specs.Option.{option_or}
use Rattle.view_model.specs.Classes.{is_relative}
use Rattle.view_model.specs.Cycles.{links_in, member_from, numbers_in}
use Rattle.view_model.specs.declared.refusal.Member.{Member}
use Rattle.view_model.specs.declared.relative.Link.{Link}
use Rattle.view_model.specs.declared.sprout.Sprout.{Sprout}
use Rattle.view_model.specs.Refusals.{PlainRefusal}
use Rattle.sibling_orders.specs.declared.groups.SiblingOrders.{SiblingOrders}
use Rattle.sibling_orders.specs.Cycles.{cycle_of}
use Rattle.sibling_orders.specs.Ordering.{IsNewGroupFor, plain_group}
use Rattle.view_tree.specs.Rows.{children_of_first, part_from, views_of}
use Rattle.view_tree.specs.Views.{Views, class_of, number_of}

-- what rules read of a view that is added
abbrev pub sprout_link : Sprout → Link
sprout_link sprout = record { id = sprout.facts.id; rules = sprout.facts.rules }

-- a value of each child of a view of this depth, by its number: the children are those one deeper among the views after
-- it in preorder, until one is no deeper; the first of these has this number
abbrev pub following : {X : Type 0} → (ℕ → Sprout → X) → ℕ → ℕ → List Sprout → List X
following f depth number [] = []
following f depth number (sprout ∷ more) =
    if nat_lt depth sprout.depth
    then
    (if sprout.depth == suc depth then f number sprout ∷ following f depth (suc number) more
    else following f depth (suc number) more)
    else []

abbrev pub links_following : ℕ → ℕ → List Sprout → List Link
links_following depth number sprouts = following (λ number sprout. sprout_link sprout) depth number sprouts

abbrev pub numbers_following : ℕ → ℕ → List Sprout → List ℕ
numbers_following depth number sprouts = following (λ number sprout. number) depth number sprouts

-- what is reported of a view of this number, which has these after it in preorder
abbrev pub cycle_after : (ℕ → Member) → ℕ → Sprout → List Sprout → Option PlainRefusal
cycle_after name number sprout more =
    if is_relative sprout.class
    then cycle_of name (links_following sprout.depth (suc number) more)
    (numbers_following sprout.depth (suc number) more)
    else None

-- what is reported of views in preorder, the first of which has this number
abbrev pub cycle_in : (ℕ → Member) → ℕ → List Sprout → Option PlainRefusal
cycle_in name number [] = None
cycle_in name number (sprout ∷ more) = option_or (cycle_after name number sprout more) (cycle_in name (suc number) more)

-- one entry, under this number
pub record IsEntryFor (number : ℕ) (links : List Link) (numbers : List ℕ) (entries : List (ℕ × SiblingOrders))
    : Type 0 where
  pub group : SiblingOrders
  pub only : entries ≡ (number, group) ∷ []
  pub right : IsNewGroupFor links numbers (plain_group group)

-- an entry, if the view is a relative layout
abbrev pub IsOwnFor : Bool → ℕ → List Link → List ℕ → List (ℕ × SiblingOrders) → Type 0
IsOwnFor false number links numbers entries = entries ≡ []
IsOwnFor true number links numbers entries = IsEntryFor number links numbers entries

-- an entry of a view of this number, which has these after it in preorder
abbrev pub IsFollowing : ℕ → Sprout → List Sprout → List (ℕ × SiblingOrders) → Type 0
IsFollowing number sprout more entries =
    IsOwnFor (is_relative sprout.class) number (links_following sprout.depth (suc number) more)
    (numbers_following sprout.depth (suc number) more) entries

-- entries of all relative layouts among views in preorder, the first of which has this number
abbrev pub AreEntries : ℕ → List Sprout → List (ℕ × SiblingOrders) → Type 0
AreEntries number [] entries = entries ≡ []
AreEntries number (sprout ∷ more) entries =
    (own : List (ℕ × SiblingOrders)) × (rest : List (ℕ × SiblingOrders)) × (entries ≡ own ++ rest)
    × IsFollowing number sprout more own × AreEntries (suc number) more rest

-- some entries come after others
pub record HasAdded (old new : List (ℕ × SiblingOrders)) (Made : List (ℕ × SiblingOrders) → Type 0) : Type 0 where
  pub added : List (ℕ × SiblingOrders)
  pub is : new ≡ old ++ added
  pub made : Made added

-- the children of a parent with one that is added
abbrev pub links_then : Views → ℕ → Link → List Link
links_then views parent link = links_in (views_of (children_of_first (part_from parent views.tree))) ++ link ∷ []

abbrev pub numbers_then : Views → ℕ → List ℕ
numbers_then views parent = numbers_in (views_of (children_of_first (part_from parent views.tree))) ++ views.next ∷ []

-- what is reported of a parent below which a view is added
abbrev pub parent_cycle : Views → Option ℕ → Sprout → Option PlainRefusal
parent_cycle views None sprout = None
parent_cycle views (Some parent) sprout =
    if is_relative (class_of views parent) then cycle_of (member_from views.next)
    (links_then views parent (sprout_link sprout)) (numbers_then views parent)
    else None

-- an entry of a parent below which a view is added, if it is a relative layout
abbrev pub IsParentEntry : Views → Option ℕ → Sprout → List (ℕ × SiblingOrders) → Type 0
IsParentEntry views None sprout entries = entries ≡ []
IsParentEntry views (Some parent) sprout entries =
    IsOwnFor (is_relative (class_of views parent)) (number_of views parent)
    (links_then views parent (sprout_link sprout)) (numbers_then views parent) entries

-- what is reported if a sapling is added: of its parent, or else of its own views
abbrev pub entries_cycle : Views → Option ℕ → List Sprout → Option PlainRefusal
entries_cycle views parent [] = None
entries_cycle views parent (sprout ∷ more) =
    option_or (parent_cycle views parent sprout) (cycle_in (member_from views.next) views.next (sprout ∷ more))

-- entries of the parent of a sapling and of the views of that
abbrev pub AreGrafted : Views → Option ℕ → List Sprout → List (ℕ × SiblingOrders) → Type 0
AreGrafted views parent [] entries = ⊥
AreGrafted views parent (sprout ∷ more) entries =
    (own : List (ℕ × SiblingOrders)) × IsParentEntry views parent sprout own
    × HasAdded own entries (AreEntries views.next (sprout ∷ more))
