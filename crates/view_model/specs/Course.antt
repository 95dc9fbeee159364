-- The course of a group's measuring: its children, with what it asked of them so far.
use Rattle.std.specs.Prelude.{ℕ, zero, suc, ℤ, pos, if◌then◌else◌, List, [], ◌∷◌, ◌++◌, Option, Some, None, map}
use Rattle.geom_core.specs.declared.geometry.Rect.{Rect}
use Rattle.geom_core.specs.declared.geometry.Size.{Size}
use Rattle.view_model.specs.declared.facts.Facts.{Facts}
use Rattle.view_model.specs.Facts.{is_shown}
use Rattle.view_model.specs.Geometry.{Laid}
use Rattle.view_model.specs.Measuring.{Specs, Measured, Rule}

-- what a group may ask of a child: its facts, its size under two specs, how many views are measured for that, and the
-- views that are laid out if it has this rectangle under these specs, itself first
pub record Child : Type 0 where
  pub facts : Facts
  pub measure : Specs → Size
  pub calls : Specs → ℕ
  pub lay : Specs → Rect → List Laid

-- a child with the specs under which its group has measured it so far, in order, and its four sides, if measuring
-- determines them
pub record Requested : Type 0 where
  pub child : Child
  pub requests : List Specs
  pub edges : Option Rect

-- the last of some specs
abbrev pub last_of : Specs → List Specs → Specs
last_of specs [] = specs
last_of specs (next ∷ more) = last_of next more

-- the size of a child that was measured under these specs, in order: that of the last measuring
abbrev pub size_after : Child → List Specs → Size
size_after kid [] = record { w = pos 0; h = pos 0 }
size_after kid (specs ∷ more) = kid.measure (last_of specs more)

abbrev pub measured_of : Requested → Measured
measured_of kid = record { facts = kid.child.facts; size = size_after kid.child kid.requests }

-- a child after its turn, in which its group may ask for it
abbrev pub asked_for : Option Specs → Requested → Requested
asked_for None kid = kid
asked_for (Some specs) kid = record kid { requests = kid.requests ++ specs ∷ [] }

-- a child after its turn in a phase in which the children before it got these sizes
abbrev pub after_turn : (List Measured → Measured → Option Specs) → List Measured → Requested → Requested
after_turn ask taken kid = if is_shown kid.child.facts then asked_for (ask taken (measured_of kid)) kid else kid

-- the sizes of those that take part in layout
abbrev pub size_in : Requested → List Measured
size_in kid = if is_shown kid.child.facts then measured_of kid ∷ [] else []

abbrev pub sizes_of : List Requested → List Measured
sizes_of [] = []
sizes_of (kid ∷ kids) = size_in kid ++ sizes_of kids

-- children after a phase, following others that got these sizes in it
abbrev pub after_phase : (List Measured → Measured → Option Specs) → List Measured → List Requested → List Requested
after_phase ask taken [] = []
after_phase ask taken (kid ∷ kids) =
    after_turn ask taken kid ∷ after_phase ask (taken ++ size_in (after_turn ask taken kid)) kids

-- how far a measuring in phases has come: the sizes of the children at the end of each phase so far, and the children
pub record MeasuringProgress : Type 0 where
  pub past : List (List Measured)
  pub kids : List Requested

abbrev pub begun : List Child → MeasuringProgress
begun kids =
    record { past = []; kids = map (λ (kid : Child). record { child = kid; requests = []; edges = None }) kids }

-- after one phase more
abbrev pub one_phase : Rule → MeasuringProgress → MeasuringProgress
one_phase rule progress =
    let kids = after_phase (rule.ask progress.past) [] progress.kids in
    record { past = progress.past ++ sizes_of kids ∷ []; kids = kids }

-- after as many more phases as follow, up to this number
abbrev pub phases_on : ℕ → Rule → MeasuringProgress → MeasuringProgress
phases_on zero rule progress = progress
phases_on (suc left) rule progress =
    if rule.turns progress.past then phases_on left rule (one_phase rule progress) else progress

-- after all phases: no group has more than three
abbrev pub ended : Rule → List Child → MeasuringProgress
ended rule kids = phases_on 2 rule (one_phase rule (begun kids))

-- a measuring of a view: its children at the end, its size, and what they take along its axis. A child that is gone
-- stays in the list, with no request, and only its facts count
pub record Course : Type 0 where
  pub kids : List Requested
  pub size : Size
  pub total : ℤ

-- the course of a measuring by this rule
abbrev pub course_of : Rule → List Child → Course
course_of rule kids =
    let progress = ended rule kids in
    record { kids = progress.kids; size = rule.size progress.past; total = rule.total progress.past }
