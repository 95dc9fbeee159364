-- What steps of a line give: the view that it names, a place, bytes or views.
use Rattle.std.specs.Prelude.{◌≡◌, ℕ, List, Option, Some, None, Result, Ok, Err}
use Rattle.std.specs.declared.alloc.Global.{Global}
use Rattle.std.specs.declared.vec.Vec.{Vec}
use Rattle.line_words.specs.declared.words.naming.Name.{Name}
use Rattle.view_model.specs.Forest.{Nothing}
use Rattle.view_model.specs.Refusals.{PlainRefusal, plain_refusal}
use Rattle.view_tree.specs.Views.{Views, IsLive, number_of, plain_of}
use Rattle.world_parts.specs.Reply.{Reply, Refused, on_view}
use Rattle.world_parts.specs.declared.fault.StepFault.{StepFault}
use Rattle.world_parts.specs.declared.fault.StepFault.TheVariants as fault

-- A step of a line gives what is defined, or its refusal is that of the line. There may be no memory, and a shelf may
-- have failed.
abbrev pub Gives : {A B : Type 0} → (A → B → Type 0) → Result A PlainRefusal → Result B StepFault → Type 0
Gives {A} represents defined (Ok value) = (a : A) × (defined ≡ Ok a) × represents a value
Gives represents defined (Err (fault.Refused refusal)) = defined ≡ Err (plain_refusal refusal)
Gives represents defined (Err fault.NoMemory) = Unit {0}
Gives represents defined (Err fault.Sink) = ⊥
Gives represents defined (Err fault.Shelf) = Unit {0}

-- these are the bytes of a vector
abbrev pub HasBytes : List ℕ → Vec ℕ Global → Type 0
HasBytes bytes held = held.items ≡ bytes

-- the place of a file's tree, by the key of the view below which it goes
abbrev pub IsPlace : Views → Option ℕ → Option ℕ → Type 0
IsPlace views place None = (place ≡ None) × (views.tree ≡ Nothing)
IsPlace views place (Some key) = IsLive views key × (place ≡ Some (number_of views key))

-- the key of the view that a line names: whatever is done with that view is the reply; or why there is none
abbrev pub Resolved : Views → Name → Result ℕ StepFault → Type 0
Resolved views name (Ok key) =
    IsLive views key × ((next : ℕ → Reply) → on_view (plain_of views) name next ≡ next (number_of views key))
Resolved views name (Err (fault.Refused refusal)) =
    (next : ℕ → Reply) → on_view (plain_of views) name next ≡ Refused (plain_refusal refusal)
Resolved views name (Err fault.NoMemory) = ⊥
Resolved views name (Err fault.Sink) = ⊥
Resolved views name (Err fault.Shelf) = ⊥
