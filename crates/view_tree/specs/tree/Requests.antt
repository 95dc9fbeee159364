-- What a request for layout leaves with the views.
use Rattle.std.specs.Prelude.{ℕ, ◌==◌, Bool, true, false, if◌then◌else◌, List, [], ◌∷◌}
use Rattle.view_model.specs.Forest.{Forest}
use Rattle.view_tree.specs.Rows.{Row, ancestors}
use Rattle.view_tree.specs.Views.{Held}

-- what is kept of a view once its layout is requested: it is forced, and no size is kept of it
abbrev pub forced_one : Held → Held
forced_one own = record own { state = record own.state { forced = true }; cache = [] }

-- whether a key is in a list
abbrev pub among : ℕ → List ℕ → Bool
among key [] = false
among key (first ∷ more) = if first == key then true else among key more

-- the first keys of a list, up to that of a view that is forced
abbrev pub unforced : (ℕ → Held) → List ℕ → List ℕ
unforced held [] = []
unforced held (first ∷ more) = if (held first).state.forced then [] else first ∷ unforced held more

-- the views that a request at this view forces: itself, and those around it up to one that is forced
abbrev pub asking : (ℕ → Held) → ℕ → Forest Row → List ℕ
asking held view tree = view ∷ unforced held (ancestors view tree)

-- some views are forced
abbrev pub pressed : (ℕ → Held) → List ℕ → ℕ → Held
pressed held keys key = if among key keys then forced_one (held key) else held key

-- what is kept once layout was requested at these views, one after the other
abbrev pub requested : (ℕ → Held) → List ℕ → Forest Row → ℕ → Held
requested held [] tree = held
requested held (view ∷ views) tree = requested (pressed held (asking held view tree)) views tree
