-- What is kept of views that are taken out of layout.
use Rattle.std.specs.Prelude.{ℕ, ◌==◌, Bool, true, if◌then◌else◌, [], None}
use Rattle.view_tree.specs.Rows.{first_tree, part_from, count_of_key}
use Rattle.view_tree.specs.Views.{Held, Views, held_of}

-- what is kept of a view that is taken out of layout: it is forced, has no bounds, and no size of it is known
abbrev pub gone_one : Held → Held
gone_one held = record held { state = record held.state { bounds = None; forced = true }; cache = [] }

-- what is kept of a view that occurs this often among those that are taken out
abbrev pub hidden_at : ℕ → Held → Held
hidden_at count_of_key held = if count_of_key == 0 then held else gone_one held

-- what is kept under a key, once a view and all below it are taken out, if they are
abbrev pub held_hiding : Bool → Views → ℕ → ℕ → Held
held_hiding goes views view key =
    if goes then hidden_at (count_of_key key (first_tree (part_from view views.tree))) (held_of views key)
    else held_of views key
