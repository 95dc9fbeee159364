-- The views that lines name.
use Rattle.std.specs.Prelude.{ℕ, ◌==◌, if◌then◌else◌, Option, None}
use Rattle.std.specs.Option.{option_map}
use Rattle.line_words.specs.declared.words.naming.Name.{Name}
use Rattle.line_words.specs.declared.words.naming.Name.TheVariants as name
use Rattle.view_model.specs.Forest.{Forest}
use Rattle.view_model.specs.PlainTree.{PlainView, number_by_id, view_in}

-- the number of the view that a name means: the first in preorder with an id; the id 0 means no view
abbrev pub named : Forest PlainView → Name → Option ℕ
named tree (name.Number number) = option_map (λ (view : PlainView). view.number) (view_in tree number)
named tree (name.Id id) = if id == 0 then None else number_by_id tree id
