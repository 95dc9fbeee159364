-- What a direction that goes down a tree leaves of its views.
use Rattle.std.proofs.Common.{◌≡◌, ℕ, Bool, true, false, Option, Some, None, refl, sym, ap}
use Rattle.std.specs.Option.{option_map}
use Rattle.std.specs.Prelude.{◌==◌, if◌then◌else◌, IfSome}
use Rattle.tree_edits.specs.Editing.{turns}
use Rattle.tree_edits.specs.Keeping.{spread}
use Rattle.view_model.specs.declared.changes.Act.{Act}
use Rattle.view_model.specs.Directed.{rtl_at, rtl_of}
use Rattle.view_model.specs.Direction.{dir}
use Rattle.view_model.specs.Forest.{Forest, Nothing, Branch, sum_of}
use Rattle.view_tree.proofs.forest.PlainLaws.{number_there}
use Rattle.view_tree.specs.tree.Directions.{directed_rows, is_rtl_at, row_running}
use Rattle.view_tree.specs.Rows.{Row, count_of_key}
use Rattle.view_tree.specs.Views.{Held, IsLive, IsTree, Views, laid_rows, number_of, plain_of}

-- what does not depend on how views run
pub sum-directed : (number : Row → ℕ) → ((rtl : Bool) (row : Row) → number (row_running rtl row) ≡ number row) → (above : Bool) (tree : Forest Row) → sum_of number (directed_rows above tree) ≡ sum_of number tree
sum-directed number same above Nothing = refl
sum-directed number same above (Branch row kids siblings) =
    let rtl = dir above row.view.facts.direction in
    rw (same rtl row, sum-directed number same rtl kids, sum-directed number same above siblings) refl

pub count_of_key-directed : (key : ℕ) (above : Bool) (tree : Forest Row) → count_of_key key (directed_rows above tree) ≡ count_of_key key tree
count_of_key-directed key above tree = sum-directed (λ (row : Row). if row.key == key then 1 else 0) (λ rtl row. refl) above tree

pub laid-directed : (held : ℕ → Held) (above : Bool) (tree : Forest Row) → laid_rows held (directed_rows above tree) ≡ laid_rows held tree
laid-directed held above Nothing = refl
laid-directed held above (Branch row kids siblings) =
    let rtl = dir above row.view.facts.direction in
    rw (laid-directed held rtl kids, laid-directed held above siblings) refl

pub count_of_key-spread : (key : ℕ) (act : Act) (tree : Forest Row) → count_of_key key (spread act tree) ≡ count_of_key key tree
count_of_key-spread key act tree = by (turns act)
  where
    by : (t : Bool) → count_of_key key (if t then directed_rows false tree else tree) ≡ count_of_key key tree
    by true = count_of_key-directed key false tree
    by false = refl

-- whether what comes below a view runs from right to left, by its key and by its number
pub runs_named : (views : Views) (place : Option ℕ) → IsTree views → IfSome place (λ (view : ℕ). IsLive views view) → is_rtl_at place views.tree ≡ rtl_at (option_map (number_of views) place) (plain_of views)
runs_named views None is live = refl
runs_named views (Some view) is live = sym (ap rtl_of (number_there views view is live))

-- an act that sets no direction
pub unspread : (act : Act) (tree : Forest Row) → turns act ≡ false → spread act tree ≡ tree
unspread act tree still = rw still refl
