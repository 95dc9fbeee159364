-- Views that run as their directions say, in what does not depend on that.
use Rattle.std.proofs.Common.{◌≡◌, ℕ, Bool, refl}
use Rattle.std.specs.Prelude.{◌==◌, if◌then◌else◌}
use Rattle.view_model.specs.Directed.{directed, running}
use Rattle.view_model.specs.Direction.{dir}
use Rattle.view_model.specs.Forest.{Forest, Nothing, Branch, EveryRow, count_of, sum_of}
use Rattle.view_model.specs.PlainTree.{PlainView}
use Rattle.view_tree.proofs.forest.ForestLaws.{times_in}

sum-directed : (number : PlainView → ℕ) → ((rtl : Bool) (view : PlainView) → number (running rtl view) ≡ number view) → (above : Bool) (tree : Forest PlainView) → sum_of number (directed above tree) ≡ sum_of number tree
sum-directed number same above Nothing = refl
sum-directed number same above (Branch view below after) =
    let rtl = dir above view.facts.direction in
    rw (same rtl view, sum-directed number same rtl below, sum-directed number same above after) refl

pub times-directed : (number : ℕ) (above : Bool) (tree : Forest PlainView) → times_in number (directed above tree) ≡ times_in number tree
times-directed number above tree = sum-directed (λ (view : PlainView). if view.number == number then 1 else 0) (λ rtl view. refl) above tree

pub count-directed : (above : Bool) (tree : Forest PlainView) → count_of (directed above tree) ≡ count_of tree
count-directed above tree = sum-directed (λ view. 1) (λ rtl view. refl) above tree

pub every-directed : (P : PlainView → Type 0) → ((rtl : Bool) (view : PlainView) → P view → P (running rtl view)) → (above : Bool) (tree : Forest PlainView) → EveryRow P tree → EveryRow P (directed above tree)
every-directed P keeps above Nothing every = tt
every-directed P keeps above (Branch view below after) every =
    let rtl = dir above view.facts.direction in
    (keeps rtl view every.0, every-directed P keeps rtl below every.1, every-directed P keeps above after every.2)
