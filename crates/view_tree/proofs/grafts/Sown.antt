-- Plain trees to which the views of a sapling are added one after another.
use Rattle.std.proofs.Common.{◌≡◌, Bool, ℕ, suc, ◌+◌, ◌-◌, ◌<◌, ◌≤◌, false, List, [], ◌∷◌, ◌++◌, refl, sym, ◌∙◌, ap, arith, inl, inr, append_assoc}
use Rattle.std.proofs.lemmas.Bool.{cases_Bool, eq-eqb, ne_eqb}
use Rattle.std.proofs.lemmas.List.{append-nil}
use Rattle.std.specs.Prelude.{◌==◌}
use Rattle.view_model.specs.declared.sprout.Sprout.{Sprout}
use Rattle.view_model.specs.Directed.{directed, running}
use Rattle.view_model.specs.Direction.{dir}
use Rattle.view_model.specs.Forest.{Forest, Nothing, Branch, EveryRow, count_of, joined}
use Rattle.view_model.specs.PlainTree.{PlainView, grown, single}
use Rattle.view_model.specs.Sprouts.{Seed, numbered, preorder, seed_of, view_of}
use Rattle.view_tree.proofs.forest.ForestLaws.{every-edited, every-joined, grown_where-again, grown_where-nothing}
use Rattle.view_tree.proofs.grafts.Paths.{last_earlier, last_own, with_last}

-- all numbers are below this one
abbrev pub Earlier : ℕ → Forest PlainView → Type 0
Earlier next tree = EveryRow (λ (view : PlainView). view.number < next) tree

pub earlier_more : (m n : ℕ) (tree : Forest PlainView) → m ≤ n → Earlier m tree → Earlier n tree
earlier_more m n Nothing le early = tt
earlier_more m n (Branch view below after) le early = (let a = early.0 in omega arith, earlier_more m n below le early.1, earlier_more m n after le early.2)

pub earlier-grown : (n parent : ℕ) (new tree : Forest PlainView) → Earlier n tree → Earlier n new → Earlier n (grown parent new tree)
earlier-grown n parent new tree early added =
    every-edited (λ (view : PlainView). view.number < n) (λ view. view.number == parent) _
    (λ view kids siblings own below after. (own, every-joined (λ (view : PlainView). view.number < n) kids new below added, after)) tree early

earlier-numbered : (n : ℕ) (list : Forest Seed) → Earlier (n + count_of list) (numbered n list)
earlier-numbered n Nothing = tt
earlier-numbered n (Branch seed below after) = (
  omega arith,
  earlier_more (suc n + count_of below) (n + count_of (Branch seed below after)) (numbered (suc n) below) (omega arith) (earlier-numbered (suc n) below),
  earlier_more (suc n + count_of below + count_of after) (n + count_of (Branch seed below after)) (numbered (suc n + count_of below) after) (omega arith) (earlier-numbered (suc n + count_of below) after),
)

earlier-directed : (n : ℕ) (above : Bool) (tree : Forest PlainView) → Earlier n tree → Earlier n (directed above tree)
earlier-directed n above Nothing early = tt
earlier-directed n above (Branch view below after) early =
    (early.0, earlier-directed n (dir above view.facts.direction) below early.1, earlier-directed n above after early.2)

-- a number that no view has gets no children
grown-later : (n : ℕ) (new tree : Forest PlainView) → Earlier n tree → grown n new tree ≡ tree
grown-later n new Nothing early = refl
grown-later n new (Branch view below after) early =
    let a = early.0 in
    let ne : (view.number == n) ≡ false = ne_eqb view.number n (λ e. absurd (omega arith)) in
    rw (ne, grown-later n new below early.1, grown-later n new after early.2)

grown-joined : (n : ℕ) (new list more : Forest PlainView) → Earlier n list → grown n new (joined list more) ≡ joined list (grown n new more)
grown-joined n new Nothing more early = refl
grown-joined n new (Branch view below after) more early =
    let a = early.0 in
    let ne : (view.number == n) ≡ false = ne_eqb view.number n (λ e. absurd (omega arith)) in
    rw (ne, grown-later n new below early.1, grown-joined n new after more early.2)

-- a view is added, and then its children
pub grown-inside : (n parent : ℕ) (view : PlainView) (kids tree : Forest PlainView) → view.number ≡ n → parent < n → Earlier n tree
    → grown n kids (grown parent (single view) tree) ≡ grown parent (Branch view kids Nothing) tree
grown-inside n parent view kids Nothing is le early = refl
grown-inside n parent view kids (Branch other below after) is le early =
    let a = early.0 in
    let ne : (other.number == n) ≡ false = ne_eqb other.number n (λ e. absurd (omega arith)) in
    elim (cases_Bool (other.number == parent)) [
      | inl e ↦ rw (e, ne, grown-later n kids after early.2, grown-joined n kids below (single view) early.1, eq-eqb view.number n is)
      | inr e ↦ rw (e, ne, grown-inside n parent view kids below is le early.1, grown-inside n parent view kids after is le early.2)
    ]

-- the tree once these have come: `path` has the number of the last view of each place, and `ways` how that runs
abbrev pub sown : ℕ → (ℕ → ℕ) → (ℕ → Bool) → Forest PlainView → List Sprout → Forest PlainView
sown number path ways tree [] = tree
sown number path ways tree (sprout ∷ more) =
    let way = dir (ways (sprout.depth - 2)) sprout.facts.direction in
    sown (suc number) (with_last path (sprout.depth - 1) number) (with_last ways (sprout.depth - 1) way)
    (grown (path (sprout.depth - 2)) (single (running way (view_of number (seed_of sprout)))) tree) more

-- what is left to add after trees that were added
pub record Sown (number place parent : ℕ) (way : Bool) (path : ℕ → ℕ) (ways : ℕ → Bool) (tree : Forest PlainView) (list : Forest Seed) (rest : List Sprout)
    (whole : Forest PlainView) : Type 0 where
  pub ends : ℕ → ℕ
  pub outer : (other : ℕ) → other ≤ place → ends other ≡ path other
  pub runs : ℕ → Bool
  pub above : (other : ℕ) → other ≤ place → runs other ≡ ways other
  pub same : whole ≡ sown (number + count_of list) ends runs (grown parent (directed way (numbered number list)) tree) rest

pub sown_list : (number place parent : ℕ) (way : Bool) (path : ℕ → ℕ) (ways : ℕ → Bool) (tree : Forest PlainView) (list : Forest Seed) (rest : List Sprout)
    → path place ≡ parent → ways place ≡ way → parent < number → Earlier number tree
    → Sown number place parent way path ways tree list rest (sown number path ways tree (preorder (suc (suc place)) list ++ rest))
sown_list number place parent way path ways tree Nothing rest is so under early = record {
  ends = path;
  outer = λ other le. refl;
  runs = ways;
  above = λ other le. refl;
  same =
      let none : number + 0 ≡ number = omega arith in
      rw (none, grown_where-nothing (λ (view : PlainView). view.number == parent) tree) refl;
}
sown_list number place parent way path ways tree (Branch seed kids siblings) rest is so under early =
    let here : suc (suc place) - 2 ≡ place = omega arith in
    let there : suc (suc place) - 1 ≡ suc place = omega arith in
    let plain = view_of number seed in
    let own = dir way seed.facts.direction in
    let view = running own plain in
    let inner = with_last path (suc place) number in
    let turns = with_last ways (suc place) own in
    let following = preorder (suc (suc place)) siblings ++ rest in
    let all = (preorder (suc (suc (suc place))) kids ++ preorder (suc (suc place)) siblings) ++ rest in
    let with_view = grown parent (single view) tree in
    let early_view : Earlier (suc number) with_view =
    earlier-grown (suc number) parent (single view) tree (earlier_more number (suc number) tree (omega arith) early) (omega arith, tt, tt) in
    let one = sown_list (suc number) (suc place) number own inner turns with_view kids following (last_own path (suc place) number) (last_own ways (suc place) own) (omega arith) early_view in
    let below = directed own (numbered (suc number) kids) in
    let with_kids = grown number below with_view in
    let early_kids : Earlier (suc number + count_of kids) with_kids =
    earlier-grown (suc number + count_of kids) number below with_view
    (earlier_more (suc number) (suc number + count_of kids) with_view (omega arith) early_view)
    (earlier-directed (suc number + count_of kids) own (numbered (suc number) kids) (earlier-numbered (suc number) kids)) in
    let back : (other : ℕ) → other ≤ place → one.ends other ≡ path other =
    λ other le. one.outer other (omega arith) ∙ last_earlier path (suc place) other number (omega arith) in
    let back_way : (other : ℕ) → other ≤ place → one.runs other ≡ ways other =
    λ other le. one.above other (omega arith) ∙ last_earlier ways (suc place) other own (omega arith) in
    let two = sown_list (suc number + count_of kids) place parent way one.ends one.runs with_kids siblings rest (back place (omega arith) ∙ is) (back_way place (omega arith) ∙ so) (omega arith) early_kids in
    let first_way = dir (ways (suc (suc place) - 2)) seed.facts.direction in
    let first : sown number path ways tree (preorder (suc (suc place)) (Branch seed kids siblings) ++ rest) ≡ sown (suc number) inner turns with_view all =
    ap (λ p. sown (suc number) (with_last path p number) (with_last ways p first_way) (grown (path (suc (suc place) - 2)) (single (running first_way plain)) tree) all) there
    ∙ ap (λ turn. sown (suc number) inner (with_last ways (suc place) turn) (grown (path (suc (suc place) - 2)) (single (running turn plain)) tree) all)
    (ap (λ above. dir above seed.facts.direction) (ap ways here ∙ so))
    ∙ ap (λ above. sown (suc number) inner turns (grown above (single view) tree) all) (ap path here ∙ is) in
    let later = directed way (numbered (suc number + count_of kids) siblings) in
    let whole : grown parent later with_kids ≡ grown parent (directed way (numbered number (Branch seed kids siblings))) tree =
    ap (grown parent later) (grown-inside number parent view below tree refl under early)
    ∙ grown_where-again (λ (view : PlainView). view.number == parent) (Branch view below Nothing) later tree in
    let numbers : suc number + count_of kids + count_of siblings ≡ number + count_of (Branch seed kids siblings) = omega arith in
    record {
      ends = two.ends;
      outer = λ other le. two.outer other le ∙ back other le;
      runs = two.runs;
      above = λ other le. two.above other le ∙ back_way other le;
      same = first
          ∙ ap (sown (suc number) inner turns with_view) (append_assoc (preorder (suc (suc (suc place))) kids) (preorder (suc (suc place)) siblings) rest)
          ∙ one.same
          ∙ two.same
          ∙ ap (λ n. sown n two.ends two.runs (grown parent later with_kids) rest) numbers
          ∙ ap (λ tree. sown (number + count_of (Branch seed kids siblings)) two.ends two.runs tree rest) whole;
    }

-- what is below the outermost view of a sapling, once all of it was added
pub sown_is : (number parent : ℕ) (way : Bool) (path : ℕ → ℕ) (ways : ℕ → Bool) (tree : Forest PlainView) (kids : Forest Seed) (sprouts : List Sprout) → path 0 ≡ parent → ways 0 ≡ way
    → parent < number → Earlier number tree → preorder 2 kids ≡ sprouts → sown number path ways tree sprouts ≡ grown parent (directed way (numbered number kids)) tree
sown_is number parent way path ways tree kids sprouts is so under early same =
    ap (sown number path ways tree) (sym same ∙ sym (append-nil (preorder 2 kids))) ∙ (sown_list number 0 parent way path ways tree kids [] is so under early).same
