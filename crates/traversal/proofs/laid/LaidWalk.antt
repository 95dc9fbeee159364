-- A walk over the children of a view, while each is laid.
use Rattle.std.proofs.Common.{◌≡◌, ℕ, Bool, true, not, inl, inr, refl, ◌<◌, ◌≤◌, List, [], ◌++◌, ◌+◌, length, length-append, Option, Some, sym, ap, subst, arith}
use Rattle.std.specs.Prelude.{IfSome, is_some}
use Rattle.std.proofs.lemmas.Bool.{cases_Bool}
use Rattle.kept_views.specs.Kept.{owed}
use Rattle.kept_views.specs.Laying.{Fit, IsQuiet, IsQuietAll, differ, last_sizes}
use Rattle.kept_views.proofs.laid.LaidFrames.{Fit-later, IsQuietAs-along, IsQuiet-start, differ-along, differ_parts, last_sizes-along, last_sizes-few, owed-along, owed_parts, quiet_joined}
use Rattle.measure_pass.specs.Caches.{Grown}
use Rattle.measure_pass.specs.Sharing.{SharesOut}
use Rattle.view_model.specs.declared.class.Class.TheVariants.{RelativeLayout}
use Rattle.view_model.specs.declared.limits.TheConstants.{MAX_VIEWS}
use Rattle.geom_core.specs.declared.geometry.Rect.{Rect}
use Rattle.view_model.specs.Facts.{is_shown}
use Rattle.view_model.specs.Forest.{Forest, Nothing, Branch, count_of}
use Rattle.view_model.proofs.ClassLaws.{relative_is}
use Rattle.view_model.specs.Layout.{Spot, places_backwards}
use Rattle.view_model.specs.Measuring.{Measured}
use Rattle.view_model.specs.RelativeLayout.{sides_of}
use Rattle.view_tree.specs.Rows.{Row, later_siblings, first_key, first_tree, head_view, part_from, rest_from, count_of_key}
use Rattle.view_tree.specs.Views.{Held, KeepsInside, KeepsOutside}
use Rattle.view_tree.proofs.forest.Walks.{KeepingWalk, KeepsInside-first, KeepsInside-rest, KeepsOutside-parts, count_of-parts, keeping_on, keeping_start, once_from, still_first}
use Rattle.view_tree.proofs.forest.KeyLaws.{located, times_self}
use Rattle.traversal.specs.declared.laying.placer.Placer.{Placer}
use Rattle.traversal.specs.declared.laying.placer.Placer.TheVariants.{Between, InLine, Over}
use Rattle.traversal.specs.Growing.{LastAt}
use Rattle.traversal.specs.Narrow.{AreNarrow, AreSidesNarrow, IsNarrowFor}
use Rattle.traversal.specs.Placing.{LaidKids, PlacesAs}
use Rattle.traversal.proofs.laid.GrownLaid.{grown_first, grown_joined}
use Rattle.traversal.proofs.SharesLaid.{shared_first, shared_joined}

pub AreNarrow-along : (old new : ℕ → Held) (list : Forest Row) → KeepsInside old new list → AreNarrow old list → AreNarrow new list
AreNarrow-along old new Nothing same narrow = narrow
AreNarrow-along old new (Branch row kids siblings) same narrow = (
  λ here. subst (λ (held : Held). AreSidesNarrow (sides_of held.state.edges)) (sym (same row.key (times_self row kids siblings))) (narrow.0 here),
  AreNarrow-along old new siblings (λ key live. same key (omega arith)) narrow.1,
)

AreNarrow-later : (held : ℕ → Held) (list : Forest Row) → AreNarrow held list → AreNarrow held (later_siblings list)
AreNarrow-later held Nothing narrow = narrow
AreNarrow-later held (Branch row kids siblings) narrow = narrow.1

-- so far, the children before `next` were laid, and the others are as they were at the start; the two counts have
-- come so far
pub record LaidWalk (tree kids : Forest Row) (placer : Placer) (spot : Spot) (start : ℕ → Held) (begin set : ℕ) (next : Option ℕ) (now : ℕ → Held) (measured laid : ℕ) : Type 0 where
  pub before : List Measured
  pub places : PlacesAs placer spot before
  pub short : length before + count_of (rest_from next tree) ≤ MAX_VIEWS
  pub walked : KeepingWalk tree kids start next now
  pub fit : Fit start (rest_from next tree)
  pub narrow : spot.view.class ≡ RelativeLayout → AreNarrow start (rest_from next tree)
  -- once the rest is laid, and nothing else has changed since now, all are
  pub quiet : (end : ℕ → Held) → KeepsOutside now end (rest_from next tree)
      → IsQuiet end spot before start (rest_from next tree) → IsQuiet end spot [] start kids
  pub measures : measured + owed now (rest_from next tree) ≤ begin + owed start kids
  pub caches : (end : ℕ → Held) → KeepsOutside now end (rest_from next tree)
      → Grown (LastAt start (rest_from next tree)) start end (rest_from next tree) → Grown (LastAt start kids) start end kids
  pub shares : (end : ℕ → Held) (last : ℕ) → KeepsOutside now end (rest_from next tree)
      → SharesOut (LastAt start (rest_from next tree)) (λ place. 0) start end (rest_from next tree) measured last → SharesOut (LastAt start kids) (λ place. 0) start end kids begin last
  pub moves : (end : ℕ → Held) → KeepsOutside now end (rest_from next tree) → laid + differ start end (rest_from next tree) ≤ set + differ start end kids

module _ (tree kids : Forest Row) (placer next_placer : Placer) (spot : Spot) (start : ℕ → Held) (begin set : ℕ) (kid : ℕ) (old mid : ℕ → Held) (measured laid measured' laid' : ℕ)
    (walk : LaidWalk tree kids placer spot start begin set (Some kid) old measured laid) (step : LaidKids next_placer spot walk.before old mid (first_tree (part_from kid tree)))
    (apart : KeepsOutside old mid (first_tree (part_from kid tree))) (cost : measured' ≤ measured + owed old (first_tree (part_from kid tree)))
    (moved : laid' ≤ laid + differ old mid (first_tree (part_from kid tree)))
    (grew : Grown (LastAt old (first_tree (part_from kid tree))) old mid (first_tree (part_from kid tree)))
    (shared : SharesOut (LastAt old (first_tree (part_from kid tree))) (λ place. 0) old mid (first_tree (part_from kid tree)) measured measured') where
  once : (key : ℕ) → count_of_key key (part_from kid tree) ≤ 1
  once = once_from tree kid walk.walked.once walk.walked.walk.live

  as_started : KeepsInside start old (first_tree (part_from kid tree))
  as_started = still_first tree kids start kid old walk.walked

  -- the first child of the rest is at the end as it was left, and the others are as they were
  kid_laid : (end : ℕ → Held) → KeepsOutside mid end (later_siblings (part_from kid tree)) → IsQuiet end spot walk.before start (first_tree (part_from kid tree))
  kid_laid end same =
      IsQuiet-start end spot walk.before start old (first_tree (part_from kid tree)) as_started
      (IsQuietAs-along mid end old (first_tree (part_from kid tree)) (KeepsInside-first mid end (part_from kid tree) once same) step.quiet)

  rest_same : KeepsInside old mid (later_siblings (part_from kid tree))
  rest_same = KeepsInside-rest old mid (part_from kid tree) once apart

  moves_on : (end : ℕ → Held) → KeepsOutside mid end (later_siblings (part_from kid tree))
      → laid' + differ start end (later_siblings (part_from kid tree)) ≤ set + differ start end kids
  moves_on end same =
      let all = walk.moves end (KeepsOutside-parts old mid end (part_from kid tree) apart same) in
      let parts = differ_parts start end (part_from kid tree) in
      let left = KeepsInside-first mid end (part_from kid tree) once same in
      let own = differ-along old start mid end (first_tree (part_from kid tree))
      (λ key here. ap (λ (own : Held). own.state.bounds) (sym (as_started key here))) (λ key here. ap (λ (own : Held). own.state.bounds) (left key here)) in
      omega arith

  shares_on : (end : ℕ → Held) (last : ℕ) → KeepsOutside mid end (later_siblings (part_from kid tree))
      → SharesOut (LastAt start (later_siblings (part_from kid tree))) (λ place. 0) start end (later_siblings (part_from kid tree)) measured' last → SharesOut (LastAt start kids) (λ place. 0) start end kids begin last
  shares_on end last same rest = walk.shares end last (KeepsOutside-parts old mid end (part_from kid tree) apart same) (record {
    count = shared.count + rest.count;
    shared = shared_joined start end (part_from kid tree) shared.count rest.count
        (shared_first start old mid end (first_tree (part_from kid tree)) shared.count as_started (KeepsInside-first mid end (part_from kid tree) once same) shared.shared) rest.shared;
    spent = let one = shared.spent in let more = rest.spent in omega arith;
  })

  pub laid_on : (next : Option ℕ) → rest_from next tree ≡ later_siblings (part_from kid tree) → IfSome next (λ kid. 0 < count_of_key kid tree)
      → LaidWalk tree kids next_placer spot start begin set next mid measured' laid'
  laid_on next is live =
      let sizes = last_sizes-along start old (first_tree (part_from kid tree)) as_started in
      let had = walk.measures in
      let parts = owed_parts old (part_from kid tree) in
      let rest = owed-along old mid (later_siblings (part_from kid tree)) rest_same in
      record {
        before = walk.before ++ last_sizes start (first_tree (part_from kid tree));
        places = subst (λ more. PlacesAs next_placer spot (walk.before ++ more)) sizes step.places;
        short = rw is (let few = last_sizes-few start (first_tree (part_from kid tree)) in
            let both = length-append walk.before (last_sizes start (first_tree (part_from kid tree))) in
            let parts = count_of-parts (part_from kid tree) in
            let short = walk.short in omega arith);
        walked = keeping_on tree kids start kid old mid next walk.walked apart is live;
        fit = rw is (Fit-later start (part_from kid tree) walk.fit);
        narrow = rw is (λ class. AreNarrow-later start (part_from kid tree) (walk.narrow class));
        quiet = rw is (λ end same rest. walk.quiet end (KeepsOutside-parts old mid end (part_from kid tree) apart same) (quiet_joined spot walk.before start end (part_from kid tree) (kid_laid end same) rest));
        measures = rw is (omega arith);
        caches = rw is (λ end same rest. walk.caches end (KeepsOutside-parts old mid end (part_from kid tree) apart same) (grown_joined start end (part_from kid tree)
            (grown_first start old mid end (first_tree (part_from kid tree)) as_started (KeepsInside-first mid end (part_from kid tree) once same) grew) rest));
        shares = rw is shares_on;
        moves = rw is moves_on;
      }

pub laid_start : (tree kids : Forest Row) (placer : Placer) (spot : Spot) (start : ℕ → Held) (measured laid : ℕ) (next : Option ℕ) → PlacesAs placer spot []
    → count_of kids ≤ MAX_VIEWS → ((key : ℕ) → count_of_key key tree ≤ 1) → rest_from next tree ≡ kids → IfSome next (λ kid. 0 < count_of_key kid tree) → Fit start kids
    → (spot.view.class ≡ RelativeLayout → AreNarrow start kids)
    → LaidWalk tree kids placer spot start measured laid next start measured laid
laid_start tree kids placer spot start measured laid next places short distinct is live fit narrow = record {
  before = [];
  places = places;
  short = rw is (omega arith);
  walked = keeping_start tree kids start next distinct is live;
  fit = rw is fit;
  narrow = rw is narrow;
  quiet = rw is (λ end same rest. rest);
  measures = rw is (omega arith);
  caches = rw is (λ end same rest. rest);
  shares = rw is (λ end last same rest. rest);
  moves = rw is (λ end same. omega arith);
}

pub sides_at : (tree : Forest Row) (kid : ℕ) (held : ℕ → Held) → 0 < count_of_key kid tree → is_shown (head_view (part_from kid tree)).facts ≡ true
    → AreNarrow held (part_from kid tree) → AreSidesNarrow (sides_of (held kid).state.edges)
sides_at tree kid held live shown narrow =
    let f = located kid tree live in
    let narrow : AreNarrow held (Branch f.row f.kids f.siblings) = rw f.is at narrow in
    subst (λ (k : ℕ). AreSidesNarrow (sides_of (held k).state.edges)) f.key_is (narrow.0 (rw f.is at shown))

pub narrow_for : (placer : Placer) (spot : Spot) (before : List Measured) (sides : Option Rect) → PlacesAs placer spot before
    → (spot.view.class ≡ RelativeLayout → AreSidesNarrow sides) → IsNarrowFor placer sides
narrow_for (Over room) spot before sides places narrow = tt
narrow_for (InLine cursor) spot before sides places narrow = tt
narrow_for Between spot before sides places narrow = narrow (relative_is spot.view.class places.1)

-- the sides of the next child
pub next_narrow : (tree kids : Forest Row) (placer : Placer) (spot : Spot) (start : ℕ → Held) (begin set : ℕ) (kid : ℕ) (now : ℕ → Held) (measured laid : ℕ)
    → LaidWalk tree kids placer spot start begin set (Some kid) now measured laid → is_shown (head_view (part_from kid tree)).facts ≡ true → IsNarrowFor placer (sides_of (now kid).state.edges)
next_narrow tree kids placer spot start begin set kid now measured laid walk shown =
    narrow_for placer spot walk.before (sides_of (now kid).state.edges) walk.places
    (λ class. sides_at tree kid now walk.walked.walk.live shown (AreNarrow-along start now (part_from kid tree) walk.walked.still (walk.narrow class)))

-- a view without children is laid, whatever its layout needs of them
pub quiet_none : (held start : ℕ → Held) (spot : Spot) (list : Forest Row) (first : Option ℕ) (none : Bool) → is_some first ≡ not none → none ≡ true → first ≡ first_key list → IsQuietAll held spot start list
quiet_none held start spot Nothing first none some is key = elim (cases_Bool (places_backwards spot.view.class spot.view.facts)) [
  | inl e ↦ rw e (record { kept = tt; reached = tt; specs = refl; edges = refl; lies = refl; places = refl; offsets = tt })
  | inr e ↦ rw e (record { kept = tt; reached = tt; specs = refl; edges = refl; lies = refl; places = refl; offsets = tt })
]
quiet_none held start spot (Branch row kids siblings) first none some is key = absurd (let s = rw (is, key) at some in cc)
