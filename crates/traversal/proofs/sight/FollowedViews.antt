-- What is seen of views while they are laid, if they are followed.
use Rattle.std.proofs.Common.{◌≡◌, ◌≢◌, ◌⊎◌, inl, inr, ℕ, ℤ, ◌<◌, ◌≤◌, false, Option, Some, None, refl, sym, ap, ◌∙◌, subst, arith}
use Rattle.std.specs.Prelude.{IfSome}
use Rattle.std.proofs.lemmas.Bool.{cases_eq}
use Rattle.damage_rect.proofs.RectLaws.{outside}
use Rattle.damage_rect.specs.Within.{LiesIn}
use Rattle.geom_core.specs.Rects.{holds}
use Rattle.geom_core.specs.declared.geometry.Rect.{Rect}
use Rattle.kept_views.specs.Laying.{Wrote, moved_to}
use Rattle.kept_views.specs.Passes.{settled}
use Rattle.seen_parts.proofs.SightLaws.{SightWalk, met_parts, sight_end, sight_on, sight_own, sight_start}
use Rattle.seen_parts.specs.Meeting.{Follows, KeepsSight, as_seen, met_at, placed_rows}
use Rattle.seen_parts.specs.declared.frame.Canvas.{Canvas as FramedCanvas}
use Rattle.view_model.specs.declared.facts.Facts.{Facts}
use Rattle.view_model.specs.Forest.{Forest, Nothing, Branch, joined}
use Rattle.view_model.specs.Painting.{PlacedView}
use Rattle.view_model.specs.Visible.{Canvas, canvas_below, seen_in}
use Rattle.view_tree.specs.Rows.{Row, children_of_first, count_of_key, first_tree, head_view, later_siblings, part_from, rest_from}
use Rattle.view_tree.specs.Views.{Held, KeepsOutside, scrolled}
use Rattle.view_tree.proofs.forest.KeyLaws.{located}
use Rattle.view_tree.proofs.forest.Walks.{KeepingWalk, not_below, once_from}
use Rattle.traversal.specs.Covering.{Covered, IsShifted}
use Rattle.traversal.specs.Following.{CoversIn, GrowsWithin, KeepsSightIn}
use Rattle.traversal.proofs.sight.CoverLaws.{CoverWalk, SamePlaces, cover_end, cover_on, cover_start, covered_first, covered_later, covered_same, placed_same}

abbrev pub Walks : Option FramedCanvas → Rect → Forest Row → Forest Row → (ℕ → Held) → Option ℕ → (ℕ → Held) → Type 0
Walks canvas damage tree kids start next now = IfSome canvas (λ canvas. SightWalk (as_seen canvas) damage tree kids start next now)

abbrev pub CoverWalks : Option FramedCanvas → Rect → Rect → Forest Row → Forest Row → (ℕ → Held) → Option ℕ → (ℕ → Held) → Type 0
CoverWalks None less damage tree kids start next now = (box : Rect) → LiesIn less box → LiesIn damage box
CoverWalks (Some canvas) less damage tree kids start next now = CoverWalk (as_seen canvas) less damage tree kids start next now

pub sight_same : (canvas : Option FramedCanvas) (damage : Rect) (old new : ℕ → Held) (list : Forest Row) → SamePlaces old new list → KeepsSightIn canvas damage old new list
sight_same None damage old new list same = tt
sight_same (Some canvas) damage old new list same = λ x y out. ap (met_at x y (as_seen canvas)) (placed_same old new list same)

-- views of which the same is kept as of others
pub sight_along : (canvas : Option FramedCanvas) (damage : Rect) (old old' new new' : ℕ → Held) (list : Forest Row) → SamePlaces old old' list → SamePlaces new new' list
    → KeepsSightIn canvas damage old new list → KeepsSightIn canvas damage old' new' list
sight_along None damage old old' new new' list before after sight = tt
sight_along (Some canvas) damage old old' new new' list before after sight = λ x y out.
    ap (met_at x y (as_seen canvas)) (placed_same new new' list after) ∙ sight x y out ∙ ap (met_at x y (as_seen canvas)) (sym (placed_same old old' list before))

pub covers_along : (canvas : Option FramedCanvas) (box : Rect) (old old' new new' : ℕ → Held) (list : Forest Row) → SamePlaces old old' list → SamePlaces new new' list
    → CoversIn canvas box old new list → CoversIn canvas box old' new' list
covers_along None box old old' new new' list before after covered = tt
covers_along (Some canvas) box old old' new new' list before after covered = covered_same (as_seen canvas) box old old' new new' list before after covered

-- more damage
pub sight_under : (canvas : Option FramedCanvas) (less more : Rect) (old new : ℕ → Held) (list : Forest Row) → LiesIn less more → KeepsSightIn canvas less old new list → KeepsSightIn canvas more old new list
sight_under None less more old new list grew sight = tt
sight_under (Some canvas) less more old new list grew sight = λ x y out. sight x y (outside less more grew x y out)

-- the first view of a list, and its later siblings
pub sight_joined : (canvas : Option FramedCanvas) (damage : Rect) (old new : ℕ → Held) (list : Forest Row)
    → KeepsSightIn canvas damage old new (first_tree list) → KeepsSightIn canvas damage old new (later_siblings list) → KeepsSightIn canvas damage old new list
sight_joined None damage old new list first rest = tt
sight_joined (Some canvas) damage old new list first rest = λ x y out.
    met_parts x y (as_seen canvas) new list
    ∙ ap (λ (views : Forest PlacedView). joined views (met_at x y (as_seen canvas) (placed_rows new (later_siblings list)))) (first x y out)
    ∙ ap (λ (views : Forest PlacedView). joined (met_at x y (as_seen canvas) (placed_rows old (first_tree list))) views) (rest x y out)
    ∙ sym (met_parts x y (as_seen canvas) old list)

pub covers_first : (canvas : Option FramedCanvas) (box : Rect) (old new : ℕ → Held) (list : Forest Row) → CoversIn canvas box old new list → CoversIn canvas box old new (first_tree list)
covers_first None box old new list covered = tt
covers_first (Some canvas) box old new list covered = covered_first (as_seen canvas) box old new list covered

pub covers_later : (canvas : Option FramedCanvas) (box : Rect) (old new : ℕ → Held) (list : Forest Row) → CoversIn canvas box old new list → CoversIn canvas box old new (later_siblings list)
covers_later None box old new list covered = tt
covers_later (Some canvas) box old new list covered = covered_later (as_seen canvas) box old new list covered

pub walks_start : (canvas : Option FramedCanvas) (damage : Rect) (tree kids : Forest Row) (start : ℕ → Held) (next : Option ℕ) → rest_from next tree ≡ kids → Walks canvas damage tree kids start next start
walks_start None damage tree kids start next is = tt
walks_start (Some canvas) damage tree kids start next is = sight_start (as_seen canvas) damage tree kids start next is

pub walks_on : (canvas : Option FramedCanvas) (damage more : Rect) (tree kids : Forest Row) (start : ℕ → Held) (kid : ℕ) (old mid : ℕ → Held) (next : Option ℕ)
    → KeepingWalk tree kids start (Some kid) old → Walks canvas damage tree kids start (Some kid) old → LiesIn damage more
    → KeepsOutside old mid (first_tree (part_from kid tree)) → KeepsSightIn canvas more old mid (first_tree (part_from kid tree))
    → rest_from next tree ≡ later_siblings (part_from kid tree) → Walks canvas more tree kids start next mid
walks_on None damage more tree kids start kid old mid next walk sight grew apart step is = tt
walks_on (Some canvas) damage more tree kids start kid old mid next walk sight grew apart step is =
    sight_on (as_seen canvas) damage more tree kids start kid old mid next walk sight (outside damage more grew) apart step is

pub walks_end : (canvas : Option FramedCanvas) (damage : Rect) (tree kids : Forest Row) (start now : ℕ → Held) → Walks canvas damage tree kids start None now → KeepsSightIn canvas damage start now kids
walks_end None damage tree kids start now walk = tt
walks_end (Some canvas) damage tree kids start now walk = sight_end (as_seen canvas) damage tree kids start now walk

pub covers_start : (canvas : Option FramedCanvas) (less : Rect) (tree kids : Forest Row) (start : ℕ → Held) (next : Option ℕ) → rest_from next tree ≡ kids → CoverWalks canvas less less tree kids start next start
covers_start None less tree kids start next is = λ box lies. lies
covers_start (Some canvas) less tree kids start next is = cover_start (as_seen canvas) less tree kids start next is

pub covers_on : (canvas : Option FramedCanvas) (less damage more : Rect) (tree kids : Forest Row) (start : ℕ → Held) (kid : ℕ) (old mid : ℕ → Held) (next : Option ℕ)
    → KeepingWalk tree kids start (Some kid) old → CoverWalks canvas less damage tree kids start (Some kid) old → KeepsOutside old mid (first_tree (part_from kid tree))
    → GrowsWithin canvas damage more old mid (first_tree (part_from kid tree))
    → rest_from next tree ≡ later_siblings (part_from kid tree) → CoverWalks canvas less more tree kids start next mid
covers_on None less damage more tree kids start kid old mid next walk cover apart step is = λ box lies. step box (cover box lies) tt
covers_on (Some canvas) less damage more tree kids start kid old mid next walk cover apart step is =
    cover_on (as_seen canvas) less damage more tree kids start kid old mid next walk cover apart step is

pub covers_end : (canvas : Option FramedCanvas) (less damage : Rect) (tree kids : Forest Row) (start now : ℕ → Held) → CoverWalks canvas less damage tree kids start None now
    → GrowsWithin canvas less damage start now kids
covers_end None less damage tree kids start now cover = λ box lies covered. cover box lies
covers_end (Some canvas) less damage tree kids start now cover = cover_end (as_seen canvas) less damage tree kids start now cover

-- a view that is laid: it is moved, then its children are laid, and then its offset is brought into its range
pub record Steps (view : ℕ) (rect : Rect) (kids : Forest Row) (old moved laid new : ℕ → Held) : Type 0 where
  pub bounds : (moved view).state.bounds ≡ Some rect
  pub offset : (moved view).offset ≡ (old view).offset
  pub before : (key : ℕ) → key ≢ view → ((moved key).state.bounds ≡ (old key).state.bounds) × ((moved key).offset ≡ (old key).offset)
  pub below : KeepsOutside moved laid kids
  pub stays : (new view).state.bounds ≡ (laid view).state.bounds
  pub after : (key : ℕ) → key ≢ view → new key ≡ laid key

pub steps_by : (view : ℕ) (rect : Rect) (kids : Forest Row) (old fit moved laid new : ℕ → Held) → ((key : ℕ) → (fit key).state.bounds ≡ (old key).state.bounds)
    → ((key : ℕ) → (fit key).offset ≡ (old key).offset) → Wrote fit moved view (moved_to (fit view) rect) → KeepsOutside moved laid kids
    → (new view).state.bounds ≡ (laid view).state.bounds → ((key : ℕ) → key ≢ view → new key ≡ laid key) → Steps view rect kids old moved laid new
steps_by view rect kids old fit moved laid new bounds offsets wrote below stays after = record {
  bounds = ap (λ (h : Held). h.state.bounds) wrote.at;
  offset = ap (λ (h : Held). h.offset) wrote.at ∙ offsets view;
  before = λ key ne. (ap (λ (h : Held). h.state.bounds) (wrote.others key ne) ∙ bounds key, ap (λ (h : Held). h.offset) (wrote.others key ne) ∙ offsets key);
  below = below;
  stays = stays;
  after = after;
}

-- a view that has settled has the bounds that it had
pub settled_places : (view : ℕ) (mid new : ℕ → Held) (list : Forest Row) → new view ≡ settled (mid view) → ((other : ℕ) → other ≢ view → new other ≡ mid other) → SamePlaces mid new list
settled_places view mid new list own others key here = elim (cases_eq key view) [
  | inl e ↦ subst (λ (k : ℕ). ((new k).state.bounds ≡ (mid k).state.bounds) × ((new k).offset ≡ (mid k).offset)) (sym e) (ap (λ (h : Held). h.state.bounds) own, ap (λ (h : Held). h.offset) own)
  | inr ne ↦ (ap (λ (h : Held). h.state.bounds) (others key ne), ap (λ (h : Held). h.offset) (others key ne))
]

-- what became of its offset
abbrev pub IsScrolled : Option FramedCanvas → Rect → Rect → ℤ → ℤ → Type 0
IsScrolled canvas rect damage old new =
    IfSome canvas (λ canvas. (new ≡ old) ⊎ ((x y : ℤ) → holds damage x y ≡ false → holds (seen_in (Some rect) (as_seen canvas)) x y ≡ false))

pub unscrolled_in : (canvas : Option FramedCanvas) (rect damage : Rect) (old new : ℤ) → new ≡ old → IsScrolled canvas rect damage old new
unscrolled_in None rect damage old new same = tt
unscrolled_in (Some canvas) rect damage old new same = inl same

abbrev pub IsAround : FramedCanvas → Rect → Option Rect → Rect → Type 0
IsAround canvas box before rect = before ≢ Some rect → LiesIn (seen_in before (as_seen canvas)) box × LiesIn (seen_in (Some rect) (as_seen canvas)) box

module _ (row : Row) (kids : Forest Row) (rect : Rect) (old moved laid new : ℕ → Held) (none : count_of_key row.key kids ≡ 0) (steps : Steps row.key rect kids old moved laid new) where
  other : (key : ℕ) → 0 < count_of_key key kids → key ≢ row.key
  other key here e = absurd (let zero : count_of_key key kids ≡ 0 = ap (λ (k : ℕ). count_of_key k kids) e ∙ none in omega arith)

  before_kids : SamePlaces old moved kids
  before_kids key here = steps.before key (other key here)

  after_kids : SamePlaces laid new kids
  after_kids key here =
      let same = steps.after key (other key here) in
      (ap (λ (h : Held). h.state.bounds) same, ap (λ (h : Held). h.offset) same)

  lies : (new row.key).state.bounds ≡ Some rect
  lies = steps.stays ∙ ap (λ (h : Held). h.state.bounds) (steps.below row.key none) ∙ steps.bounds

  unscrolled : (laid row.key).offset ≡ (old row.key).offset
  unscrolled = ap (λ (h : Held). h.offset) (steps.below row.key none) ∙ steps.offset

  sight_row : (canvas : FramedCanvas) (inner : Option FramedCanvas) (damage more last : Rect) (before : Option Rect) (facts : Facts) → (old row.key).state.bounds ≡ before
      → facts ≡ (scrolled old row).facts → Follows facts before rect (as_seen canvas) damage inner → LiesIn damage more → LiesIn more last → KeepsSightIn inner more moved laid kids
      → ((new row.key).offset ≡ (laid row.key).offset) ⊎ ((x y : ℤ) → holds last x y ≡ false → holds (seen_in (Some rect) (as_seen canvas)) x y ≡ false)
      → KeepsSight (as_seen canvas) last old new (Branch row kids Nothing)
  sight_row canvas inner damage more last before facts was is follows grew grown sight (inl same) =
      sight_own (as_seen canvas) last old new row kids before rect facts inner was lies (same ∙ unscrolled) is
      (λ x y out. follows x y (outside damage more grew x y (outside more last grown x y out))) (kept inner sight)
    where
      kept : (inner : Option FramedCanvas) → KeepsSightIn inner more moved laid kids → IfSome inner (λ inner. KeepsSight (as_seen inner) last old new kids)
      kept None sight = tt
      kept (Some inner) sight = λ x y out.
          ap (met_at x y (as_seen inner)) (placed_same laid new kids after_kids) ∙ sight x y (outside more last grown x y out) ∙ ap (met_at x y (as_seen inner)) (placed_same old moved kids before_kids)
  sight_row canvas inner damage more last before facts was is follows grew grown sight (inr unseen) = λ x y out.
      elim (follows x y (outside damage more grew x y (outside more last grown x y out))) [
        | inl both ↦ rw (was, lies, both.0, both.1) refl
        | inr stays ↦ rw (was ∙ stays.0, lies, unseen x y out) refl
      ]

  covers_row : (canvas : FramedCanvas) (inner : Option FramedCanvas) (less damage more last : Rect) (before : Option Rect) (facts : Facts) → (old row.key).state.bounds ≡ before
      → facts ≡ (scrolled old row).facts → ((box : Rect) → LiesIn less box → IsAround canvas box before rect → LiesIn damage box)
      → IfSome inner (λ inner. (before ≡ Some rect) × (as_seen inner ≡ canvas_below (Some rect) facts (as_seen canvas)))
      → GrowsWithin inner damage more moved laid kids
      → ((box : Rect) → LiesIn more box → ((new row.key).offset ≢ (laid row.key).offset → LiesIn (seen_in (Some rect) (as_seen canvas)) box) → LiesIn last box)
      → (box : Rect) → LiesIn less box → Covered (as_seen canvas) box old new (Branch row kids Nothing) → LiesIn last box
  covers_row canvas inner less damage more last before facts was is follows stays within scrolls box small covered =
      scrolls box (within box (follows box small around) (below inner stays)) scrolled_in
    where
      both : IsShifted (old row.key) (new row.key) → LiesIn (seen_in before (as_seen canvas)) box × LiesIn (seen_in (Some rect) (as_seen canvas)) box
      both shifted =
          let seen = covered.1 shifted in (
            subst (λ (bounds : Option Rect). LiesIn (seen_in bounds (as_seen canvas)) box) was seen.0,
            subst (λ (bounds : Option Rect). LiesIn (seen_in bounds (as_seen canvas)) box) lies seen.1,
          )

      around : IsAround canvas box before rect
      around ne = both (inl (λ e. ne (sym was ∙ sym e ∙ lies)))

      scrolled_in : (new row.key).offset ≢ (laid row.key).offset → LiesIn (seen_in (Some rect) (as_seen canvas)) box
      scrolled_in ne = (both (inr (λ e. ne (e ∙ sym unscrolled)))).1

      below : (inner : Option FramedCanvas) → IfSome inner (λ inner. (before ≡ Some rect) × (as_seen inner ≡ canvas_below (Some rect) facts (as_seen canvas))) → CoversIn inner box moved laid kids
      below None stays = tt
      below (Some inner) stays =
          let same : canvas_below (old row.key).state.bounds (scrolled old row).facts (as_seen canvas) ≡ as_seen inner =
          ap (λ (bounds : Option Rect). canvas_below bounds (scrolled old row).facts (as_seen canvas)) (was ∙ stays.0)
          ∙ ap (λ (facts : Facts). canvas_below (Some rect) facts (as_seen canvas)) (sym is) ∙ sym stays.1 in
          covered_same (as_seen inner) box old moved new laid kids before_kids (λ key here. let a = after_kids key here in (sym a.0, sym a.1))
          (subst (λ (c : Canvas). Covered c box old new kids) same (covered.0 (lies ∙ sym (was ∙ stays.0))))

-- a view of a tree that is laid, and all below it
module _ (tree : Forest Row) (view : ℕ) (rect : Rect) (old moved laid new : ℕ → Held) (canvas inner : Option FramedCanvas) (damage more last : Rect) (before : Option Rect) (facts : Facts)
    (live : 0 < count_of_key view tree) (keys : (key : ℕ) → count_of_key key tree ≤ 1) (steps : Steps view rect (children_of_first (part_from view tree)) old moved laid new)
    (was : (old view).state.bounds ≡ before) (is : facts ≡ record (head_view (part_from view tree)).facts { offset = (moved view).offset }) where
  pub sight_at : IfSome canvas (λ canvas. Follows facts before rect (as_seen canvas) damage inner) → LiesIn damage more → LiesIn more last → KeepsSightIn inner more moved laid (children_of_first (part_from view tree))
      → IsScrolled canvas rect last (laid view).offset (new view).offset → KeepsSightIn canvas last old new (first_tree (part_from view tree))
  sight_at follows grew grown sight scrolls = by canvas follows scrolls
    where
      by : (canvas : Option FramedCanvas) → IfSome canvas (λ canvas. Follows facts before rect (as_seen canvas) damage inner)
          → IsScrolled canvas rect last (laid view).offset (new view).offset → KeepsSightIn canvas last old new (first_tree (part_from view tree))
      by None follows scrolls = tt
      by (Some canvas) follows scrolls =
          let f = located view tree live in
          let none : count_of_key f.row.key f.kids ≡ 0 = not_below f.row f.kids f.siblings (rw f.is at (once_from tree view keys live f.row.key)) in
          let steps : Steps view rect f.kids old moved laid new = rw f.is at steps in
          let steps : Steps f.row.key rect f.kids old moved laid new = subst (λ (k : ℕ). Steps k rect f.kids old moved laid new) (sym f.key_is) steps in
          let facts_is : facts ≡ (scrolled old f.row).facts =
          is ∙ ap (λ (list : Forest Row). let facts : Facts = record (head_view list).facts { offset = (moved view).offset } in facts) f.is
          ∙ ap (λ (k : ℕ). let facts : Facts = record f.row.view.facts { offset = (moved k).offset } in facts) (sym f.key_is)
          ∙ ap (λ (offset : ℤ). let facts : Facts = record f.row.view.facts { offset = offset } in facts) steps.offset in
          let sight : KeepsSightIn inner more moved laid f.kids = rw f.is at sight in
          let whole : KeepsSight (as_seen canvas) last old new (Branch f.row f.kids Nothing) =
          sight_row f.row f.kids rect old moved laid new none steps canvas inner damage more last before facts (ap (λ (k : ℕ). (old k).state.bounds) f.key_is ∙ was) facts_is
          follows grew grown sight
          (subst (λ (k : ℕ). ((new k).offset ≡ (laid k).offset) ⊎ ((x y : ℤ) → holds last x y ≡ false → holds (seen_in (Some rect) (as_seen canvas)) x y ≡ false)) (sym f.key_is) scrolls) in
          rw f.is whole

  pub covers_at : (less : Rect) → ((box : Rect) → LiesIn less box → IfSome canvas (λ canvas. IsAround canvas box before rect) → LiesIn damage box) → (canvas ≡ None → inner ≡ None)
      → IfSome inner (λ inner. (before ≡ Some rect) × IfSome canvas (λ canvas. as_seen inner ≡ canvas_below (Some rect) facts (as_seen canvas)))
      → GrowsWithin inner damage more moved laid (children_of_first (part_from view tree))
      → ((box : Rect) → LiesIn more box → IfSome canvas (λ canvas. (new view).offset ≢ (laid view).offset → LiesIn (seen_in (Some rect) (as_seen canvas)) box) → LiesIn last box)
      → GrowsWithin canvas less last old new (first_tree (part_from view tree))
  covers_at less follows none stays within scrolls = by canvas follows none stays scrolls
    where
      by : (canvas : Option FramedCanvas) → ((box : Rect) → LiesIn less box → IfSome canvas (λ canvas. IsAround canvas box before rect) → LiesIn damage box) → (canvas ≡ None → inner ≡ None)
          → IfSome inner (λ inner. (before ≡ Some rect) × IfSome canvas (λ canvas. as_seen inner ≡ canvas_below (Some rect) facts (as_seen canvas)))
          → ((box : Rect) → LiesIn more box → IfSome canvas (λ canvas. (new view).offset ≢ (laid view).offset → LiesIn (seen_in (Some rect) (as_seen canvas)) box) → LiesIn last box)
          → GrowsWithin canvas less last old new (first_tree (part_from view tree))
      by None follows none stays scrolls = λ box small covered.
          scrolls box (within box (follows box small tt) (subst (λ (inner : Option FramedCanvas). CoversIn inner box moved laid (children_of_first (part_from view tree))) (sym (none refl)) tt)) tt
      by (Some canvas) follows none stays scrolls = λ box small covered.
          let f = located view tree live in
          let none : count_of_key f.row.key f.kids ≡ 0 = not_below f.row f.kids f.siblings (rw f.is at (once_from tree view keys live f.row.key)) in
          let steps : Steps view rect f.kids old moved laid new = rw f.is at steps in
          let steps : Steps f.row.key rect f.kids old moved laid new = subst (λ (k : ℕ). Steps k rect f.kids old moved laid new) (sym f.key_is) steps in
          let facts_is : facts ≡ (scrolled old f.row).facts =
          is ∙ ap (λ (list : Forest Row). let facts : Facts = record (head_view list).facts { offset = (moved view).offset } in facts) f.is
          ∙ ap (λ (k : ℕ). let facts : Facts = record f.row.view.facts { offset = (moved k).offset } in facts) (sym f.key_is)
          ∙ ap (λ (offset : ℤ). let facts : Facts = record f.row.view.facts { offset = offset } in facts) steps.offset in
          let within : GrowsWithin inner damage more moved laid f.kids = rw f.is at within in
          let covered : Covered (as_seen canvas) box old new (Branch f.row f.kids Nothing) = rw f.is at covered in
          covers_row f.row f.kids rect old moved laid new none steps canvas inner less damage more last before facts (ap (λ (k : ℕ). (old k).state.bounds) f.key_is ∙ was) facts_is
          follows stays within
          (λ box lies shifts. scrolls box lies (λ ne. shifts (λ e. ne (ap (λ (k : ℕ). (new k).offset) (sym f.key_is) ∙ e ∙ ap (λ (k : ℕ). (laid k).offset) f.key_is)))) box small covered
