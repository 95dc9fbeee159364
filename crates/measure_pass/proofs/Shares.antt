-- How measurings are shared out: of nothing, of one measuring after another, and of parts of a list.
use Rattle.std.proofs.Common.{◌≡◌, ◌≤◌, ◌⊎◌, inl, inr, ℕ, zero, suc, ◌+◌, ◌*◌, Bool, true, false, List, [], ◌∷◌, ◌++◌, arith, ap, ◌∙◌, refl, subst}
use Rattle.std.specs.Prelude.{if◌then◌else◌}
use Rattle.kept_views.specs.Kept.{Reached}
use Rattle.measure_pass.specs.Caches.{AskedAt, AskedBy}
use Rattle.measure_pass.specs.Courses.{InCourse}
use Rattle.measure_pass.specs.Measured.{KeepsAllButEdges}
use Rattle.measure_pass.specs.Sharing.{AreSpared, IsSpared, MeasuringTrace, Share, Shared, SharesOut, StaysSpared, mark_of, most}
use Rattle.measure_pass.proofs.held.Grows.{Grown-along, Grown-first, Grown-join, Grown-mono, Grown-refl, Grown-trans}
use Rattle.view_model.specs.Course.{Requested}
use Rattle.view_model.specs.Forest.{Forest, Nothing, Branch}
use Rattle.view_model.specs.Measuring.{Specs}
use Rattle.view_tree.specs.declared.node.state.State.{State}
use Rattle.view_tree.specs.Rows.{Row, first_tree, later_siblings}
use Rattle.view_tree.specs.Views.{Held, KeepsInside, specs_of}
use Rattle.view_tree.proofs.forest.Walks.{KeepsInside-kids, KeepsInside-self, KeepsInside-siblings}

still-along : (p q : Specs → Type 0) (state : State) → ((specs : Specs) → p specs → q specs) → IsSpared q state → IsSpared p state
still-along p q state f s = record { forced = s.forced; needed = s.needed; marked = s.marked; asked = λ specs h. s.asked specs (f specs h) }

still-then : (ok : Specs → Type 0) (old new : State) → IsSpared ok old → StaysSpared old new → IsSpared ok new
still-then ok old new s t = record { forced = t.forced; needed = t.needed; marked = t.marked; asked = λ specs h. t.specs ∙ s.asked specs h }

share-none : (ok : Specs → Type 0) (asks : ℕ) (state : State) → Share ok asks state state 0 0
share-none ok asks state = record {
  few = omega arith;
  still = λ s. refl;
  unasked = λ no. refl;
  stays = λ s. record { forced = s.forced; needed = s.needed; marked = s.marked; specs = refl };
}

share-mono : (p q : Specs → Type 0) (few many : ℕ) (old new : State) (own below : ℕ) → ((specs : Specs) → p specs → q specs) → few ≤ many → Share p few old new own below → Share q many old new own below
share-mono p q few many old new own below f le s = let h = s.few in record {
  few = omega arith;
  still = λ still. s.still (still-along p q old f still);
  unasked = λ no. s.unasked (λ specs h. no specs (f specs h));
  stays = λ still. s.stays (still-along p q old f still);
}

share-trans : (ok : Specs → Type 0) (some more : ℕ) (a b c : State) (own below own' below' : ℕ) → Share ok some a b own below → Share ok more b c own' below'
    → Share ok (some + more) a c (own + own') (below + below')
share-trans ok some more a b c own below own' below' s t =
    let f = s.few in
    let g = t.few in
    record {
      few = omega arith;
      still = λ still.
          let one = s.still still in
          let two = t.still (still-then ok a b still (s.stays still)) in
          omega arith;
      unasked = λ no.
          let one = s.unasked no in
          let two = t.unasked no in
          omega arith;
      stays = λ still.
          let one = s.stays still in
          let two = t.stays (still-then ok a b still one) in
          record { forced = two.forced; needed = two.needed; marked = two.marked; specs = two.specs ∙ one.specs };
    }

pub Shared-refl : (ok : ℕ → Specs → Type 0) (asks : ℕ → ℕ) (held : ℕ → Held) (list : Forest Row) → Shared ok asks held held list 0
Shared-refl ok asks held Nothing = refl
Shared-refl ok asks held (Branch row kids siblings) = (
  0,
  0,
  0,
  refl,
  share-none (ok 0) (asks 0) (held row.key).state,
  Shared-refl (AskedBy row kids (ok 0)) (λ place. 3 * 0) held kids,
  Shared-refl (λ place. ok (suc place)) (λ place. asks (suc place)) held siblings,
)

pub Shared-along : (ok : ℕ → Specs → Type 0) (asks : ℕ → ℕ) (old old' new new' : ℕ → Held) (list : Forest Row) (count : ℕ) → KeepsInside old old' list → KeepsInside new new' list
    → Shared ok asks old new list count → Shared ok asks old' new' list count
Shared-along ok asks old old' new new' Nothing count s n g = g
Shared-along ok asks old old' new new' (Branch row kids siblings) count s n g = (
  g.0,
  g.1,
  g.2,
  g.3,
  rw (KeepsInside-self old old' row kids siblings s, KeepsInside-self new new' row kids siblings n) g.4,
  Shared-along (AskedBy row kids (ok 0)) (λ place. 3 * g.0) old old' new new' kids g.1 (KeepsInside-kids old old' row kids siblings s) (KeepsInside-kids new new' row kids siblings n) g.5,
  Shared-along (λ place. ok (suc place)) (λ place. asks (suc place)) old old' new new' siblings g.2 (KeepsInside-siblings old old' row kids siblings s)
      (KeepsInside-siblings new new' row kids siblings n) g.6,
)

pub Shared-same : (ok : ℕ → Specs → Type 0) (asks : ℕ → ℕ) (old new : ℕ → Held) (list : Forest Row) → KeepsInside old new list → Shared ok asks old new list 0
Shared-same ok asks old new list same = Shared-along ok asks old old old new list 0 (λ key here. refl) same (Shared-refl ok asks old list)

pub Shared-mono : (p q : ℕ → Specs → Type 0) (few many : ℕ → ℕ) (old new : ℕ → Held) (list : Forest Row) (count : ℕ) → ((place : ℕ) (specs : Specs) → p place specs → q place specs)
    → ((place : ℕ) → few place ≤ many place) → Shared p few old new list count → Shared q many old new list count
Shared-mono p q few many old new Nothing count f le g = g
Shared-mono p q few many old new (Branch row kids siblings) count f le g = (
  g.0,
  g.1,
  g.2,
  g.3,
  share-mono (p 0) (q 0) (few 0) (many 0) (old row.key).state (new row.key).state g.0 g.1 (f 0) (le 0) g.4,
  Shared-mono (AskedBy row kids (p 0)) (AskedBy row kids (q 0)) (λ place. 3 * g.0) (λ place. 3 * g.0) old new kids g.1 (λ place specs h. (h.0, f 0 h.0 h.1, h.2)) (λ place. omega arith) g.5,
  Shared-mono (λ place. p (suc place)) (λ place. q (suc place)) (λ place. few (suc place)) (λ place. many (suc place)) old new siblings g.2 (λ place. f (suc place)) (λ place. le (suc place)) g.6,
)

-- one view alone
pub Shared-first : (p q : ℕ → Specs → Type 0) (asks : ℕ → ℕ) (old new : ℕ → Held) (row : Row) (kids : Forest Row) (count : ℕ) → ((specs : Specs) → p 0 specs → q 0 specs)
    → Shared p asks old new (Branch row kids Nothing) count → Shared q asks old new (Branch row kids Nothing) count
Shared-first p q asks old new row kids count f g = (
  g.0,
  g.1,
  g.2,
  g.3,
  share-mono (p 0) (q 0) (asks 0) (asks 0) (old row.key).state (new row.key).state g.0 g.1 f (omega arith) g.4,
  Shared-mono (AskedBy row kids (p 0)) (AskedBy row kids (q 0)) (λ place. 3 * g.0) (λ place. 3 * g.0) old new kids g.1 (λ place specs h. (h.0, f h.0 h.1, h.2)) (λ place. omega arith) g.5,
  g.6,
)

pub Shared-trans : (ok : ℕ → Specs → Type 0) (some more : ℕ → ℕ) (a b c : ℕ → Held) (list : Forest Row) (first second : ℕ) → Shared ok some a b list first → Shared ok more b c list second
    → Shared ok (λ place. some place + more place) a c list (first + second)
Shared-trans ok some more a b c Nothing first second g h = omega (arith, g, h)
Shared-trans ok some more a b c (Branch row kids siblings) first second g h = (
  g.0 + h.0,
  g.1 + h.1,
  g.2 + h.2,
  (let one = g.3 in let two = h.3 in omega arith),
  share-trans (ok 0) (some 0) (more 0) (a row.key).state (b row.key).state (c row.key).state g.0 g.1 h.0 h.1 g.4 h.4,
  Shared-mono (AskedBy row kids (ok 0)) (AskedBy row kids (ok 0)) (λ place. 3 * g.0 + 3 * h.0) (λ place. 3 * (g.0 + h.0)) a c kids (g.1 + h.1) (λ place specs is. is) (λ place. omega arith)
      (Shared-trans (AskedBy row kids (ok 0)) (λ place. 3 * g.0) (λ place. 3 * h.0) a b c kids g.1 h.1 g.5 h.5),
  Shared-trans (λ place. ok (suc place)) (λ place. some (suc place)) (λ place. more (suc place)) a b c siblings g.2 h.2 g.6 h.6,
)

-- the first view of a list and the others
pub Shared-join : (held old new : ℕ → Held) (asks : ℕ → ℕ) (list : Forest Row) (first rest : List Requested) (one other : ℕ) → InCourse held (first_tree list) first
    → Shared (AskedAt first) asks old new (first_tree list) one → Shared (AskedAt rest) (λ place. asks (suc place)) old new (later_siblings list) other
    → Shared (AskedAt (first ++ rest)) asks old new list (one + other)
Shared-join held old new asks Nothing [] rest one other course g h = omega (arith, g, h)
Shared-join held old new asks Nothing (kid ∷ kids) rest one other course g h = absurd course
Shared-join held old new asks (Branch row below siblings) [] rest one other course g h = absurd course
Shared-join held old new asks (Branch row below siblings) (kid ∷ []) rest one other course g h = (
  g.0,
  g.1,
  other,
  (let sum = g.3 in let none : g.2 ≡ 0 = g.6 in omega arith),
  g.4,
  g.5,
  h,
)
Shared-join held old new asks (Branch row below siblings) (kid ∷ next ∷ kids) rest one other course g h = absurd course.2

pub shared-edged : (ok : ℕ → Specs → Type 0) (asks : ℕ → ℕ) (old mid new : ℕ → Held) (list : Forest Row) (count : ℕ) → KeepsAllButEdges mid new → Shared ok asks old mid list count
    → Shared ok asks old new list count
shared-edged ok asks old mid new Nothing count e g = g
shared-edged ok asks old mid new (Branch row kids siblings) count e g = (
  g.0,
  g.1,
  g.2,
  g.3,
  share-edged (ok 0) (asks 0) (old row.key).state (mid row.key) (new row.key) g.0 g.1 (e row.key) g.4,
  shared-edged (AskedBy row kids (ok 0)) (λ place. 3 * g.0) old mid new kids g.1 e g.5,
  shared-edged (λ place. ok (suc place)) (λ place. asks (suc place)) old mid new siblings g.2 e g.6,
)
  where
    share-edged : (ok : Specs → Type 0) (asks : ℕ) (old : State) (mid new : Held) (own below : ℕ) → new ≡ record mid { state = record mid.state { edges = new.state.edges } }
        → Share ok asks old mid.state own below → Share ok asks old new.state own below
    share-edged ok asks old mid new own below is s =
        let mark : mark_of new.state ≡ mark_of mid.state = ap (λ (held : Held). mark_of held.state) is in
        let few = s.few in
        record {
          few = omega arith;
          still = s.still;
          unasked = s.unasked;
          stays = λ still. let t = s.stays still in record {
            forced = ap (λ (held : Held). held.state.forced) is ∙ t.forced;
            needed = ap (λ (held : Held). held.state.layout_needed) is ∙ t.needed;
            marked = ap (λ (held : Held). held.state.measure_first) is ∙ t.marked;
            specs = ap (λ (held : Held). specs_of held.state) is ∙ t.specs;
          };
        }

-- the same with the count and the caches
pub trace-refl : (ok : ℕ → Specs → Type 0) (asks : ℕ → ℕ) (held : ℕ → Held) (list : Forest Row) (count : ℕ) → MeasuringTrace ok asks held held list count count
trace-refl ok asks held list count = record {
  caches = Grown-refl ok held list;
  shares = record { count = 0; shared = Shared-refl ok asks held list; spent = omega arith };
}

pub trace-along : (ok : ℕ → Specs → Type 0) (asks : ℕ → ℕ) (old old' new new' : ℕ → Held) (list : Forest Row) (first last : ℕ) → KeepsInside old old' list → KeepsInside new new' list
    → MeasuringTrace ok asks old new list first last → MeasuringTrace ok asks old' new' list first last
trace-along ok asks old old' new new' list first last s n g = record {
  caches = Grown-along ok old old' new new' list s n g.caches;
  shares = record { count = g.shares.count; shared = Shared-along ok asks old old' new new' list g.shares.count s n g.shares.shared; spent = g.shares.spent };
}

pub trace-mono : (p q : ℕ → Specs → Type 0) (few many : ℕ → ℕ) (old new : ℕ → Held) (list : Forest Row) (first last : ℕ) → ((place : ℕ) (specs : Specs) → p place specs → q place specs)
    → ((place : ℕ) → few place ≤ many place) → MeasuringTrace p few old new list first last → MeasuringTrace q many old new list first last
trace-mono p q few many old new list first last f le g = record {
  caches = Grown-mono p q old new list f g.caches;
  shares = record { count = g.shares.count; shared = Shared-mono p q few many old new list g.shares.count f le g.shares.shared; spent = g.shares.spent };
}

pub trace-first : (p q : ℕ → Specs → Type 0) (asks : ℕ → ℕ) (old new : ℕ → Held) (row : Row) (kids : Forest Row) (first last : ℕ) → ((specs : Specs) → p 0 specs → q 0 specs)
    → MeasuringTrace p asks old new (Branch row kids Nothing) first last → MeasuringTrace q asks old new (Branch row kids Nothing) first last
trace-first p q asks old new row kids first last f g = record {
  caches = Grown-first p q old new row kids f g.caches;
  shares = record { count = g.shares.count; shared = Shared-first p q asks old new row kids g.shares.count f g.shares.shared; spent = g.shares.spent };
}

pub SharesOut-trans : (ok : ℕ → Specs → Type 0) (some more : ℕ → ℕ) (a b c : ℕ → Held) (list : Forest Row) (first mid last : ℕ) → SharesOut ok some a b list first mid
    → SharesOut ok more b c list mid last → SharesOut ok (λ place. some place + more place) a c list first last
SharesOut-trans ok some more a b c list first mid last g h =
    let one = g.spent in
    let two = h.spent in
    record { count = g.count + h.count; shared = Shared-trans ok some more a b c list g.count h.count g.shared h.shared; spent = omega arith }

pub trace-trans : (ok : ℕ → Specs → Type 0) (some more : ℕ → ℕ) (a b c : ℕ → Held) (list : Forest Row) (first mid last : ℕ) → MeasuringTrace ok some a b list first mid
    → MeasuringTrace ok more b c list mid last → MeasuringTrace ok (λ place. some place + more place) a c list first last
trace-trans ok some more a b c list first mid last g h = record {
  caches = Grown-trans ok a b c list g.caches h.caches;
  shares = SharesOut-trans ok some more a b c list first mid last g.shares h.shares;
}

pub trace-join : (held old new : ℕ → Held) (asks : ℕ → ℕ) (list : Forest Row) (first rest : List Requested) (begin mid last : ℕ) → InCourse held (first_tree list) first
    → MeasuringTrace (AskedAt first) asks old new (first_tree list) begin mid → MeasuringTrace (AskedAt rest) (λ place. asks (suc place)) old new (later_siblings list) mid last
    → MeasuringTrace (AskedAt (first ++ rest)) asks old new list begin last
trace-join held old new asks list first rest begin mid last course g h =
    let one = g.shares.spent in
    let two = h.shares.spent in
    record {
      caches = Grown-join held old new list first rest course g.caches h.caches;
      shares = record {
        count = g.shares.count + h.shares.count;
        shared = Shared-join held old new asks list first rest g.shares.count h.shares.count course g.shares.shared h.shares.shared;
        spent = omega arith;
      };
    }

-- one at a place, and none at any other
abbrev pub once_at : ℕ → ℕ → ℕ
once_at zero zero = 1
once_at zero (suc other) = 0
once_at (suc place) zero = 0
once_at (suc place) (suc other) = once_at place other

pub once_at-other : (place other : ℕ) → (other ≡ place → ⊥) → once_at place other ≡ 0
once_at-other zero zero ne = absurd (ne refl)
once_at-other zero (suc other) ne = refl
once_at-other (suc place) zero ne = refl
once_at-other (suc place) (suc other) ne = once_at-other place other (λ same. ne (ap suc same))

pub once_at-most : (place other : ℕ) → once_at place other ≤ 1
once_at-most zero zero = omega arith
once_at-most zero (suc other) = omega arith
once_at-most (suc place) zero = omega arith
once_at-most (suc place) (suc other) = once_at-most place other

-- no view of a list is marked if none needs layout
pub unmarked : (needed marked : Bool) → (needed ≡ true → false ≡ true) → (marked ≡ true → needed ≡ true) → (needed ≡ false) × (marked ≡ false)
unmarked true marked none asks = absurd (let no : false ≡ true = none refl in cc)
unmarked false true none asks = absurd (let no : false ≡ true = asks refl in cc)
unmarked false false none asks = (refl, refl)

-- views that are not asked for and not marked measure nothing
pub shared_none : (ok : ℕ → Specs → Type 0) (asks : ℕ → ℕ) (old new : ℕ → Held) (list : Forest Row) (count : ℕ) → ((place : ℕ) → asks place ≡ 0) → Reached old false list
    → Shared ok asks old new list count → count ≡ 0
shared_none ok asks old new Nothing count none reached g = g
shared_none ok asks old new (Branch row kids siblings) count none reached g =
    let state = (old row.key).state in
    let flags = unmarked state.layout_needed state.measure_first (λ needed. (reached.0 needed).1) reached.1 in
    let mark : mark_of state ≡ 0 = ap (λ marked. if marked then 1 else 0) flags.1 in
    let few = g.4.few in
    let first = none 0 in
    let own : g.0 ≡ 0 = omega arith in
    let below = shared_none (AskedBy row kids (ok 0)) (λ place. 3 * g.0) old new kids g.1 (λ place. omega arith) (subst (λ needed. Reached old needed kids) flags.0 reached.2) g.5 in
    let rest = shared_none (λ place. ok (suc place)) (λ place. asks (suc place)) old new siblings g.2 (λ place. none (suc place)) reached.3 g.6 in
    let sum = g.3 in
    omega arith

-- no more is measured than the views that are not calm may measure
pub most_shared : (calm : ℕ → Bool) (ok : ℕ → Specs → Type 0) (asks : ℕ → ℕ) (many : ℕ) (old new : ℕ → Held) (list : Forest Row) (count : ℕ) → ((place : ℕ) → asks place ≤ many)
    → Reached old false list → AreSpared calm ok old list → Shared ok asks old new list count → count ≤ most calm many list
most_shared calm ok asks many old new Nothing count le reached still g = omega (arith, g)
most_shared calm ok asks many old new (Branch row kids siblings) count le reached still g =
    let state = (old row.key).state in
    let flags = unmarked state.layout_needed state.measure_first (λ needed. (reached.0 needed).1) reached.1 in
    let mark : mark_of state ≡ 0 = ap (λ marked. if marked then 1 else 0) flags.1 in
    let few = g.4.few in
    let one = le 0 in
    let own : g.0 ≤ many = omega arith in
    let below = most_shared calm (AskedBy row kids (ok 0)) (λ place. 3 * g.0) (3 * many) old new kids g.1 (λ place. omega arith) (subst (λ needed. Reached old needed kids) flags.0 reached.2)
    still.1 g.5 in
    let rest = most_shared calm (λ place. ok (suc place)) (λ place. asks (suc place)) many old new siblings g.2 (λ place. le (suc place)) reached.3 still.2 g.6 in
    by_test (calm row.key) g.0 g.1 g.2 (many + most calm (3 * many) kids) (most calm many siblings) (λ is. spared (still.0 is)) (omega arith) rest g.3
  where
    spared : IsSpared (ok 0) (old row.key).state ⊎ ((specs : Specs) → ok 0 specs → ⊥) → g.0 + g.1 ≡ 0
    spared (inl still) = g.4.still still
    spared (inr never) = g.4.unasked never

    by_test : (v : Bool) (own below after all more : ℕ) → (v ≡ true → own + below ≡ 0) → own + below ≤ all → after ≤ more → count ≡ own + (below + after)
        → count ≤ (if v then 0 else all) + more
    by_test true own below after all more none some rest sum = let no = none refl in omega arith
    by_test false own below after all more none some rest sum = omega arith
