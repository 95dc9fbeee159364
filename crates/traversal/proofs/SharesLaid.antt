-- How the measurings of laying are shared out: each is that of a marked view.
use Rattle.std.proofs.Common.{◌≡◌, ◌<◌, ◌≤◌, ◌+◌, ◌*◌, ◌==◌, ℕ, suc, Bool, true, false, refl, sym, ◌∙◌, ap, subst, arith}
use Rattle.std.specs.Prelude.{if◌then◌else◌}
use Rattle.kept_views.specs.Kept.{Reached}
use Rattle.geom_core.specs.declared.geometry.Rect.{Rect}
use Rattle.kept_views.specs.Laying.{Wrote, moved_to}
use Rattle.kept_views.specs.Passes.{settled, settled_at}
use Rattle.kept_views.proofs.laid.LaidRows.{wrote_below}
use Rattle.measure_pass.specs.Caches.{AskedBy, asked_under}
use Rattle.measure_pass.specs.Sharing.{Share, Shared, SharesOut, mark_of}
use Rattle.measure_pass.proofs.held.Frames.{Reached-along}
use Rattle.measure_pass.proofs.Shares.{Shared-along, Shared-first, Shared-mono, Shared-refl, shared_none}
use Rattle.view_model.specs.Facts.{is_shown}
use Rattle.view_model.specs.Forest.{Forest, Nothing, Branch}
use Rattle.view_model.specs.Measuring.{Specs}
use Rattle.view_tree.specs.declared.node.state.State.{State}
use Rattle.view_tree.specs.Rows.{Row, children_of_first, count_of_key, first_tree, head_view, later_siblings, part_from}
use Rattle.view_tree.specs.Views.{Held, KeepsInside, KeepsOutside, specs_of}
use Rattle.view_tree.proofs.forest.KeyLaws.{located, own_more}
use Rattle.view_tree.proofs.forest.Walks.{once_from}
use Rattle.traversal.specs.Growing.{LastAt}
use Rattle.traversal.proofs.laid.GrownLaid.{LastAt-along, last_own}

-- what was asked of a view is the same
pub record AskedAlike (old new : State) : Type 0 where
  pub forced : new.forced ≡ old.forced
  pub needed : new.layout_needed ≡ old.layout_needed
  pub marked : new.measure_first ≡ old.measure_first
  pub specs : specs_of new ≡ specs_of old

pub shares_none : (held : ℕ → Held) (list : Forest Row) (count : ℕ) → SharesOut (LastAt held list) (λ place. 0) held held list count count
shares_none held list count = record { count = 0; shared = Shared-refl (LastAt held list) (λ place. 0) held list; spent = omega arith }

-- the first view of a list and the others
pub shared_joined : (start end : ℕ → Held) (list : Forest Row) (one other : ℕ) → Shared (LastAt start (first_tree list)) (λ place. 0) start end (first_tree list) one
    → Shared (LastAt start (later_siblings list)) (λ place. 0) start end (later_siblings list) other → Shared (LastAt start list) (λ place. 0) start end list (one + other)
shared_joined start end Nothing one other g h = omega (arith, g, h)
shared_joined start end (Branch row kids siblings) one other g h = (
  g.0,
  g.1,
  other,
  (let sum = g.3 in let none : g.2 ≡ 0 = g.6 in omega arith),
  g.4,
  g.5,
  h,
)

-- a child was laid when the walk reached it
pub shared_first : (start old mid end : ℕ → Held) (list : Forest Row) (count : ℕ) → KeepsInside start old list → KeepsInside mid end list
    → Shared (LastAt old list) (λ place. 0) old mid list count → Shared (LastAt start list) (λ place. 0) start end list count
shared_first start old mid end list count before after g =
    let back : KeepsInside old start list = λ key here. sym (before key here) in
    Shared-along (LastAt start list) (λ place. 0) old start mid end list count back after
    (Shared-mono (LastAt old list) (LastAt start list) (λ place. 0) (λ place. 0) old mid list count (LastAt-along old start list back) (λ place. omega arith) g)

-- a child that was laid under its last specs
pub shares_kid : (tree : Forest Row) (kid : ℕ) (old new : ℕ → Held) (first last : ℕ) → 0 < count_of_key kid tree → is_shown (head_view (part_from kid tree)).facts ≡ true
    → SharesOut (λ place other. other ≡ specs_of (old kid).state) (λ place. 0) old new (first_tree (part_from kid tree)) first last
    → SharesOut (LastAt old (first_tree (part_from kid tree))) (λ place. 0) old new (first_tree (part_from kid tree)) first last
shares_kid tree kid old new first last live shown g =
    let x = located kid tree live in
    let shown : is_shown x.row.view.facts ≡ true = rw x.is at shown in
    let ok : ℕ → ℕ → Specs → Type 0 = λ key place other. other ≡ specs_of (old key).state in
    let h : Shared (ok kid) (λ place. 0) old new (Branch x.row x.kids Nothing) g.count = rw x.is at g.shared in
    let h : Shared (ok x.row.key) (λ place. 0) old new (Branch x.row x.kids Nothing) g.count =
    subst (λ key. Shared (ok key) (λ place. 0) old new (Branch x.row x.kids Nothing) g.count) (sym x.key_is) h in
    let all : Shared (LastAt old (Branch x.row x.kids Nothing)) (λ place. 0) old new (Branch x.row x.kids Nothing) g.count =
    Shared-first (ok x.row.key) (LastAt old (Branch x.row x.kids Nothing)) (λ place. 0) old new x.row x.kids g.count (λ specs is. (shown, is)) h in
    record { count = g.count; shared = rw x.is all; spent = g.spent }

-- and the other way round
pub shares_own : (tree : Forest Row) (view : ℕ) (old new : ℕ → Held) (first last : ℕ) → 0 < count_of_key view tree
    → SharesOut (LastAt old (first_tree (part_from view tree))) (λ place. 0) old new (first_tree (part_from view tree)) first last
    → SharesOut (λ place other. other ≡ specs_of (old view).state) (λ place. 0) old new (first_tree (part_from view tree)) first last
shares_own tree view old new first last live g =
    let x = located view tree live in
    let h : Shared (LastAt old (Branch x.row x.kids Nothing)) (λ place. 0) old new (Branch x.row x.kids Nothing) g.count = rw x.is at g.shared in
    let ok : ℕ → ℕ → Specs → Type 0 = λ key place other. other ≡ specs_of (old key).state in
    let own : Shared (ok x.row.key) (λ place. 0) old new (Branch x.row x.kids Nothing) g.count =
    Shared-mono (LastAt old (Branch x.row x.kids Nothing)) (ok x.row.key) (λ place. 0) (λ place. 0) old new (Branch x.row x.kids Nothing) g.count (last_own old x.row x.kids) (λ place. omega arith) h in
    let all : Shared (ok view) (λ place. 0) old new (Branch x.row x.kids Nothing) g.count = subst (λ key. Shared (ok key) (λ place. 0) old new (Branch x.row x.kids Nothing) g.count) x.key_is own in
    record { count = g.count; shared = rw x.is all; spent = g.spent }

-- the share of a view whose children were laid
share_laid : (specs : Specs) (old new : State) (below : ℕ) → AskedAlike old new → (old.layout_needed ≡ false → below ≡ 0) → Share (λ other. other ≡ specs) 0 old new 0 below
share_laid specs old new below alike none =
    let mark : mark_of new ≡ mark_of old = ap (λ (marked : Bool). if marked then 1 else 0) alike.marked in
    record {
      few = omega arith;
      still = λ still. let no = none still.needed in omega arith;
      unasked = λ no. absurd (no specs refl);
      stays = λ still. record { forced = alike.forced ∙ still.forced; needed = alike.needed ∙ still.needed; marked = alike.marked ∙ still.marked; specs = alike.specs };
    }

-- a view that is fit, once its children were laid
pub shares_view : (tree : Forest Row) (view : ℕ) (specs : Specs) (fit moved laid new : ℕ → Held) (one two : Held) (count : ℕ) → ((key : ℕ) → count_of_key key tree ≤ 1) → 0 < count_of_key view tree
    → Wrote fit moved view one → Wrote laid new view two → KeepsOutside moved laid (children_of_first (part_from view tree)) → AskedAlike (fit view).state (new view).state
    → Reached fit true (first_tree (part_from view tree))
    → ((place : ℕ) (other : Specs) → LastAt fit (children_of_first (part_from view tree)) place other → asked_under (part_from view tree) specs place other)
    → Shared (LastAt moved (children_of_first (part_from view tree))) (λ place. 0) moved laid (children_of_first (part_from view tree)) count
    → Shared (λ place other. other ≡ specs) (λ place. 0) fit new (first_tree (part_from view tree)) count
shares_view tree view specs fit moved laid new one two count once live w1 w2 others alike reached asks g =
    let x = located view tree live in
    let once' : (key : ℕ) → count_of_key key (Branch x.row x.kids x.siblings) ≤ 1 = rw x.is at (once_from tree view once live) in
    let alone : (key : ℕ) → count_of_key key (Branch x.row x.kids Nothing) ≤ 1 = λ key. let o = once' key in omega arith in
    let asks : (place : ℕ) (other : Specs) → LastAt fit x.kids place other → asked_under (Branch x.row x.kids x.siblings) specs place other = rw x.is at asks in
    let reached : Reached fit true (Branch x.row x.kids Nothing) = rw x.is at reached in
    let g : Shared (LastAt moved x.kids) (λ place. 0) moved laid x.kids count = rw x.is at g in
    let ok : Specs → Type 0 = λ other. other ≡ specs in
    let w1 : Wrote fit moved x.row.key one = subst (λ key. Wrote fit moved key one) (sym x.key_is) w1 in
    let w2 : Wrote laid new x.row.key two = subst (λ key. Wrote laid new key two) (sym x.key_is) w2 in
    let alike : AskedAlike (fit x.row.key).state (new x.row.key).state = subst (λ key. AskedAlike (fit key).state (new key).state) (sym x.key_is) alike in
    let same = wrote_below fit moved x.row x.kids one alone w1 in
    let after = wrote_below laid new x.row x.kids two alone w2 in
    let before : KeepsInside moved fit x.kids = λ key here. sym (same key here) in
    let back = LastAt-along moved fit x.kids before in
    let none : (fit x.row.key).state.layout_needed ≡ false → count ≡ 0 = λ needed.
    shared_none (LastAt moved x.kids) (λ place. 0) moved laid x.kids count (λ place. refl)
    (Reached-along fit moved false x.kids same (subst (λ needed. Reached fit needed x.kids) needed reached.2)) g in
    let all : Shared (λ place other. other ≡ specs) (λ place. 0) fit new (Branch x.row x.kids Nothing) count = (
      0,
      count,
      0,
      (omega arith),
      share_laid specs (fit x.row.key).state (new x.row.key).state count alike none,
      Shared-along (AskedBy x.row x.kids ok) (λ place. 3 * 0) moved fit laid new x.kids count before after
          (Shared-mono (LastAt moved x.kids) (AskedBy x.row x.kids ok) (λ place. 0) (λ place. 3 * 0) moved laid x.kids count (λ place other at. (specs, refl, asks place other (back place other at)))
          (λ place. omega arith) g),
      refl,
    ) in
    rw x.is all

-- a view that was moved while its children were laid, and then scrolled
pub alike_moved : (tree : Forest Row) (view : ℕ) (rect : Rect) (fit moved laid new : ℕ → Held) → Wrote fit moved view (moved_to (fit view) rect) → ((key : ℕ) → count_of_key key tree ≤ 1)
    → 0 < count_of_key view tree → KeepsOutside moved laid (children_of_first (part_from view tree)) → (new view).state ≡ (laid view).state → AskedAlike (fit view).state (new view).state
alike_moved tree view rect fit moved laid new w once live others is =
    let x = located view tree live in
    let once' : (key : ℕ) → count_of_key key (Branch x.row x.kids x.siblings) ≤ 1 = rw x.is at (once_from tree view once live) in
    let kept : KeepsOutside moved laid x.kids = rw x.is at others in
    let apart : count_of_key x.row.key x.kids ≡ 0 = let m = own_more x.row x.kids x.siblings x.row.key refl in let o = once' x.row.key in omega arith in
    let stays : laid view ≡ moved view = subst (λ key. laid key ≡ moved key) x.key_is (kept x.row.key apart) in
    let state : (new view).state ≡ (moved_to (fit view) rect).state = is ∙ ap (λ (held : Held). held.state) (stays ∙ w.at) in
    record {
      forced = ap (λ (state : State). state.forced) state;
      needed = ap (λ (state : State). state.layout_needed) state;
      marked = ap (λ (state : State). state.measure_first) state;
      specs = ap (λ (state : State). specs_of state) state;
    }

pub SharesOut-less : (ok : ℕ → Specs → Type 0) (old new : ℕ → Held) (list : Forest Row) (first last : ℕ) → SharesOut ok (λ place. 0 + 0) old new list first last
    → SharesOut ok (λ place. 0) old new list first last
SharesOut-less ok old new list first last g = g

-- a view that has settled shares as before
calmer : (v : Bool) (ok : Specs → Type 0) (asks : ℕ) (old : State) (mid : Held) (own below : ℕ) → Share ok asks old mid.state own below → Share ok asks old (if v then settled mid else mid).state own below
calmer true ok asks old mid own below s = let few = s.few in record {
  few = omega arith;
  still = s.still;
  unasked = s.unasked;
  stays = λ still. let t = s.stays still in record { forced = refl; needed = refl; marked = t.marked; specs = t.specs };
}
calmer false ok asks old mid own below s = s

pub shared_settled : (ok : ℕ → Specs → Type 0) (asks : ℕ → ℕ) (view : ℕ) (old mid new : ℕ → Held) (list : Forest Row) (count : ℕ) → ((key : ℕ) → new key ≡ settled_at view mid key)
    → Shared ok asks old mid list count → Shared ok asks old new list count
shared_settled ok asks view old mid new Nothing count is g = g
shared_settled ok asks view old mid new (Branch row kids siblings) count is g = (
  g.0,
  g.1,
  g.2,
  g.3,
  subst (λ (held : Held). Share (ok 0) (asks 0) (old row.key).state held.state g.0 g.1) (sym (is row.key))
      (calmer (row.key == view) (ok 0) (asks 0) (old row.key).state (mid row.key) g.0 g.1 g.4),
  shared_settled (AskedBy row kids (ok 0)) (λ place. 3 * g.0) view old mid new kids g.1 is g.5,
  shared_settled (λ place. ok (suc place)) (λ place. asks (suc place)) view old mid new siblings g.2 is g.6,
)
