-- Caches that grow while views are laid.
use Rattle.std.proofs.Common.{◌≡◌, ◌<◌, ◌≤◌, ℕ, zero, suc, true, refl, sym, ◌∙◌, ap, subst, arith, inl, inr}
use Rattle.std.proofs.lemmas.Bool.{cases_eq}
use Rattle.kept_views.specs.Laying.{Wrote}
use Rattle.kept_views.proofs.laid.LaidRows.{wrote_below}
use Rattle.measure_pass.specs.Caches.{AskedBy, Grew, Grown, asked_under}
use Rattle.measure_pass.proofs.held.Grows.{Grew-refl, Grown-along, Grown-first, Grown-mono}
use Rattle.view_model.specs.Facts.{is_shown}
use Rattle.view_model.specs.Forest.{Forest, Nothing, Branch}
use Rattle.view_model.specs.Measuring.{Specs}
use Rattle.view_tree.specs.Rows.{Row, children_of_first, count_of_key, first_tree, head_view, later_siblings, part_from}
use Rattle.view_tree.specs.Views.{Held, KeepsInside, KeepsOutside, specs_of}
use Rattle.view_tree.proofs.forest.KeyLaws.{located, own_more, times_self}
use Rattle.view_tree.proofs.forest.Walks.{KeepsInside-siblings, once_from}
use Rattle.traversal.specs.Growing.{LastAt}

-- the same of other states with the same caches
pub grown_caches : (ok : ℕ → Specs → Type 0) (old other new next : ℕ → Held) (list : Forest Row) → ((key : ℕ) → (other key).cache ≡ (old key).cache)
    → ((key : ℕ) → (next key).cache ≡ (new key).cache) → Grown ok old new list → Grown ok other next list
grown_caches ok old other new next Nothing before after g = tt
grown_caches ok old other new next (Branch row kids siblings) before after g = (
  rw (before row.key, after row.key) g.0,
  grown_caches (AskedBy row kids (ok 0)) old other new next kids before after g.1,
  grown_caches (λ place. ok (suc place)) old other new next siblings before after g.2,
)

-- a write of one view that leaves its cache
pub wrote_cache : (old new : ℕ → Held) (view : ℕ) (own : Held) → Wrote old new view own → own.cache ≡ (old view).cache → (key : ℕ) → (new key).cache ≡ (old key).cache
wrote_cache old new view own w same key = elim (cases_eq key view) [
  | inl e ↦ rw e (ap (λ (h : Held). h.cache) w.at ∙ same)
  | inr ne ↦ ap (λ (h : Held). h.cache) (w.others key ne)
]

-- last specs stay if nothing changes
pub LastAt-along : (old new : ℕ → Held) (list : Forest Row) → KeepsInside old new list → (place : ℕ) (specs : Specs) → LastAt old list place specs → LastAt new list place specs
LastAt-along old new Nothing same place specs at = absurd at
LastAt-along old new (Branch row kids siblings) same zero specs at = (at.0, at.1 ∙ ap (λ (h : Held). specs_of h.state) (sym (same row.key (times_self row kids siblings))))
LastAt-along old new (Branch row kids siblings) same (suc place) specs at = LastAt-along old new siblings (KeepsInside-siblings old new row kids siblings same) place specs at

-- a view that is fit, once its children were laid
pub grown_view : (tree : Forest Row) (view : ℕ) (specs : Specs) (fit moved laid new : ℕ → Held) (one two : Held) → ((key : ℕ) → count_of_key key tree ≤ 1) → 0 < count_of_key view tree
    → Wrote fit moved view one → one.cache ≡ (fit view).cache → Wrote laid new view two → two.cache ≡ (laid view).cache → KeepsOutside moved laid (children_of_first (part_from view tree))
    → ((place : ℕ) (other : Specs) → LastAt fit (children_of_first (part_from view tree)) place other → asked_under (part_from view tree) specs place other)
    → Grown (LastAt moved (children_of_first (part_from view tree))) moved laid (children_of_first (part_from view tree))
    → Grown (λ place other. other ≡ specs) fit new (first_tree (part_from view tree))
grown_view tree view specs fit moved laid new one two once live w1 same1 w2 same2 others asks g =
    let x = located view tree live in
    let once' : (key : ℕ) → count_of_key key (Branch x.row x.kids x.siblings) ≤ 1 = rw x.is at (once_from tree view once live) in
    let alone : (key : ℕ) → count_of_key key (Branch x.row x.kids Nothing) ≤ 1 = λ key. let o = once' key in omega arith in
    let others : KeepsOutside moved laid x.kids = rw x.is at others in
    let asks : (place : ℕ) (other : Specs) → LastAt fit x.kids place other → asked_under (Branch x.row x.kids x.siblings) specs place other = rw x.is at asks in
    let g : Grown (LastAt moved x.kids) moved laid x.kids = rw x.is at g in
    let before = wrote_cache fit moved view one w1 same1 in
    let after = wrote_cache laid new view two w2 same2 in
    let apart : count_of_key x.row.key x.kids ≡ 0 = let m = own_more x.row x.kids x.siblings x.row.key refl in let o = once' x.row.key in omega arith in
    let own : (new x.row.key).cache ≡ (fit x.row.key).cache = after x.row.key ∙ ap (λ (h : Held). h.cache) (others x.row.key apart) ∙ before x.row.key in
    let ok : Specs → Type 0 = λ other. other ≡ specs in
    let w : Wrote fit moved x.row.key one = subst (λ key. Wrote fit moved key one) (sym x.key_is) w1 in
    let same = wrote_below fit moved x.row x.kids one alone w in
    let back = LastAt-along moved fit x.kids (λ key here. sym (same key here)) in
    let kids = Grown-mono (LastAt moved x.kids) (AskedBy x.row x.kids ok) moved laid x.kids (λ place other at. (specs, refl, asks place other (back place other at))) g in
    let all : Grown (λ place other. other ≡ specs) fit new (Branch x.row x.kids Nothing) = (
      subst (λ cache. Grew ok (fit x.row.key).cache cache) (sym own) (Grew-refl ok (fit x.row.key).cache),
      grown_caches (AskedBy x.row x.kids ok) moved fit laid new x.kids (λ key. sym (before key)) after kids,
      tt,
    ) in
    rw x.is all

-- a child that was laid under its last specs
pub grown_kid : (tree : Forest Row) (kid : ℕ) (old new : ℕ → Held) → 0 < count_of_key kid tree → is_shown (head_view (part_from kid tree)).facts ≡ true
    → Grown (λ place other. other ≡ specs_of (old kid).state) old new (first_tree (part_from kid tree))
    → Grown (LastAt old (first_tree (part_from kid tree))) old new (first_tree (part_from kid tree))
grown_kid tree kid old new live shown g =
    let x = located kid tree live in
    let shown : is_shown x.row.view.facts ≡ true = rw x.is at shown in
    let g : Grown (λ place other. other ≡ specs_of (old kid).state) old new (Branch x.row x.kids Nothing) = rw x.is at g in
    let g : Grown (λ place other. other ≡ specs_of (old x.row.key).state) old new (Branch x.row x.kids Nothing) =
    subst (λ key. Grown (λ place other. other ≡ specs_of (old key).state) old new (Branch x.row x.kids Nothing)) (sym x.key_is) g in
    let all : Grown (LastAt old (Branch x.row x.kids Nothing)) old new (Branch x.row x.kids Nothing) =
    Grown-first (λ place other. other ≡ specs_of (old x.row.key).state) (LastAt old (Branch x.row x.kids Nothing)) old new x.row x.kids (λ specs is. (shown, is)) g in
    rw x.is all

pub last_own : (held : ℕ → Held) (row : Row) (kids : Forest Row) (place : ℕ) (specs : Specs) → LastAt held (Branch row kids Nothing) place specs → specs ≡ specs_of (held row.key).state
last_own held row kids zero specs at = at.1
last_own held row kids (suc place) specs at = absurd at

-- and the other way round
pub grown_own : (tree : Forest Row) (view : ℕ) (old new : ℕ → Held) → 0 < count_of_key view tree
    → Grown (LastAt old (first_tree (part_from view tree))) old new (first_tree (part_from view tree))
    → Grown (λ place other. other ≡ specs_of (old view).state) old new (first_tree (part_from view tree))
grown_own tree view old new live g =
    let x = located view tree live in
    let g : Grown (LastAt old (Branch x.row x.kids Nothing)) old new (Branch x.row x.kids Nothing) = rw x.is at g in
    let ok : ℕ → ℕ → Specs → Type 0 = λ key place other. other ≡ specs_of (old key).state in
    let own : Grown (ok x.row.key) old new (Branch x.row x.kids Nothing) =
    Grown-mono (LastAt old (Branch x.row x.kids Nothing)) (ok x.row.key) old new (Branch x.row x.kids Nothing) (last_own old x.row x.kids) g in
    let all : Grown (ok view) old new (Branch x.row x.kids Nothing) = subst (λ key. Grown (ok key) old new (Branch x.row x.kids Nothing)) x.key_is own in
    rw x.is all

-- the first view of a list and the others
pub grown_joined : (start end : ℕ → Held) (list : Forest Row) → Grown (LastAt start (first_tree list)) start end (first_tree list)
    → Grown (LastAt start (later_siblings list)) start end (later_siblings list) → Grown (LastAt start list) start end list
grown_joined start end Nothing one more = tt
grown_joined start end (Branch row kids siblings) one more = (one.0, one.1, more)

-- a child was laid when the walk reached it
pub grown_first : (start old mid end : ℕ → Held) (list : Forest Row) → KeepsInside start old list → KeepsInside mid end list → Grown (LastAt old list) old mid list → Grown (LastAt start list) start end list
grown_first start old mid end list before after g =
    let back : KeepsInside old start list = λ key here. sym (before key here) in
    Grown-along (LastAt start list) old start mid end list back after (Grown-mono (LastAt old list) (LastAt start list) old mid list (LastAt-along old start list back) g)
