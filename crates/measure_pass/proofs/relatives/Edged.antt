-- Sides of children of a relative layout that were written: no size, no mark and no cache changes with them.
use Rattle.std.proofs.Common.{◌≡◌, ℕ, suc, ◌<◌, ◌≤◌, true, false, [], arith, ap, ◌∙◌, refl, sym, subst, inl, inr}
use Rattle.std.proofs.lemmas.Bool.{cases_eq}
use Rattle.measure_pass.specs.Caches.{AskedBy, Grew, Grown}
use Rattle.kept_views.specs.Kept.{HiddenView, IsSized, Kept, Reached, Ready, ShownView, debt, hidden_in, inside, loose, owed}
use Rattle.measure_pass.specs.Measured.{Costs, KeepsAllButEdges}
use Rattle.measure_pass.proofs.held.Frames.{Kept-along, Reached-along, last_places-along}
use Rattle.kept_views.proofs.KeptFrames.{in_range-along}
use Rattle.kept_views.specs.Laying.{Wrote}
use Rattle.measure_pass.specs.Sharing.{MeasuringTrace}
use Rattle.measure_pass.proofs.Shares.{shared-edged}
use Rattle.measure_pass.proofs.held.Parts.{last_edges-along, last_specs-along}
use Rattle.view_model.specs.declared.relative.Edges.{Edges}
use Rattle.view_model.specs.Forest.{Forest, Nothing, Branch}
use Rattle.view_model.specs.Measuring.{Specs}
use Rattle.view_tree.specs.Rows.{Row, count_of_key, first_tree, part_from}
use Rattle.view_tree.specs.Views.{Held, KeepsInside}
use Rattle.view_tree.proofs.forest.KeyLaws.{located}
use Rattle.view_tree.proofs.forest.Walks.{KeepsInside-below, once_from}

-- what is kept of a view, with these sides
abbrev pub edged : Held → Edges → Held
edged own edges = record own { state = record own.state { edges = edges } }

pub edged-self : (held : ℕ → Held) → KeepsAllButEdges held held
edged-self held key = refl

pub edged-then : (old mid new : ℕ → Held) → KeepsAllButEdges old mid → KeepsAllButEdges mid new → KeepsAllButEdges old new
edged-then old mid new first second key = second key ∙ ap (λ h. edged h (new key).state.edges) (first key)

pub edged-write : (old new : ℕ → Held) (view : ℕ) (edges : Edges) → Wrote old new view (edged (old view) edges) → KeepsAllButEdges old new
edged-write old new view edges w key = elim (cases_eq key view) [
  | inl e ↦ rw e (w.at ∙ ap (edged (old view)) (sym (ap (λ (h : Held). h.state.edges) w.at)))
  | inr ne ↦ w.others key ne ∙ ap (edged (old key)) (sym (ap (λ (h : Held). h.state.edges) (w.others key ne)))
]

pub owed-edged : (old new : ℕ → Held) (list : Forest Row) → KeepsAllButEdges old new → owed new list ≡ owed old list
owed-edged old new Nothing e = refl
owed-edged old new (Branch row kids siblings) e =
    let own : debt row kids (new row.key) ≡ debt row kids (old row.key) = ap (debt row kids) (e row.key) in
    let below = owed-edged old new kids e in
    let rest = owed-edged old new siblings e in
    rw (own, below, rest) refl

pub costs-edged : (list : Forest Row) (before mid new : ℕ → Held) (old calls count : ℕ) → KeepsAllButEdges mid new → Costs list before mid old calls count → Costs list before new old calls count
costs-edged list before mid new old calls count e c =
    let same = owed-edged mid new list e in
    let s = c.spent in
    let o = c.owing in
    record { spent = omega arith; owing = omega arith }

grown-edged : (ok : ℕ → Specs → Type 0) (old mid new : ℕ → Held) (list : Forest Row) → KeepsAllButEdges mid new → Grown ok old mid list → Grown ok old new list
grown-edged ok old mid new Nothing e g = tt
grown-edged ok old mid new (Branch row kids siblings) e g = (
  subst (Grew (ok 0) (old row.key).cache) (sym (ap (λ (h : Held). h.cache) (e row.key))) g.0,
  grown-edged (AskedBy row kids (ok 0)) old mid new kids e g.1,
  grown-edged (λ place. ok (suc place)) old mid new siblings e g.2,
)

pub trace-edged : (ok : ℕ → Specs → Type 0) (asks : ℕ → ℕ) (old mid new : ℕ → Held) (list : Forest Row) (first last : ℕ) → KeepsAllButEdges mid new → MeasuringTrace ok asks old mid list first last
    → MeasuringTrace ok asks old new list first last
trace-edged ok asks old mid new list first last e g = record {
  caches = grown-edged ok old mid new list e g.caches;
  shares = record { count = g.shares.count; shared = shared-edged ok asks old mid new list g.shares.count e g.shares.shared; spent = g.shares.spent };
}

pub sized-edged : (old new : ℕ → Held) (own : Held) (edges : Edges) (row : Row) (kids : Forest Row) → KeepsInside old new kids → IsSized old own row kids → IsSized new (edged own edges) row kids
sized-edged old new own edges row kids same was = record {
  size = was.size;
  finals = λ whole. last_specs-along old new kids same ∙ was.finals whole;
  total = was.total;
  edges = λ whole class. last_edges-along old new kids same ∙ was.edges whole class;
}

-- a view whose own sides were written is ready as before
ready-row : (old new : ℕ → Held) (row : Row) (kids : Forest Row) (edges : Edges) → count_of_key row.key (Branch row kids Nothing) ≤ 1 → Wrote old new row.key (edged (old row.key) edges)
    → Ready old (Branch row kids Nothing) → Ready new (Branch row kids Nothing)
ready-row old new row kids edges once w ready =
    let own = edged (old row.key) edges in
    let same = KeepsInside-below old new row kids Nothing once w.others in
    let below : Kept [] new (inside loose row own) kids = Kept-along [] old new _ kids same ready.kept.2 in
    let reached : Reached new own.state.layout_needed kids = Reached-along old new _ kids same ready.reached.2 in
    let shown : hidden_in loose row ≡ false → ShownView [] new loose own row kids = λ h.
    let v = ready.kept.1 h in
    record {
      flags = v.flags;
      cache = v.cache;
      sized = λ none f. sized-edged old new (old row.key) edges row kids same (v.sized none f);
      placed = λ none f n rect is. last_places-along old new kids same ∙ v.placed none f n rect is;
      ranged = λ none f n rect is. in_range-along old new (old row.key) row kids rect same (v.ranged none f n rect is);
    } in
    let hidden : hidden_in loose row ≡ true → HiddenView own = λ h. let v = ready.kept.0 h in record { forced = v.forced; bounds = v.bounds; cache = v.cache } in
    record {
      kept = rw w.at (hidden, shown, below, tt);
      reached = rw w.at (ready.reached.0, ready.reached.1, reached, tt);
    }

pub ready-edged : (tree : Forest Row) (kid : ℕ) (old new : ℕ → Held) (edges : Edges) → ((key : ℕ) → count_of_key key tree ≤ 1) → 0 < count_of_key kid tree
    → Wrote old new kid (edged (old kid) edges) → Ready old (first_tree (part_from kid tree)) → Ready new (first_tree (part_from kid tree))
ready-edged tree kid old new edges once live w ready =
    let x = located kid tree live in
    let ready : Ready old (Branch x.row x.kids Nothing) = rw x.is at ready in
    let all : count_of_key x.row.key (Branch x.row x.kids x.siblings) ≤ 1 = rw x.is at (once_from tree kid once live x.row.key) in
    let w : Wrote old new x.row.key (edged (old x.row.key) edges) = subst (λ key. Wrote old new key (edged (old key) edges)) (sym x.key_is) w in
    rw x.is (ready-row old new x.row x.kids edges (omega arith) w ready)
