-- A view that is measured: it stays, its size is taken from its cache, or what is below it is measured.
use Rattle.std.proofs.Common.{◌≡◌, ℤ, ℕ, ◌+◌, ◌*◌, ◌<◌, ◌≤◌, Bool, true, false, Some, None, List, [], ◌∷◌, arith, ap, ◌∙◌, sym, refl, subst, inl, inr}
use Rattle.std.specs.Prelude.{if◌then◌else◌}
use Rattle.std.proofs.lemmas.Bool.{both_ways, cases_eq}
use Rattle.geom_core.specs.Limits.{IsSide}
use Rattle.geom_core.specs.declared.geometry.Size.{Size}
use Rattle.measure_cache.specs.declared.cache.Entry.{Entry}
use Rattle.measure_cache.specs.Entries.{found, put_in, same_spec}
use Rattle.measure_cache.proofs.CacheLaws.{found-put_in, is_of-is, same_spec-refl}
use Rattle.measure_pass.specs.Caches.{AskedAt, AskedBy, course_under}
use Rattle.measure_pass.specs.Courses.{IsMeasuredBelow}
use Rattle.kept_views.specs.Kept.{IsSized, Kept, Reached, Ready, ShownView, Sized, debt, hidden_in, inside, last_specs, loose, owed}
use Rattle.measure_pass.specs.Measured.{Costs, IsMeasured, Keeps, calls_under, current, done_with, entry_for, hit_with, made_up, size_under}
use Rattle.measure_pass.proofs.held.Calm.{Kept-firm, Reached-loose, Sized-calm, kept_firm, kept_kids, kids_kept, shown_in}
use Rattle.measure_pass.proofs.held.Frames.{Kept-along, Reached-along, owed-along}
use Rattle.measure_pass.proofs.held.Grows.{Grew-refl, Grown-along, Grown-mono, Grown-same}
use Rattle.measure_pass.proofs.rules.Laws.{measured_sides}
use Rattle.measure_pass.specs.Sharing.{IsSpared, MeasuringTrace, Shared, SharesOut, mark_of}
use Rattle.measure_pass.proofs.Shares.{trace-refl, Shared-along, Shared-mono, Shared-same}
use Rattle.measure_pass.proofs.held.Parts.{Sized-along, last_edges-along, last_specs-along}
use Rattle.view_model.specs.Facts.{is_shown}
use Rattle.view_model.specs.Forest.{Forest, Nothing, Branch}
use Rattle.view_model.specs.Layout.{children_of, final_specs, measure_calls, measured_size, for_layout}
use Rattle.view_model.specs.Measuring.{Specs}
use Rattle.view_tree.specs.declared.node.state.State.{State}
use Rattle.view_tree.specs.Rows.{Row, first_tree, children_of_first, head_view, part_from, count_of_key, views_of}
use Rattle.view_tree.specs.Views.{Held, KeepsInside, KeepsOutside, Views, held_of, specs_of}
use Rattle.view_tree.proofs.forest.KeyLaws.{located}
use Rattle.view_tree.proofs.forest.Walks.{KeepsInside-below, not_below, not_own, once_from}
use Rattle.kept_views.specs.Laying.{Wrote}

-- what a measuring under these specs leaves with the first view of a list, and below it
pub record Own (list : Forest Row) (view : ℕ) (specs : Specs) (before held : ℕ → Held) (old new : ℕ) (got : Size) : Type 0 where
  pub size : got ≡ size_under list specs
  pub last : specs_of (held view).state ≡ specs
  pub kept_size : (held view).state.measured ≡ size_under list specs
  pub sized : Sized held (first_tree list)
  pub ready : Ready held (first_tree list)
  pub keeps : Keeps before held
  pub others : KeepsOutside before held (first_tree list)
  pub costs : Costs (first_tree list) before held old (calls_under list specs) new
  pub trace : MeasuringTrace (λ place other. other ≡ specs) (λ place. 1) before held (first_tree list) old new

no_false : {A : Type 0} → true ≡ false → A
no_false e = absurd (cc)

-- whether a view has these specs as its last ones and is not forced
pub current-is : (state : State) (specs : Specs) → current state specs ≡ true → (state.forced ≡ false) × (specs_of state ≡ specs)
current-is state specs h =
    let both = unless state.forced (if same_spec state.ws specs.across then same_spec state.hs specs.down else false) h in
    (both.0, is_of-is (record { ws = state.ws; hs = state.hs; size = state.measured }) specs both.1)
  where
    unless : (a b : Bool) → (if a then false else b) ≡ true → (a ≡ false) × (b ≡ true)
    unless true b e = no_false (sym e)
    unless false b e = (refl, e)

pub is-current : (state : State) (specs : Specs) → (state.forced ≡ false) × (specs_of state ≡ specs) → current state specs ≡ true
is-current state specs both =
    subst (λ specs. current state specs ≡ true) both.1
    (ap (λ b. if b then false else (if same_spec state.ws state.ws then same_spec state.hs state.hs else false)) both.0
    ∙ ap (λ b. if b then same_spec state.hs state.hs else false) (same_spec-refl state.ws) ∙ same_spec-refl state.hs)

-- a view that is measured or found in the cache was not still
pub no_still : {A : Type 0} (state : State) (specs : Specs) → current state specs ≡ false → IsSpared (λ other. other ≡ specs) state → A
no_still state specs changed still = no_false (sym (is-current state specs (still.forced, still.asked specs refl)) ∙ changed)

pub keeps_self : (held : ℕ → Held) → Keeps held held
keeps_self held = record { bounds = λ key. refl; offsets = λ key. refl; forced = λ key. refl }

pub keeps_trans : (old mid new : ℕ → Held) → Keeps old mid → Keeps mid new → Keeps old new
keeps_trans old mid new first second = record {
  bounds = λ key. second.bounds key ∙ first.bounds key;
  offsets = λ key. second.offsets key ∙ first.offsets key;
  forced = λ key. second.forced key ∙ first.forced key;
}

pub keeps_by : (old new : ℕ → Held) (view : ℕ) (own : Held) → Wrote old new view own → own.state.bounds ≡ (old view).state.bounds → own.offset ≡ (old view).offset
    → own.state.forced ≡ (old view).state.forced → Keeps old new
keeps_by old new view own w bounds offset forced = record {
  bounds = λ key. elim (cases_eq key view) [
    | inl e ↦ rw e (ap (λ (h : Held). h.state.bounds) w.at ∙ bounds)
    | inr ne ↦ ap (λ (h : Held). h.state.bounds) (w.others key ne)
  ];
  offsets = λ key. elim (cases_eq key view) [
    | inl e ↦ rw e (ap (λ (h : Held). h.offset) w.at ∙ offset)
    | inr ne ↦ ap (λ (h : Held). h.offset) (w.others key ne)
  ];
  forced = λ key. elim (cases_eq key view) [
    | inl e ↦ rw e (ap (λ (h : Held). h.state.forced) w.at ∙ forced)
    | inr ne ↦ ap (λ (h : Held). h.state.forced) (w.others key ne)
  ];
}

pub owed_shown : (held : ℕ → Held) (row : Row) (kids : Forest Row) → is_shown row.view.facts ≡ true → owed held (Branch row kids Nothing) ≡ debt row kids (held row.key) + owed held kids
owed_shown held row kids here = rw here (omega arith)

-- under its last specs, not forced
skip_row : (held : ℕ → Held) (row : Row) (kids siblings : Forest Row) (specs : Specs) (count : ℕ) → is_shown row.view.facts ≡ true → Ready held (Branch row kids Nothing)
    → (held row.key).state.forced ≡ false → specs_of (held row.key).state ≡ specs
    → Own (Branch row kids siblings) row.key specs held held count count (held row.key).state.measured
skip_row held row kids siblings specs count here ready f e =
    let v = ready.kept.1 (shown_in loose row here refl) in
    let s = v.sized refl f in
    let calm = kept_firm held _ kids f (kids_kept held loose row (held row.key) kids here refl ready.kept.2) in
    record {
      size = s.size ∙ ap (measured_size row.view (views_of kids)) e;
      last = e;
      kept_size = s.size ∙ ap (measured_size row.view (views_of kids)) e;
      sized = (λ shown. (s, λ whole. Sized-calm held kids calm), tt);
      ready = ready;
      keeps = keeps_self held;
      others = λ key none. refl;
      costs = record { spent = omega arith; owing = omega arith };
      trace = trace-refl (λ place other. other ≡ specs) (λ place. 1) held (Branch row kids Nothing) count;
    }

-- found in the cache
hit_row : (held new : ℕ → Held) (row : Row) (kids siblings : Forest Row) (specs : Specs) (size : Size) (count : ℕ) → is_shown row.view.facts ≡ true
    → ((key : ℕ) → count_of_key key (Branch row kids Nothing) ≤ 1) → Ready held (Branch row kids Nothing) → found (held row.key).cache specs ≡ Some size
    → Wrote held new row.key (hit_with (held row.key) specs size) → current (held row.key).state specs ≡ false
    → Own (Branch row kids siblings) row.key specs held new count count size
hit_row held new row kids siblings specs size count here once ready in_cache w changed =
    let own = hit_with (held row.key) specs size in
    let v = ready.kept.1 (shown_in loose row here refl) in
    let same = KeepsInside-below held new row kids Nothing (once row.key) w.others in
    let right : size ≡ measured_size row.view (views_of kids) specs = v.cache refl specs size in_cache in
    let below : Kept [] new (inside loose row own) kids = Kept-along [] held new _ kids same ready.kept.2 in
    let reached : Reached new true kids = Reached-along held new true kids same (Reached-loose held _ kids ready.reached.2) in
    let is : IsSized new own row kids = record { size = right; finals = λ whole. no_false whole; total = λ whole. no_false whole; edges = λ whole. no_false whole } in
    let shown : ShownView [] new loose own row kids = record { flags = λ none f. refl; cache = v.cache; sized = λ none f. is; placed = λ none f n. no_false n; ranged = λ none f n. no_false n } in
    let o1 = owed_shown new row kids here in
    let o2 = owed_shown held row kids here in
    let o3 = owed-along held new kids same in
    let o4 : debt row kids (new row.key) ≡ measure_calls row.view (views_of kids) specs = rw w.at refl in
    record {
      size = right;
      last = rw w.at refl;
      kept_size = rw w.at right;
      sized = (λ shown. rw w.at (is, λ whole. no_false whole), tt);
      ready = record {
        kept = (λ h. absurd (both_ways (hidden_in loose row) (shown_in loose row here refl) h), λ h. rw w.at shown, rw w.at below, tt);
        reached = (λ n. (here, refl), rw w.at (λ m. refl), rw w.at reached, tt);
      };
      keeps = keeps_by held new row.key own w refl refl refl;
      others = λ key none. w.others key (not_own row kids Nothing key none);
      costs = record { spent = omega arith; owing = omega arith };
      trace = record {
        caches = (rw w.at (Grew-refl (λ other. other ≡ specs) (held row.key).cache), Grown-same (AskedBy row kids (λ other. other ≡ specs)) held new kids same, tt);
        shares = record {
          count = 0;
          shared = (
            0,
            0,
            0,
            refl,
            record {
              few = rw w.at (omega arith);
              still = λ still. no_still (held row.key).state specs changed still;
              unasked = λ no. absurd (no specs refl);
              stays = λ still. no_still (held row.key).state specs changed still;
            },
            Shared-same (AskedBy row kids (λ other. other ≡ specs)) (λ place. 3 * 0) held new kids same,
            refl,
          );
          spent = omega arith;
        };
      };
    }

put_right : (cache : List Entry) (specs : Specs) (size : Size) (right : Specs → Size) → ((specs : Specs) (size : Size) → found cache specs ≡ Some size → size ≡ right specs) → size ≡ right specs
    → (other : Specs) (got : Size) → found (put_in cache (entry_for specs size)) other ≡ Some got → got ≡ right other
put_right cache specs size right all own other got h = elim (found-put_in cache (entry_for specs size) other got h) [
  | inl new ↦ sym new.1 ∙ own ∙ ap right new.0
  | inr old ↦ all other got old
]

-- the shares of those below a view that was measured once
shared_below : (row : Row) (kids : Forest Row) (specs : Specs) (held mid new : ℕ → Held) (count : ℕ) → KeepsInside mid new kids
    → Shared (AskedAt (course_under row kids specs)) (λ place. 3) held mid kids count → Shared (AskedBy row kids (λ other. other ≡ specs)) (λ place. 3 * 1) held new kids count
shared_below row kids specs held mid new count same shared =
    Shared-along (AskedBy row kids (λ other. other ≡ specs)) (λ place. 3 * 1) held held mid new kids count (λ key here. refl) same
    (Shared-mono (AskedAt (course_under row kids specs)) (AskedBy row kids (λ other. other ≡ specs)) (λ place. 3) (λ place. 3 * 1) held mid kids count (λ place other h. (specs, refl, h))
    (λ place. omega arith) shared)

-- measured through its children
new_row : (held mid new : ℕ → Held) (row : Row) (kids siblings : Forest Row) (specs : Specs) (size : Size) (total : ℤ) (old between count : ℕ) → is_shown row.view.facts ≡ true
    → ((key : ℕ) → count_of_key key (Branch row kids Nothing) ≤ 1) → Ready held (Branch row kids Nothing) → Ready mid kids
    → IsMeasuredBelow (Branch row kids siblings) specs held mid size total old between → Keeps held mid → KeepsOutside held mid kids
    → Wrote mid new row.key (done_with (mid row.key) specs size total) → found (held row.key).cache specs ≡ None → current (held row.key).state specs ≡ false → count ≤ between + 1
    → Own (Branch row kids siblings) row.key specs held new old count size
new_row held mid new row kids siblings specs size total old between count here once ready done m keeps others w miss changed more =
    let own = done_with (held row.key) specs size total in
    let v = ready.kept.1 (shown_in loose row here refl) in
    let same = KeepsInside-below mid new row kids Nothing (once row.key) w.others in
    let stays : mid row.key ≡ held row.key = others row.key (not_below row kids Nothing (once row.key)) in
    let at : new row.key ≡ own = w.at ∙ ap (λ h. done_with h specs size total) stays in
    let kept0 = kids_kept held loose row (held row.key) kids here refl ready.kept.2 in
    let kept1 = Kept-firm held mid (held row.key).state.forced kids keeps kept0 done.kept in
    let below : Kept [] new (inside loose row own) kids = kept_kids new loose row own kids here refl (Kept-along [] mid new _ kids same kept1) in
    let reached : Reached new true kids = Reached-along mid new true kids same done.reached in
    let finals : last_specs new kids ≡ final_specs row.view (views_of kids) specs = last_specs-along mid new kids same ∙ m.finals in
    let is : IsSized new own row kids = record { size = m.size; finals = λ whole. finals; total = λ whole. m.length; edges = λ whole class. last_edges-along mid new kids same ∙ m.edges class } in
    let sized : Sized new kids = Sized-along mid new kids same m.sized in
    let shown : ShownView [] new loose own row kids = record {
      flags = λ none f. refl;
      cache = λ none. put_right (held row.key).cache specs size (measured_size row.view (views_of kids)) (v.cache refl) m.size;
      sized = λ none f. is;
      placed = λ none f n. no_false n;
      ranged = λ none f n. no_false n;
    } in
    let o1 = owed_shown new row kids here in
    let o2 = owed_shown held row kids here in
    let o3 = owed-along mid new kids same in
    let o4 : debt row kids (new row.key) ≡ 0 = rw at refl in
    let c1 = m.costs.spent in
    let c2 = m.costs.owing in
    record {
      size = m.size;
      last = rw at refl;
      kept_size = rw at m.size;
      sized = (λ shown. rw at (is, λ whole. sized), tt);
      ready = record {
        kept = (λ h. absurd (both_ways (hidden_in loose row) (shown_in loose row here refl) h), λ h. rw at shown, rw at below, tt);
        reached = (λ n. (here, refl), rw at (λ x. refl), rw at reached, tt);
      };
      keeps = keeps_trans held mid new keeps (keeps_by mid new row.key _ w refl refl refl);
      others = λ key none. w.others key (not_own row kids Nothing key none) ∙ others key (omega arith);
      costs = record { spent = omega arith; owing = omega arith };
      trace = record {
        caches = (
          rw at (record { puts = entry_for specs size ∷ []; is = refl; each = (miss, refl, tt) }),
          Grown-along (AskedBy row kids (λ other. other ≡ specs)) held held mid new kids (λ key here. refl) same
              (Grown-mono (AskedAt (course_under row kids specs)) (AskedBy row kids (λ other. other ≡ specs)) held mid kids (λ place other h. (specs, refl, h)) m.trace.caches),
          tt,
        );
        shares = record {
          count = 1 + m.trace.shares.count;
          shared = (
            1,
            m.trace.shares.count,
            0,
            (omega arith),
            record {
              few = rw at (omega arith);
              still = λ still. no_still (held row.key).state specs changed still;
              unasked = λ no. absurd (no specs refl);
              stays = λ still. no_still (held row.key).state specs changed still;
            },
            shared_below row kids specs held mid new m.trace.shares.count same m.trace.shares.shared,
            refl,
          );
          spent = let spent = m.trace.shares.spent in omega arith;
        };
      };
    }

-- the same at a view of a tree
pub alone_once : (row : Row) (kids siblings : Forest Row) → ((key : ℕ) → count_of_key key (Branch row kids siblings) ≤ 1) → (key : ℕ) → count_of_key key (Branch row kids Nothing) ≤ 1
alone_once row kids siblings once key = let o = once key in omega arith

pub skip_at : (tree : Forest Row) (view : ℕ) (held : ℕ → Held) (specs : Specs) (count : ℕ) → 0 < count_of_key view tree → is_shown (head_view (part_from view tree)).facts ≡ true
    → Ready held (first_tree (part_from view tree)) → (held view).state.forced ≡ false → specs_of (held view).state ≡ specs
    → Own (part_from view tree) view specs held held count count (held view).state.measured
skip_at tree view held specs count live here ready f e =
    let x = located view tree live in
    let here : is_shown x.row.view.facts ≡ true = rw x.is at here in
    let ready : Ready held (Branch x.row x.kids Nothing) = rw x.is at ready in
    let f : (held x.row.key).state.forced ≡ false = subst (λ key. (held key).state.forced ≡ false) (sym x.key_is) f in
    let e : specs_of (held x.row.key).state ≡ specs = subst (λ key. specs_of (held key).state ≡ specs) (sym x.key_is) e in
    rw x.is (subst (λ key. Own (Branch x.row x.kids x.siblings) key specs held held count count (held key).state.measured) x.key_is
    (skip_row held x.row x.kids x.siblings specs count here ready f e))

pub hit_at : (tree : Forest Row) (view : ℕ) (held new : ℕ → Held) (specs : Specs) (size : Size) (count : ℕ) → ((key : ℕ) → count_of_key key tree ≤ 1) → 0 < count_of_key view tree
    → is_shown (head_view (part_from view tree)).facts ≡ true → Ready held (first_tree (part_from view tree)) → found (held view).cache specs ≡ Some size
    → Wrote held new view (hit_with (held view) specs size) → current (held view).state specs ≡ false
    → Own (part_from view tree) view specs held new count count size
hit_at tree view held new specs size count once live here ready in_cache w changed =
    let x = located view tree live in
    let here : is_shown x.row.view.facts ≡ true = rw x.is at here in
    let ready : Ready held (Branch x.row x.kids Nothing) = rw x.is at ready in
    let once : (key : ℕ) → count_of_key key (Branch x.row x.kids x.siblings) ≤ 1 = rw x.is at (once_from tree view once live) in
    let in_cache : found (held x.row.key).cache specs ≡ Some size = subst (λ key. found (held key).cache specs ≡ Some size) (sym x.key_is) in_cache in
    let w : Wrote held new x.row.key (hit_with (held x.row.key) specs size) = subst (λ key. Wrote held new key (hit_with (held key) specs size)) (sym x.key_is) w in
    rw x.is (subst (λ key. Own (Branch x.row x.kids x.siblings) key specs held new count count size) x.key_is
    (hit_row held new x.row x.kids x.siblings specs size count here (alone_once x.row x.kids x.siblings once) ready in_cache w
    (subst (λ key. current (held key).state specs ≡ false) (sym x.key_is) changed)))

pub new_at : (tree : Forest Row) (view : ℕ) (held mid new : ℕ → Held) (specs : Specs) (size : Size) (total : ℤ) (old between count : ℕ) → ((key : ℕ) → count_of_key key tree ≤ 1)
    → 0 < count_of_key view tree → is_shown (head_view (part_from view tree)).facts ≡ true → Ready held (first_tree (part_from view tree)) → Ready mid (children_of_first (part_from view tree))
    → IsMeasuredBelow (part_from view tree) specs held mid size total old between → Keeps held mid → KeepsOutside held mid (children_of_first (part_from view tree))
    → Wrote mid new view (done_with (mid view) specs size total) → found (held view).cache specs ≡ None → current (held view).state specs ≡ false → count ≤ between + 1
    → Own (part_from view tree) view specs held new old count size
new_at tree view held mid new specs size total old between count once live here ready done m keeps others w miss changed more =
    let x = located view tree live in
    let here : is_shown x.row.view.facts ≡ true = rw x.is at here in
    let ready : Ready held (Branch x.row x.kids Nothing) = rw x.is at ready in
    let done : Ready mid x.kids = rw x.is at done in
    let m : IsMeasuredBelow (Branch x.row x.kids x.siblings) specs held mid size total old between = rw x.is at m in
    let others : KeepsOutside held mid x.kids = rw x.is at others in
    let once : (key : ℕ) → count_of_key key (Branch x.row x.kids x.siblings) ≤ 1 = rw x.is at (once_from tree view once live) in
    let w : Wrote mid new x.row.key (done_with (mid x.row.key) specs size total) =
    subst (λ key. Wrote mid new key (done_with (mid key) specs size total)) (sym x.key_is) w in
    rw x.is (subst (λ key. Own (Branch x.row x.kids x.siblings) key specs held new old count size) x.key_is
    (new_row held mid new x.row x.kids x.siblings specs size total old between count here (alone_once x.row x.kids x.siblings once) ready done m keeps others w
    (subst (λ key. found (held key).cache specs ≡ None) (sym x.key_is) miss) (subst (λ key. current (held key).state specs ≡ false) (sym x.key_is) changed) more))

-- what the measuring of a marked view's children leaves
pub record Made (list : Forest Row) (view : ℕ) (total : ℤ) (before held : ℕ → Held) (old new : ℕ) : Type 0 where
  pub own : held view ≡ record (before view) { state = record (before view).state { total = total; measure_first = false } }
  pub all : Own list view (specs_of (before view).state) before held old new (before view).state.measured
  pub back : new + owed held (first_tree list) ≤ old + owed before (first_tree list)
  pub shares : SharesOut (λ place other. other ≡ specs_of (before view).state) (λ place. 0) before held (first_tree list) old new

make_row : (held mid new : ℕ → Held) (row : Row) (kids siblings : Forest Row) (size : Size) (total : ℤ) (old between count : ℕ) → is_shown row.view.facts ≡ true
    → ((key : ℕ) → count_of_key key (Branch row kids Nothing) ≤ 1) → Ready held (Branch row kids Nothing) → Sized held (Branch row kids Nothing)
    → (held row.key).state.measure_first ≡ true → Ready mid kids
    → IsMeasuredBelow (Branch row kids siblings) (specs_of (held row.key).state) held mid size total old between → Keeps held mid → KeepsOutside held mid kids
    → Wrote mid new row.key (made_up (mid row.key) size total) → count ≤ between + 1
    → Made (Branch row kids siblings) row.key total held new old count
make_row held mid new row kids siblings size total old between count here once ready was marked done m keeps others w more =
    let specs = specs_of (held row.key).state in
    let v = ready.kept.1 (shown_in loose row here refl) in
    let had = (was.0 here).0 in
    let same = KeepsInside-below mid new row kids Nothing (once row.key) w.others in
    let stays : mid row.key ≡ held row.key = others row.key (not_below row kids Nothing (once row.key)) in
    let right : size ≡ (held row.key).state.measured = m.size ∙ sym had.size in
    let own : Held = record (held row.key) { state = record (held row.key).state { total = total; measure_first = false } } in
    let at : new row.key ≡ own = w.at ∙ ap (λ h. made_up h size total) stays ∙ ap (λ size. made_up (held row.key) size total) right in
    let kept0 = kids_kept held loose row (held row.key) kids here refl ready.kept.2 in
    let kept1 = Kept-firm held mid (held row.key).state.forced kids keeps kept0 done.kept in
    let below : Kept [] new (inside loose row own) kids = kept_kids new loose row own kids here refl (Kept-along [] mid new _ kids same kept1) in
    let need : (held row.key).state.layout_needed ≡ true = ready.reached.1 marked in
    let reached : Reached new (held row.key).state.layout_needed kids = subst (λ b. Reached new b kids) (sym need) (Reached-along mid new true kids same done.reached) in
    let finals : last_specs new kids ≡ final_specs row.view (views_of kids) specs = last_specs-along mid new kids same ∙ m.finals in
    let is : IsSized new own row kids = record { size = had.size; finals = λ whole. finals; total = λ whole. m.length; edges = λ whole class. last_edges-along mid new kids same ∙ m.edges class } in
    let sized : Sized new kids = Sized-along mid new kids same m.sized in
    let shown : ShownView [] new loose own row kids = record {
      flags = λ none f. refl;
      cache = v.cache;
      sized = λ none f. is;
      placed = λ none f n. absurd (both_ways (held row.key).state.layout_needed n need);
      ranged = λ none f n. absurd (both_ways (held row.key).state.layout_needed n need);
    } in
    let o1 = owed_shown new row kids here in
    let o2 = owed_shown held row kids here in
    let o3 = owed-along mid new kids same in
    let o4 : debt row kids (new row.key) ≡ 0 = rw at refl in
    let o5 : debt row kids (held row.key) ≡ measure_calls row.view (views_of kids) specs = rw marked refl in
    let c1 = m.costs.spent in
    let c2 = m.costs.owing in
    let shares : SharesOut (λ place other. other ≡ specs) (λ place. 0) held new (Branch row kids Nothing) old count = record {
      count = 1 + m.trace.shares.count;
      shared = (
        1,
        m.trace.shares.count,
        0,
        (omega arith),
        record {
          few = let had : mark_of (held row.key).state ≡ 1 = rw marked refl in rw at (omega arith);
          still = λ still. no_false (sym marked ∙ still.marked);
          unasked = λ no. absurd (no specs refl);
          stays = λ still. no_false (sym marked ∙ still.marked);
        },
        shared_below row kids specs held mid new m.trace.shares.count same m.trace.shares.shared,
        refl,
      );
      spent = let spent = m.trace.shares.spent in omega arith;
    } in
    record {
      own = at;
      back = omega arith;
      all = record {
        size = had.size;
        last = rw at refl;
        kept_size = rw at had.size;
        sized = (λ shown. rw at (is, λ whole. sized), tt);
        ready = record {
          kept = (λ h. absurd (both_ways (hidden_in loose row) (shown_in loose row here refl) h), λ h. rw at shown, rw at below, tt);
          reached = (λ n. (here, refl), rw at (λ x. need), rw at reached, tt);
        };
        keeps = keeps_trans held mid new keeps (keeps_by mid new row.key _ w refl refl refl);
        others = λ key none. w.others key (not_own row kids Nothing key none) ∙ others key (omega arith);
        costs = record { spent = omega arith; owing = omega arith };
        trace = record {
          caches = (
            rw at (Grew-refl (λ other. other ≡ specs) (held row.key).cache),
            Grown-along (AskedBy row kids (λ other. other ≡ specs)) held held mid new kids (λ key here. refl) same
                (Grown-mono (AskedAt (course_under row kids specs)) (AskedBy row kids (λ other. other ≡ specs)) held mid kids (λ place other h. (specs, refl, h)) m.trace.caches),
            tt,
          );
          shares = record {
            count = shares.count;
            shared = Shared-mono (λ place other. other ≡ specs) (λ place other. other ≡ specs) (λ place. 0) (λ place. 1) held new (Branch row kids Nothing) shares.count (λ place other h. h)
                (λ place. omega arith) shares.shared;
            spent = shares.spent;
          };
        };
      };
      shares = shares;
    }

pub make_at : (tree : Forest Row) (view : ℕ) (held mid new : ℕ → Held) (size : Size) (total : ℤ) (old between count : ℕ) → ((key : ℕ) → count_of_key key tree ≤ 1)
    → 0 < count_of_key view tree → is_shown (head_view (part_from view tree)).facts ≡ true → Ready held (first_tree (part_from view tree)) → Sized held (first_tree (part_from view tree))
    → (held view).state.measure_first ≡ true → Ready mid (children_of_first (part_from view tree))
    → IsMeasuredBelow (part_from view tree) (specs_of (held view).state) held mid size total old between → Keeps held mid → KeepsOutside held mid (children_of_first (part_from view tree))
    → Wrote mid new view (made_up (mid view) size total) → count ≤ between + 1
    → Made (part_from view tree) view total held new old count
make_at tree view held mid new size total old between count once live here ready was marked done m keeps others w more =
    let x = located view tree live in
    let here : is_shown x.row.view.facts ≡ true = rw x.is at here in
    let ready : Ready held (Branch x.row x.kids Nothing) = rw x.is at ready in
    let was : Sized held (Branch x.row x.kids Nothing) = rw x.is at was in
    let done : Ready mid x.kids = rw x.is at done in
    let m : IsMeasuredBelow (Branch x.row x.kids x.siblings) (specs_of (held view).state) held mid size total old between = rw x.is at m in
    let m : IsMeasuredBelow (Branch x.row x.kids x.siblings) (specs_of (held x.row.key).state) held mid size total old between =
    subst (λ key. IsMeasuredBelow (Branch x.row x.kids x.siblings) (specs_of (held key).state) held mid size total old between) (sym x.key_is) m in
    let others : KeepsOutside held mid x.kids = rw x.is at others in
    let once : (key : ℕ) → count_of_key key (Branch x.row x.kids x.siblings) ≤ 1 = rw x.is at (once_from tree view once live) in
    let marked : (held x.row.key).state.measure_first ≡ true = subst (λ key. (held key).state.measure_first ≡ true) (sym x.key_is) marked in
    let w : Wrote mid new x.row.key (made_up (mid x.row.key) size total) = subst (λ key. Wrote mid new key (made_up (mid key) size total)) (sym x.key_is) w in
    rw x.is (subst (λ key. Made (Branch x.row x.kids x.siblings) key total held new old count) x.key_is
    (make_row held mid new x.row x.kids x.siblings size total old between count here (alone_once x.row x.kids x.siblings once) ready was marked done m keeps others w more))

pub measured_at : (old new : Views) (view : ℕ) (specs : Specs) (before : ℕ → Held) (first last : ℕ) (got : Size) → new.tree ≡ old.tree
    → Own (part_from view old.tree) view specs before (held_of new) first last got → IsMeasured new view specs
measured_at old new view specs before first last got same own = record { last = own.last; size = rw same own.kept_size; sized = rw same own.sized; ready = rw same own.ready }

-- the size of a view has sides
sides_row : (row : Row) (kids siblings : Forest Row) (specs : Specs) → IsSide (size_under (Branch row kids siblings) specs).w × IsSide (size_under (Branch row kids siblings) specs).h
sides_row row kids siblings specs = measured_sides (for_layout row.view) (children_of (views_of kids)) specs

pub sides_at : (tree : Forest Row) (view : ℕ) (specs : Specs) (got : Size) → 0 < count_of_key view tree → got ≡ size_under (part_from view tree) specs → IsSide got.w × IsSide got.h
sides_at tree view specs got live is =
    let x = located view tree live in
    rw is (rw x.is (sides_row x.row x.kids x.siblings specs))

-- a view is not among those below it
pub own_absent : (tree : Forest Row) (view : ℕ) → ((key : ℕ) → count_of_key key tree ≤ 1) → 0 < count_of_key view tree → count_of_key view (children_of_first (part_from view tree)) ≡ 0
own_absent tree view once live =
    let x = located view tree live in
    let once : (key : ℕ) → count_of_key key (Branch x.row x.kids x.siblings) ≤ 1 = rw x.is at (once_from tree view once live) in
    let none : count_of_key view x.kids ≡ 0 = subst (λ key. count_of_key key x.kids ≡ 0) x.key_is (not_below x.row x.kids x.siblings (once x.row.key)) in
    rw x.is none
