-- A view that takes a size from its cache, where what is below it is right for that as it is.
use Rattle.std.proofs.Common.{◌≡◌, ◌≤◌, ◌<◌, ℕ, true, false, Some, [], ap, refl, sym, ◌∙◌, subst, arith}
use Rattle.std.proofs.lemmas.Bool.{both_ways}
use Rattle.std.specs.Prelude.{◌*◌, List, map}
use Rattle.geom_core.specs.declared.geometry.Rect.{Rect}
use Rattle.geom_core.specs.declared.geometry.Size.{Size}
use Rattle.measure_cache.specs.Entries.{found}
use Rattle.kept_views.specs.Kept.{IsSized, Kept, Reached, Ready, ShownView, Sized, debt, hidden_in, inside, loose}
use Rattle.kept_views.specs.Laying.{Wrote}
use Rattle.kept_views.proofs.KeptFrames.{in_range-along}
use Rattle.measure_pass.specs.Alike.{AsksAlike}
use Rattle.measure_pass.specs.Caches.{AskedBy}
use Rattle.measure_pass.specs.Measured.{current, resized_with}
use Rattle.measure_pass.proofs.held.Calm.{Sized-calm, kept_firm, kids_kept, shown_in}
use Rattle.measure_pass.proofs.held.Frames.{Kept-along, Reached-along, last_places-along, owed-along}
use Rattle.measure_pass.proofs.held.Grows.{Grew-refl, Grown-same}
use Rattle.measure_pass.proofs.held.Own.{Own, alone_once, keeps_by, no_still, owed_shown}
use Rattle.measure_pass.proofs.held.Parts.{Sized-along, last_specs-along}
use Rattle.measure_pass.proofs.Shares.{Shared-same}
use Rattle.measure_pass.proofs.rules.AlikeLaws.{alike_by}
use Rattle.view_model.specs.Classes.{is_group}
use Rattle.view_model.specs.Facts.{is_shown}
use Rattle.view_model.specs.Forest.{Forest, Nothing, Branch}
use Rattle.view_model.specs.Geometry.{size_of_rect}
use Rattle.view_model.specs.Layout.{measured_size}
use Rattle.view_model.specs.Measuring.{Specs}
use Rattle.view_tree.specs.Rows.{Row, children_of_first, count_of_key, first_tree, head_view, part_from, views_of}
use Rattle.view_tree.specs.Views.{Held, specs_of}
use Rattle.view_tree.proofs.forest.KeyLaws.{located}
use Rattle.view_tree.proofs.forest.Walks.{KeepsInside-below, not_own, once_from}

resized_row : (held new : ℕ → Held) (row : Row) (kids siblings : Forest Row) (specs : Specs) (size : Size) (count : ℕ) → is_shown row.view.facts ≡ true
    → ((key : ℕ) → count_of_key key (Branch row kids Nothing) ≤ 1) → Ready held (Branch row kids Nothing) → found (held row.key).cache specs ≡ Some size
    → Wrote held new row.key (resized_with (held row.key) specs size) → current (held row.key).state specs ≡ false
    → (held row.key).state.forced ≡ false → (held row.key).state.measure_first ≡ false → AsksAlike row.view.class kids → (is_group row.view.class ≡ false → kids ≡ Nothing)
    → Own (Branch row kids siblings) row.key specs held new count count size
resized_row held new row kids siblings specs size count here once ready in_cache w changed unforced unmarked asks childless =
    let own = resized_with (held row.key) specs size in
    let last = specs_of (held row.key).state in
    let alike = alike_by row kids last specs asks childless in
    let v = ready.kept.1 (shown_in loose row here refl) in
    let s = v.sized refl unforced in
    let same = KeepsInside-below held new row kids Nothing (once row.key) w.others in
    let right : size ≡ measured_size row.view (views_of kids) specs = v.cache refl specs size in_cache in
    let calm = kept_firm held _ kids unforced (kids_kept held loose row (held row.key) kids here refl ready.kept.2) in
    let below : Kept [] new (inside loose row own) kids = Kept-along [] held new _ kids same ready.kept.2 in
    let sized : Sized new kids = Sized-along held new kids same (Sized-calm held kids calm) in
    let reached : Reached new own.state.layout_needed kids = Reached-along held new _ kids same ready.reached.2 in
    let is : IsSized new own row kids = record {
      size = right;
      finals = λ whole. last_specs-along held new kids same ∙ s.finals unmarked ∙ alike.specs;
      total = λ whole. s.total unmarked ∙ alike.total;
      edges = λ whole tied. absurd (alike.untied tied);
    } in
    let shown : ShownView [] new loose own row kids = record {
      flags = λ none f. refl;
      cache = v.cache;
      sized = λ none f. is;
      placed = λ none f n rect e. last_places-along held new kids same ∙ v.placed refl f n rect e
          ∙ ap (λ (rects : List Rect). map (λ (place : Rect). Some place) rects) (alike.places (size_of_rect rect));
      ranged = λ none f n rect e. in_range-along held new own row kids rect same (v.ranged refl f n rect e);
    } in
    let o1 = owed_shown new row kids here in
    let o2 = owed_shown held row kids here in
    let o3 = owed-along held new kids same in
    let o4 : debt row kids (new row.key) ≡ 0 = rw (w.at, unmarked) refl in
    record {
      size = right;
      last = rw w.at refl;
      kept_size = rw w.at right;
      sized = (λ shown. rw w.at (is, λ whole. sized), tt);
      ready = record {
        kept = (λ h. absurd (both_ways (hidden_in loose row) (shown_in loose row here refl) h), λ h. rw w.at shown, rw w.at below, tt);
        reached = (λ n. (here, refl), rw w.at ready.reached.1, rw w.at reached, tt);
      };
      keeps = keeps_by held new row.key own w refl refl refl;
      others = λ key none. w.others key (not_own row kids Nothing key none);
      costs = record { spent = omega arith; owing = omega arith };
      trace = record {
        caches = (rw w.at (Grew-refl (λ other. other ≡ specs) (held row.key).cache), Grown-same (AskedBy row kids (λ other. other ≡ specs)) held new kids same, tt);
        shares = record {
          count = 0;
          shared = (
            0,
            0,
            0,
            refl,
            record {
              few = rw w.at (omega arith);
              still = λ still. no_still (held row.key).state specs changed still;
              unasked = λ no. absurd (no specs refl);
              stays = λ still. no_still (held row.key).state specs changed still;
            },
            Shared-same (AskedBy row kids (λ other. other ≡ specs)) (λ place. 3 * 0) held new kids same,
            refl,
          );
          spent = omega arith;
        };
      };
    }

pub resized_at : (tree : Forest Row) (view : ℕ) (held new : ℕ → Held) (specs : Specs) (size : Size) (count : ℕ) → ((key : ℕ) → count_of_key key tree ≤ 1) → 0 < count_of_key view tree
    → is_shown (head_view (part_from view tree)).facts ≡ true → Ready held (first_tree (part_from view tree)) → found (held view).cache specs ≡ Some size
    → Wrote held new view (resized_with (held view) specs size) → current (held view).state specs ≡ false
    → (held view).state.forced ≡ false → (held view).state.measure_first ≡ false
    → AsksAlike (head_view (part_from view tree)).class (children_of_first (part_from view tree))
    → (is_group (head_view (part_from view tree)).class ≡ false → children_of_first (part_from view tree) ≡ Nothing)
    → Own (part_from view tree) view specs held new count count size
resized_at tree view held new specs size count once live here ready in_cache w changed unforced unmarked asks childless =
    let x = located view tree live in
    let here : is_shown x.row.view.facts ≡ true = rw x.is at here in
    let ready : Ready held (Branch x.row x.kids Nothing) = rw x.is at ready in
    let asks : AsksAlike x.row.view.class x.kids = rw x.is at asks in
    let childless : is_group x.row.view.class ≡ false → x.kids ≡ Nothing = rw x.is at childless in
    let once : (key : ℕ) → count_of_key key (Branch x.row x.kids x.siblings) ≤ 1 = rw x.is at (once_from tree view once live) in
    let in_cache : found (held x.row.key).cache specs ≡ Some size = subst (λ key. found (held key).cache specs ≡ Some size) (sym x.key_is) in_cache in
    let w : Wrote held new x.row.key (resized_with (held x.row.key) specs size) = subst (λ key. Wrote held new key (resized_with (held key) specs size)) (sym x.key_is) w in
    rw x.is (subst (λ key. Own (Branch x.row x.kids x.siblings) key specs held new count count size) x.key_is
    (resized_row held new x.row x.kids x.siblings specs size count here (alone_once x.row x.kids x.siblings once) ready in_cache w
    (subst (λ key. current (held key).state specs ≡ false) (sym x.key_is) changed)
    (subst (λ key. (held key).state.forced ≡ false) (sym x.key_is) unforced)
    (subst (λ key. (held key).state.measure_first ≡ false) (sym x.key_is) unmarked)
    asks childless))
