-- Forcing keeps what is kept, with requesters left or added.
use Rattle.std.proofs.Common.{◌≡◌, ℕ, Bool, true, false, Some, List, ap, ◌∙◌, sym, refl, subst, ◌⊎◌, inl, inr}
use Rattle.std.proofs.lemmas.Bool.{both_ways}
use Rattle.view_model.specs.Forest.{Forest, Nothing, Branch}
use Rattle.view_model.specs.Offsets.{brought, range_by}
use Rattle.view_tree.specs.Rows.{Row}
use Rattle.view_tree.specs.Views.{Held, specs_of}
use Rattle.kept_views.proofs.KeptFrames.{none_found}
use Rattle.kept_views.specs.Kept.{Around, HiddenView, Kept, ShownView, asked, first_place, hidden_in, last_edges, last_places, last_specs}
use Rattle.view_tree.specs.tree.Requests.{forced_one}
use Rattle.kept_views.specs.Pressing.{IsPressed, Pressed, Touched}

pub forced_touched : (own : Held) → Touched own (forced_one own)
forced_touched own = record { specs = refl; bounds = refl; edges = refl; forced = λ e. refl; hidden = λ h. record { forced = refl; bounds = h.bounds; cache = refl } }

-- a view, pressed or not
abbrev One : Held → Held → Type 0 → Type 0 → Type 0
One old new P Q = ((new ≡ old) × P) ⊎ (Touched old new × Q)

one_touched : (old new : Held) (P Q : Type 0) → One old new P Q → Touched old new
one_touched old new P Q (inl p) = record {
  specs = ap (λ (h : Held). specs_of h.state) p.0;
  bounds = ap (λ (h : Held). h.state.bounds) p.0;
  edges = ap (λ (h : Held). h.state.edges) p.0;
  forced = λ e. ap (λ (h : Held). h.state.forced) p.0 ∙ e;
  hidden = λ h. subst HiddenView (sym p.0) h;
}
one_touched old new P Q (inr p) = p.0

module _ (keys more : List ℕ) (old new : ℕ → Held) where
  specs-pressed : (up : Around) (list : Forest Row) → Pressed keys more old new up list → last_specs new list ≡ last_specs old list
  specs-pressed up Nothing q = refl
  specs-pressed up (Branch row kids siblings) q =
      let own = (one_touched (old row.key) (new row.key) _ _ q.0).specs in
      let rest = specs-pressed up siblings q.2 in
      rw (own, rest) refl

  edges-pressed : (up : Around) (list : Forest Row) → Pressed keys more old new up list → last_edges new list ≡ last_edges old list
  edges-pressed up Nothing q = refl
  edges-pressed up (Branch row kids siblings) q =
      let own = (one_touched (old row.key) (new row.key) _ _ q.0).edges in
      let rest = edges-pressed up siblings q.2 in
      rw (own, rest) refl

  places-pressed : (up : Around) (list : Forest Row) → Pressed keys more old new up list → last_places new list ≡ last_places old list
  places-pressed up Nothing q = refl
  places-pressed up (Branch row kids siblings) q =
      let own = (one_touched (old row.key) (new row.key) _ _ q.0).bounds in
      let rest = places-pressed up siblings q.2 in
      rw (own, rest) refl

  first-pressed : (up : Around) (list : Forest Row) → Pressed keys more old new up list → first_place new list ≡ first_place old list
  first-pressed up Nothing q = refl
  first-pressed up (Branch row kids siblings) q = (one_touched (old row.key) (new row.key) _ _ q.0).bounds

  shown_one : (h f f' : Bool) (row : Row) (kids : Forest Row) (up : Around) → Pressed keys more old new up kids → (f ≡ true → f' ≡ true)
      → hidden_in (record { hidden = h; forced = f' }) row ≡ false
      → One (old row.key) (new row.key) (asked more (Branch row kids Nothing) ≡ 0 → asked keys (Branch row kids Nothing) ≡ 0)
      (hidden_in (record { hidden = h; forced = f' }) row ≡ false → asked more (Branch row kids Nothing) ≡ 0 → IsPressed (record { hidden = h; forced = f' }) (new row.key))
      → ShownView keys old (record { hidden = h; forced = f }) (old row.key) row kids → ShownView more new (record { hidden = h; forced = f' }) (new row.key) row kids
  shown_one h f f' row kids up q mono shown (inl p) v = subst (λ own. ShownView more new (record { hidden = h; forced = f' }) own row kids) (sym p.0) (record {
    flags = λ z y. mono (v.flags (p.1 z) y);
    cache = λ z. v.cache (p.1 z);
    sized = λ z y. let s = v.sized (p.1 z) y in
        record { size = s.size; finals = λ m. specs-pressed up kids q ∙ s.finals m; total = s.total; edges = λ m c. edges-pressed up kids q ∙ s.edges m c };
    placed = λ z y calm rect lies. places-pressed up kids q ∙ v.placed (p.1 z) y calm rect lies;
    ranged = λ z y calm rect lies. ap (λ first. brought (range_by row.view.class row.view.facts (Some rect) first) (old row.key).offset) (first-pressed up kids q) ∙ v.ranged (p.1 z) y calm rect lies;
  })
  shown_one h f f' row kids up q mono shown (inr p) v = record {
    flags = λ z y. (p.1 shown z).above;
    cache = λ z specs size y. none_found (new row.key) specs size (p.1 shown z).cache y;
    sized = λ z y. absurd (both_ways _ y (p.1 shown z).forced);
    placed = λ z y. absurd (both_ways _ y (p.1 shown z).forced);
    ranged = λ z y. absurd (both_ways _ y (p.1 shown z).forced);
  }

  pub pressed_kept : (h f f' : Bool) (list : Forest Row) → Pressed keys more old new (record { hidden = h; forced = f' }) list → (f ≡ true → f' ≡ true)
      → Kept keys old (record { hidden = h; forced = f }) list → Kept more new (record { hidden = h; forced = f' }) list
  pressed_kept h f f' Nothing q mono k = tt
  pressed_kept h f f' (Branch row kids siblings) q mono k = (
    λ y. (one_touched (old row.key) (new row.key) _ _ q.0).hidden (k.0 y),
    λ y. shown_one h f f' row kids _ q.1 mono y q.0 (k.1 y),
    pressed_kept (hidden_in (record { hidden = h; forced = f' }) row) (old row.key).state.forced (new row.key).state.forced kids q.1 (one_touched (old row.key) (new row.key) _ _ q.0).forced k.2,
    pressed_kept h f f' siblings q.2 mono k.3,
  )
