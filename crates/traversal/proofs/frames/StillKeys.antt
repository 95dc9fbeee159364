-- Views of a tree of which a pass asks nothing new are still, so that it measures few others.
use Rattle.std.proofs.Common.{◌≡◌, ◌<◌, ◌≤◌, ◌+◌, ℕ, suc, Bool, true, false, sym, ◌∙◌, ap, subst, arith, inl, inr}
use Rattle.std.proofs.lemmas.Bool.{cases_Bool}
use Rattle.geom_core.specs.declared.geometry.Size.{Size}
use Rattle.kept_views.specs.Kept.{Reached}
use Rattle.measure_pass.specs.Caches.{AskedAt, AskedBy}
use Rattle.measure_pass.specs.Sharing.{AreSpared, SharesOut, most}
use Rattle.measure_pass.proofs.Shares.{most_shared, unmarked}
use Rattle.view_model.specs.Facts.{is_shown}
use Rattle.view_model.specs.Forest.{Forest, Nothing, Branch}
use Rattle.view_model.specs.Layout.{course_by, for_layout, root_specs}
use Rattle.view_model.specs.Measuring.{Specs}
use Rattle.view_tree.specs.Rows.{Row, count_of_key, head_view}
use Rattle.view_tree.specs.Views.{Held, IsLive, IsTree, Views, held_of, number_of, plain_of, plain_rows, scrolled, specs_of}
use Rattle.view_tree.proofs.forest.KeyLaws.{Within, count_of_key-within, from_within, here, times_self}
use Rattle.view_tree.proofs.values.LayoutLaws.{children_scrolled}
use Rattle.traversal.specs.Growing.{AskedOf, IsMeasuredByPass, IsMeasuredIn}
use Rattle.traversal.specs.Unasked.{IsUnasked}
use Rattle.traversal.proofs.frames.GrownKeys.{by_pass}
use Rattle.traversal.proofs.offsets.Ranging.{within_kids, within_siblings}

module _ (views : Views) (is : IsTree views) (window : Size) (calm : ℕ → Bool) (unasked : (key : ℕ) → IsLive views key → calm key ≡ true → IsUnasked views window key) where
  still_at : (ok fine : ℕ → Specs → Type 0) (list : Forest Row) → Within list views.tree → Reached (held_of views) false list → ((place : ℕ) (specs : Specs) → ok place specs → fine place specs)
      → ((number : ℕ) (specs : Specs) → IsMeasuredIn fine (plain_rows (held_of views) list) number specs → IsMeasuredByPass (plain_of views) window number specs)
      → AreSpared calm ok (held_of views) list
  still_at ok fine Nothing w reached f lift = tt
  still_at ok fine (Branch row kids siblings) w reached f lift =
      let held = held_of views in
      let state = (held row.key).state in
      let flags = unmarked state.layout_needed state.measure_first (λ needed. (reached.0 needed).1) reached.1 in
      let number : row.view.number ≡ number_of views row.key = sym (ap (λ (part : Forest Row). (head_view part).number) (from_within row kids siblings w (is.keys row.key))) in
      let live : 0 < count_of_key row.key views.tree =
      (let among = count_of_key-within row.key w in
      let self = times_self row kids siblings in
      omega arith) in (
        λ chosen.
            let own = unasked row.key live chosen in
            let asked : (specs : Specs) → ok 0 specs → (state.forced ≡ false) × (specs_of state ≡ specs) =
            λ specs h. own specs (lift (number_of views row.key) specs (inl (number, f 0 specs h))) in
            elim (cases_Bool state.forced) [
              | inl forced ↦ inr (λ specs h. let no : true ≡ false = sym forced ∙ (asked specs h).0 in absurd (cc))
              | inr free ↦ inl (record { forced = free; needed = flags.0; marked = flags.1; asked = λ specs h. (asked specs h).1 })
            ],
        still_at (AskedBy row kids (ok 0)) (AskedOf (scrolled held row) (plain_rows held kids) (fine 0)) kids (within_kids w) (subst (λ needed. Reached held needed kids) flags.0 reached.2)
            (λ place specs h. (h.0, f 0 h.0 h.1, subst (λ list. AskedAt (course_by (for_layout row.view) list h.0).kids place specs) (sym (children_scrolled held kids)) h.2))
            (λ number specs m. lift number specs (inr (inl m))),
        still_at (λ place. ok (suc place)) (λ place. fine (suc place)) siblings (within_siblings w) reached.3 (λ place. f (suc place)) (λ number specs m. lift number specs (inr (inr m))),
      )

  -- how much a pass measures
  pub few_pass : (new : ℕ → Held) (first last : ℕ) → is_shown (head_view views.tree).facts ≡ true → Reached (held_of views) false views.tree
      → SharesOut (λ place other. other ≡ root_specs window (head_view views.tree).facts) (λ place. 1) (held_of views) new views.tree first last → last ≤ first + most calm 1 views.tree
  few_pass new first last shown reached shares =
      let ok : ℕ → Specs → Type 0 = λ place other. other ≡ root_specs window (head_view views.tree).facts in
      let still = still_at ok ok views.tree here reached (λ place specs h. h) (λ number specs m. by_pass views is (held_of views) (held_of views) (held_of views) views.tree window number specs shown m) in
      let few = most_shared calm ok (λ place. 1) 1 (held_of views) new views.tree shares.count (λ place. omega arith) reached still shares.shared in
      let spent = shares.spent in
      omega arith
