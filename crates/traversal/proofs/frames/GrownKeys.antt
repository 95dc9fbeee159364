-- How the cache of each view of a tree grows in a pass, and in the passes of a frame.
use Rattle.std.proofs.Common.{◌≡◌, ◌<◌, ◌+◌, ℕ, suc, true, List, [], sym, ◌∙◌, ap, subst, arith, inl, inr}
use Rattle.std.proofs.lemmas.Bool.{cases_eq, ne_eqb}
use Rattle.std.specs.Prelude.{if◌then◌else◌}
use Rattle.geom_core.specs.declared.geometry.Size.{Size}
use Rattle.measure_pass.specs.Caches.{AskedAt, AskedBy, Grew, Grown}
use Rattle.measure_pass.proofs.held.Grows.{Grown-mono, Grown-trans}
use Rattle.view_model.specs.Facts.{is_shown}
use Rattle.view_model.specs.Forest.{Forest, Nothing, Branch}
use Rattle.view_model.specs.Layout.{course_by, for_layout, root_specs}
use Rattle.view_model.specs.Measuring.{Specs}
use Rattle.view_tree.specs.Rows.{Row, count_of_key, head_view, no_view}
use Rattle.view_tree.specs.Views.{Held, IsTree, Views, cache_of, held_of, number_of, plain_of, plain_rows, scrolled}
use Rattle.view_tree.proofs.forest.KeyLaws.{Within, from_within, here}
use Rattle.view_tree.proofs.values.LayoutLaws.{children_scrolled}
use Rattle.size_hooks.specs.Hook.{Hook}
use Rattle.traversal.specs.Changing.{SameShape}
use Rattle.traversal.specs.Frames.{after_pass}
use Rattle.traversal.specs.Growing.{AskedOf, IsMeasuredByFrame, IsMeasuredByPass, IsMeasuredIn, IsUnedited, frame_edits, pass_edits}
use Rattle.traversal.proofs.offsets.Ranging.{within_kids, within_siblings}
use Rattle.traversal.proofs.laid.ShapeLaws.{number_of-same}
use Rattle.traversal.proofs.hooks.Unedited.{unedited_left, unedited_right, unedited_same}

abbrev one_view : ℕ → Forest Row
one_view key = Branch (record { key = key; view = no_view }) Nothing Nothing

-- puts in the cache of one view, and more of them
pub grew_then : (ok : Specs → Type 0) (old mid new : ℕ → Held) (key : ℕ) → Grew ok (old key).cache (mid key).cache → Grew ok (mid key).cache (new key).cache → Grew ok (old key).cache (new key).cache
grew_then ok old mid new key g h = (Grown-trans (λ place. ok) old mid new (one_view key) (g, tt, tt) (h, tt, tt)).0

pub grew_more : (p q : Specs → Type 0) (old new : ℕ → Held) (key : ℕ) → ((specs : Specs) → p specs → q specs) → Grew p (old key).cache (new key).cache → Grew q (old key).cache (new key).cache
grew_more p q old new key f g = (Grown-mono (λ place. p) (λ place. q) old new (one_view key) (λ place. f) (g, tt, tt)).0

module _ (views : Views) (is : IsTree views) (scroll old new : ℕ → Held) where
  grown_at : (ok fine : ℕ → Specs → Type 0) (list : Forest Row) → Within list views.tree → (key : ℕ) → 0 < count_of_key key list → ((place : ℕ) (specs : Specs) → ok place specs → fine place specs)
      → Grown ok old new list → Grew (IsMeasuredIn fine (plain_rows scroll list) (number_of views key)) (old key).cache (new key).cache
  grown_at ok fine Nothing w key some f g = absurd (omega arith)
  grown_at ok fine (Branch row kids siblings) w key some f g =
      let all = IsMeasuredIn fine (plain_rows scroll (Branch row kids siblings)) (number_of views key) in
      elim (cases_eq row.key key) [
        | inl e ↦
            let number : row.view.number ≡ number_of views key = sym (ap (λ (part : Forest Row). (head_view part).number) (from_within row kids siblings w (is.keys row.key))) ∙ ap (number_of views) e in
            subst (λ key'. Grew all (old key').cache (new key').cache) e (grew_more (ok 0) all old new row.key (λ specs h. inl (number, f 0 specs h)) g.0)
        | inr ne ↦
            let some : 0 < 0 + (count_of_key key kids + count_of_key key siblings) = rw (ne_eqb row.key key ne) at some in
            elim (cases_eq (count_of_key key kids) 0) [
              | inl none ↦
                  grew_more (IsMeasuredIn (λ place. fine (suc place)) (plain_rows scroll siblings) (number_of views key)) all old new key (λ specs h. inr (inr h))
                  (grown_at (λ place. ok (suc place)) (λ place. fine (suc place)) siblings (within_siblings w) key (omega arith) (λ place. f (suc place)) g.2)
              | inr below ↦
                  grew_more (IsMeasuredIn (AskedOf (scrolled scroll row) (plain_rows scroll kids) (fine 0)) (plain_rows scroll kids) (number_of views key)) all old new key (λ specs h. inr (inl h))
                  (grown_at (AskedBy row kids (ok 0)) (AskedOf (scrolled scroll row) (plain_rows scroll kids) (fine 0)) kids (within_kids w) key (omega arith)
                  (λ place specs h. (h.0, f 0 h.0 h.1, subst (λ list. AskedAt (course_by (for_layout row.view) list h.0).kids place specs) (sym (children_scrolled scroll kids)) h.2)) g.1)
            ]
      ]

  pub by_pass : (tree : Forest Row) (window : Size) (number : ℕ) (specs : Specs) → is_shown (head_view tree).facts ≡ true
      → IsMeasuredIn (λ place other. other ≡ root_specs window (head_view tree).facts) (plain_rows scroll tree) number specs → IsMeasuredByPass (plain_rows scroll tree) window number specs
  by_pass Nothing window number specs shown m = m
  by_pass (Branch row kids siblings) window number specs shown m = (shown, m)

  -- in a pass that begins with these views
  pub grown_pass : (window : Size) (key : ℕ) → 0 < count_of_key key views.tree → is_shown (head_view views.tree).facts ≡ true
      → Grown (λ place other. other ≡ root_specs window (head_view views.tree).facts) old new views.tree
      → Grew (IsMeasuredByPass (plain_rows scroll views.tree) window (number_of views key)) (old key).cache (new key).cache
  grown_pass window key live shown g =
      let ok : ℕ → Specs → Type 0 = λ place other. other ≡ root_specs window (head_view views.tree).facts in
      grew_more (IsMeasuredIn ok (plain_rows scroll views.tree) (number_of views key)) (IsMeasuredByPass (plain_rows scroll views.tree) window (number_of views key)) old new key
      (λ specs m. by_pass views.tree window (number_of views key) specs shown m)
      (grown_at ok ok views.tree here key live (λ place specs h. h) g)

-- in a frame of one pass
pub grown_once : (old new : Views) (hooks : List Hook) (window : Size) (key : ℕ) → IsUnedited old.tree (frame_edits (plain_of old) hooks window) key
    → (IsUnedited old.tree (pass_edits (plain_of old) hooks window) key → Grew (IsMeasuredByPass (plain_of old) window (number_of old key)) (cache_of old key) (cache_of new key))
    → Grew (IsMeasuredByFrame (plain_of old) hooks window (number_of old key)) (cache_of old key) (cache_of new key)
grown_once old new hooks window key un pass =
    grew_more (IsMeasuredByPass (plain_of old) window (number_of old key)) (IsMeasuredByFrame (plain_of old) hooks window (number_of old key)) (held_of old) (held_of new) key (λ specs h. inl h)
    (pass (unedited_left old.tree (pass_edits (plain_of old) hooks window) _ key un))

-- and of two
pub grown_twice : (old mid new : Views) (hooks between : List Hook) (window : Size) (key : ℕ) → (after_pass (plain_of old) hooks window).fired ≡ true → SameShape old mid
    → plain_of mid ≡ (after_pass (plain_of old) hooks window).tree → between ≡ (after_pass (plain_of old) hooks window).hooks → IsUnedited old.tree (frame_edits (plain_of old) hooks window) key
    → (IsUnedited old.tree (pass_edits (plain_of old) hooks window) key → Grew (IsMeasuredByPass (plain_of old) window (number_of old key)) (cache_of old key) (cache_of mid key))
    → (IsUnedited mid.tree (pass_edits (plain_of mid) between window) key → Grew (IsMeasuredByPass (plain_of mid) window (number_of mid key)) (cache_of mid key) (cache_of new key))
    → Grew (IsMeasuredByFrame (plain_of old) hooks window (number_of old key)) (cache_of old key) (cache_of new key)
grown_twice old mid new hooks between window key fired shape plain hooks_are un first second =
    let pass = after_pass (plain_of old) hooks window in
    let all = IsMeasuredByFrame (plain_of old) hooks window (number_of old key) in
    let one = grown_once old mid hooks window key un first in
    let right : IsUnedited old.tree (if pass.fired then pass_edits pass.tree pass.hooks window else []) key = unedited_right old.tree (pass_edits (plain_of old) hooks window) _ key un in
    let right : IsUnedited old.tree (pass_edits pass.tree pass.hooks window) key =
    subst (λ v. IsUnedited old.tree (if v then pass_edits pass.tree pass.hooks window else []) key) fired right in
    let same : pass_edits pass.tree pass.hooks window ≡ pass_edits (plain_of mid) between window =
    ap (λ tree. pass_edits tree pass.hooks window) (sym plain) ∙ ap (λ hooks. pass_edits (plain_of mid) hooks window) (sym hooks_are) in
    let two = second (unedited_same _ key shape (subst (λ edits. IsUnedited old.tree edits key) same right)) in
    let more : (specs : Specs) → IsMeasuredByPass (plain_of mid) window (number_of mid key) specs → all specs =
    λ specs h. inr (fired, subst (λ tree. IsMeasuredByPass tree window (number_of old key) specs) plain (subst (λ number. IsMeasuredByPass (plain_of mid) window number specs) (number_of-same key shape) h)) in
    grew_then all (held_of old) (held_of mid) (held_of new) key one
    (grew_more (IsMeasuredByPass (plain_of mid) window (number_of mid key)) all (held_of mid) (held_of new) key more two)
