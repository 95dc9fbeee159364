-- The candidates of the plain tree, by the numbers of views, are those of the walk, by their keys.
use Rattle.std.proofs.Common.{◌≡◌, ◌≢◌, ℕ, ◌<◌, ◌≤◌, ◌+◌, Bool, true, false, List, [], ◌∷◌, ◌++◌, Option, Some, None, refl, sym, ap, ◌∙◌, arith}
use Rattle.std.proofs.lemmas.Bool.{eq-eqb, ne_eqb}
use Rattle.std.proofs.lemmas.List.{map-append}
use Rattle.std.proofs.lemmas.List.Elements.{filter_map-append}
use Rattle.std.specs.List.{cons_option, filter_map}
use Rattle.std.specs.Option.{option_map}
use Rattle.std.specs.Prelude.{◌==◌, ◌||◌, not, if◌then◌else◌, map}
use Rattle.geom_core.specs.declared.geometry.Rect.{Rect}
use Rattle.geom_core.specs.declared.geometry.Size.{Size}
use Rattle.seen_parts.proofs.SeenLaws.{seen_visible}
use Rattle.seen_parts.specs.Meeting.{canvas_around}
use Rattle.view_model.specs.Forest.{Forest, Nothing, Branch}
use Rattle.view_model.specs.Painting.{is_drawn}
use Rattle.view_model.specs.Visible.{Canvas, canvas_below, seen_in, visible_rect, whole_window}
use Rattle.view_tree.specs.Rows.{Row, count_of_key, head_view}
use Rattle.view_tree.specs.Views.{IsLive, IsTree, Views, geometry_of, held_of, number_of, plain_of, plain_rows, scrolled}
use Rattle.view_tree.proofs.forest.Forests.{Within-children_of_first, Within-later_siblings}
use Rattle.view_tree.proofs.forest.KeyLaws.{Agree, Within, count_of_key-within, from_within, here, times_self, own_more}
use Rattle.view_tree.proofs.forest.PlainLaws.{agree_live}
use Rattle.focus_finder.proofs.LeastLaws.{least-renamed, renamed}
use Rattle.focus_finder.specs.Focus.{candidate_of, focusable, is_candidate, is_focusable, key_of, least, next_focus}
use Rattle.focus_finder.specs.Sights.{Sight, candidates_in, sights}
use Rattle.focus_finder.specs.declared.keys.FocusKey.{FocusKey}
use Rattle.focus_finder.specs.declared.searching.Candidate.{Candidate}
use Rattle.focus_finder.specs.declared.searching.Search.{Search}

map-cons_option : {X Y : Type 0} (f : X → Y) (one : Option X) (xs : List X) → map f (cons_option one xs) ≡ cons_option (option_map f one) (map f xs)
map-cons_option f None xs = refl
map-cons_option f (Some one) xs = refl

-- two readings of two lists that agree on the parts of these agree
module _ {A B C D : Type 0} (g : A → Option D) (h : B → Option C) (r : C → D) where
  agree_joined : (below after : List A) (below' after' : List B) → filter_map g below ≡ map r (filter_map h below') → filter_map g after ≡ map r (filter_map h after')
      → filter_map g (below ++ after) ≡ map r (filter_map h (below' ++ after'))
  agree_joined below after below' after' under later =
      filter_map-append g below after
      ∙ ap (λ l. l ++ filter_map g after) under
      ∙ ap (λ l. map r (filter_map h below') ++ l) later
      ∙ sym (map-append r (filter_map h below') (filter_map h after'))
      ∙ sym (ap (map r) (filter_map-append h below' after'))

  agree_branch : (drawn takes : Bool) (a : A) (b : B) (below after : List A) (below' after' : List B) → g a ≡ option_map r (h b)
      → filter_map g below ≡ map r (filter_map h below') → filter_map g after ≡ map r (filter_map h after')
      → filter_map g ((if drawn then (if takes then a ∷ [] else []) ++ below else []) ++ after)
      ≡ map r (filter_map h ((if drawn then (if takes then b ∷ [] else []) ++ below' else []) ++ after'))
  agree_branch false takes a b below after below' after' own under later = later
  agree_branch true false a b below after below' after' own under later = agree_joined below after below' after' under later
  agree_branch true true a b below after below' after' own under later =
      ap (λ one. cons_option one (filter_map g (below ++ after))) own
      ∙ ap (cons_option (option_map r (h b))) (agree_joined below after below' after' under later)
      ∙ sym (map-cons_option r (h b) (filter_map h (below' ++ after')))

module _ (views : Views) (window : Size) (search : Search) (is : IsTree views) (from_is : search.from ≡ visible_rect (plain_of views) (geometry_of views) window (number_of views search.view)) where
  abbrev seen : ℕ → Rect
  seen = visible_rect (plain_of views) (geometry_of views) window

  abbrev by_number : ℕ → Option Candidate
  by_number other = candidate_of search.side (number_of views search.view) search.from other (seen other)

  abbrev by_key : Sight → Option Candidate
  by_key sight = candidate_of search.side search.view search.from sight.view sight.rect

  own_same : (key number : ℕ) (rect : Rect) → (number == number_of views search.view) ≡ (key == search.view) → number_of views key ≡ number → seen number ≡ rect
      → by_number number ≡ option_map (renamed (number_of views)) (by_key (record { view = key; rect = rect }))
  own_same key number rect agree named at =
      rw (agree, at) (no_matter (key == search.view || not (is_candidate search.side search.from rect)) (key_of search.side search.from rect))
    where
      no_matter : (not_one : Bool) (own : FocusKey)
          → (if not_one then None else Some (record { view = number; key = own })) ≡ option_map (renamed (number_of views)) (if not_one then None else Some (record { view = key; key = own }))
      no_matter true own = refl
      no_matter false own = ap (λ n. let one : Candidate = record { view = n; key = own } in Some one) (sym named)

  -- each view of a list lies in the canvas in which the list does
  abbrev LieIn : Canvas → Forest Row → Type 0
  LieIn canvas list =
      (k : ℕ) → 0 < count_of_key k list → canvas_around (held_of views) (whole_window window) k views.tree ≡ canvas_around (held_of views) canvas k list

  candidates_same : (canvas : Canvas) (list : Forest Row) → Within list views.tree → Agree search.view (number_of views search.view) list → LieIn canvas list
      → filter_map by_number (focusable (plain_rows (held_of views) list)) ≡ map (renamed (number_of views)) (filter_map by_key (sights (held_of views) canvas list))
  candidates_same canvas Nothing within agree lie = refl
  candidates_same canvas (Branch row kids siblings) within agree lie =
      agree_branch by_number by_key (renamed (number_of views)) (is_drawn row.view.facts.visibility) (is_focusable row.view) row.view.number
      (record { view = row.key; rect = seen_in (held_of views row.key).state.bounds canvas })
      (focusable (plain_rows (held_of views) kids)) (focusable (plain_rows (held_of views) siblings)) (sights (held_of views) inner kids) (sights (held_of views) canvas siblings)
      (own_same row.key row.view.number (seen_in (held_of views row.key).state.bounds canvas) agree.0 named at)
      (candidates_same inner kids (Within-children_of_first within) agree.1 below)
      (candidates_same canvas siblings (Within-later_siblings within) agree.2 after)
    where
      inner : Canvas
      inner = canvas_below (held_of views row.key).state.bounds (scrolled (held_of views) row).facts canvas

      live : IsLive views row.key
      live = let w = count_of_key-within row.key within in let s = times_self row kids siblings in omega arith

      once : (k : ℕ) → count_of_key k (Branch row kids siblings) ≤ 1
      once k = let w = count_of_key-within k within in let o = is.keys k in omega arith

      named : number_of views row.key ≡ row.view.number
      named = ap (λ (list : Forest Row). (head_view list).number) (from_within row kids siblings within (is.keys row.key))

      here_around : canvas_around (held_of views) canvas row.key (Branch row kids siblings) ≡ canvas
      here_around = rw (eq-eqb row.key row.key refl) refl

      at : seen row.view.number ≡ seen_in (held_of views row.key).state.bounds canvas
      at =
          ap seen (sym named)
          ∙ seen_visible views window row.key is live
          ∙ ap (seen_in (held_of views row.key).state.bounds) (lie row.key (times_self row kids siblings) ∙ here_around)

      below : LieIn inner kids
      below k some =
          let ne : row.key ≢ k = λ e. let o = once k in let more = own_more row kids siblings k e in absurd (omega arith) in
          let nz : count_of_key k kids ≡ 0 → ⊥ = λ z. absurd (omega arith) in
          lie k (omega arith) ∙ (let inside : canvas_around (held_of views) canvas k (Branch row kids siblings) ≡ canvas_around (held_of views) inner k kids =
          rw (ne_eqb row.key k ne, ne_eqb (count_of_key k kids) 0 nz) refl in inside)

      after : LieIn canvas siblings
      after k some =
          let ne : row.key ≢ k = λ e. let o = once k in let more = own_more row kids siblings k e in absurd (omega arith) in
          let none : count_of_key k kids ≡ 0 = let o = once k in omega arith in
          lie k (omega arith) ∙ (let beside : canvas_around (held_of views) canvas k (Branch row kids siblings) ≡ canvas_around (held_of views) canvas k siblings =
          rw (ne_eqb row.key k ne, eq-eqb (count_of_key k kids) 0 none) refl in beside)

  pub next_focus-keyed : IsLive views search.view
      → option_map (number_of views) (option_map (λ (one : Candidate). one.view) (least (candidates_in search (sights (held_of views) (whole_window window) views.tree))))
      ≡ next_focus (plain_of views) (geometry_of views) window (number_of views search.view) search.side
  next_focus-keyed live =
      names (least (candidates_in search (sights (held_of views) (whole_window window) views.tree)))
      ∙ ap (option_map (λ (one : Candidate). one.view))
      (sym (least-renamed (number_of views) (candidates_in search (sights (held_of views) (whole_window window) views.tree)))
      ∙ ap least (sym (candidates_same (whole_window window) views.tree here (agree_live views search.view is live) (λ k some. refl))))
      ∙ ap (λ (from : Rect). option_map (λ (one : Candidate). one.view)
      (least (filter_map (λ other. candidate_of search.side (number_of views search.view) from other (seen other)) (focusable (plain_of views))))) from_is
    where
      names : (one : Option Candidate) → option_map (number_of views) (option_map (λ (one : Candidate). one.view) one)
          ≡ option_map (λ (one : Candidate). one.view) (option_map (renamed (number_of views)) one)
      names None = refl
      names (Some one) = refl
