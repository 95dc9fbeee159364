-- The least candidate of a list of views: that of its first view, of those below it, and of its later siblings.
use Rattle.std.proofs.Common.{◌≡◌, ℕ, ◌<◌, ℤ, Bool, true, false, List, [], ◌∷◌, ◌++◌, Option, Some, None, refl, sym, ap, ◌∙◌, subst, arith}
use Rattle.std.proofs.lemmas.List.Elements.{filter_map-append}
use Rattle.std.specs.Option.{option_map}
use Rattle.std.specs.Prelude.{◌==◌, ◌&&◌, ◌||◌, not, if◌then◌else◌, IfSome}
use Rattle.damage_rect.proofs.RectLaws.{and_none, holds_none, meet_none}
use Rattle.geom_core.specs.Rects.{empty_rect, holds, is_empty}
use Rattle.geom_core.specs.declared.geometry.Rect.{Rect}
use Rattle.seen_parts.proofs.MeetingLaws.{outside_unseen}
use Rattle.seen_parts.proofs.SeeingLaws.{unseen_below}
use Rattle.view_model.specs.declared.facts.Facts.{Facts}
use Rattle.view_model.specs.Forest.{Forest, Nothing, Branch}
use Rattle.view_model.specs.Painting.{is_drawn}
use Rattle.view_model.specs.PlainTree.{PlainView}
use Rattle.view_model.specs.Visible.{Canvas, canvas_below, moved_rect, seen_in}
use Rattle.view_tree.specs.Rows.{Row, children_of_first, count_of_key, first_tree, head_view, later_siblings, part_from}
use Rattle.view_tree.specs.Views.{Held, IsLive, Views, facts_of, held_of, scrolled, state_of, view_at}
use Rattle.view_tree.proofs.forest.KeyLaws.{located, times_self}
use Rattle.focus_finder.proofs.LeastLaws.{either_lesser, least-append, least-one, lesser-none}
use Rattle.focus_finder.specs.Focus.{candidate_of, is_candidate, is_focusable, is_low, key_of, least, lesser, lies_on, turned}
use Rattle.focus_finder.specs.Sights.{Sight, candidates_in, own_candidate, sights}
use Rattle.focus_finder.specs.declared.keys.FocusKey.{FocusKey}
use Rattle.focus_finder.specs.declared.searching.Candidate.{Candidate}
use Rattle.focus_finder.specs.declared.searching.Search.{Search}

-- the least candidate of a list
abbrev pub found : Search → (ℕ → Held) → Canvas → Forest Row → Option Candidate
found search held canvas list = least (candidates_in search (sights held canvas list))

abbrev pub shown_if : Bool → Option Candidate → Option Candidate
shown_if drawn one = if drawn then one else None

module _ (search : Search) where
  found_join : (drawn focusable : Bool) (sight : Sight) (below after : List Sight)
      → least (candidates_in search ((if drawn then (if focusable then sight ∷ [] else []) ++ below else []) ++ after))
      ≡ lesser (shown_if drawn (lesser (if focusable then candidate_of search.side search.view search.from sight.view sight.rect else None) (least (candidates_in search below)))) (least (candidates_in search after))
  found_join false focusable sight below after = sym (lesser-none (least (candidates_in search after)))
  found_join true focusable sight below after =
      ap least (filter_map-append (λ (sight : Sight). candidate_of search.side search.view search.from sight.view sight.rect) ((if focusable then sight ∷ [] else []) ++ below) after)
      ∙ least-append (candidates_in search ((if focusable then sight ∷ [] else []) ++ below)) (candidates_in search after)
      ∙ ap (λ (one : Option Candidate). lesser one (least (candidates_in search after))) (own focusable)
    where
      own : (focusable : Bool) → least (candidates_in search ((if focusable then sight ∷ [] else []) ++ below))
          ≡ lesser (if focusable then candidate_of search.side search.view search.from sight.view sight.rect else None) (least (candidates_in search below))
      own false = sym (lesser-none (least (candidates_in search below)))
      own true =
          ap least (filter_map-append (λ (sight : Sight). candidate_of search.side search.view search.from sight.view sight.rect) (sight ∷ []) below)
          ∙ least-append (candidates_in search (sight ∷ [])) (candidates_in search below)
          ∙ ap (λ (one : Option Candidate). lesser one (least (candidates_in search below))) (least-one (candidate_of search.side search.view search.from sight.view sight.rect))

  -- the first view, if it is drawn, with what is below it, and then its later siblings
  pub found-branch : (held : ℕ → Held) (canvas : Canvas) (row : Row) (kids siblings : Forest Row) → found search held canvas (Branch row kids siblings)
      ≡ lesser (shown_if (is_drawn row.view.facts.visibility) (lesser (own_candidate search row.view row.key (seen_in (held row.key).state.bounds canvas))
      (found search held (canvas_below (held row.key).state.bounds (scrolled held row).facts canvas) kids))) (found search held canvas siblings)
  found-branch held canvas row kids siblings =
      found_join (is_drawn row.view.facts.visibility) (is_focusable row.view) (record { view = row.key; rect = seen_in (held row.key).state.bounds canvas })
      (sights held (canvas_below (held row.key).state.bounds (scrolled held row).facts canvas) kids) (sights held canvas siblings)

  pub found-parts : (held : ℕ → Held) (canvas : Canvas) (list : Forest Row)
      → found search held canvas list ≡ lesser (found search held canvas (first_tree list)) (found search held canvas (later_siblings list))
  found-parts held canvas Nothing = refl
  found-parts held canvas (Branch row kids siblings) =
      found-branch held canvas row kids siblings
      ∙ ap (λ (one : Option Candidate). lesser one (found search held canvas siblings)) (sym (found-branch held canvas row kids Nothing))

  first_drawn : (held : ℕ → Held) (view : ℕ) (canvas : Canvas) (part : Forest Row) (row : Row) (kids siblings : Forest Row) → part ≡ Branch row kids siblings → row.key ≡ view
      → is_drawn (head_view part).facts.visibility ≡ true
      → found search held canvas (first_tree part)
      ≡ lesser (own_candidate search (record (head_view part) { facts = record (head_view part).facts { offset = (held view).offset } }) view (seen_in (held view).state.bounds canvas))
      (found search held (canvas_below (held view).state.bounds (record (head_view part).facts { offset = (held view).offset }) canvas) (children_of_first part))
  first_drawn held view canvas part row kids siblings is key drawn =
      let here : is_drawn row.view.facts.visibility ≡ true = subst (λ (list : Forest Row). is_drawn (head_view list).facts.visibility ≡ true) is drawn in
      rw (is, ← key) (found-branch held canvas row kids Nothing ∙ rw here refl)

  first_hidden : (held : ℕ → Held) (canvas : Canvas) (part : Forest Row) (row : Row) (kids siblings : Forest Row) → part ≡ Branch row kids siblings
      → is_drawn (head_view part).facts.visibility ≡ false → found search held canvas (first_tree part) ≡ None
  first_hidden held canvas part row kids siblings is hidden =
      let here : is_drawn row.view.facts.visibility ≡ false = subst (λ (list : Forest Row). is_drawn (head_view list).facts.visibility ≡ false) is hidden in
      rw is (found-branch held canvas row kids Nothing ∙ rw here refl)

  -- a view that is drawn, and then those below it
  pub found-drawn : (views : Views) (view : ℕ) (canvas : Canvas) → IsLive views view → is_drawn (facts_of views view).visibility ≡ true
      → found search (held_of views) canvas (first_tree (part_from view views.tree))
      ≡ lesser (own_candidate search (view_at views view) view (seen_in (state_of views view).bounds canvas))
      (found search (held_of views) (canvas_below (state_of views view).bounds (facts_of views view) canvas) (children_of_first (part_from view views.tree)))
  found-drawn views view canvas live drawn =
      let f = located view views.tree live in
      first_drawn (held_of views) view canvas (part_from view views.tree) f.row f.kids f.siblings f.is f.key_is drawn

  pub found-hidden : (views : Views) (view : ℕ) (canvas : Canvas) → IsLive views view → is_drawn (facts_of views view).visibility ≡ false
      → found search (held_of views) canvas (first_tree (part_from view views.tree)) ≡ None
  found-hidden views view canvas live hidden =
      let f = located view views.tree live in
      first_hidden (held_of views) canvas (part_from view views.tree) f.row f.kids f.siblings f.is hidden

  -- a view of which nothing is seen is no candidate
  pub nowhere_own : (view : PlainView) (key : ℕ) → own_candidate search view key empty_rect ≡ None
  nowhere_own view key =
      no_matter (is_focusable view) (key == search.view) (not (is_empty search.from)) (lies_on (is_low search.side) (turned search.side search.from) (turned search.side empty_rect))
      (record { view = key; key = key_of search.side search.from empty_rect })
    where
      no_matter : (focusable self some lies : Bool) (one : Candidate) → (if focusable then (if self || not ((some && false) && lies) then None else Some one) else None) ≡ None
      no_matter false self some lies one = refl
      no_matter true true some lies one = refl
      no_matter true false true lies one = refl
      no_matter true false false lies one = refl

  -- a candidate is the view itself
  own-view : (view : PlainView) (key : ℕ) (rect : Rect) → IfSome (own_candidate search view key rect) (λ one. one.view ≡ key)
  own-view view key rect =
      no_matter (is_focusable view) (key == search.view || not (is_candidate search.side search.from rect)) (key_of search.side search.from rect)
    where
      no_matter : (focusable not_one : Bool) (least_key : FocusKey)
          → IfSome (if focusable then (if not_one then None else Some (record { view = key; key = least_key })) else None) (λ (one : Candidate). one.view ≡ key)
      no_matter false not_one least_key = tt
      no_matter true true least_key = tt
      no_matter true false least_key = refl

unseen : (bounds : Option Rect) (canvas : Canvas) → ((x y : ℤ) → holds canvas.clip x y ≡ false) → seen_in bounds canvas ≡ empty_rect
unseen None canvas none = refl
unseen (Some rect) canvas none =
    meet_none (moved_rect rect canvas.left canvas.top) canvas.clip λ x y. and_none (holds (moved_rect rect canvas.left canvas.top) x y) (holds canvas.clip x y) (none x y)

-- nothing is seen of the children of a view that has no bounds, or of which nothing is seen
pub nowhere_below : (facts : Facts) (canvas : Canvas) (x y : ℤ) → holds (canvas_below None facts canvas).clip x y ≡ false
nowhere_below facts canvas x y = holds_none x y

unseen_inner : (bounds : Option Rect) (facts : Facts) (canvas : Canvas) (x y : ℤ) → holds canvas.clip x y ≡ false → holds (canvas_below bounds facts canvas).clip x y ≡ false
unseen_inner None facts canvas x y out = holds_none x y
unseen_inner (Some rect) facts canvas x y out = unseen_below facts rect canvas x y (outside_unseen (Some rect) canvas x y out)

-- where nothing is seen there is no candidate
pub found-unseen : (search : Search) (held : ℕ → Held) (canvas : Canvas) (list : Forest Row) → ((x y : ℤ) → holds canvas.clip x y ≡ false) → found search held canvas list ≡ None
found-unseen search held canvas Nothing none = refl
found-unseen search held canvas (Branch row kids siblings) none =
    let own : own_candidate search row.view row.key (seen_in (held row.key).state.bounds canvas) ≡ None =
    ap (own_candidate search row.view row.key) (unseen (held row.key).state.bounds canvas none) ∙ nowhere_own search row.view row.key in
    let below = found-unseen search held (canvas_below (held row.key).state.bounds (scrolled held row).facts canvas) kids
    (λ x y. unseen_inner (held row.key).state.bounds (scrolled held row).facts canvas x y (none x y)) in
    found-branch search held canvas row kids siblings
    ∙ rw (own, below, found-unseen search held canvas siblings none) (hidden (is_drawn row.view.facts.visibility))
  where
    hidden : (drawn : Bool) → lesser (shown_if drawn (lesser None None)) None ≡ None
    hidden true = refl
    hidden false = refl

implied : (P Q : Candidate → Type 0) (one : Option Candidate) → ((x : Candidate) → P x → Q x) → IfSome one P → IfSome one Q
implied P Q None more h = tt
implied P Q (Some one) more h = more one h

found_there : (drawn : Bool) (row : Row) (kids siblings : Forest Row) (own below after : Option Candidate) → IfSome own (λ one. one.view ≡ row.key)
    → IfSome below (λ one. 0 < count_of_key one.view kids) → IfSome after (λ one. 0 < count_of_key one.view siblings)
    → IfSome (lesser (shown_if drawn (lesser own below)) after) (λ one. 0 < count_of_key one.view (Branch row kids siblings))
found_there drawn row kids siblings own below after self under later =
    either_lesser IsThere (shown_if drawn (lesser own below)) after (shown drawn)
    (implied (λ one. 0 < count_of_key one.view siblings) IsThere after (λ x h. omega arith) later)
  where
    IsThere : Candidate → Type 0
    IsThere one = 0 < count_of_key one.view (Branch row kids siblings)

    shown : (drawn : Bool) → IfSome (shown_if drawn (lesser own below)) IsThere
    shown false = tt
    shown true =
        either_lesser IsThere own below
        (implied (λ one. one.view ≡ row.key) IsThere own (λ x h. subst (λ k. 0 < count_of_key k (Branch row kids siblings)) (sym h) (times_self row kids siblings)) self)
        (implied (λ one. 0 < count_of_key one.view kids) IsThere below (λ x h. omega arith) under)

-- the candidate that is found is a view of the list
pub found-live : (search : Search) (held : ℕ → Held) (canvas : Canvas) (list : Forest Row) → IfSome (found search held canvas list) (λ one. 0 < count_of_key one.view list)
found-live search held canvas Nothing = tt
found-live search held canvas (Branch row kids siblings) =
    let bounds = (held row.key).state.bounds in
    let inner = canvas_below bounds (scrolled held row).facts canvas in
    subst (λ (one : Option Candidate). IfSome one (λ one. 0 < count_of_key one.view (Branch row kids siblings))) (sym (found-branch search held canvas row kids siblings))
    (found_there (is_drawn row.view.facts.visibility) row kids siblings (own_candidate search row.view row.key (seen_in bounds canvas)) (found search held inner kids)
    (found search held canvas siblings) (own-view search row.view row.key (seen_in bounds canvas)) (found-live search held inner kids) (found-live search held canvas siblings))

pub live_view : (tree : Forest Row) (best : Option Candidate) → IfSome best (λ one. 0 < count_of_key one.view tree) → IfSome (option_map (λ (one : Candidate). one.view) best) (λ key. 0 < count_of_key key tree)
live_view tree None live = tt
live_view tree (Some best) live = live
