-- At which views an edit requests layout, and what it leaves of all others.
use Rattle.std.specs.Prelude.{◌≡◌, ℕ, ◌==◌, Bool, true, false, if◌then◌else◌, not, List, [], ◌∷◌, map, Option, Some}
use Rattle.std.specs.Prelude.{None}
use Rattle.kept_views.specs.Pressing.{path_of}
use Rattle.view_model.specs.declared.changes.Act.{Act}
use Rattle.view_model.specs.Changes.{facts_after_act}
use Rattle.view_model.specs.Directed.{turned}
use Rattle.view_model.specs.Facets.{touched_by}
use Rattle.view_model.specs.Facts.{unscrolled_facts}
use Rattle.view_model.specs.Forest.{Forest}
use Rattle.view_model.specs.PlainTree.{PlainView}
use Rattle.view_tree.specs.tree.Requests.{among}
use Rattle.view_tree.specs.Rows.{Row, ancestors, changed_at_key, count_of_key, first_tree, part_from}
use Rattle.view_tree.specs.Views.{IsLive, Views, cache_of, state_of}
use Rattle.tree_edits.specs.declared.edits.Edit.{Edit}
use Rattle.tree_edits.specs.declared.edits.Edit.TheVariants as edit
use Rattle.tree_edits.specs.Editing.{hides, turns}

-- whether an act may change the layout
abbrev pub requests_layout : Act → Bool
requests_layout act = (touched_by act).asks

-- a view, if there is one
abbrev pub listed : Option ℕ → List ℕ
listed None = []
listed (Some view) = view ∷ []

-- the first of these, if there is one
abbrev pub nearest : List ℕ → List ℕ
nearest [] = []
nearest (first ∷ more) = first ∷ []

-- the view of a row after an act
abbrev pub acted_view : Act → PlainView → PlainView
acted_view act view = record view { facts = unscrolled_facts (facts_after_act act view.facts) }

-- the view of an act, if it may change the layout
abbrev pub asked_by_act : ℕ → Act → List ℕ
asked_by_act view act = if requests_layout act then view ∷ [] else []

-- the view of an act that sets a direction, and each view that runs another way after it
abbrev pub asked_by_turn : Forest Row → ℕ → Act → List ℕ
asked_by_turn tree view act =
    view
    ∷ map (λ (row : Row). row.key)
    (turned (λ (row : Row). row.view.facts) false (changed_at_key view (acted_view act) tree))

-- the views at which an edit requests layout
abbrev pub asked_by : Views → Edit → List ℕ
asked_by views (edit.Add parent class width height) = listed parent
asked_by views (edit.Remove view) = nearest (ancestors view views.tree)
asked_by views (edit.Act view act) = if turns act then asked_by_turn views.tree view act else asked_by_act view act
asked_by views (edit.Text view text) = view ∷ []

-- whether a view is one of these, or around one of them
abbrev pub is_on_paths : List ℕ → Forest Row → ℕ → Bool
is_on_paths [] tree key = false
is_on_paths (view ∷ views) tree key = if among key (path_of view tree) then true else is_on_paths views tree key

-- whether a view is this one, or below it
abbrev pub is_in_part : ℕ → Forest Row → ℕ → Bool
is_in_part view tree key = not (count_of_key key (first_tree (part_from view tree)) == 0)

-- whether an edit takes a view out of layout
abbrev pub goes_out : Views → Edit → ℕ → Bool
goes_out views (edit.Add parent class width height) key = false
goes_out views (edit.Remove view) key = false
goes_out views (edit.Act view act) key = if hides act then is_in_part view views.tree key else false
goes_out views (edit.Text view text) key = false

-- whether an edit may change what layout keeps of a view: it requests layout there or below, or takes the view out of
-- layout
abbrev pub excused : Views → Edit → ℕ → Bool
excused views edit key = if is_on_paths (asked_by views edit) views.tree key then true else goes_out views edit key

-- all other views that stay keep what layout left with them, and their sizes
abbrev pub LeavesUnasked : Views → Views → Edit → Type 0
LeavesUnasked old new edit =
    (key : ℕ) → IsLive old key → IsLive new key → excused old edit key ≡ false
    → (state_of new key ≡ state_of old key) × (cache_of new key ≡ cache_of old key)
