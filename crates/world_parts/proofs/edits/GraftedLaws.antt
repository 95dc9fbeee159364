-- A sapling that was added, and the request for layout at its parent.
use Rattle.std.proofs.Common.{◌≡◌, ℕ, ◌<◌, Bool, true, false, Option, Some, None, refl, sym, ◌∙◌, ap, subst, arith}
use Rattle.std.specs.Prelude.{IfSome, if◌then◌else◌}
use Rattle.std.specs.Option.{option_map}
use Rattle.kept_views.proofs.grown.GraftedKept.{grafted_kept, grafted_live, grafted_root, grafted_unasked}
use mathlib.Core.Path.{fun_ext}
use Rattle.kept_views.specs.Kept.{IsConsistent, IsKept}
use Rattle.kept_views.specs.Pressing.{path_of}
use Rattle.tree_edits.proofs.SpreadLaws.{runs_named}
use Rattle.tree_edits.specs.Asking.{is_on_paths, listed}
use Rattle.view_model.specs.Directed.{directed}
use Rattle.view_model.specs.Forest.{Forest, Nothing}
use Rattle.view_model.specs.Growth.{grown_at}
use Rattle.view_model.specs.Sprouts.{Seed, numbered}
use Rattle.view_tree.proofs.forest.PlainLaws.{plain_along}
use Rattle.view_tree.proofs.values.GeometryLaws.{geometry-gained, laid_along}
use Rattle.view_tree.specs.tree.Grafted.{Grafted}
use Rattle.view_tree.specs.tree.Requests.{among, asking, forced_one, requested}
use Rattle.view_tree.specs.Rows.{Row, count_of_key}
use Rattle.view_tree.specs.Views.{Held, IsLive, IsTree, SameTree, Views, held_of, laid_rows, number_of, plain_of, plain_rows}
use Rattle.world_parts.specs.Places.{HasGained}
use Rattle.tree_edits.proofs.RequestLaws.{KeepsPlace}

-- the parent is still there
pub place_live : (old mid : Views) (sapling : Forest Seed) (place : Option ℕ) (key : ℕ) → IfSome place (λ (view : ℕ). IsLive old view) → Grafted old place sapling key mid → IfSome place (λ (view : ℕ). IsLive mid view)
place_live old mid sapling None key live came = tt
place_live old mid sapling (Some parent) key live came = grafted_live old mid sapling parent key live came

pressed_place : (own : Held) (forced : Bool) → KeepsPlace own (if forced then forced_one own else own)
pressed_place own true = record { bounds = refl; offset = refl }
pressed_place own false = record { bounds = refl; offset = refl }

listed_place : (mid : Views) (place : Option ℕ) (key : ℕ) → KeepsPlace (held_of mid key) (requested (held_of mid) (listed place) mid.tree key)
listed_place mid None key = record { bounds = refl; offset = refl }
listed_place mid (Some view) key = pressed_place (held_of mid key) (among key (asking (held_of mid) view mid.tree))

module _ (old mid new : Views) (sapling : Forest Seed) (place : Option ℕ) (key : ℕ) (is : IsTree old) (after : IsTree mid) (live : IfSome place (λ (view : ℕ). IsLive old view)) (root : place ≡ None → old.tree ≡ Nothing)
    (came : Grafted old place sapling key mid) (same : SameTree mid new) (held : (other : ℕ) → held_of new other ≡ requested (held_of mid) (listed place) mid.tree other) where
  kept_place : (other : ℕ) → KeepsPlace (held_of mid other) (held_of new other)
  kept_place other = subst (KeepsPlace (held_of mid other)) (sym (held other)) (listed_place mid place other)

  pub has_gained : HasGained old place sapling new
  has_gained = record {
    plain = ap (plain_rows (held_of new)) same.tree ∙ plain_along (held_of mid) (held_of new) mid.tree (λ other there. (kept_place other).offset) ∙ came.plain
        ∙ ap (λ (rtl : Bool). grown_at (option_map (number_of old) place) (directed rtl (numbered old.next sapling)) (plain_of old)) (runs_named old place is live);
    next = same.next ∙ came.next;
    geometry = ap (laid_rows (held_of new)) same.tree ∙ laid_along (held_of mid) (held_of new) mid.tree (λ other there. (kept_place other).bounds)
        ∙ geometry-gained old mid place came.added root came.gained;
  }

-- the tree is consistent again
pub grafted_consistent : (old mid new : Views) (sapling : Forest Seed) (place : Option ℕ) (key : ℕ) → IsTree old → IsTree mid → IfSome place (λ (view : ℕ). IsLive old view) → Grafted old place sapling key mid
    → SameTree mid new → ((other : ℕ) → held_of new other ≡ requested (held_of mid) (listed place) mid.tree other) → IsConsistent old → IsConsistent new
grafted_consistent old mid new sapling None key is after live came same held consistent =
    let now : IsKept (held_of mid) mid.tree = grafted_root old mid sapling key came in
    subst (IsKept (held_of new)) (sym same.tree) (subst (λ (h : ℕ → Held). IsKept h mid.tree) (sym (fun_ext held)) now)
grafted_consistent old mid new sapling (Some parent) key is after live came same held consistent = grafted_kept old mid new sapling parent key is after live came same.tree held consistent

-- each view that was there and is on no path of the parent keeps all that is kept of it
pub grafted_leaves : (old mid new : Views) (sapling : Forest Seed) (place : Option ℕ) (key : ℕ) → IsTree old → IsTree mid → IfSome place (λ (view : ℕ). IsLive old view) → (place ≡ None → old.tree ≡ Nothing)
    → Grafted old place sapling key mid → SameTree mid new → ((other : ℕ) → held_of new other ≡ requested (held_of mid) (listed place) mid.tree other)
    → (other : ℕ) → IsLive old other → is_on_paths (listed place) old.tree other ≡ false → held_of new other ≡ held_of old other
grafted_leaves old mid new sapling None key is after live root came same held other there free = absurd (none there)
  where
    none : 0 < count_of_key other old.tree → ⊥
    none there = let there : 0 < count_of_key other Nothing = subst (λ (tree : Forest Row). 0 < count_of_key other tree) (root refl) there in omega arith
grafted_leaves old mid new sapling (Some parent) key is after live root came same held other there free =
    grafted_unasked old mid new sapling parent key is after live came same.tree held other there (off (among other (path_of parent old.tree)) free)
  where
    off : (on : Bool) → (if on then true else false) ≡ false → on ≡ false
    off true e = absurd cc
    off false e = refl
