-- What a request for layout at a view that was edited keeps, over trees of the code.
use Rattle.std.proofs.Common.{◌≡◌, ◌≢◌, ℕ, ◌==◌, Bool, true, false, ◌∙◌, sym, subst}
use Rattle.std.proofs.lemmas.Bool.{eq-eqb}
use Rattle.std.specs.Prelude.{if◌then◌else◌}
use mathlib.Core.Path.{fun_ext}
use Rattle.kept_views.specs.Kept.{IsKept}
use Rattle.kept_views.specs.Pressing.{path_of}
use Rattle.kept_views.proofs.edits.Lines.{SameButOffset, put_kept}
use Rattle.kept_views.proofs.edits.Paths.{unforced_off}
use Rattle.kept_views.proofs.edits.Requested.{pressed_out}
use Rattle.view_model.specs.Facts.{is_shown}
use Rattle.view_model.specs.Forest.{Forest}
use Rattle.view_model.specs.PlainTree.{PlainView}
use Rattle.view_tree.specs.tree.Requests.{among, asking, pressed, unforced}
use Rattle.view_tree.specs.Rows.{Row, ancestors, changed_at_key, head_view, part_from}
use Rattle.view_tree.specs.Views.{Held, IsLive, IsTree, Views, held_of}

-- a request after an edit
pub asked_kept : (mid new : Views) (view : ℕ) (tree : Forest Row) → mid.tree ≡ tree → new.tree ≡ mid.tree → ((key : ℕ) → held_of new key ≡ pressed (held_of mid) (asking (held_of mid) view mid.tree) key)
    → IsKept (pressed (held_of mid) (asking (held_of mid) view tree)) tree → IsKept (held_of new) new.tree
asked_kept mid new view tree made same held k =
    subst (λ t. IsKept (held_of new) t) (sym (same ∙ made))
    (subst (λ h. IsKept h tree) (sym (fun_ext held)) (subst (λ t. IsKept (pressed (held_of mid) (asking (held_of mid) view t)) tree) (sym made) k))

-- only a view on the path is pressed
pub asked_same : (held new : ℕ → Held) (view : ℕ) (tree : Forest Row) → ((key : ℕ) → new key ≡ pressed held (asking held view tree) key) → (key : ℕ) → among key (path_of view tree) ≡ false → new key ≡ held key
asked_same held new view tree is key off = is key ∙ pressed_out held (asking held view tree) key (step (view == key) off)
  where
    step : (o : Bool) → (if o then true else among key (ancestors view tree)) ≡ false → (if o then true else among key (unforced held (ancestors view tree))) ≡ false
    step true e = e
    step false e = unforced_off key held (ancestors view tree) e

-- a view that is not on the path is not the one at which the edit made its request
pub off_path : (view key : ℕ) (tree : Forest Row) → among key (path_of view tree) ≡ false → key ≢ view
off_path view key tree off e = step (view == key) (eq-eqb view key (sym e)) off
  where
    step : (o : Bool) → o ≡ true → (if o then true else among key (ancestors view tree)) ≡ false → ⊥
    step true t f = let no : true ≡ false = f in absurd (cc)
    step false t f = let no : false ≡ true = t in absurd (cc)

-- facts or a text of one view
pub put_asked : (old mid new : Views) (view : ℕ) (change : PlainView → PlainView) → IsTree old → IsLive old view → is_shown (change (head_view (part_from view old.tree))).facts ≡ is_shown (head_view (part_from view old.tree)).facts
    → mid.tree ≡ changed_at_key view change old.tree → SameButOffset (held_of old view) (held_of mid view) → ((other : ℕ) → other ≢ view → held_of mid other ≡ held_of old other)
    → new.tree ≡ mid.tree → ((key : ℕ) → held_of new key ≡ pressed (held_of mid) (asking (held_of mid) view mid.tree) key)
    → IsKept (held_of old) old.tree → IsKept (held_of new) new.tree
put_asked old mid new view change is live shown tree moved others same held k =
    asked_kept mid new view (changed_at_key view change old.tree) tree same held
    (put_kept view change old.tree is.keys live (held_of old) (held_of mid) shown others moved k)
