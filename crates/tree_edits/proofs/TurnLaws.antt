-- A direction goes down a tree: one view after the other runs another way, and requests layout.
use Rattle.std.proofs.Common.{◌≡◌, ◌≢◌, ℕ, ◌+◌, ◌<◌, ◌≤◌, Bool, true, false, List, [], ◌∷◌, ◌++◌, map, refl, sym, ◌∙◌, ap, subst, arith, inl, inr}
use Rattle.std.proofs.lemmas.Bool.{cases_eq, eq-eqb, ne_eqb}
use Rattle.std.proofs.lemmas.List.{map-append}
use Rattle.std.specs.Prelude.{if◌then◌else◌, not}
use mathlib.Core.Path.{fun_ext}
use Rattle.kept_views.specs.Kept.{IsConsistent, IsKept}
use Rattle.kept_views.proofs.edits.Lines.{put_kept}
use Rattle.view_model.specs.declared.changes.Act.TheVariants as act
use Rattle.view_model.specs.declared.placing.Direction.{Direction}
use Rattle.view_model.specs.Direction.{dir}
use Rattle.view_model.specs.Directed.{directed, running, turned, with_direction as plain_with_direction}
use Rattle.view_model.specs.Forest.{Forest, Nothing, Branch}
use Rattle.view_model.specs.PlainTree.{PlainView}
use Rattle.view_tree.proofs.forest.KeyLaws.{times_self}
use Rattle.view_tree.proofs.forest.NumberLaws.{count_of_key-put, put_absent}
use Rattle.view_tree.proofs.values.GeometryLaws.{geometry-put}
use Rattle.view_tree.proofs.values.KeptLaws.{ancestors-put}
use Rattle.view_tree.specs.tree.Directions.{asked_by_direction, directed_rows, row_running, turned_keys, with_direction}
use Rattle.view_tree.specs.tree.Requests.{asking, pressed, requested, unforced}
use Rattle.view_tree.specs.Rows.{Row, changed_at_key, count_of_key, head_view, part_from}
use Rattle.view_tree.specs.node.Turning.{runs_so}
use Rattle.view_tree.specs.Views.{Held, IsLive, IsTree, Views, held_of, laid_rows, number_of, plain_of}
use Rattle.tree_edits.specs.Asking.{acted_view, asked_by_turn}
use Rattle.tree_edits.specs.Editing.{after_act}
use Rattle.tree_edits.specs.Keeping.{KeepsViews, held_acted}
use Rattle.tree_edits.specs.Scene.{scene_of}
use Rattle.tree_edits.specs.declared.edits.Edit.TheVariants as edit
use Rattle.tree_edits.proofs.KeepLaws.{none_made, offset_at, put_same}
use Rattle.tree_edits.proofs.RequestLaws.{requested-put, requested_place}
use Rattle.tree_edits.proofs.SceneLaws.{same_scene}
use Rattle.tree_edits.proofs.SpreadLaws.{count_of_key-directed, laid-directed}

-- a view that runs the other way
flip : PlainView → PlainView
flip view = running (not view.facts.rtl) view

flip_all : List ℕ → Forest Row → Forest Row
flip_all [] tree = tree
flip_all (key ∷ keys) tree = flip_all keys (changed_at_key key flip tree)

-- each of these keys has a property
abbrev Each : (ℕ → Type 0) → List ℕ → Type 0
Each P [] = Unit {0}
Each P (key ∷ keys) = P key × Each P keys

each_mono : {P Q : ℕ → Type 0} → ((key : ℕ) → P key → Q key) → (keys : List ℕ) → Each P keys → Each Q keys
each_mono f [] each = tt
each_mono f (key ∷ keys) each = (f key each.0, each_mono f keys each.1)

each_append : (P : ℕ → Type 0) (one other : List ℕ) → Each P one → Each P other → Each P (one ++ other)
each_append P [] other first second = second
each_append P (key ∷ one) other first second = (first.0, each_append P one other first.1 second)

-- the keys of a view, of those below it and of those after it, which turn
abbrev own_keys : Bool → Row → List ℕ
own_keys rtl row = map (λ (row : Row). row.key) (let own : List Row = if runs_so rtl row.view.facts.rtl then [] else row ∷ [] in own)

turned_parts : (above : Bool) (row : Row) (kids siblings : Forest Row)
    → (let rtl = dir above row.view.facts.direction in turned_keys above (Branch row kids siblings) ≡ own_keys rtl row ++ (turned_keys rtl kids ++ turned_keys above siblings))
turned_parts above row kids siblings =
    let key : Row → ℕ = λ row. row.key in
    let rtl = dir above row.view.facts.direction in
    let own : List Row = if runs_so rtl row.view.facts.rtl then [] else row ∷ [] in
    let below = turned (λ (row : Row). row.view.facts) rtl kids in
    let after = turned (λ (row : Row). row.view.facts) above siblings in
    map-append key own (below ++ after) ∙ ap (λ (keys : List ℕ). map key own ++ keys) (map-append key below after)

turned_live : (above : Bool) (tree : Forest Row) → Each (λ key. 0 < count_of_key key tree) (turned_keys above tree)
turned_live above Nothing = tt
turned_live above (Branch row kids siblings) =
    let rtl = dir above row.view.facts.direction in
    subst (Each (λ key. 0 < count_of_key key (Branch row kids siblings))) (sym (turned_parts above row kids siblings))
    (each_append (λ key. 0 < count_of_key key (Branch row kids siblings)) (own_keys rtl row) (turned_keys rtl kids ++ turned_keys above siblings) (own (runs_so rtl row.view.facts.rtl))
    (each_append (λ key. 0 < count_of_key key (Branch row kids siblings)) (turned_keys rtl kids) (turned_keys above siblings)
    (each_mono (λ key here. omega arith) (turned_keys rtl kids) (turned_live rtl kids))
    (each_mono (λ key here. omega arith) (turned_keys above siblings) (turned_live above siblings))))
  where
    own : (t : Bool) → Each (λ key. 0 < count_of_key key (Branch row kids siblings)) (map (λ (row : Row). row.key) (let own : List Row = if t then [] else row ∷ [] in own))
    own true = tt
    own false = (times_self row kids siblings, tt)

flip_append : (one other : List ℕ) (tree : Forest Row) → flip_all (one ++ other) tree ≡ flip_all other (flip_all one tree)
unfolding flip_all
flip_append [] other tree = refl
flip_append (key ∷ one) other tree = flip_append one other (changed_at_key key flip tree)

flip_below : (row : Row) (siblings : Forest Row) (keys : List ℕ) (kids : Forest Row) → Each (λ key. (row.key ≢ key) × (count_of_key key siblings ≡ 0)) keys
    → flip_all keys (Branch row kids siblings) ≡ Branch row (flip_all keys kids) siblings
unfolding flip_all
flip_below row siblings [] kids each = refl
flip_below row siblings (key ∷ keys) kids each =
    let step : changed_at_key key flip (Branch row kids siblings) ≡ Branch row (changed_at_key key flip kids) siblings =
    rw (ne_eqb row.key key each.0.0) (ap (λ (list : Forest Row). Branch row (changed_at_key key flip kids) list) (put_absent key flip siblings each.0.1)) in
    ap (flip_all keys) step ∙ flip_below row siblings keys (changed_at_key key flip kids) each.1

flip_after : (row : Row) (kids : Forest Row) (keys : List ℕ) (siblings : Forest Row) → Each (λ key. (row.key ≢ key) × (count_of_key key kids ≡ 0)) keys
    → flip_all keys (Branch row kids siblings) ≡ Branch row kids (flip_all keys siblings)
unfolding flip_all
flip_after row kids [] siblings each = refl
flip_after row kids (key ∷ keys) siblings each =
    let step : changed_at_key key flip (Branch row kids siblings) ≡ Branch row kids (changed_at_key key flip siblings) =
    rw (ne_eqb row.key key each.0.0) (ap (λ (list : Forest Row). Branch row list (changed_at_key key flip siblings)) (put_absent key flip kids each.0.1)) in
    ap (flip_all keys) step ∙ flip_after row kids keys (changed_at_key key flip siblings) each.1

-- a view runs as its direction says once it has turned, if it turns
flip_own : (rtl : Bool) (row : Row) (kids siblings : Forest Row) → flip_all (own_keys rtl row) (Branch row kids siblings) ≡ Branch (row_running rtl row) kids siblings
unfolding flip_all flip
flip_own rtl row kids siblings = by (runs_so rtl row.view.facts.rtl) (same rtl row.view.facts.rtl) (other rtl row.view.facts.rtl)
  where
    same : (rtl own : Bool) → runs_so rtl own ≡ true → own ≡ rtl
    same true own is = is
    same false false is = refl
    same false true is = absurd (let no : false ≡ true = is in cc)

    other : (rtl own : Bool) → runs_so rtl own ≡ false → not own ≡ rtl
    other true true is = absurd (let no : true ≡ false = is in cc)
    other true false is = refl
    other false own is = is

    by : (so : Bool) → (so ≡ true → row.view.facts.rtl ≡ rtl) → (so ≡ false → not row.view.facts.rtl ≡ rtl)
        → flip_all (map (λ (row : Row). row.key) (let own : List Row = if so then [] else row ∷ [] in own)) (Branch row kids siblings) ≡ Branch (row_running rtl row) kids siblings
    by true stays turns = ap (λ (way : Bool). Branch (row_running way row) kids siblings) (stays refl)
    by false stays turns = rw (eq-eqb row.key row.key refl) (ap (λ (way : Bool). Branch (row_running way row) kids siblings) (turns refl))

-- so do all, one after the other
flips : (above : Bool) (tree : Forest Row) → ((key : ℕ) → count_of_key key tree ≤ 1) → flip_all (turned_keys above tree) tree ≡ directed_rows above tree
unfolding flip_all
flips above Nothing once = refl
flips above (Branch row kids siblings) once =
    let rtl = dir above row.view.facts.direction in
    let own = row_running rtl row in
    let below = turned_keys rtl kids in
    let after = turned_keys above siblings in
    ap (λ (keys : List ℕ). flip_all keys (Branch row kids siblings)) (turned_parts above row kids siblings)
    ∙ flip_append (own_keys rtl row) (below ++ after) (Branch row kids siblings)
    ∙ ap (flip_all (below ++ after)) (flip_own rtl row kids siblings)
    ∙ flip_append below after (Branch own kids siblings)
    ∙ ap (flip_all after) (flip_below own siblings below kids (each_mono in_kids below (turned_live rtl kids)))
    ∙ ap (λ (list : Forest Row). flip_all after (Branch own list siblings)) (flips rtl kids (λ key. let one = once key in omega arith))
    ∙ flip_after own (directed_rows rtl kids) after siblings (each_mono (in_siblings rtl) after (turned_live above siblings))
    ∙ ap (λ (list : Forest Row). Branch own (directed_rows rtl kids) list) (flips above siblings (λ key. let one = once key in omega arith))
  where
    apart : (key : ℕ) → 0 < count_of_key key kids + count_of_key key siblings → row.key ≢ key
    apart key some e = let one = subst (λ (k : ℕ). count_of_key k (Branch row kids siblings) ≤ 1) (sym e) (once key) in
        let some = subst (λ (k : ℕ). 0 < count_of_key k kids + count_of_key k siblings) (sym e) some in
        let one = rw (eq-eqb row.key row.key refl) at one in absurd (omega (arith, one, some))

    in_kids : (key : ℕ) → 0 < count_of_key key kids → (row.key ≢ key) × (count_of_key key siblings ≡ 0)
    in_kids key here = (apart key (omega arith), let one = once key in omega arith)

    in_siblings : (rtl : Bool) (key : ℕ) → 0 < count_of_key key siblings → (row.key ≢ key) × (count_of_key key (directed_rows rtl kids) ≡ 0)
    in_siblings rtl key here = (apart key (omega arith), count_of_key-directed key rtl kids ∙ (let one = once key in omega arith))

-- what is kept stays right where each view that turns requests layout
flips_kept : (held : ℕ → Held) (keys : List ℕ) (tree : Forest Row) → ((key : ℕ) → count_of_key key tree ≤ 1) → Each (λ key. 0 < count_of_key key tree) keys
    → IsKept held tree → IsKept (requested held keys tree) (flip_all keys tree)
unfolding flip_all flip
flips_kept held [] tree once live k = k
flips_kept held (key ∷ keys) tree once live k =
    let next = changed_at_key key flip tree in
    let count : (other : ℕ) → count_of_key other next ≡ count_of_key other tree = λ other. count_of_key-put other key flip tree in
    let one : IsKept (pressed held (asking held key next)) next = put_kept key flip tree once live.0 held held refl (λ other ne. refl) (record { state = refl; cache = refl }) k in
    let one : IsKept (pressed held (asking held key tree)) next = subst (λ (above : List ℕ). IsKept (pressed held (key ∷ unforced held above)) next) (ancestors-put key key flip tree) one in
    let rest = flips_kept (pressed held (asking held key tree)) keys next (λ other. let c = count other in let o = once other in omega arith)
    (each_mono (λ other here. let c = count other in omega arith) keys live.1) one in
    subst (λ (h : ℕ → Held). IsKept h (flip_all keys next)) (requested-put (pressed held (asking held key tree)) keys key flip tree) rest

-- the direction of a view was set
module _ (old new : Views) (view : ℕ) (direction : Direction) (is : IsTree old) (live : IsLive old view) where
  abbrev put : Forest Row
  put = changed_at_key view (with_direction direction) old.tree

  acted : changed_at_key view (acted_view (act.Direction direction)) old.tree ≡ put
  acted =
      let own = head_view (part_from view old.tree) in
      put_same view (acted_view (act.Direction direction)) (with_direction direction) old.tree (is.keys view)
      (ap (λ offset. let v : PlainView = record own { facts = record own.facts { direction = direction; offset = offset } } in v) (sym (offset_at view old.tree is.unscrolled)))

  asked : asked_by_turn old.tree view (act.Direction direction) ≡ asked_by_direction view direction old.tree
  asked = ap (λ (tree : Forest Row). view ∷ map (λ (row : Row). row.key) (turned (λ (row : Row). row.view.facts) false tree)) acted

  held_still : (key : ℕ) → held_acted old view (act.Direction direction) key ≡ held_of old key
  held_still key = elim (cases_eq key view) [
    | inl e ↦ rw (eq-eqb key view e, ← e) refl
    | inr ne ↦ rw (ne_eqb key view ne) refl
  ]

  pub turned_scene : plain_of new ≡ directed false (plain_with_direction (number_of old view) direction (plain_of old)) → new.tree ≡ directed_rows false put → new.next ≡ old.next
      → ((key : ℕ) → held_of new key ≡ requested (held_of old) (asked_by_direction view direction old.tree) old.tree key)
      → scene_of new ≡ after_act (scene_of old) (number_of old view) (act.Direction direction)
  turned_scene plain tree next held =
      same_scene _ _ _ _ _ _ plain next
      (ap (laid_rows (held_of new)) tree ∙ laid-directed (held_of new) false put
      ∙ geometry-put (held_of old) (held_of new) view (with_direction direction) old.tree (λ _. refl)
      (λ key. ap (λ (h : Held). h.state.bounds) (held key) ∙ (requested_place (held_of old) (asked_by_direction view direction old.tree) old.tree key).bounds))

  pub turned_keep : new.tree ≡ directed_rows false put → new.next ≡ old.next
      → ((key : ℕ) → held_of new key ≡ requested (held_of old) (asked_by_direction view direction old.tree) old.tree key)
      → KeepsViews old new (edit.Act view (act.Direction direction))
  turned_keep tree next held =
      none_made old new (edit.Act view (act.Direction direction)) (tree ∙ ap (directed_rows false) (sym acted)) next
      (λ key. let count = ap (count_of_key key) tree ∙ count_of_key-directed key false put ∙ count_of_key-put key view (with_direction direction) old.tree in omega arith)
      (λ key was now. held key
      ∙ ap (λ (views : List ℕ). requested (held_of old) views old.tree key) (sym asked)
      ∙ ap (λ (h : ℕ → Held). requested h (asked_by_turn old.tree view (act.Direction direction)) old.tree key) (sym (fun_ext held_still)))

  pub turned_kept : new.tree ≡ directed_rows false put
      → ((key : ℕ) → held_of new key ≡ requested (held_of old) (asked_by_direction view direction old.tree) old.tree key)
      → IsConsistent old → IsConsistent new
  turned_kept tree held k =
      let once : (key : ℕ) → count_of_key key put ≤ 1 = λ key. let count = count_of_key-put key view (with_direction direction) old.tree in let one = is.keys key in omega arith in
      let first : IsKept (pressed (held_of old) (asking (held_of old) view put)) put =
      put_kept view (with_direction direction) old.tree is.keys live (held_of old) (held_of old) refl (λ other ne. refl) (record { state = refl; cache = refl }) k in
      let first : IsKept (pressed (held_of old) (asking (held_of old) view old.tree)) put =
      subst (λ (above : List ℕ). IsKept (pressed (held_of old) (view ∷ unforced (held_of old) above)) put) (ancestors-put view view (with_direction direction) old.tree) first in
      let all = flips_kept (pressed (held_of old) (asking (held_of old) view old.tree)) (turned_keys false put) put once (turned_live false put) first in
      let all : IsKept (requested (pressed (held_of old) (asking (held_of old) view old.tree)) (turned_keys false put) old.tree) (flip_all (turned_keys false put) put) =
      subst (λ (h : ℕ → Held). IsKept h (flip_all (turned_keys false put) put))
      (requested-put (pressed (held_of old) (asking (held_of old) view old.tree)) (turned_keys false put) view (with_direction direction) old.tree) all in
      subst (IsKept (held_of new)) (sym tree)
      (subst (λ (h : ℕ → Held). IsKept h (directed_rows false put)) (sym (fun_ext held))
      (subst (IsKept (requested (held_of old) (asked_by_direction view direction old.tree) old.tree)) (flips false put once) all))
