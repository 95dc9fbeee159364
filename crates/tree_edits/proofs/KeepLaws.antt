-- What edits leave of the views of a tree, key by key.
use Rattle.std.proofs.Common.{◌≡◌, ◌≢◌, ℕ, ℤ, ◌+◌, ◌<◌, ◌≤◌, pos, true, false, List, [], ◌∷◌, Option, Some, None, refl, sym, ◌∙◌, ap, arith, eqb-true, inl, inr}
use mathlib.Core.Path.{fun_ext}
use Rattle.std.proofs.lemmas.Bool.{cases_Bool, cases_eq, eq-eqb, ne_eqb}
use Rattle.std.specs.Prelude.{◌==◌, MatchOption, OnErr, OnOk, Result, Ok, Err}
use Rattle.kept_views.proofs.edits.Paths.{among_later}
use Rattle.kept_views.proofs.grown.Pruned.{has_child}
use Rattle.view_model.specs.Changes.{facts_after_act}
use Rattle.view_model.specs.declared.facts.Facts.{Facts}
use Rattle.view_model.specs.declared.changes.Act.{Act}
use Rattle.view_model.specs.declared.class.Class.{Class}
use Rattle.view_model.specs.Forest.{Forest, Nothing, Branch}
use Rattle.view_model.specs.PlainTree.{PlainView}
use Rattle.view_tree.specs.tree.Attached.{Attached}
use Rattle.view_model.specs.Facts.{unscrolled_facts}
use Rattle.view_tree.specs.tree.Directions.{running_below}
use Rattle.view_tree.specs.tree.Requests.{among, requested}
use Rattle.view_tree.specs.Rows.{Row, ancestors, changed_at_key, count_of_key, first_tree, head_view, leaf, part_from, pruned_at_key}
use Rattle.view_tree.specs.Views.{Held, IsLive, IsTree, KeepsOthers, KeepsOutside, SameTree, Unscrolled, Views, facts_of, held_of, offset_of}
use Rattle.view_tree.proofs.forest.DepthLaws.{ancestors-grown, ancestors-pruned_at_key}
use Rattle.view_tree.proofs.forest.KeyLaws.{absent, or_else_live, zero_or_more}
use Rattle.view_tree.proofs.forest.NumberLaws.{live-pruned_at_key, count_of_key-cut_le, count_of_key-put, put_absent}
use Rattle.tree_edits.specs.declared.edits.Edit.{Edit}
use Rattle.tree_edits.specs.declared.edits.Edit.TheVariants as edit
use Rattle.view_model.specs.declared.fault.Fault.{Fault}
use Rattle.tree_edits.specs.Applied.{IsAddable}
use Rattle.tree_edits.specs.Asking.{acted_view, asked_by, asked_by_act, listed, nearest}
use Rattle.tree_edits.specs.Editing.{hides, names_views, new_view, turns}
use Rattle.tree_edits.specs.Hiding.{held_hiding}
use Rattle.tree_edits.specs.Keeping.{KeepsViews, held_acted, held_after, held_edited, next_after, tree_after}
use Rattle.tree_edits.proofs.FactLaws.{acted-named, acted-offset, names_ask, names_offset, names_stay, names_still, renamed}
use Rattle.tree_edits.proofs.ParentLaws.{parent_stays}
use Rattle.tree_edits.proofs.SpreadLaws.{unspread}
use Rattle.tree_edits.proofs.RequestLaws.{ancestor_live, ancestors_off, request_same, requested-put, requested_off}

-- a key above those of all views
abbrev pub key_above : Forest Row → ℕ
key_above Nothing = 0
key_above (Branch row kids siblings) = (row.key + 1) + (key_above kids + key_above siblings)

pub above_unused : (key : ℕ) (tree : Forest Row) → key_above tree ≤ key → count_of_key key tree ≡ 0
above_unused key Nothing above = refl
above_unused key (Branch row kids siblings) above =
    elim (cases_Bool (row.key == key)) [
      | inl e ↦ absurd (let own : row.key ≡ key = eqb-true _ _ e in omega arith)
      | inr e ↦ rw (e, above_unused key kids (omega arith), above_unused key siblings (omega arith))
    ]

-- an edit that adds no view
pub none_made : (old new : Views) (edit : Edit) → new.tree ≡ tree_after old edit (key_above old.tree)
    → new.next ≡ next_after old edit
    → ((key : ℕ) → count_of_key key new.tree ≤ count_of_key key old.tree)
    → ((key : ℕ) → IsLive old key → IsLive new key → held_of new key ≡ held_after old edit key)
    → KeepsViews old new edit
none_made old new edit tree next fewer stays =
    let none = above_unused (key_above old.tree) old.tree (omega arith) in
    record {
      fresh = key_above old.tree;
      unused = none;
      tree = tree;
      next = next;
      stays = stays;
      made = λ live. let few = fewer (key_above old.tree) in absurd (omega arith);
    }

-- a view was added, and layout requested at its parent
module _ (old mid : Views) (parent : ℕ) (view : PlainView) (key : ℕ) (live : IsLive old parent) (came : Attached old (Some parent) view key mid) where
  apart : (other : ℕ) → IsLive old other → other ≢ key
  apart other there e = let none : count_of_key other old.tree ≡ 0 = rw e came.unused in absurd (omega arith)

  path : ancestors parent mid.tree ≡ ancestors parent old.tree
  path =
      ap (ancestors parent) came.tree
      ∙ ancestors-grown parent parent (leaf key view) old.tree
      (let out : count_of_key parent (leaf key view) ≡ 0 = rw (ne_eqb key parent (λ e. apart parent live (sym e))) refl in out)

  grown_same : (other : ℕ) → IsLive old other → requested (held_of mid) (parent ∷ []) mid.tree other ≡ requested (held_of old) (parent ∷ []) old.tree other
  grown_same other there =
      request_same (held_of old) (held_of mid) parent old.tree mid.tree other path
      (λ above e. came.others above (apart above (ancestor_live above parent old.tree e)))
      (came.others other (apart other there))

  grown_new : requested (held_of mid) (parent ∷ []) mid.tree key ≡ held_of mid key
  grown_new =
      let off : among key (parent ∷ ancestors parent mid.tree) ≡ false =
      among_later key parent (ancestors parent mid.tree) (apart parent live) (ap (among key) path ∙ ancestors_off key parent old.tree came.unused) in
      requested_off (held_of mid) (parent ∷ []) mid.tree key (rw off refl)

pub attached_keeps : (old mid new : Views) (parent : Option ℕ) (class : Class) (width height : ℤ) (key : ℕ) → IsAddable old parent
    → Attached old parent (running_below parent old.tree (new_view old.next class width height)) key mid
    → SameTree mid new
    → ((other : ℕ) → held_of new other ≡ requested (held_of mid) (listed parent) mid.tree other)
    → KeepsViews old new (edit.Add parent class width height)
attached_keeps old mid new None class width height key addable came same held = record {
  fresh = key;
  unused = came.unused;
  tree = same.tree ∙ came.tree;
  next = same.next ∙ came.next;
  stays = λ other live _. held other ∙ came.others other (λ e. let none : count_of_key other old.tree ≡ 0 = rw e came.unused in absurd (omega arith));
  made = λ _. held key ∙ came.held;
}
attached_keeps old mid new (Some parent) class width height key addable came same held = record {
  fresh = key;
  unused = came.unused;
  tree = same.tree ∙ came.tree;
  next = same.next ∙ came.next;
  stays = λ other live _. held other ∙ grown_same old mid parent (running_below (Some parent) old.tree (new_view old.next class width height)) key addable.0 came other live;
  made = λ _. held key ∙ grown_new old mid parent (running_below (Some parent) old.tree (new_view old.next class width height)) key addable.0 came ∙ came.held;
}

-- a view was taken away, and layout requested at its parent
pub detached_keeps : (old mid new : Views) (view : ℕ) (parent : Option ℕ) → IsTree old → IsLive old view
    → MatchOption parent (ancestors view old.tree ≡ []) (λ above. ancestors view old.tree ≡ above ∷ ancestors above old.tree)
    → mid.tree ≡ pruned_at_key view old.tree → mid.next ≡ old.next
    → KeepsOutside (held_of old) (held_of mid) (first_tree (part_from view old.tree))
    → SameTree mid new
    → ((key : ℕ) → held_of new key ≡ requested (held_of mid) (listed parent) mid.tree key)
    → KeepsViews old new (edit.Remove view)
detached_keeps old mid new view parent is live path tree next others same held =
    none_made old new (edit.Remove view) (same.tree ∙ tree) (same.next ∙ next)
    (λ key. rw (same.tree ∙ tree) (count_of_key-cut_le key view old.tree))
    (λ key was left. held key ∙ stays parent path key (rw (same.tree ∙ tree) at left))
  where
    still : (key : ℕ) → 0 < count_of_key key (pruned_at_key view old.tree) → held_of mid key ≡ held_of old key
    still key left = others key ((live-pruned_at_key key view old.tree (is.keys view) (is.keys key)).0 left).1

    stays : (parent : Option ℕ) → MatchOption parent (ancestors view old.tree ≡ []) (λ above. ancestors view old.tree ≡ above ∷ ancestors above old.tree)
        → (key : ℕ) → 0 < count_of_key key (pruned_at_key view old.tree)
        → requested (held_of mid) (listed parent) mid.tree key ≡ requested (held_of old) (nearest (ancestors view old.tree)) old.tree key
    stays None path key left = still key left ∙ sym (ap (λ above. requested (held_of old) (nearest above) old.tree key) path)
    stays (Some parent) path key left =
        let around : ancestors parent (pruned_at_key view old.tree) ≡ ancestors parent old.tree =
        ancestors-pruned_at_key parent view old.tree (parent_stays parent view old.tree is.keys (has_child parent view (ancestors parent old.tree) old.tree live path)) (is.keys parent) in
        request_same (held_of old) (held_of mid) parent old.tree mid.tree key (ap (ancestors parent) tree ∙ around)
        (λ above e. still above (ancestor_live above parent (pruned_at_key view old.tree) (ap (among above) around ∙ e)))
        (still key left)
        ∙ sym (ap (λ above. requested (held_of old) (nearest above) old.tree key) path)

-- two changes that have the same effect on the view that is changed
pub put_same : (key : ℕ) (f g : PlainView → PlainView) (tree : Forest Row) → count_of_key key tree ≤ 1 → f (head_view (part_from key tree)) ≡ g (head_view (part_from key tree))
    → changed_at_key key f tree ≡ changed_at_key key g tree
put_same key f g Nothing once same = refl
put_same key f g (Branch row kids siblings) once same =
    elim (cases_Bool (row.key == key)) [
      | inl e ↦ let same = rw e at same in rw e (ap (λ (view : PlainView). Branch (record row { view = view }) kids siblings) same)
      | inr e ↦
          let once = rw e at once in
          let same = rw e at same in
          elim (zero_or_more (count_of_key key kids)) [
            | inl z ↦ rw (e, put_absent key f kids z, put_absent key g kids z, put_same key f g siblings (omega arith) (rw (absent key kids z) at same))
            | inr l ↦
                let z : count_of_key key siblings ≡ 0 = omega arith in
                rw (e, put_absent key f siblings z, put_absent key g siblings z, put_same key f g kids (omega arith) (rw (or_else_live key kids (part_from key siblings) l) at same))
          ]
    ]

-- a view in its row has the offset 0
pub offset_at : (key : ℕ) (tree : Forest Row) → Unscrolled tree → (head_view (part_from key tree)).facts.offset ≡ pos 0
offset_at key Nothing flat = refl
offset_at key (Branch row kids siblings) flat =
    elim (cases_Bool (row.key == key)) [
      | inl e ↦ rw (e, flat.0)
      | inr e ↦ elim (zero_or_more (count_of_key key kids)) [
        | inl z ↦ rw (e, absent key kids z) (offset_at key siblings flat.2)
        | inr l ↦ rw (e, or_else_live key kids (part_from key siblings) l) (offset_at key kids flat.1)
      ]
    ]

-- an edit of the view of one key
pub put_keeps : (old new : Views) (edit : Edit) (view : ℕ) (change : PlainView → PlainView) → new.tree ≡ changed_at_key view change old.tree
    → changed_at_key view change old.tree ≡ tree_after old edit (key_above old.tree)
    → new.next ≡ next_after old edit
    → ((key : ℕ) → held_of new key ≡ held_after old edit key)
    → KeepsViews old new edit
put_keeps old new edit view change tree is next held =
    none_made old new edit (tree ∙ is) next (λ key. let same = count_of_key-put key view change old.tree in rw tree (omega arith)) (λ key _ _. held key)

-- the request after an edit of the view of one key
pub after_request : (old mid new : Views) (edit : Edit) (view : ℕ) (change : PlainView → PlainView) → mid.tree ≡ changed_at_key view change old.tree
    → ((key : ℕ) → held_of mid key ≡ held_edited old edit key)
    → ((key : ℕ) → held_of new key ≡ requested (held_of mid) (asked_by old edit) mid.tree key)
    → (key : ℕ) → held_of new key ≡ held_after old edit key
after_request old mid new edit view change tree same held key =
    held key
    ∙ ap (λ (t : Forest Row). requested (held_of mid) (asked_by old edit) t key) tree
    ∙ ap (λ (h : ℕ → Held). h key) (requested-put (held_of mid) (asked_by old edit) view change old.tree)
    ∙ ap (λ (h : ℕ → Held). requested h (asked_by old edit) old.tree key) (fun_ext same)

-- an act that sets no direction requests layout at its view alone
unturned : (old : Views) (view : ℕ) (act : Act) → turns act ≡ false → asked_by old (edit.Act view act) ≡ asked_by_act view act
unturned old view act turn = rw turn refl

-- an id or a rule is set
pub names_keep : (old mid new : Views) (view : ℕ) (act : Act) (facts : Facts) → IsTree old → names_views act ≡ true
    → facts ≡ facts_after_act act (facts_of old view)
    → mid.tree ≡ changed_at_key view (λ (v : PlainView). record v { facts = renamed facts v.facts }) old.tree
    → mid.next ≡ old.next
    → ((key : ℕ) → held_of mid key ≡ held_of old key)
    → SameTree mid new
    → ((key : ℕ) → held_of new key ≡ requested (held_of mid) (view ∷ []) mid.tree key)
    → KeepsViews old new (edit.Act view act)
names_keep old mid new view act facts is names made tree next still same held =
    let own = head_view (part_from view old.tree) in
    let change : PlainView → PlainView = λ v. record v { facts = renamed facts v.facts } in
    let acted : renamed facts own.facts ≡ unscrolled_facts (facts_after_act act own.facts) =
    ap (λ (f : Facts). renamed f own.facts) made ∙ acted-named act own.facts (offset_of old view) names (offset_at view old.tree is.unscrolled) in
    put_keeps old new (edit.Act view act) view change (same.tree ∙ tree)
    (put_same view change (acted_view act) old.tree (is.keys view) (ap (λ (f : Facts). record own { facts = f }) acted)
    ∙ sym (unspread act (changed_at_key view (acted_view act) old.tree) (names_still act names)))
    (same.next ∙ next)
    (after_request old mid new (edit.Act view act) view change tree (λ key. still key ∙ sym (kept key))
    (λ key. held key ∙ sym (ap (λ (views : List ℕ). requested (held_of mid) views mid.tree key) (unturned old view act (names_still act names) ∙ names_ask view act names))))
  where
    kept : (key : ℕ) → held_acted old view act key ≡ held_of old key
    kept key = elim (cases_eq key view) [
      | inl e ↦ rw (eq-eqb key view e, names_stay act names, names_offset act (facts_of old view) names, ← e)
      | inr ne ↦ rw (ne_eqb key view ne, names_stay act names)
    ]

-- other facts are set, after the act hid what it hides
pub facts_keep : (old hid mid new : Views) (view : ℕ) (act : Act) (facts : Facts) → IsTree old → turns act ≡ false
    → facts ≡ facts_after_act act (facts_of old view)
    → SameTree old hid
    → ((key : ℕ) → held_of hid key ≡ held_hiding (hides act) old view key)
    → mid.tree ≡ changed_at_key view (λ (v : PlainView). record v { facts = unscrolled_facts facts }) hid.tree
    → mid.next ≡ hid.next
    → held_of mid view ≡ record (held_of hid view) { offset = facts.offset }
    → KeepsOthers hid mid view
    → SameTree mid new
    → ((key : ℕ) → held_of new key ≡ requested (held_of mid) (asked_by_act view act) mid.tree key)
    → KeepsViews old new (edit.Act view act)
facts_keep old hid mid new view act facts is turn made still gone tree next own others same held =
    let change = λ (v : PlainView). record v { facts = unscrolled_facts facts } in
    let head = head_view (part_from view old.tree) in
    let facts_is : unscrolled_facts facts ≡ unscrolled_facts (facts_after_act act head.facts) = ap unscrolled_facts made ∙ acted-offset act head.facts (offset_of old view) in
    let put : mid.tree ≡ changed_at_key view change old.tree = tree ∙ ap (changed_at_key view change) still.tree in
    put_keeps old new (edit.Act view act) view change (same.tree ∙ put)
    (put_same view change (acted_view act) old.tree (is.keys view) (ap (λ (f : Facts). record head { facts = f }) facts_is)
    ∙ sym (unspread act (changed_at_key view (acted_view act) old.tree) turn))
    (same.next ∙ next ∙ still.next)
    (after_request old mid new (edit.Act view act) view change put (λ key. elim (cases_eq key view) [
      | inl e ↦ rw (eq-eqb key view e, e) (own ∙ ap (λ (h : Held). record h { offset = facts.offset }) (gone view) ∙ ap (λ (f : Facts). record (held_hiding (hides act) old view view) { offset = f.offset }) made)
      | inr ne ↦ rw (ne_eqb key view ne) (others key ne ∙ gone key)
    ])
    (λ key. held key ∙ sym (ap (λ (views : List ℕ). requested (held_of mid) views mid.tree key) (unturned old view act turn))))

-- an edit makes at most one view
pub next_number : (old : Views) (edit : Edit) → next_after old edit ≤ old.next + 1
next_number old (edit.Add parent class width height) = omega arith
next_number old (edit.Remove view) = omega arith
next_number old (edit.Act view act) = omega arith
next_number old (edit.Text view text) = omega arith

pub numbers_kept : (old new : Views) (edit : Edit) (result : Result (Option ℕ) Fault) → OnOk result (KeepsViews old new edit) → OnErr result (new ≡ old)
    → new.next ≤ old.next + 1
numbers_kept old new edit (Ok number) kept same = let few = next_number old edit in let next = kept.next in omega arith
numbers_kept old new edit (Err fault) kept same = let next = ap (λ (v : Views). v.next) same in omega arith
