-- Edits with their requests keep what every tree keeps between lines.
use Rattle.std.proofs.Common.{◌≡◌, ℕ, ◌+◌, ◌<◌, ◌≤◌, ◌==◌, Bool, true, false, Option, Some, None, List, [], ◌∷◌, arith, ap, ◌∙◌, sym, refl, subst, inl, inr}
use Rattle.std.proofs.lemmas.Bool.{cases_Bool, cases_eq, eq-eqb, ne_eqb}
use Rattle.std.specs.Prelude.{if◌then◌else◌, MatchOption}
use mathlib.Core.Path.{fun_ext}
use Rattle.kept_views.specs.Kept.{HiddenView, IsConsistent, IsKept, loose}
use Rattle.kept_views.proofs.edits.AskedViews.{asked_kept, put_asked}
use Rattle.kept_views.proofs.edits.AroundEdits.{IsCalm, cleared_each, reached_each}
use Rattle.kept_views.proofs.edits.Edits.{AllHidden, hidden_kept}
use Rattle.kept_views.proofs.edits.Lines.{SameButOffset, grow_kept, hide_kept, prune_kept, show_kept}
use Rattle.kept_views.proofs.grown.Pruned.{has_child, root_pruned}
use Rattle.kept_views.proofs.edits.QuietEdits.{quiet_kept}
use Rattle.view_model.specs.Changes.{facts_after_act}
use Rattle.view_model.specs.declared.changes.Act.{Act}
use Rattle.view_model.specs.declared.facts.Facts.{Facts}
use Rattle.view_model.specs.Facts.{is_shown, layout_facts, unscrolled_facts}
use Rattle.view_model.specs.Forest.{Forest, Nothing}
use Rattle.view_model.specs.Layout.{unscrolled}
use Rattle.view_model.specs.PlainTree.{PlainView}
use Rattle.view_tree.specs.tree.Attached.{Attached}
use Rattle.view_tree.specs.tree.Requests.{asking, pressed, requested}
use Rattle.view_tree.specs.Rows.{Row, ancestors, changed_at_key, count_of_key, first_tree, grown_at_key, head_view, leaf, part_from, pruned_at_key}
use Rattle.view_tree.specs.Views.{Held, IsLive, IsTree, KeepsOthers, KeepsOutside, SameTree, Views, facts_of, held_of}
use Rattle.view_tree.proofs.forest.KeyLaws.{zero_or_more}
use Rattle.view_tree.proofs.forest.NumberLaws.{count_of_key-own_part, count_of_key-pruned_at_key, sum-grown}
use Rattle.tree_edits.specs.Applied.{IsAddable}
use Rattle.tree_edits.specs.Asking.{asked_by_act, listed, requests_layout}
use Rattle.tree_edits.specs.Editing.{hides}
use Rattle.tree_edits.specs.Hiding.{gone_one, held_hiding, hidden_at}
use Rattle.tree_edits.proofs.FactLaws.{gone_after, hides_ask, quiet_act, shown_offset}
use Rattle.tree_edits.proofs.ParentLaws.{parent_stays}

-- what hiding leaves
gone_some : (count : ℕ) (own : Held) → 0 < count → hidden_at count own ≡ gone_one own
gone_some count own some = rw (ne_eqb count 0 (λ e. absurd (omega arith))) refl

gone_none : (count : ℕ) (own : Held) → count ≡ 0 → hidden_at count own ≡ own
gone_none count own none = rw (eq-eqb count 0 none) refl

gone_asked : (old hid mid new : Views) (view : ℕ) (facts : Facts) → IsTree old → IsLive old view → hid.tree ≡ old.tree
    → ((key : ℕ) → held_of hid key ≡ hidden_at (count_of_key key (first_tree (part_from view old.tree))) (held_of old key))
    → mid.tree ≡ changed_at_key view (λ (v : PlainView). record v { facts = unscrolled_facts facts }) hid.tree → held_of mid view ≡ record (held_of hid view) { offset = facts.offset } → KeepsOthers hid mid view
    → new.tree ≡ mid.tree → ((key : ℕ) → held_of new key ≡ pressed (held_of mid) (asking (held_of mid) view mid.tree) key)
    → IsKept (held_of old) old.tree → IsKept (held_of new) new.tree
gone_asked old hid mid new view facts is live still gone tree own others same held k =
    let change : PlainView → PlainView = λ v. record v { facts = unscrolled_facts facts } in
    let part = first_tree (part_from view old.tree) in
    let mine : 0 < count_of_key view part = count_of_key-own_part view old.tree live in
    let each : (key : ℕ) → SameButOffset (hidden_at (count_of_key key part) (held_of old key)) (held_of mid key) = λ key. elim (cases_eq key view) [
      | inl e ↦ subst (λ key. SameButOffset (hidden_at (count_of_key key part) (held_of old key)) (held_of mid key)) (sym e)
          (record { state = ap (λ (h : Held). h.state) (own ∙ ap (λ (h : Held). let g : Held = record h { offset = facts.offset } in g) (gone view)); cache = ap (λ (h : Held). h.cache) (own ∙ ap (λ (h : Held). let g : Held = record h { offset = facts.offset } in g) (gone view)) })
      | inr ne ↦ let e = others key ne ∙ gone key in record { state = ap (λ (h : Held). h.state) e; cache = ap (λ (h : Held). h.cache) e }
    ] in
    asked_kept mid new view (changed_at_key view change old.tree) (tree ∙ ap (changed_at_key view change) still) same held
    (hide_kept view change old.tree is.keys live (held_of old) (held_of mid)
    (λ key here. let m = each key in let g = gone_some (count_of_key key part) (held_of old key) here in record {
      forced = ap (λ state. state.forced) m.state ∙ ap (λ (h : Held). h.state.forced) g;
      bounds = ap (λ state. state.bounds) m.state ∙ ap (λ (h : Held). h.state.bounds) g;
      cache = m.cache ∙ ap (λ (h : Held). h.cache) g;
    })
    (λ key here c. let m = each key in let s = gone_marks (count_of_key key part) (held_of old key) in record {
      needed = ap (λ state. state.layout_needed) m.state ∙ s.0 ∙ c.needed;
      first = ap (λ state. state.measure_first) m.state ∙ s.1 ∙ c.first;
    })
    (λ key here none. elim (cases_eq key view) [
      | inl e ↦ let some : 0 < count_of_key key part = subst (λ key. 0 < count_of_key key part) (sym e) mine in absurd (omega arith)
      | inr ne ↦ others key ne ∙ gone key ∙ gone_none (count_of_key key part) (held_of old key) none
    ]) k)
  where
    gone_marks : (count : ℕ) (own : Held) → ((hidden_at count own).state.layout_needed ≡ own.state.layout_needed) × ((hidden_at count own).state.measure_first ≡ own.state.measure_first)
    gone_marks count own = elim (cases_eq count 0) [ inl e ↦ rw (eq-eqb count 0 e) (refl, refl) | inr ne ↦ rw (ne_eqb count 0 ne) (refl, refl) ]

-- a view that was gone
shown_asked : (old mid new : Views) (view : ℕ) (facts : Facts) → IsTree old → IsLive old view → is_shown (facts_of old view) ≡ false → facts.offset ≡ (facts_of old view).offset
    → mid.tree ≡ changed_at_key view (λ (v : PlainView). record v { facts = unscrolled_facts facts }) old.tree → held_of mid view ≡ record (held_of old view) { offset = facts.offset } → KeepsOthers old mid view
    → new.tree ≡ mid.tree → ((key : ℕ) → held_of new key ≡ pressed (held_of mid) (asking (held_of mid) view mid.tree) key)
    → IsKept (held_of old) old.tree → IsKept (held_of new) new.tree
shown_asked old mid new view facts is live gone offset tree own others same held k =
    let change : PlainView → PlainView = λ v. record v { facts = unscrolled_facts facts } in
    let put = changed_at_key view change old.tree in
    let still : held_of mid ≡ held_of old = fun_ext (λ key. elim (cases_eq key view) [
      | inl e ↦ ap (held_of mid) e ∙ own ∙ ap (λ offset. let h : Held = record (held_of old view) { offset = offset } in h) offset ∙ ap (held_of old) (sym e)
      | inr ne ↦ others key ne
    ]) in
    asked_kept mid new view put tree same held
    (subst (λ held. IsKept (pressed held (asking held view put)) put) (sym still) (show_kept view change old.tree is.keys live (held_of old) gone k))

-- facts of which layout sees no change
quiet_held : (old new : Views) (view : ℕ) (facts : Facts) → facts.offset ≡ (facts_of old view).offset → held_of new view ≡ record (held_of old view) { offset = facts.offset } → KeepsOthers old new view
    → (key : ℕ) → held_of new key ≡ held_of old key
quiet_held old new view facts offset own others key = elim (cases_eq key view) [
  | inl e ↦ ap (held_of new) e ∙ own ∙ ap (λ offset. let h : Held = record (held_of old view) { offset = offset } in h) offset ∙ ap (held_of old) (sym e)
  | inr ne ↦ others key ne
]

quiet_asked : (old new : Views) (view : ℕ) (facts : Facts) → IsTree old → facts.offset ≡ (facts_of old view).offset → layout_facts facts ≡ layout_facts (facts_of old view)
    → new.tree ≡ changed_at_key view (λ (v : PlainView). record v { facts = unscrolled_facts facts }) old.tree → held_of new view ≡ record (held_of old view) { offset = facts.offset } → KeepsOthers old new view
    → IsKept (held_of old) old.tree → IsKept (held_of new) new.tree
quiet_asked old new view facts is offset same tree own others k =
    let still : held_of new ≡ held_of old = fun_ext (quiet_held old new view facts offset own others) in
    subst (λ held. IsKept held new.tree) (sym still) (subst (IsKept (held_of old)) (sym tree)
    (quiet_kept view (λ v. record v { facts = unscrolled_facts facts }) (held_of old) old.tree (is.keys view)
    (ap (λ facts. let v : PlainView = record (head_view (part_from view old.tree)) { facts = facts } in v) same) k))

-- a view is removed
removed_asked : (old mid new : Views) (parent view : ℕ) (others : List ℕ) → IsTree old → IsLive old view → ancestors view old.tree ≡ parent ∷ others → mid.tree ≡ pruned_at_key view old.tree
    → KeepsOutside (held_of old) (held_of mid) (first_tree (part_from view old.tree)) → new.tree ≡ mid.tree → ((key : ℕ) → held_of new key ≡ pressed (held_of mid) (asking (held_of mid) parent mid.tree) key)
    → IsKept (held_of old) old.tree → IsKept (held_of new) new.tree
removed_asked old mid new parent view others is live path tree kept same held k =
    let h = has_child parent view others old.tree live path in
    asked_kept mid new parent (pruned_at_key view old.tree) tree same held
    (prune_kept parent view (held_of old) (held_of mid) old.tree is.keys h (parent_stays parent view old.tree is.keys h) kept
    (λ key here. let all = count_of_key-pruned_at_key key view old.tree (is.keys view) in let o = is.keys key in omega arith) k)

pub detached_kept : (old mid new : Views) (view : ℕ) (parent : Option ℕ) → IsTree old → IsLive old view
    → MatchOption parent (ancestors view old.tree ≡ []) (λ above. ancestors view old.tree ≡ above ∷ ancestors above old.tree)
    → mid.tree ≡ pruned_at_key view old.tree
    → KeepsOutside (held_of old) (held_of mid) (first_tree (part_from view old.tree))
    → SameTree mid new
    → ((key : ℕ) → held_of new key ≡ requested (held_of mid) (listed parent) mid.tree key)
    → IsConsistent old → IsConsistent new
detached_kept old mid new view None is live path tree others same held k =
    subst (λ t. IsKept (held_of new) t) (sym (same.tree ∙ tree ∙ root_pruned view old.tree live is.root path)) (record { kept = tt; reached = tt; cleared = tt })
detached_kept old mid new view (Some parent) is live path tree others same held k =
    removed_asked old mid new parent view (ancestors parent old.tree) is live path tree others same.tree held k

-- a view is added
own_alone : (key : ℕ) (view : PlainView) (other : ℕ) → 0 < count_of_key other (leaf key view) → other ≡ key
own_alone key view other here = elim (cases_eq key other) [
  | inl e ↦ sym e
  | inr ne ↦ let here : 0 < (if key == other then 1 else 0) + (0 + 0) = here in let no = rw (ne_eqb key other ne) at here in absurd (omega arith)
]

-- what is kept of it
module _ (old mid : Views) (parent : Option ℕ) (view : PlainView) (key : ℕ) (came : Attached old parent view key mid) where
  new_hidden : AllHidden (held_of mid) (leaf key view)
  new_hidden other here =
      subst (λ other. HiddenView (held_of mid other)) (sym (own_alone key view other here)) (subst HiddenView (sym came.held) (record { forced = refl; bounds = refl; cache = refl }))

  new_calm : (other : ℕ) → 0 < count_of_key other (leaf key view) → IsCalm (held_of mid other)
  new_calm other here =
      subst (λ other. IsCalm (held_of mid other)) (sym (own_alone key view other here)) (subst IsCalm (sym came.held) (record { needed = refl; first = refl }))

-- below a parent, which requests layout
module _ (old mid new : Views) (parent : ℕ) (view : PlainView) (key : ℕ) (is : IsTree old) (live : IsLive old parent) (came : Attached old (Some parent) view key mid)
    (same : new.tree ≡ mid.tree) (held : (other : ℕ) → held_of new other ≡ pressed (held_of mid) (asking (held_of mid) parent mid.tree) other) where
  came_asked : IsConsistent old → IsConsistent new
  came_asked k =
      let grown = grown_at_key parent (leaf key view) old.tree in
      let count : (other : ℕ) → count_of_key other grown ≡ count_of_key other old.tree + count_of_key other (leaf key view) =
      λ other. sum-grown (λ (row : Row). if row.key == other then 1 else 0) parent (leaf key view) old.tree live (is.keys parent) in
      asked_kept mid new parent grown came.tree same held
      (grow_kept parent (record { key = key; view = unscrolled view }) Nothing old.tree (held_of old) (held_of mid) is.keys live
      (λ other. elim (zero_or_more (count_of_key other (leaf key view))) [
        | inl z ↦ let c = count other in let o = is.keys other in omega arith
        | inr p ↦ let c = count other in let a = own_absent other (own_alone key view other p) in let b = own_few other in omega arith
      ])
      came.unused refl (new_hidden old mid (Some parent) view key came) (new_calm old mid (Some parent) view key came)
      (λ other here. came.others other (λ e. let z = own_absent other e in absurd (omega arith))) k)
    where
      own_absent : (other : ℕ) → other ≡ key → count_of_key other old.tree ≡ 0
      own_absent other e = subst (λ k. count_of_key k old.tree ≡ 0) (sym e) came.unused

      own_few : (other : ℕ) → count_of_key other (leaf key view) ≤ 1
      own_few other = elim (cases_Bool (key == other)) [ inl e ↦ rw e (omega arith) | inr e ↦ rw e (omega arith) ]

-- as the root
root_kept : (held : ℕ → Held) (tree : Forest Row) → AllHidden held tree → ((key : ℕ) → 0 < count_of_key key tree → IsCalm (held key)) → IsKept held tree
root_kept held tree hidden calm = record {
  kept = hidden_kept [] held loose tree hidden (λ _. refl);
  reached = reached_each held tree calm;
  cleared = cleared_each held tree (λ key live _. (hidden key live).cache);
}

pub attached_kept : (old mid new : Views) (parent : Option ℕ) (view : PlainView) (key : ℕ) → IsTree old → IsAddable old parent → Attached old parent view key mid → SameTree mid new
    → ((other : ℕ) → held_of new other ≡ requested (held_of mid) (listed parent) mid.tree other)
    → IsConsistent old → IsConsistent new
attached_kept old mid new None view key is addable came same held k =
    let still : held_of new ≡ held_of mid = fun_ext held in
    subst (λ (t : Forest Row). IsKept (held_of new) t) (sym (same.tree ∙ came.tree))
    (subst (λ (h : ℕ → Held). IsKept h (leaf key view)) (sym still) (root_kept (held_of mid) (leaf key view) (new_hidden old mid None view key came) (new_calm old mid None view key came)))
attached_kept old mid new (Some parent) view key is addable came same held k = came_asked old mid new parent view key is addable.0 came same.tree held k

-- other facts are set, after the act hid what it hides
pub facts_kept : (old hid mid new : Views) (view : ℕ) (act : Act) (facts : Facts) → IsTree old → IsLive old view
    → facts ≡ facts_after_act act (facts_of old view)
    → SameTree old hid
    → ((key : ℕ) → held_of hid key ≡ held_hiding (hides act) old view key)
    → mid.tree ≡ changed_at_key view (λ (v : PlainView). record v { facts = unscrolled_facts facts }) hid.tree
    → held_of mid view ≡ record (held_of hid view) { offset = facts.offset }
    → KeepsOthers hid mid view
    → SameTree mid new
    → ((key : ℕ) → held_of new key ≡ requested (held_of mid) (asked_by_act view act) mid.tree key)
    → IsConsistent old → IsConsistent new
facts_kept old hid mid new view act facts is live made still gone tree own others same held k = elim (cases_Bool (hides act)) [
  | inl away ↦
      gone_asked old hid mid new view facts is live still.tree (rw away at gone) tree own others same.tree (asks (hides_ask view act away)) k
  | inr stay ↦
      let gone : (key : ℕ) → held_of hid key ≡ held_of old key = rw stay at gone in
      let put : mid.tree ≡ changed_at_key view change old.tree = tree ∙ ap (changed_at_key view change) still.tree in
      let own : held_of mid view ≡ record (held_of old view) { offset = facts.offset } = own ∙ ap (λ (h : Held). let g : Held = record h { offset = facts.offset } in g) (gone view) in
      let others : KeepsOthers old mid view = λ other ne. others other ne ∙ gone other in
      elim (cases_Bool (requests_layout act)) [
        | inl asked ↦
            let held = asks (rw asked refl) in
            elim (cases_Bool (is_shown (facts_of old view))) [
              | inl was ↦ put_by (is_is (is_shown facts) (λ after. gone_after act (facts_of old view) stay (ap is_shown (sym made) ∙ after)) was) put own others held
              | inr was ↦ elim (cases_Bool (is_shown facts)) [
                | inl now ↦
                    shown_asked old mid new view facts is live was (ap (λ (f : Facts). f.offset) made ∙ shown_offset act (facts_of old view) was (ap is_shown (sym made) ∙ now)) put own others same.tree held k
                | inr now ↦ put_by (now ∙ sym was) put own others held
              ]
            ]
        | inr quiet ↦
            let q = quiet_act act (facts_of old view) quiet in
            let none : asked_by_act view act ≡ [] = rw quiet refl in
            let same_held : held_of new ≡ held_of mid = fun_ext (λ key. held key ∙ ap (λ (views : List ℕ). requested (held_of mid) views mid.tree key) none) in
            let kept : IsConsistent mid =
            quiet_asked old mid view facts is (ap (λ (f : Facts). f.offset) made ∙ q.offset) (ap layout_facts made ∙ q.layout) put own others k in
            subst (λ (t : Forest Row). IsKept (held_of new) t) (sym same.tree) (subst (λ (h : ℕ → Held). IsKept h mid.tree) (sym same_held) kept)
      ]
]
  where
    change : PlainView → PlainView
    change v = record v { facts = unscrolled_facts facts }

    asks : asked_by_act view act ≡ view ∷ [] → (key : ℕ) → held_of new key ≡ requested (held_of mid) (view ∷ []) mid.tree key
    asks is key = held key ∙ ap (λ (views : List ℕ). requested (held_of mid) views mid.tree key) is

    is_is : (shown : Bool) → (shown ≡ false → is_shown (facts_of old view) ≡ false) → is_shown (facts_of old view) ≡ true → shown ≡ is_shown (facts_of old view)
    is_is true stays was = sym was
    is_is false stays was = let no : true ≡ false = sym was ∙ stays refl in absurd (cc)

    put_by : is_shown facts ≡ is_shown (facts_of old view) → mid.tree ≡ changed_at_key view change old.tree
        → held_of mid view ≡ record (held_of old view) { offset = facts.offset } → KeepsOthers old mid view
        → ((key : ℕ) → held_of new key ≡ requested (held_of mid) (view ∷ []) mid.tree key) → IsConsistent new
    put_by shown put own others held =
        put_asked old mid new view change is live shown put (record { state = ap (λ (h : Held). h.state) own; cache = ap (λ (h : Held). h.cache) own }) others same.tree held k

-- an id, a rule or a text is set
pub change_kept : (old mid new : Views) (view : ℕ) (change : PlainView → PlainView) → IsTree old → IsLive old view → ((v : PlainView) → is_shown (change v).facts ≡ is_shown v.facts)
    → mid.tree ≡ changed_at_key view change old.tree
    → ((key : ℕ) → held_of mid key ≡ held_of old key)
    → SameTree mid new
    → ((key : ℕ) → held_of new key ≡ requested (held_of mid) (view ∷ []) mid.tree key)
    → IsConsistent old → IsConsistent new
change_kept old mid new view change is live shown tree still same held =
    put_asked old mid new view change is live (shown (head_view (part_from view old.tree))) tree
    (record { state = ap (λ (h : Held). h.state) (still view); cache = ap (λ (h : Held). h.cache) (still view) }) (λ other _. still other) same.tree held
