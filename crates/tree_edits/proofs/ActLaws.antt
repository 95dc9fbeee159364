-- The result of acts on scenes.
use Rattle.std.proofs.Common.{◌≡◌, ℕ, Bool, true, false, refl, ◌∙◌, ap, subst, inl, inr}
use Rattle.std.proofs.lemmas.Bool.{cases_eq}
use Rattle.std.specs.Prelude.{◌==◌, if◌then◌else◌, None, Result}
use Rattle.view_model.specs.Changes.{facts_after_act}
use Rattle.view_model.specs.Cycles.{first_cycle}
use Rattle.view_model.specs.declared.facts.Facts.{Facts}
use Rattle.view_model.specs.declared.refusal.Member.TheVariants as member
use Rattle.view_model.specs.declared.changes.Act.{Act}
use Rattle.view_model.specs.Facts.{unscrolled_facts}
use Rattle.view_model.specs.Forest.{Forest}
use Rattle.view_model.specs.PlainTree.{PlainView, with_facts}
use Rattle.view_model.specs.declared.fault.Fault.{Fault}
use Rattle.view_tree.specs.Faults.{IsRefusedOrCyclic}
use Rattle.view_tree.specs.Rows.{Row, first_tree, part_from, head_view, changed_at_key, count_of_key}
use Rattle.view_tree.specs.Views.{Held, IsLive, IsTree, KeepsOthers, SameTree, Views, facts_of, geometry_of, held_of, laid_rows, number_of, plain_of, plain_rows}
use Rattle.view_tree.proofs.values.GeometryLaws.{geometry-hidden, geometry-put, laid_along}
use Rattle.view_tree.proofs.values.ChangeLaws.{same_change}
use Rattle.view_tree.proofs.forest.PlainLaws.{plain_along}
use Rattle.tree_edits.specs.Editing.{after_act, hidden, hides, names_views, turns}
use Rattle.tree_edits.specs.Hiding.{gone_one, held_hiding, hidden_at}
use Rattle.tree_edits.specs.Scene.{scene_of}
use Rattle.tree_edits.proofs.FactLaws.{names_alone, names_stay, names_still, renamed}
use Rattle.tree_edits.proofs.SceneLaws.{same_scene}
use Rattle.view_tree.proofs.forest.ChangingWalks.{changed_more}

-- an id or a rule is set
pub names_scene : (old new : Views) (view : ℕ) (act : Act) (facts : Facts) → IsTree old → IsLive old view → names_views act ≡ true
    → facts ≡ facts_after_act act (facts_of old view)
    → new.tree ≡ changed_at_key view (λ (v : PlainView). record v { facts = renamed facts v.facts }) old.tree
    → plain_of new ≡ with_facts (number_of old view) (renamed facts) (plain_of old)
    → new.next ≡ old.next
    → ((key : ℕ) → held_of new key ≡ held_of old key)
    → scene_of new ≡ after_act (scene_of old) (number_of old view) act
names_scene old new view act facts is live names made tree plain next held =
    rw (names_stay act names, names_still act names)
    (same_scene _ _ _ _ _ _
    (plain ∙ same_change old view (renamed facts) (facts_after_act act) is live (ap (λ (f : Facts). renamed f (facts_of old view)) made ∙ names_alone act (facts_of old view) names))
    next
    (ap (laid_rows (held_of new)) tree
    ∙ geometry-put (held_of old) (held_of new) view (λ (v : PlainView). record v { facts = renamed facts v.facts }) old.tree (λ _. refl) (λ key. ap (λ (h : Held). h.state.bounds) (held key))))

-- what is kept of the views is as before, or a view and all below it are out of layout
abbrev pub HidBy : Bool → Views → Views → ℕ → Type 0
HidBy hide old new view = (key : ℕ) → held_of new key ≡ held_hiding hide old view key

-- an offset stays
hidden_offset : (hide none : Bool) (held : Held) → (if hide then (if none then held else gone_one held) else held).offset ≡ held.offset
hidden_offset true true held = refl
hidden_offset true false held = refl
hidden_offset false none held = refl

-- what that means for the geometry
pub hid_geometry : (hide : Bool) (old new : Views) (view : ℕ) → IsTree old → IsLive old view → SameTree old new → HidBy hide old new view
    → geometry_of new ≡ (if hide then hidden (number_of old view) (scene_of old) else geometry_of old)
hid_geometry true old new view is live same held =
    ap (laid_rows (held_of new)) same.tree
    ∙ geometry-hidden old (held_of new) view is live (λ other there. ap (λ (h : Held). h.state.bounds) (held other ∙ changed_more gone_one _ (held_of old other) there))
    (λ other away. held other ∙ ap (λ n. hidden_at n (held_of old other)) away)
hid_geometry false old new view is live same held =
    ap (laid_rows (held_of new)) same.tree ∙ laid_along (held_of old) (held_of new) old.tree (λ key _. ap (λ (h : Held). h.state.bounds) (held key))

-- the plain tree stays
pub hid_plain : (hide : Bool) (old new : Views) (view : ℕ) → SameTree old new → HidBy hide old new view → plain_of new ≡ plain_of old
hid_plain hide old new view same held =
    ap (plain_rows (held_of new)) same.tree
    ∙ plain_along (held_of old) (held_of new) old.tree
    (λ key _. ap (λ (h : Held). h.offset) (held key) ∙ hidden_offset hide (count_of_key key (first_tree (part_from view old.tree)) == 0) (held_of old key))

-- other facts are set, after the act hid what it hides
pub facts_scene : (old mid new : Views) (view : ℕ) (act : Act) (facts : Facts) → IsTree old → IsLive old view → turns act ≡ false
    → facts ≡ facts_after_act act (facts_of old view)
    → SameTree old mid
    → HidBy (hides act) old mid view
    → new.tree ≡ changed_at_key view (λ (v : PlainView). record v { facts = unscrolled_facts facts }) mid.tree
    → plain_of new ≡ with_facts (number_of mid view) (λ _. facts) (plain_of mid)
    → new.next ≡ mid.next
    → held_of new view ≡ record (held_of mid view) { offset = facts.offset }
    → KeepsOthers mid new view
    → scene_of new ≡ after_act (scene_of old) (number_of old view) act
facts_scene old mid new view act facts is live turn made same held tree plain next own others =
    let change = λ (v : PlainView). record v { facts = unscrolled_facts facts } in
    let bounds : (key : ℕ) → (held_of new key).state.bounds ≡ (held_of mid key).state.bounds =
    λ key. elim (cases_eq key view) [
      | inl e ↦ rw e (ap (λ (h : Held). h.state.bounds) own)
      | inr ne ↦ ap (λ (h : Held). h.state.bounds) (others key ne)
    ] in
    let number : number_of mid view ≡ number_of old view = ap (λ (t : Forest Row). (head_view (part_from view t)).number) same.tree in
    rw turn (same_scene _ _ _ _ _ _
    (plain ∙ ap (λ n. with_facts n (λ _. facts) (plain_of mid)) number ∙ ap (with_facts (number_of old view) (λ _. facts)) (hid_plain (hides act) old mid view same held)
    ∙ same_change old view (λ _. facts) (facts_after_act act) is live made)
    (next ∙ same.next)
    (ap (laid_rows (held_of new)) tree ∙ geometry-put (held_of mid) (held_of new) view change mid.tree (λ _. refl) bounds ∙ hid_geometry (hides act) old mid view is live same held))

-- the cycle of the tree with other names is that of the tree after the act
pub names_refused : (old : Views) (view : ℕ) (act : Act) (facts : Facts) (result : Result (Unit {0}) Fault) → IsTree old → IsLive old view → names_views act ≡ true
    → facts ≡ facts_after_act act (facts_of old view)
    → IsRefusedOrCyclic None (first_cycle member.View (with_facts (number_of old view) (renamed facts) (plain_of old))) result
    → IsRefusedOrCyclic None (first_cycle member.View (with_facts (number_of old view) (facts_after_act act) (plain_of old))) result
names_refused old view act facts result is live names made refused =
    subst (λ (tree : Forest PlainView). IsRefusedOrCyclic None (first_cycle member.View tree) result)
    (same_change old view (renamed facts) (facts_after_act act) is live (ap (λ (f : Facts). renamed f (facts_of old view)) made ∙ names_alone act (facts_of old view) names)) refused
