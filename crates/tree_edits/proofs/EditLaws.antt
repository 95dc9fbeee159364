-- The result of edits on scenes.
use Rattle.std.proofs.Common.{◌≡◌, ℕ, ℤ, Bool, true, List, [], Option, Some, None, Result, Ok, Err, refl, sym, ◌∙◌, ap, subst}
use Rattle.std.specs.Option.{option_map}
use Rattle.std.specs.Prelude.{IfSome, if◌then◌else◌}
use Rattle.std.specs.Result.{IsErrAnd}
use Rattle.view_model.specs.Changes.{facts_after_act}
use Rattle.view_model.specs.Cycles.{first_cycle}
use Rattle.view_model.specs.declared.facts.Facts.{Facts}
use Rattle.view_model.specs.declared.changes.Act.{Act}
use Rattle.view_model.specs.declared.class.Class.{Class}
use Rattle.view_model.specs.declared.refusal.Member.TheVariants as member
use Rattle.view_model.specs.Facts.{new_facts}
use Rattle.view_model.specs.Forest.{Nothing}
use Rattle.view_model.specs.Directed.{running}
use Rattle.view_model.specs.Growth.{grown_at, refusal_at}
use Rattle.view_model.specs.PlainTree.{PlainView, pruned, single, view_in, with_facts, with_text}
use Rattle.view_model.specs.Refusals.{IsRefusedExactlyFor, refusal_numbered}
use Rattle.view_model.specs.Numbers.{wrong_class}
use Rattle.view_tree.specs.tree.Attached.{Attached}
use Rattle.view_model.specs.declared.fault.Fault.{Fault}
use Rattle.view_tree.specs.Faults.{IsRefusedOrCyclic}
use Rattle.view_tree.specs.tree.Directions.{running_below}
use Rattle.view_tree.specs.Rows.{first_tree, pruned_at_key, part_from, changed_at_key}
use Rattle.view_tree.specs.Views.{Held, IsLive, IsTree, KeepsOutside, Views, class_of, held_of, laid_rows, number_of, plain_of}
use Rattle.view_tree.proofs.values.GeometryLaws.{geometry-pruned_at_key, geometry-put, geometry-with_child}
use Rattle.view_tree.proofs.forest.PlainLaws.{number_there}
use Rattle.tree_edits.specs.Applied.{AppliesEdit, IsAddable, IsDoneOrCyclic}
use Rattle.view_model.specs.declared.fault.Fault.TheVariants as fault
use Rattle.view_model.specs.Classes.{has_text}
use Rattle.tree_edits.specs.Editing.{Add, Outcome, cycle_of_act, names_views, outcome_of_add, outcome_of_act, outcome_of_edit, outcome_unless, new_view, outcome_of_remove, outcome_of_text}
use Rattle.view_model.specs.Facets.{takes}
use Rattle.tree_edits.specs.Scene.{EditScene, scene_of}
use Rattle.tree_edits.proofs.CycleLaws.{cycle_named, taken_or_cyclic}
use Rattle.tree_edits.proofs.SceneLaws.{same_scene}
use Rattle.tree_edits.proofs.SpreadLaws.{runs_named}

-- a root is added only if there is none
pub added_root : (views : Views) (parent : Option ℕ) → IsAddable views parent → parent ≡ None → views.tree ≡ Nothing
added_root views None addable none = addable.0
added_root views (Some parent) addable none = absurd (cc)

added_live : (views : Views) (parent : Option ℕ) → IsAddable views parent → IfSome parent (λ (parent : ℕ). IsLive views parent)
added_live views None addable = tt
added_live views (Some parent) addable = addable.0

-- a view was added
pub attached_new : (old new : Views) (parent : Option ℕ) (class : Class) (width height : ℤ) (facts : Facts) (text : List ℕ) (key : ℕ)
    → facts ≡ new_facts width height
    → text ≡ []
    → (let view : PlainView = record { number = old.next; class = class; facts = facts; text = text } in Attached old parent (running_below parent old.tree view) key new)
    → Attached old parent (running_below parent old.tree (new_view old.next class width height)) key new
attached_new old new parent class width height facts text key facts_is text_is attached =
    let view : Facts → List ℕ → PlainView = λ f t. running_below parent old.tree (record { number = old.next; class = class; facts = f; text = t }) in
    subst (λ (t : List ℕ). Attached old parent (view (new_facts width height) t) key new) text_is
    (subst (λ (f : Facts). Attached old parent (view f text) key new) facts_is attached)

pub attached_scene : (old new : Views) (parent : Option ℕ) (class : Class) (width height : ℤ) (key number : ℕ) → IsTree old → IsAddable old parent
    → refusal_at (plain_of old) (option_map (number_of old) parent) ≡ None
    → Attached old parent (running_below parent old.tree (new_view old.next class width height)) key new
    → number ≡ old.next
    → outcome_of_edit (scene_of old) (Add (option_map (number_of old) parent) class width height) ≡ Ok (scene_of new, Some number)
attached_scene old new parent class width height key number is addable free attached number_is =
    ap (outcome_of_add (scene_of old) (option_map (number_of old) parent) class width height) free
    ∙ ap (λ (scene : EditScene). Ok (scene, Some old.next))
    (sym (same_scene _ _ _ _ _ _
    (attached.plain
    ∙ ap (λ (rtl : Bool). grown_at (option_map (number_of old) parent) (single (running rtl (new_view old.next class width height))) (plain_of old)) (runs_named old parent is (added_live old parent addable)))
    attached.next
    (ap (laid_rows (held_of new)) attached.tree
    ∙ geometry-with_child old (held_of new) parent key (running_below parent old.tree (new_view old.next class width height)) (added_root old parent addable) attached.unused
    (ap (λ (h : Held). h.state.bounds) attached.held) attached.others)))
    ∙ ap (λ (n : ℕ). Ok (scene_of new, Some n)) (sym number_is)

-- a view was not added
pub not_attached : (old : Views) (after : EditScene) (parent : Option ℕ) (class : Class) (width height : ℤ) (given : Fault) (answer : Result (Option ℕ) Fault)
    → IsRefusedExactlyFor {A = ℕ} (refusal_at (plain_of old) (option_map (number_of old) parent)) (Err given)
    → IsErrAnd answer (λ fault. fault ≡ given)
    → AppliesEdit (outcome_of_edit (scene_of old) (Add (option_map (number_of old) parent) class width height)) after answer
not_attached old after parent class width height given (Ok number) refused is = absurd is
not_attached old after parent class width height (fault.Refused refusal) (Err fault) refused is =
    subst (λ (f : Fault). AppliesEdit (outcome_of_edit (scene_of old) (Add (option_map (number_of old) parent) class width height)) after (Err f)) (sym is)
    (ap (outcome_of_add (scene_of old) (option_map (number_of old) parent) class width height) refused)
not_attached old after parent class width height fault.NoMemory (Err fault) refused is =
    subst (λ (f : Fault). AppliesEdit (outcome_of_edit (scene_of old) (Add (option_map (number_of old) parent) class width height)) after (Err f)) (sym is)
    (subst IsDoneOrCyclic (sym (ap (outcome_of_add (scene_of old) (option_map (number_of old) parent) class width height) refused)) tt)

-- a view and all below it were taken away
pub detached_scene : (old new : Views) (view : ℕ) → IsTree old → IsLive old view
    → new.tree ≡ pruned_at_key view old.tree
    → plain_of new ≡ pruned (number_of old view) (plain_of old)
    → new.next ≡ old.next
    → KeepsOutside (held_of old) (held_of new) (first_tree (part_from view old.tree))
    → outcome_of_remove (scene_of old) (number_of old view) ≡ Ok (scene_of new, None)
detached_scene old new view is live tree plain next others =
    ap (λ (scene : EditScene). Ok (scene, None))
    (sym (same_scene _ _ _ _ _ _ plain next (ap (laid_rows (held_of new)) tree ∙ geometry-pruned_at_key old (held_of new) view is live others)))

-- an act is done or refused, by the class of its view
pub done_by : (views : Views) (view : ℕ) (act : Act) (class : Class) (taken : Bool) → IsTree views → IsLive views view → class ≡ class_of views view
    → taken ≡ takes class act
    → outcome_of_act (scene_of views) (number_of views view) act (view_in (plain_of views) (number_of views view))
    ≡ (if taken then outcome_unless (scene_of views) (number_of views view) act (cycle_of_act (plain_of views) (number_of views view) act) else Err (refusal_numbered wrong_class))
done_by views view act class taken is live class_is taken_is =
    ap (outcome_of_act (scene_of views) (number_of views view) act) (number_there views view is live)
    ∙ ap (λ (b : Bool). if b then outcome_unless (scene_of views) (number_of views view) act (cycle_of_act (plain_of views) (number_of views view) act) else Err (refusal_numbered wrong_class))
    (sym (taken_is ∙ ap (λ (k : Class). takes k act) class_is))

-- a text is set or refused, by the class of its view
pub written_by : (views : Views) (view : ℕ) (text : List ℕ) (class : Class) (has : Bool) → IsTree views → IsLive views view → class ≡ class_of views view
    → has ≡ has_text class
    → outcome_of_text (scene_of views) (number_of views view) text (view_in (plain_of views) (number_of views view))
    ≡ (if has then Ok (record (scene_of views) { tree = with_text (number_of views view) text (plain_of views) }, None) else Err (refusal_numbered wrong_class))
written_by views view text class has is live class_is has_is =
    ap (outcome_of_text (scene_of views) (number_of views view) text) (number_there views view is live)
    ∙ ap (λ (b : Bool). if b then Ok (record (scene_of views) { tree = with_text (number_of views view) text (plain_of views) }, None) else Err (refusal_numbered wrong_class))
    (sym (has_is ∙ ap has_text class_is))

-- an act that names views was not done
pub not_named : (scene : EditScene) (number : ℕ) (act : Act) (outcome : Outcome) (after : EditScene) (given : Fault) (answer : Result (Option ℕ) Fault) → names_views act ≡ true
    → outcome ≡ outcome_unless scene number act (cycle_of_act scene.tree number act)
    → IsRefusedOrCyclic {A = Unit {0}} None (first_cycle member.View (with_facts number (facts_after_act act) scene.tree)) (Err given)
    → IsErrAnd answer (λ fault. fault ≡ given)
    → AppliesEdit outcome after answer
not_named scene number act outcome after given (Ok made) names is refused fault_is = absurd fault_is
not_named scene number act outcome after (fault.Refused refusal) (Err fault) names is refused fault_is =
    subst (λ (f : Fault). AppliesEdit outcome after (Err f)) (sym fault_is) (is ∙ ap (outcome_unless scene number act) (cycle_named scene number act names ∙ refused))
not_named scene number act outcome after fault.NoMemory (Err fault) names is refused fault_is =
    subst (λ (f : Fault). AppliesEdit outcome after (Err f)) (sym fault_is) (subst IsDoneOrCyclic (sym is) (taken_or_cyclic scene number act names))

-- what is done, unless it is out of memory
pub no_memory : (outcome : Outcome) (made after : EditScene) (answer : Result (Option ℕ) Fault) → outcome ≡ Ok (made, None)
    → IsErrAnd answer (λ given. given ≡ fault.NoMemory) → AppliesEdit outcome after answer
no_memory outcome made after (Ok number) is fault_is = absurd fault_is
no_memory outcome made after (Err fault) is fault_is = subst (λ (f : Fault). AppliesEdit outcome after (Err f)) (sym fault_is) (subst IsDoneOrCyclic (sym is) tt)

-- a text was set
pub text_scene : (old new : Views) (view : ℕ) (text written : List ℕ) → written ≡ text
    → new.tree ≡ changed_at_key view (λ (v : PlainView). record v { text = written }) old.tree
    → plain_of new ≡ with_text (number_of old view) written (plain_of old)
    → new.next ≡ old.next
    → ((key : ℕ) → held_of new key ≡ held_of old key)
    → scene_of new ≡ record (scene_of old) { tree = with_text (number_of old view) text (plain_of old) }
text_scene old new view text written same tree plain next held =
    same_scene _ _ _ _ _ _
    (plain ∙ ap (λ (t : List ℕ). with_text (number_of old view) t (plain_of old)) same)
    next
    (ap (laid_rows (held_of new)) tree
    ∙ geometry-put (held_of old) (held_of new) view (λ (v : PlainView). record v { text = written }) old.tree (λ _. refl) (λ key. ap (λ (h : Held). h.state.bounds) (held key)))
