-- The effect of a hook's edits on a tree.
use Rattle.std.proofs.Common.{◌≡◌, ℕ, ◌+◌, true, false, [], ◌∷◌, drop, Option, None, Some, refl, sym, ◌∙◌, ap, inl, inr, arith}
use Rattle.std.proofs.lemmas.Bool.{cases_eq}
use Rattle.std.proofs.lemmas.List.{drop_all, drop_more}
use Rattle.std.proofs.lemmas.Option.{get_or_from_slice_get, slice_get_cases, slice_get_within}
use Rattle.size_hooks.specs.Hook.{Hook}
use Rattle.size_hooks.specs.Hooks.{edit_of}
use Rattle.view_model.specs.Changes.{facts_after_change}
use Rattle.view_model.specs.declared.facts.Facts.{Facts}
use Rattle.view_model.specs.declared.changes.Change.{Change}
use Rattle.view_model.specs.declared.changes.Change.TheVariants as change
use Rattle.view_model.specs.declared.changes.NumEdit.{NumEdit}
use Rattle.view_model.specs.Facts.{is_shown, unscrolled_facts}
use Rattle.view_model.specs.Forest.{map_rows}
use Rattle.view_model.specs.PlainTree.{PlainView, with_facts}
use Rattle.view_tree.specs.Rows.{changed_at_key}
use Rattle.view_tree.specs.Views.{Held, IsLive, IsTree, KeepsOthers, Views, facts_of, geometry_of, held_of, laid_rows, number_of, plain_of}
use Rattle.view_tree.proofs.values.ChangeLaws.{same_change}
use Rattle.view_tree.proofs.values.GeometryLaws.{geometry-put}
use Rattle.traversal.specs.Changing.{SameShape, bare}
use Rattle.traversal.specs.Frames.{edits_of}
use Rattle.traversal.proofs.frames.ChangeLaws.{bare_put}

-- a change is none of the names of a view, of its direction and how it runs, of its offset and of whether it takes part
-- in layout
pub record KeepsOtherFacts (old new : Facts) : Type 0 where
  pub id : new.id ≡ old.id
  pub rules : new.rules ≡ old.rules
  pub direction : new.direction ≡ old.direction
  pub rtl : new.rtl ≡ old.rtl
  pub offset : new.offset ≡ old.offset
  pub shown : is_shown new ≡ is_shown old

pub change_leaves : (change : Change) (facts : Facts) → KeepsOtherFacts facts (facts_after_change change facts)
change_leaves (change.Size width height) facts = record { id = refl; rules = refl; direction = refl; rtl = refl; offset = refl; shown = refl }
change_leaves (change.Min size) facts = record { id = refl; rules = refl; direction = refl; rtl = refl; offset = refl; shown = refl }
change_leaves (change.Margins sides) facts = record { id = refl; rules = refl; direction = refl; rtl = refl; offset = refl; shown = refl }
change_leaves (change.Padding sides) facts = record { id = refl; rules = refl; direction = refl; rtl = refl; offset = refl; shown = refl }
change_leaves (change.Weight weight) facts = record { id = refl; rules = refl; direction = refl; rtl = refl; offset = refl; shown = refl }
change_leaves (change.Gravity true gravity) facts = record { id = refl; rules = refl; direction = refl; rtl = refl; offset = refl; shown = refl }
change_leaves (change.Gravity false gravity) facts = record { id = refl; rules = refl; direction = refl; rtl = refl; offset = refl; shown = refl }
change_leaves (change.Background color) facts = record { id = refl; rules = refl; direction = refl; rtl = refl; offset = refl; shown = refl }

-- what an edit of a view that is there made of a tree
pub record Edited (old : Views) (edit : NumEdit) (new : Views) : Type 0 where
  pub plain : plain_of new ≡ with_facts edit.view (facts_after_change edit.change) (plain_of old)
  pub geometry : geometry_of new ≡ geometry_of old
  pub shape : SameShape old new

pub edit_made : (old new : Views) (view : ℕ) (edit : NumEdit) (facts : Facts) → IsTree old → IsLive old view → number_of old view ≡ edit.view
    → facts ≡ facts_after_change edit.change (facts_of old view)
    → new.tree ≡ changed_at_key view (λ (v : PlainView). record v { facts = unscrolled_facts facts }) old.tree
    → plain_of new ≡ with_facts (number_of old view) (λ _. facts) (plain_of old)
    → new.orders ≡ old.orders
    → new.next ≡ old.next
    → held_of new view ≡ record (held_of old view) { offset = facts.offset }
    → KeepsOthers old new view
    → Edited old edit new
edit_made old new view edit facts is live number made tree plain orders next own others =
    let change : PlainView → PlainView = λ v. record v { facts = unscrolled_facts facts } in
    let leaves = change_leaves edit.change (facts_of old view) in
    let bounds : (key : ℕ) → (held_of new key).state.bounds ≡ (held_of old key).state.bounds =
    λ key. elim (cases_eq key view) [
      | inl e ↦ rw e (ap (λ (h : Held). h.state.bounds) own)
      | inr ne ↦ ap (λ (h : Held). h.state.bounds) (others key ne)
    ] in
    record {
      plain = plain ∙ same_change old view (λ _. facts) (facts_after_change edit.change) is live made ∙ ap (λ n. with_facts n (facts_after_change edit.change) (plain_of old)) number;
      geometry = ap (laid_rows (held_of new)) tree ∙ geometry-put (held_of old) (held_of new) view change old.tree (λ _. refl) bounds;
      shape = record { rows = ap (map_rows bare) tree ∙ bare_put view change old.tree (λ _. refl) (λ _. refl) (λ _. refl); orders = orders; next = next };
    }

pub shape_then : {old mid new : Views} → SameShape old mid → SameShape mid new → SameShape old new
shape_then first second = record { rows = second.rows ∙ first.rows; orders = second.orders ∙ first.orders; next = second.next ∙ first.next }

-- an edit is left
pub next_edit : (hook : Option Hook) (k : ℕ) (edit : NumEdit) → Some edit ≡ edit_of hook k → drop k (edits_of hook) ≡ edit ∷ drop (k + 1) (edits_of hook)
next_edit None k edit some = absurd cc
next_edit (Some hook) k edit some =
    drop_more hook.edits k edit (slice_get_within hook.edits k edit (sym some))
    ∙ ap (λ (first : NumEdit). first ∷ drop (k + 1) hook.edits) (get_or_from_slice_get hook.edits k edit edit (sym some))

-- no edit is left
pub none_left : (hook : Option Hook) (k : ℕ) → None ≡ edit_of hook k → drop k (edits_of hook) ≡ []
none_left None k none = drop_all k [] (omega arith)
none_left (Some hook) k none = drop_all k hook.edits (elim (slice_get_cases hook.edits k).1 [ inl h ↦ absurd (let e : None ≡ Some h.0 = none ∙ h.2 in cc) | inr h ↦ h.0 ])
