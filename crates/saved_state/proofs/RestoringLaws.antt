-- The plain tree, once its views are given what a state has.
use Rattle.std.proofs.Common.{◌≡◌, ℕ, ◌<◌, ℤ, Option, Some, None, refl, sym, subst, ◌∙◌, ap, arith, List}
use Rattle.std.proofs.lemmas.List.Elements.{All-same}
use Rattle.std.specs.List.{All, fold}
use mathlib.Core.Path.{fun_ext}
use Rattle.kept_views.specs.Kept.{IsConsistent, IsKept}
use Rattle.saved_state.proofs.RestoredLaws.{IsLiveIn, all_kept, given_offsets, offset_by, set_given, set_more}
use Rattle.saved_state.proofs.RestatedLaws.{all_restated, given_in}
use Rattle.saved_state.specs.Restored.{all_given, all_set, given_values, restated, set_by, wanted, with_text_at, with_text_of}
use Rattle.saved_state.specs.Restoring.{given, restored, with_value}
use Rattle.saved_state.specs.State.{StateEntry}
use Rattle.saved_state.specs.declared.value.Value.{Value}
use Rattle.saved_state.specs.declared.value.Value.TheVariants.{Offset, Text}
use Rattle.view_model.specs.Forest.{Forest, Nothing, Branch, rows}
use Rattle.view_model.specs.PlainTree.{PlainView}
use Rattle.view_tree.specs.Rows.{Row, count_of_key, head_view}
use Rattle.view_tree.specs.Views.{Held, IsLive, IsTree, Views, held_of, plain_of, plain_rows, scrolled}
use Rattle.view_tree.proofs.forest.KeyLaws.{Within, count_of_key-within, from_within, here, times_self}
use Rattle.view_tree.proofs.forest.Forests.{Within-children_of_first, Within-later_siblings}
use Rattle.view_tree.proofs.forest.PreorderLaws.{key_count, key_count-rows}

-- a view with what it is given, its text beside its offset
view_restored : (given : Option Value) (view : PlainView) (before offset : ℤ) → offset ≡ offset_by given before
    → record (with_text_of given view) { facts = record (with_text_of given view).facts { offset = offset } } ≡ with_value given (record view { facts = record view.facts { offset = before } })
view_restored None view before offset e = ap (λ (offset : ℤ). let own : PlainView = record view { facts = record view.facts { offset = offset } } in own) e
view_restored (Some (Offset n)) view before offset e = ap (λ (offset : ℤ). let own : PlainView = record view { facts = record view.facts { offset = offset } } in own) e
view_restored (Some (Text text)) view before offset e = ap (λ (offset : ℤ). let own : PlainView = record view { facts = record view.facts { offset = offset }; text = text } in own) e

module _ (old : Views) (is : IsTree old) (entries : List StateEntry) (new : ℕ → Held)
    (came : (key : ℕ) → 0 < count_of_key key old.tree → (new key).offset ≡ offset_by (wanted entries old.tree key) (held_of old key).offset) where
  rows_restored : (list : Forest Row) → Within list old.tree → plain_rows new (restated entries list) ≡ restored entries (plain_rows (held_of old) list)
  rows_restored Nothing w = refl
  rows_restored (Branch row kids siblings) w =
      let live : 0 < count_of_key row.key old.tree = let a = count_of_key-within row.key w in let b = times_self row kids siblings in omega arith in
      let own : wanted entries old.tree row.key ≡ given entries row.view = ap (λ (part : Forest Row). given entries (head_view part)) (from_within row kids siblings w (is.keys row.key)) in
      let set : (new row.key).offset ≡ offset_by (given entries row.view) (held_of old row.key).offset =
      came row.key live ∙ ap (λ (given : Option Value). offset_by given (held_of old row.key).offset) own in
      let view : PlainView = with_value (given entries row.view) (scrolled (held_of old) row) in
      ap (λ (view : PlainView). Branch view (plain_rows new (restated entries kids)) (plain_rows new (restated entries siblings)))
      (view_restored (given entries row.view) row.view (held_of old row.key).offset (new row.key).offset set)
      ∙ ap (λ (below : Forest PlainView). Branch view below (plain_rows new (restated entries siblings))) (rows_restored kids (Within-children_of_first w))
      ∙ ap (λ (after : Forest PlainView). Branch view (restored entries (plain_rows (held_of old) kids)) after) (rows_restored siblings (Within-later_siblings w))

pub plain_restored : (old new : Views) (entries : List StateEntry) → IsTree old → new.tree ≡ restated entries old.tree
    → ((key : ℕ) → held_of new key ≡ all_given entries old.tree (set_by entries old.tree) (held_of old) key)
    → plain_of new ≡ restored entries (plain_of old)
plain_restored old new entries is reported came =
    ap (plain_rows (held_of new)) reported
    ∙ rows_restored old is entries (held_of new)
    (λ key live.
    let count : 0 < key_count key (rows old.tree) = let a = key_count-rows key old.tree in omega arith in
    ap (λ (own : Held). own.offset) (came key)
    ∙ given_offsets entries old.tree (rows old.tree) (held_of old) key
    ∙ set_more (key_count key (rows old.tree)) (wanted entries old.tree key) (held_of old key).offset count)
    old.tree here

-- a tree of the code whose views were given what the state has for them, one after the other
module _ (old new : Views) (entries : List StateEntry) (values : List (ℕ × Value)) (is : IsTree old) (copied : values ≡ given_values entries old.tree (rows old.tree)) where
  pub values_live : All (λ (set : ℕ × Value). IsLive old set.0) values
  values_live = All-same (IsLiveIn old.tree) values (given_values entries old.tree (rows old.tree)) copied (given_in entries old.tree old.tree)

  module _ (put : new.tree ≡ fold with_text_at old.tree values) (set : (key : ℕ) → held_of new key ≡ all_set old.tree values (held_of old) key) where
    pub reported : new.tree ≡ restated entries old.tree
    reported = put ∙ ap (fold with_text_at old.tree) copied ∙ all_restated entries old.tree is.keys

    pub came : (key : ℕ) → held_of new key ≡ all_given entries old.tree (set_by entries old.tree) (held_of old) key
    came key =
        set key
        ∙ ap (λ (values : List (ℕ × Value)). all_set old.tree values (held_of old) key) copied
        ∙ ap (λ (held : ℕ → Held). held key) (set_given entries old.tree (rows old.tree) (held_of old))

    pub values_plain : plain_of new ≡ restored entries (plain_of old)
    values_plain = plain_restored old new entries is reported came

    pub values_consistent : IsConsistent old → IsConsistent new
    values_consistent kept =
        subst (IsKept (held_of new)) (sym put)
        (subst (λ (held : ℕ → Held). IsKept held (fold with_text_at old.tree values)) (sym (fun_ext set))
        (all_kept old.tree values old.tree (held_of old) (λ key. refl) is.keys values_live kept))
