-- The laws of plain trees, of layout and of hidden views, as the calls of a tree state them.
use Rattle.std.proofs.Common.{◌≡◌, ℕ, List, ◌∙◌, ap, arith}
use Rattle.view_model.specs.declared.facts.Facts.{Facts}
use Rattle.view_model.specs.declared.facts.Rules.{Rules}
use Rattle.view_model.specs.Facts.{unscrolled_facts}
use Rattle.view_model.specs.PlainTree.{PlainView, pruned, with_facts, with_text}
use Rattle.view_tree.specs.Rows.{first_tree, pruned_at_key, part_from, changed_at_key, count_of_key}
use Rattle.view_tree.specs.Views.{Held, IsLive, IsTree, KeepsOthers, Views, held_of, number_of, plain_of, plain_rows}
use Rattle.view_tree.proofs.forest.NumberLaws.{count_of_key-pruned_at_key}
use Rattle.view_tree.proofs.forest.PlainLaws.{agree_live, plain-pruned_at_key, plain-put_facts, plain-put_rules, plain-put_text, plain_along}
use mathlib.Core.Path.{fun_ext}

-- a view and all below it are taken away, and what is kept of the others is the same
pub plain_detached : (old new : Views) (key : ℕ) → IsTree old → IsLive old key → new.tree ≡ pruned_at_key key old.tree
    → ((other : ℕ) → count_of_key other (first_tree (part_from key old.tree)) ≡ 0 → held_of new other ≡ held_of old other) → plain_of new ≡ pruned (number_of old key) (plain_of old)
plain_detached old new key is live tree same =
    ap (plain_rows (held_of new)) tree
    ∙ plain_along (held_of old) (held_of new) (pruned_at_key key old.tree)
    (λ other stays.
    let both = count_of_key-pruned_at_key other key old.tree (is.keys key) in
    let one = is.keys other in
    ap (λ (h : Held). h.offset) (same other (omega arith)))
    ∙ plain-pruned_at_key (held_of old) key (number_of old key) old.tree (agree_live old key is live)

-- other facts
pub plain_facts_set : (old new : Views) (key : ℕ) (facts : Facts) → IsTree old → IsLive old key
    → new.tree ≡ changed_at_key key (λ (v : PlainView). record v { facts = unscrolled_facts facts }) old.tree
    → (held_of new key).offset ≡ facts.offset → KeepsOthers old new key → plain_of new ≡ with_facts (number_of old key) (λ _. facts) (plain_of old)
plain_facts_set old new key facts is live tree own others =
    ap (plain_rows (held_of new)) tree
    ∙ plain-put_facts (held_of old) (held_of new) key (number_of old key) facts old.tree (agree_live old key is live) (is.keys key) own
    (λ other ne. ap (λ (h : Held). h.offset) (others other ne))

-- another id and other rules
pub plain_rules_set : (old new : Views) (key id : ℕ) (rules : Rules) → IsTree old → IsLive old key
    → new.tree ≡ changed_at_key key (λ (v : PlainView). record v { facts = record v.facts { id = id; rules = rules } }) old.tree
    → ((other : ℕ) → held_of new other ≡ held_of old other)
    → plain_of new ≡ with_facts (number_of old key) (λ (facts : Facts). record facts { id = id; rules = rules }) (plain_of old)
plain_rules_set old new key id rules is live tree same =
    ap (plain_rows (held_of new)) tree
    ∙ ap (λ held. plain_rows held (changed_at_key key (λ (v : PlainView). record v { facts = record v.facts { id = id; rules = rules } }) old.tree)) (fun_ext same)
    ∙ plain-put_rules (held_of old) key (number_of old key) id rules old.tree (agree_live old key is live)

-- another text
pub plain_text_set : (old new : Views) (key : ℕ) (text : List ℕ) → IsTree old → IsLive old key
    → new.tree ≡ changed_at_key key (λ (v : PlainView). record v { text = text }) old.tree
    → ((other : ℕ) → held_of new other ≡ held_of old other) → plain_of new ≡ with_text (number_of old key) text (plain_of old)
plain_text_set old new key text is live tree same =
    ap (plain_rows (held_of new)) tree
    ∙ ap (λ held. plain_rows held (changed_at_key key (λ (v : PlainView). record v { text = text }) old.tree)) (fun_ext same)
    ∙ plain-put_text (held_of old) key (number_of old key) text old.tree (agree_live old key is live)
