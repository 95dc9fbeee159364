-- Plain trees that are built one after another.
use Rattle.std.proofs.Common.{◌≡◌, ℕ, ◌<◌, List, [], ◌∷◌, ◌++◌, map, refl, sym, ◌∙◌, ap}
use Rattle.view_model.specs.Forest.{Forest, Nothing, Branch, joined}
use Rattle.view_model.specs.PlainTree.{PlainView, in_order, plain, planted}
use Rattle.view_model.specs.declared.tree.Tree.{Tree}
use Rattle.view_model.specs.declared.tree.Tree.TheOpen.{Tree-F}
use Rattle.view_model.specs.declared.tree.Tree.TheViews.{roll-Tree}
use Rattle.view_model.specs.declared.tree.Tree.TheFolds.{fold-roll-Tree}
use Rattle.view_tree.specs.Rows.{Row, first_tree, later_siblings, children_of_first, part_from, count_of_key}
use Rattle.view_tree.specs.Views.{Held, IsLive, Views, class_of, facts_of, held_of, number_of, plain_rows, text_of, view_at}
use Rattle.view_model.specs.declared.facts.Facts.{Facts}
use Rattle.view_model.specs.declared.class.Class.{Class}
use Rattle.view_tree.proofs.forest.KeyLaws.{located}

-- these trees, and then the rest
abbrev pub onto : List Tree → Forest PlainView → Forest PlainView
onto [] rest = rest
onto (tree ∷ trees) rest = joined (plain tree) (onto trees rest)

pub onto_push : (trees : List Tree) (tree : Tree) (rest : Forest PlainView) → onto (trees ++ tree ∷ []) rest ≡ onto trees (joined (plain tree) rest)
onto_push [] tree rest = refl
onto_push (first ∷ trees) tree rest = ap (joined (plain first)) (onto_push trees tree rest)

onto_none : (trees : List Tree) → onto trees Nothing ≡ in_order (map plain trees)
onto_none [] = refl
onto_none (tree ∷ trees) = ap (joined (plain tree)) (onto_none trees)

pub plain_roll : (layer : Tree-F Tree) → plain (roll-Tree layer)
    ≡ Branch (record { number = layer.number; class = layer.class; facts = layer.facts; text = layer.text }) (onto layer.kids.items Nothing) Nothing
plain_roll layer =
    fold-roll-Tree (Forest PlainView) planted layer
    ∙ ap (λ kids. Branch (record { number = layer.number; class = layer.class; facts = layer.facts; text = layer.text }) kids Nothing) (sym (onto_none layer.kids.items))

-- a view with all below it, and then its later siblings
pub plain_siblings : (held : ℕ → Held) (k : ℕ) (t : Forest Row) → 0 < count_of_key k t
    → joined (plain_rows held (first_tree (part_from k t))) (plain_rows held (later_siblings (part_from k t))) ≡ plain_rows held (part_from k t)
plain_siblings held k t live = rw (located k t live).is

-- a view with all below it
pub plain_here : (views : Views) (k : ℕ) → IsLive views k
    → plain_rows (held_of views) (first_tree (part_from k views.tree)) ≡ Branch (view_at views k) (plain_rows (held_of views) (children_of_first (part_from k views.tree))) Nothing
plain_here views k live =
    let f = located k views.tree live in
    rw f.is (ap (λ key. Branch (record f.row.view { facts = record f.row.view.facts { offset = (held_of views key).offset } }) (plain_rows (held_of views) f.kids) Nothing) f.key_is)

-- a view that is made from its parts
pub view_together : (views : Views) (k number : ℕ) (class : Class) (facts : Facts) (text : List ℕ)
    → number ≡ number_of views k → class ≡ class_of views k → facts ≡ facts_of views k → text ≡ text_of views k
    → record { number = number; class = class; facts = facts; text = text } ≡ view_at views k
view_together views k number class facts text number_is class_is facts_is text_is = rw (number_is, class_is, facts_is, text_is)
