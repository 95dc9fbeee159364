-- The elements of a document one after the other, each with its depth.
use Rattle.std.proofs.Common.{◌≡◌, ℕ, suc, ◌-◌, List, [], ◌∷◌, ◌++◌, refl, sym, ◌∙◌, ap, arith, append_assoc}
use Rattle.axml_reader.specs.declared.doc.Node.{Node}
use Rattle.axml_reader.specs.declared.doc.Node.TheVariants.{NsStart, NsEnd, Start, End, Chars}
use Rattle.view_model.specs.Forest.{Forest, Nothing, Branch, joined}
use Rattle.inflater.specs.Elements.{begun, elements, in_a_row, nested}

-- an element by the node at which it begins, and how many elements it is in, itself too
pub record ElementAtDepth : Type 0 where
  pub depth : ℕ
  pub node : Node

-- the elements from a node on, inside n open ones
abbrev pub placed : ℕ → List Node → List ElementAtDepth
placed depth [] = []
placed depth (NsStart prefix uri ∷ more) = placed depth more
placed depth (NsEnd prefix uri ∷ more) = placed depth more
placed depth (Start line ns name first count ∷ more) = record { depth = suc depth; node = Start line ns name first count } ∷ placed (suc depth) more
placed depth (End line ns name ∷ more) = placed (depth - 1) more
placed depth (Chars line text kind word ∷ more) = placed depth more

-- nested elements in preorder
abbrev pub placed_trees : ℕ → Forest Node → List ElementAtDepth
placed_trees depth Nothing = []
placed_trees depth (Branch node below after) = record { depth = suc depth; node = node } ∷ (placed_trees (suc depth) below ++ placed_trees depth after)

-- lists of trees, each one less deep than the one before
abbrev rising : ℕ → List (Forest Node) → List ElementAtDepth
rising depth [] = []
rising depth (trees ∷ more) = placed_trees depth trees ++ rising (depth - 1) more

rising-begun : (depth : ℕ) (node : Node) (lists : List (Forest Node)) → record { depth = suc depth; node = node } ∷ rising (suc depth) lists ≡ rising depth (begun node lists)
rising-begun depth node [] = refl
rising-begun depth node (below ∷ []) =
    ap (λ l. record { depth = suc depth; node = node } ∷ l) (sym (append_assoc (placed_trees (suc depth) below) [] []))
rising-begun depth node (below ∷ after ∷ outer) =
    let d : suc depth - 1 ≡ depth = omega arith in
    ap (λ k. record { depth = suc depth; node = node } ∷ (placed_trees (suc depth) below ++ rising k (after ∷ outer))) d
    ∙ ap (λ l. record { depth = suc depth; node = node } ∷ l) (sym (append_assoc (placed_trees (suc depth) below) (placed_trees depth after) (rising (depth - 1) outer)))

placed-nested : (depth : ℕ) (nodes : List Node) → placed depth nodes ≡ rising depth (nested nodes)
placed-nested depth [] = refl
placed-nested depth (NsStart prefix uri ∷ more) = placed-nested depth more
placed-nested depth (NsEnd prefix uri ∷ more) = placed-nested depth more
placed-nested depth (Start line ns name first count ∷ more) =
    ap (λ l. record { depth = suc depth; node = Start line ns name first count } ∷ l) (placed-nested (suc depth) more)
    ∙ rising-begun depth (Start line ns name first count) (nested more)
placed-nested depth (End line ns name ∷ more) = placed-nested (depth - 1) more
placed-nested depth (Chars line text kind word ∷ more) = placed-nested depth more

placed_trees-joined : (depth : ℕ) (trees more : Forest Node) → placed_trees depth (joined trees more) ≡ placed_trees depth trees ++ placed_trees depth more
placed_trees-joined depth Nothing more = refl
placed_trees-joined depth (Branch node below after) more =
    ap (λ l. record { depth = suc depth; node = node } ∷ l)
    (ap (λ l. placed_trees (suc depth) below ++ l) (placed_trees-joined depth after more)
    ∙ sym (append_assoc (placed_trees (suc depth) below) (placed_trees depth after) (placed_trees depth more)))

rising-in_a_row : (lists : List (Forest Node)) → rising 0 lists ≡ placed_trees 0 (in_a_row lists)
rising-in_a_row [] = refl
rising-in_a_row (trees ∷ more) = ap (λ l. placed_trees 0 trees ++ l) (rising-in_a_row more) ∙ sym (placed_trees-joined 0 trees (in_a_row more))

pub placed-elements : (nodes : List Node) → placed 0 nodes ≡ placed_trees 0 (elements nodes)
placed-elements nodes = placed-nested 0 nodes ∙ rising-in_a_row (nested nodes)
