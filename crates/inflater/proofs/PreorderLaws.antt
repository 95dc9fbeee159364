-- The views of a document in preorder are a sapling: its elements have one outermost.
use Rattle.std.proofs.Common.{◌≡◌, ℕ, suc, ◌+◌, ◌<◌, ◌≤◌, true, List, [], ◌++◌, Result, Ok, Err, refl, sym, ◌∙◌, ap, arith, append_assoc}
use Rattle.std.proofs.lemmas.Bool.{lt-ltb, le-leb}
use Rattle.axml_reader.specs.Document.{Document}
use Rattle.view_model.specs.declared.sprout.Sprout.{Sprout}
use Rattle.view_model.specs.Forest.{Forest, Nothing, Branch}
use Rattle.view_model.specs.Refusals.{◌>>=◌, PlainRefusal}
use Rattle.view_model.specs.Resources.{Entries}
use Rattle.view_model.specs.Sprouts.{IsPreorder, Seed, is_preorder, follows, preorder}
use Rattle.inflater.specs.Inflating.{OneView, Plan, inflated, planned, view_of}
use Rattle.inflater.proofs.RootLaws.{Rooted}

follows-preorder : (depth last : ℕ) (trees : Forest Seed) (rest : List Sprout) → 1 < depth → depth ≤ last + 1
    → ((b : ℕ) → depth ≤ b + 1 → follows b rest ≡ true) → follows last (preorder depth trees ++ rest) ≡ true
follows-preorder depth last Nothing rest deep le ends = ends last le
follows-preorder depth last (Branch seed below after) rest deep le ends =
    let inner : follows depth (preorder (suc depth) below ++ (preorder depth after ++ rest)) ≡ true =
    follows-preorder (suc depth) depth below (preorder depth after ++ rest) (omega arith) (omega arith)
    (λ b more. follows-preorder depth b after rest deep (omega arith) ends) in
    rw (lt-ltb 1 depth deep, le-leb depth (last + 1) le)
    (ap (follows depth) (append_assoc (preorder (suc depth) below) (preorder depth after) rest) ∙ inner)

one_is_preorder : (seed : Seed) (below : Forest Seed) → IsPreorder (preorder 1 (Branch seed below Nothing))
one_is_preorder seed below = follows-preorder 2 1 below [] (omega arith) (omega arith) (λ b le. refl)

-- one view, with all below it
record IsOneSeed (seeds : Forest Seed) : Type 0 where
  seed : Seed
  below : Forest Seed
  is : seeds ≡ Branch seed below Nothing

one_planned : (own : Result OneView PlainRefusal) (below : Result Plan PlainRefusal) (p : Plan)
    → (own >>= λ one. below >>= λ inner. Ok (record { seeds = Branch one.seed inner.seeds Nothing; ignored = one.ignored + (inner.ignored + 0) })) ≡ Ok p
    → IsOneSeed p.seeds
one_planned (Err refusal) below p is = absurd (cc)
one_planned (Ok one) (Err refusal) p is = absurd (cc)
one_planned (Ok one) (Ok inner) p is =
    let r : p ≡ record { seeds = Branch one.seed inner.seeds Nothing; ignored = one.ignored + (inner.ignored + 0) } = cc in
    record { seed = one.seed; below = inner.seeds; is = ap (λ (p : Plan). p.seeds) r }

pub inflated_preorder : (doc : Document) (resources : Entries) (dpi : ℕ) (p : Plan) → Rooted doc.nodes → inflated doc resources dpi ≡ Ok p → IsPreorder (preorder 1 p.seeds)
inflated_preorder doc resources dpi p root is =
    let one = one_planned (view_of doc resources dpi 1 root.node) (planned doc resources dpi 2 root.below) p (sym (ap (planned doc resources dpi 1) root.is) ∙ is) in
    ap (λ s. is_preorder (preorder 1 s)) one.is ∙ one_is_preorder one.seed one.below
