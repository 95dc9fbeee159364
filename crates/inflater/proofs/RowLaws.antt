-- The views of elements one after the other are those of nested elements, in preorder.
use Rattle.std.proofs.Common.{◌≡◌, ℕ, suc, ◌+◌, List, [], ◌∷◌, ◌++◌, Result, Ok, Err, refl, sym, ◌∙◌, ap, arith, append_assoc}
use Rattle.std.proofs.lemmas.List.{append-nil}
use Rattle.axml_reader.specs.declared.doc.Node.{Node}
use Rattle.axml_reader.specs.Document.{Document}
use Rattle.view_model.specs.declared.sprout.Sprout.{Sprout}
use Rattle.view_model.specs.Forest.{Forest, Nothing, Branch, count_of}
use Rattle.view_model.specs.Refusals.{◌>>=◌, PlainRefusal}
use Rattle.view_model.specs.Resources.{Entries}
use Rattle.view_model.specs.Sprouts.{preorder, sprout_of}
use Rattle.inflater.specs.Elements.{elements}
use Rattle.inflater.specs.Inflating.{OneView, Plan, inflated, planned, view_of}
use Rattle.inflater.proofs.PlaceLaws.{ElementAtDepth, placed, placed_trees, placed-elements}

-- the views of some elements, one after the other
pub record SproutRow : Type 0 where
  pub sprouts : List Sprout
  pub ignored : ℕ

abbrev pub nothing : SproutRow
nothing = record { sprouts = []; ignored = 0 }

abbrev pub before : Sprout → ℕ → SproutRow → SproutRow
before sprout ignored row = record { sprouts = sprout ∷ row.sprouts; ignored = ignored + row.ignored }

-- the views of elements, or the first refusal; the first element has this number
abbrev pub row_of : Document → Entries → ℕ → ℕ → List ElementAtDepth → Result SproutRow PlainRefusal
row_of doc resources dpi element [] = Ok nothing
row_of doc resources dpi element (placed ∷ more) =
    view_of doc resources dpi element placed.node >>= λ own.
    row_of doc resources dpi (suc element) more >>= λ row.
    Ok (before (sprout_of placed.depth own.seed) own.ignored row)

-- a plan whose outermost views are inside n others, and what comes after it
abbrev pub and_row : ℕ → Result Plan PlainRefusal → Result SproutRow PlainRefusal → Result SproutRow PlainRefusal
and_row depth plan rest =
    plan >>= λ p. rest >>= λ row. Ok (record { sprouts = preorder (suc depth) p.seeds ++ row.sprouts; ignored = p.ignored + row.ignored })

rows_join : (depth : ℕ) (own : Result OneView PlainRefusal) (below after : Result Plan PlainRefusal) (rest : Result SproutRow PlainRefusal)
    → (own >>= λ one. and_row (suc depth) below (and_row depth after rest) >>= λ row. Ok (before (sprout_of (suc depth) one.seed) one.ignored row))
    ≡ and_row depth (own >>= λ one. below >>= λ inner. after >>= λ later.
    Ok (record { seeds = Branch one.seed inner.seeds later.seeds; ignored = one.ignored + (inner.ignored + later.ignored) })) rest
rows_join depth (Err refusal) below after rest = refl
rows_join depth (Ok one) (Err refusal) after rest = refl
rows_join depth (Ok one) (Ok inner) (Err refusal) rest = refl
rows_join depth (Ok one) (Ok inner) (Ok later) (Err refusal) = refl
rows_join depth (Ok one) (Ok inner) (Ok later) (Ok row) =
    let sum : one.ignored + (inner.ignored + (later.ignored + row.ignored)) ≡ one.ignored + (inner.ignored + later.ignored) + row.ignored = omega arith in
    ap (λ n. Ok (record { sprouts = sprout_of (suc depth) one.seed ∷ (preorder (suc (suc depth)) inner.seeds ++ (preorder (suc depth) later.seeds ++ row.sprouts)); ignored = n })) sum
    ∙ ap (λ l. Ok (record { sprouts = sprout_of (suc depth) one.seed ∷ l; ignored = one.ignored + (inner.ignored + later.ignored) + row.ignored }))
    (sym (append_assoc (preorder (suc (suc depth)) inner.seeds) (preorder (suc depth) later.seeds) row.sprouts))

alone : (row : Result SproutRow PlainRefusal) → row ≡ (row >>= λ r. Ok (record { sprouts = r.sprouts; ignored = 0 + r.ignored }))
alone (Err refusal) = refl
alone (Ok row) = let z : row.ignored ≡ 0 + row.ignored = omega arith in ap (λ n. Ok (record { sprouts = row.sprouts; ignored = n })) z

row-planned : (doc : Document) (resources : Entries) (dpi element depth : ℕ) (trees : Forest Node) (rest : List ElementAtDepth)
    → row_of doc resources dpi element (placed_trees depth trees ++ rest)
    ≡ and_row depth (planned doc resources dpi element trees) (row_of doc resources dpi (element + count_of trees) rest)
row-planned doc resources dpi element depth Nothing rest =
    let z : element + 0 ≡ element = omega arith in rw z (alone (row_of doc resources dpi element rest))
row-planned doc resources dpi element depth (Branch node below after) rest =
    let own = view_of doc resources dpi element node in
    let n : suc element + count_of below + count_of after ≡ element + (1 + (count_of below + count_of after)) = omega arith in
    ap (λ l. own >>= λ one. row_of doc resources dpi (suc element) l >>= λ row. Ok (before (sprout_of (suc depth) one.seed) one.ignored row))
    (append_assoc (placed_trees (suc depth) below) (placed_trees depth after) rest)
    ∙ ap (λ r. own >>= λ one. r >>= λ row. Ok (before (sprout_of (suc depth) one.seed) one.ignored row))
    (row-planned doc resources dpi (suc element) (suc depth) below (placed_trees depth after ++ rest)
    ∙ ap (and_row (suc depth) (planned doc resources dpi (suc element) below)) (row-planned doc resources dpi (suc element + count_of below) depth after rest))
    ∙ rows_join depth own (planned doc resources dpi (suc element) below) (planned doc resources dpi (suc element + count_of below) after)
    (row_of doc resources dpi (suc element + count_of below + count_of after) rest)
    ∙ ap (λ k. and_row depth (planned doc resources dpi element (Branch node below after)) (row_of doc resources dpi k rest)) n

-- the row of a whole document

whole : (doc : Document) (resources : Entries) (dpi : ℕ) → row_of doc resources dpi 1 (placed 0 doc.nodes) ≡ and_row 0 (inflated doc resources dpi) (Ok nothing)
whole doc resources dpi =
    ap (row_of doc resources dpi 1) (placed-elements doc.nodes ∙ sym (append-nil (placed_trees 0 (elements doc.nodes))))
    ∙ row-planned doc resources dpi 1 0 (elements doc.nodes) []

-- a plan in preorder
pub record Whole (plan : Result Plan PlainRefusal) (row : SproutRow) : Type 0 where
  pub of : Plan
  pub is : plan ≡ Ok of
  pub sprouts : preorder 1 of.seeds ≡ row.sprouts
  pub ignored : row.ignored ≡ of.ignored

whole_ok : (plan : Result Plan PlainRefusal) (row : SproutRow) → and_row 0 plan (Ok nothing) ≡ Ok row → Whole plan row
whole_ok (Err refusal) row is = absurd (cc)
whole_ok (Ok p) row is =
    let r : row ≡ record { sprouts = preorder 1 p.seeds ++ []; ignored = p.ignored + 0 } = cc in
    record {
      of = p;
      is = refl;
      sprouts = sym (append-nil (preorder 1 p.seeds)) ∙ sym (ap (λ (r : SproutRow). r.sprouts) r);
      ignored = ap (λ (r : SproutRow). r.ignored) r ∙ (let z : p.ignored + 0 ≡ p.ignored = omega arith in z);
    }

whole_err : (plan : Result Plan PlainRefusal) (refusal : PlainRefusal) → and_row 0 plan (Ok nothing) ≡ Err refusal → plan ≡ Err refusal
whole_err (Err first) refusal is = let e : first ≡ refusal = cc in ap (λ t. Err t) e
whole_err (Ok p) refusal is = absurd (cc)

pub inflated_ok : (doc : Document) (resources : Entries) (dpi : ℕ) (row : SproutRow) → row_of doc resources dpi 1 (placed 0 doc.nodes) ≡ Ok row → Whole (inflated doc resources dpi) row
inflated_ok doc resources dpi row is = whole_ok (inflated doc resources dpi) row (sym (whole doc resources dpi) ∙ is)

pub inflated_err : (doc : Document) (resources : Entries) (dpi : ℕ) (refusal : PlainRefusal) → row_of doc resources dpi 1 (placed 0 doc.nodes) ≡ Err refusal → inflated doc resources dpi ≡ Err refusal
inflated_err doc resources dpi refusal is = whole_err (inflated doc resources dpi) refusal (sym (whole doc resources dpi) ∙ is)
