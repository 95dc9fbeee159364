-- Nodes of which some were looked at.
use Rattle.std.proofs.Common.{◌≡◌, ℕ, suc, length, drop, Option, Some, ◌+◌, ◌-◌, ◌*◌, ◌<◌, ◌≤◌, true, List, [], ◌∷◌, ◌++◌, Result, Ok, Err, refl, sym, ◌∙◌, ap, subst, arith, append_assoc, get_or}
use Rattle.std.proofs.lemmas.List.{append-nil, drop_more}
use Rattle.std.proofs.lemmas.Bool.{leb-true}
use Rattle.std.proofs.lemmas.Option.{slice_get-get_or}
use Rattle.std.specs.Prelude.{map, slice_get}
use Rattle.attr_table.specs.Taking.{facets_at, facets_in}
use Rattle.axml_reader.specs.declared.doc.Node.{Node}
use Rattle.axml_reader.specs.declared.doc.Node.TheVariants.{NsStart, NsEnd, Start, End, Chars}
use Rattle.axml_reader.specs.Document.{Document}
use Rattle.axml_reader.specs.Parts.{token, starts_in}
use Rattle.axml_reader.specs.Sound.{HaveFewAttrs, has_few_attrs}
use Rattle.view_model.specs.declared.sprout.Sprout.{Sprout}
use Rattle.view_model.specs.Forest.{Forest}
use Rattle.view_model.specs.Refusals.{◌>>=◌, PlainRefusal, plain_refusal}
use Rattle.view_model.specs.Resources.{Entries}
use Rattle.view_model.specs.Sprouts.{IsPreorder, preorder, seeds_of, sprout_of}
use Rattle.view_model.proofs.SproutLaws.{seeds_of-preorder}
use Rattle.inflater.specs.Answers.{GrownAs, ViewedAs}
use Rattle.inflater.specs.Elements.{begun, nested}
use Rattle.inflater.specs.ClassNames.{class_in}
use Rattle.inflater.specs.Inflating.{OneView, Plan, inflated, name_of, view_of, view_with}
use Rattle.inflater.specs.declared.element.ElementView.{ElementView}
use Rattle.view_model.specs.declared.fault.Fault.{Fault}
use Rattle.view_model.specs.declared.fault.Fault.TheVariants as fault
use Rattle.inflater.proofs.PlaceLaws.{placed}
use Rattle.inflater.proofs.PreorderLaws.{inflated_preorder}
use Rattle.inflater.proofs.RootLaws.{Rooted}
use Rattle.inflater.proofs.RowLaws.{SproutRow, before, inflated_err, inflated_ok, row_of}

-- what came so far, and what comes
abbrev pub onto : List Sprout → ℕ → Result SproutRow PlainRefusal → Result SproutRow PlainRefusal
onto sprouts ignored row = row >>= λ r. Ok (record { sprouts = sprouts ++ r.sprouts; ignored = ignored + r.ignored })

-- This many elements are open and this many began, with these views and this many attributes that are not known. With
-- the nodes that are left they make the row of the whole document. No end is too many, few elements are left, and few
-- attributes came.
pub record IsLeftToInflate (doc : Document) (resources : Entries) (dpi depth element ignored : ℕ) (sprouts : List Sprout) (rest : List Node) (total : Result SproutRow PlainRefusal) : Type 0 where
  pub same : onto sprouts ignored (row_of doc resources dpi (suc element) (placed depth rest)) ≡ total
  pub ends : length (nested rest) ≤ depth + 1
  pub few : element + starts_in (map token rest) ≤ 4096
  pub deep : depth ≤ element
  pub unknown : ignored ≤ 256 * element

some_nested : (nodes : List Node) → 0 < length (nested nodes)
some_nested [] = omega arith
some_nested (NsStart prefix uri ∷ more) = some_nested more
some_nested (NsEnd prefix uri ∷ more) = some_nested more
some_nested (Start line ns name first count ∷ more) = begun_some (Start line ns name first count) (nested more)
  where
    begun_some : (node : Node) (lists : List (Forest Node)) → 0 < length (begun node lists)
    begun_some node [] = omega arith
    begun_some node (below ∷ []) = omega arith
    begun_some node (below ∷ after ∷ outer) = omega arith
some_nested (End line ns name ∷ more) = omega arith
some_nested (Chars line text kind word ∷ more) = some_nested more

length-begun : (node : Node) (lists : List (Forest Node)) → length lists ≤ length (begun node lists) + 1
length-begun node [] = omega arith
length-begun node (below ∷ []) = omega arith
length-begun node (below ∷ after ∷ outer) = omega arith

onto_none : (row : Result SproutRow PlainRefusal) → onto [] 0 row ≡ row
onto_none (Err refusal) = refl
onto_none (Ok row) = let z : 0 + row.ignored ≡ row.ignored = omega arith in ap (λ n. Ok (record { sprouts = row.sprouts; ignored = n })) z

onto_more : (sprouts : List Sprout) (ignored : ℕ) (sprout : Sprout) (own : ℕ) (row : Result SproutRow PlainRefusal)
    → onto sprouts ignored (row >>= λ r. Ok (before sprout own r)) ≡ onto (sprouts ++ sprout ∷ []) (ignored + own) row
onto_more sprouts ignored sprout own (Err refusal) = refl
onto_more sprouts ignored sprout own (Ok row) =
    let sum : ignored + (own + row.ignored) ≡ ignored + own + row.ignored = omega arith in
    ap (λ n. Ok (record { sprouts = sprouts ++ (sprout ∷ row.sprouts); ignored = n })) sum
    ∙ ap (λ l. Ok (record { sprouts = l; ignored = ignored + own + row.ignored })) (sym (append_assoc sprouts (sprout ∷ []) row.sprouts))

pub left_first : (doc : Document) (resources : Entries) (dpi : ℕ) → length (nested doc.nodes) ≡ 1 → starts_in (map token doc.nodes) ≤ 4096
    → IsLeftToInflate doc resources dpi 0 0 0 [] doc.nodes (row_of doc resources dpi 1 (placed 0 doc.nodes))
left_first doc resources dpi ends few = record {
  same = onto_none (row_of doc resources dpi 1 (placed 0 doc.nodes));
  ends = omega (arith, ends);
  few = omega (arith, few);
  deep = omega arith;
  unknown = omega arith;
}

module _ (doc : Document) (resources : Entries) (dpi depth element ignored : ℕ) (sprouts : List Sprout) (more : List Node) (total : Result SproutRow PlainRefusal) where
  pub left_start : (line ns name first count : ℕ) (own : OneView) → IsLeftToInflate doc resources dpi depth element ignored sprouts (Start line ns name first count ∷ more) total
      → view_of doc resources dpi (element + 1) (Start line ns name first count) ≡ Ok own → own.ignored ≤ 256
      → IsLeftToInflate doc resources dpi (depth + 1) (element + 1) (ignored + own.ignored) (sprouts ++ sprout_of (depth + 1) own.seed ∷ []) more total
  left_start line ns name first count own left is few =
      let d : depth + 1 ≡ suc depth = omega arith in
      let e : element + 1 ≡ suc element = omega arith in
      let here = ap (λ k. view_of doc resources dpi k (Start line ns name first count)) (sym e) ∙ is in
      let s = rw here at left.same in
      record {
        same = rw (d, e) (sym (onto_more sprouts ignored (sprout_of (suc depth) own.seed) own.ignored (row_of doc resources dpi (suc (suc element)) (placed (suc depth) more))) ∙ s);
        ends = (let b = length-begun (Start line ns name first count) (nested more) in omega (arith, left.ends, b));
        few = omega (arith, left.few);
        deep = omega (arith, left.deep);
        unknown = omega (arith, left.unknown, few);
      }

  pub left_refused : (line ns name first count : ℕ) (refusal : PlainRefusal) → IsLeftToInflate doc resources dpi depth element ignored sprouts (Start line ns name first count ∷ more) total
      → view_of doc resources dpi (element + 1) (Start line ns name first count) ≡ Err refusal → total ≡ Err refusal
  left_refused line ns name first count refusal left is =
      let e : element + 1 ≡ suc element = omega arith in
      let here = ap (λ k. view_of doc resources dpi k (Start line ns name first count)) (sym e) ∙ is in
      let s = rw here at left.same in sym s

  pub some_open : (line ns name : ℕ) → IsLeftToInflate doc resources dpi depth element ignored sprouts (End line ns name ∷ more) total → 0 < depth
  some_open line ns name left = let s = some_nested more in omega (arith, left.ends, s)

  pub left_end : (line ns name : ℕ) → IsLeftToInflate doc resources dpi depth element ignored sprouts (End line ns name ∷ more) total → IsLeftToInflate doc resources dpi (depth - 1) element ignored sprouts more total
  left_end line ns name left = (let s = some_nested more in record {
    same = left.same;
    ends = omega (arith, left.ends, s);
    few = omega (arith, left.few);
    deep = omega (arith, left.deep);
    unknown = left.unknown;
  })

  pub left_ns_start : (prefix uri : ℕ) → IsLeftToInflate doc resources dpi depth element ignored sprouts (NsStart prefix uri ∷ more) total → IsLeftToInflate doc resources dpi depth element ignored sprouts more total
  left_ns_start prefix uri left = record { same = left.same; ends = left.ends; few = omega (arith, left.few); deep = left.deep; unknown = left.unknown }

  pub left_ns_end : (prefix uri : ℕ) → IsLeftToInflate doc resources dpi depth element ignored sprouts (NsEnd prefix uri ∷ more) total → IsLeftToInflate doc resources dpi depth element ignored sprouts more total
  left_ns_end prefix uri left = record { same = left.same; ends = left.ends; few = omega (arith, left.few); deep = left.deep; unknown = left.unknown }

  pub left_chars : (line text kind word : ℕ) → IsLeftToInflate doc resources dpi depth element ignored sprouts (Chars line text kind word ∷ more) total → IsLeftToInflate doc resources dpi depth element ignored sprouts more total
  left_chars line text kind word left = record { same = left.same; ends = left.ends; few = omega (arith, left.few); deep = left.deep; unknown = left.unknown }

-- all was looked at: the views are those of the document, and a sapling's
pub record Done (doc : Document) (resources : Entries) (dpi ignored : ℕ) (sprouts : List Sprout) : Type 0 where
  pub plan : Plan
  pub plan_is : inflated doc resources dpi ≡ Ok plan
  pub sprouts_are : preorder 1 plan.seeds ≡ sprouts
  pub seeds_are : seeds_of sprouts ≡ plan.seeds
  pub ignored_is : ignored ≡ plan.ignored
  pub in_preorder : IsPreorder sprouts

pub done : (doc : Document) (resources : Entries) (dpi depth element ignored : ℕ) (sprouts : List Sprout) → Rooted doc.nodes
    → IsLeftToInflate doc resources dpi depth element ignored sprouts [] (row_of doc resources dpi 1 (placed 0 doc.nodes)) → Done doc resources dpi ignored sprouts
done doc resources dpi depth element ignored sprouts root left =
    let z : ignored + 0 ≡ ignored = omega arith in
    let row : row_of doc resources dpi 1 (placed 0 doc.nodes) ≡ Ok (record { sprouts = sprouts; ignored = ignored }) =
    sym left.same ∙ ap (λ n. Ok (record { sprouts = sprouts ++ []; ignored = n })) z ∙ ap (λ l. Ok (record { sprouts = l; ignored = ignored })) (append-nil sprouts) in
    let w = inflated_ok doc resources dpi (record { sprouts = sprouts; ignored = ignored }) row in
    record {
      plan = w.of;
      plan_is = w.is;
      sprouts_are = w.sprouts;
      seeds_are = sym (ap seeds_of w.sprouts) ∙ seeds_of-preorder w.of.seeds;
      ignored_is = w.ignored;
      in_preorder = subst (λ (l : List Sprout). IsPreorder l) w.sprouts (inflated_preorder doc resources dpi w.of root w.is);
    }

-- the node that was read at a place
pub record Now (nodes : List Node) (i : ℕ) (node : Node) : Type 0 where
  pub is : slice_get nodes i ≡ Some node
  pub rest : drop i nodes ≡ node ∷ drop (i + 1) nodes

pub now : (nodes : List Node) (i : ℕ) (read node : Node) → i < length nodes → read ≡ get_or nodes i read → read ≡ node → Now nodes i node
now nodes i read node lt at is = record {
  is = slice_get-get_or nodes i read lt ∙ ap (λ n. Some n) (sym at ∙ is);
  rest = drop_more nodes i read lt ∙ ap (λ n. n ∷ drop (i + 1) nodes) (sym at ∙ is);
}

-- an element at that place has few attributes
pub few_there : (nodes : List Node) (i line ns name first count : ℕ) → i < length nodes → HaveFewAttrs nodes → slice_get nodes i ≡ Some (Start line ns name first count) → count ≤ 256
few_there nodes i line ns name first count lt few is =
    let node : get_or nodes i (Start line ns name first count) ≡ Start line ns name first count = some_is _ _ (sym (slice_get-get_or nodes i (Start line ns name first count) lt) ∙ is) in
    let here : has_few_attrs (get_or nodes i (Start line ns name first count)) ≡ true = few i (Start line ns name first count) lt in
    leb-true count 256 (sym (ap has_few_attrs node) ∙ here)
  where
    some_is : (a b : Node) → ◌≡◌ {A = Option Node} (Some a) (Some b) → a ≡ b
    some_is a b e = cc

-- what holds of the element at a place holds of its node
pub viewed : (doc : Document) (resources : Entries) (dpi element place : ℕ) (node : Node) (made : Result ElementView Fault) → slice_get doc.nodes place ≡ Some node
    → ViewedAs (view_with element (class_in (slice_get doc.pool.texts (name_of node))) (facets_at doc resources dpi place)) made
    → ViewedAs (view_of doc resources dpi element node) made
viewed doc resources dpi element place node made is view =
    subst (λ (o : Option Node). ViewedAs (view_with element (class_in (slice_get doc.pool.texts (name_of node))) (facets_in doc resources dpi o)) made) is view

-- one element was refused, or memory ran out
pub fault_out : (doc : Document) (resources : Entries) (dpi depth element ignored : ℕ) (sprouts : List Sprout) (more : List Node)
    (line ns name first count : ℕ) (fault : Fault)
    → IsLeftToInflate doc resources dpi depth element ignored sprouts (Start line ns name first count ∷ more) (row_of doc resources dpi 1 (placed 0 doc.nodes))
    → ViewedAs (view_of doc resources dpi (element + 1) (Start line ns name first count)) (Err fault)
    → GrownAs (inflated doc resources dpi) (Err fault)
fault_out doc resources dpi depth element ignored sprouts more line ns name first count (fault.Refused refusal) left is =
    inflated_err doc resources dpi (plain_refusal refusal) (left_refused doc resources dpi depth element ignored sprouts more _ line ns name first count (plain_refusal refusal) left is)
fault_out doc resources dpi depth element ignored sprouts more line ns name first count fault.NoMemory left is = tt
