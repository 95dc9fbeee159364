-- A view whose children are taken out one after another.
use Rattle.std.proofs.Common.{◌≡◌, ◌≢◌, ℕ, ◌<◌, ◌≤◌, sym, ◌∙◌, ap, subst, arith}
use Rattle.std.proofs.lemmas.Bool.{eq-eqb, ne_eqb}
use Rattle.view_model.specs.Forest.{Forest, Nothing, Branch, count_of}
use Rattle.view_tree.specs.Rows.{Row, count_of_key, pruned_at_key, children_of_first, first_tree, part_from}
use Rattle.view_tree.specs.Views.{Held}
use Rattle.view_tree.proofs.forest.KeyLaws.{Within, here, in_below, in_after, count_of_key-within, times_self, Located, located, absent, own_more}
use Rattle.view_tree.proofs.nodes.ChildEdits.{edit_kids, edit_absent, edit_here, edit_there, count_of_key-edit}
use Rattle.view_tree.proofs.nodes.PrunedPart.{cut_here, cut_edit, pruned_at_key-edit_same}

pub part_from-edit : (k : ℕ) (g : Forest Row → Forest Row) (row : Row) (kids siblings : Forest Row) {t : Forest Row} → row.key ≡ k
    → Within (Branch row kids siblings) t → count_of_key k t ≤ 1 → part_from k (edit_kids k g t) ≡ Branch row (g kids) siblings
part_from-edit k g row kids siblings e here once = rw (edit_here k g row kids siblings e, eq-eqb row.key k e)
part_from-edit k g row kids siblings e (in_below {row = row'} {kids = kids'} {siblings = siblings'} w) once =
    let own = own_more row kids siblings k e in let tb = count_of_key-within k w in
    let ne : row'.key ≡ k → ⊥ = λ i. let w = own_more row' kids' siblings' k i in absurd (omega arith) in
    let z : count_of_key k siblings' ≡ 0 = omega arith in
    rw (edit_there k g row' kids' siblings' ne, edit_absent k g siblings' z, ne_eqb row'.key k ne, part_from-edit k g row kids siblings e w (omega arith))
part_from-edit k g row kids siblings e (in_after {row = row'} {kids = kids'} {siblings = siblings'} w) once =
    let own = own_more row kids siblings k e in let tb = count_of_key-within k w in
    let ne : row'.key ≡ k → ⊥ = λ i. let w = own_more row' kids' siblings' k i in absurd (omega arith) in
    let z : count_of_key k kids' ≡ 0 = omega arith in
    rw (edit_there k g row' kids' siblings' ne, edit_absent k g kids' z, ne_eqb row'.key k ne, absent k kids' z, part_from-edit k g row kids siblings e w (omega arith))

-- what is left of the tree, and of what is kept, while the children of the view are removed
pub record Emptied (start now : Forest Row) (view : ℕ) (old new : ℕ → Held) : Type 0 where
  pub live : 0 < count_of_key view now
  pub end : pruned_at_key view now ≡ pruned_at_key view start
  pub below_less : count_of (children_of_first (part_from view now)) ≤ count_of (children_of_first (part_from view start))
  pub part : (q : ℕ) → count_of_key q (first_tree (part_from view now)) ≤ count_of_key q (first_tree (part_from view start))
  pub others : (q : ℕ) → count_of_key q (first_tree (part_from view start)) ≡ 0 → new q ≡ old q

-- the first child of a view is removed
pub record RemovesFirst (t t' : Forest Row) (view : ℕ) : Type 0 where
  pub live : 0 < count_of_key view t'
  pub end : pruned_at_key view t' ≡ pruned_at_key view t
  pub fewer : count_of (children_of_first (part_from view t')) < count_of (children_of_first (part_from view t))
  pub part : (q : ℕ) → count_of_key q (first_tree (part_from view t')) ≤ count_of_key q (first_tree (part_from view t))

module _ (t : Forest Row) (once : (x : ℕ) → count_of_key x t ≤ 1) (view k : ℕ) (live : 0 < count_of_key view t) (livek : 0 < count_of_key k t) (first : part_from k t ≡ children_of_first (part_from view t)) where
  abbrev pub f : Located view t
  f = located view t live

  abbrev pub g : Located k t
  g = located k t livek

  pub kids : f.kids ≡ Branch g.row g.kids g.siblings
  kids = ap children_of_first (sym f.is) ∙ sym first ∙ g.is

  k_in : 0 < count_of_key k f.kids
  k_in = rw kids (subst (λ k. 0 < count_of_key k (Branch g.row g.kids g.siblings)) g.key_is (times_self g.row g.kids g.siblings))

  pub gone : pruned_at_key k t ≡ edit_kids view (pruned_at_key k) t
  gone = cut_edit k view f.row f.kids f.siblings f.key_is k_in f.within once

  left : pruned_at_key k f.kids ≡ g.siblings
  left = ap (pruned_at_key k) kids ∙ cut_here k g.row g.kids g.siblings g.key_is

  pub from_is : part_from view (pruned_at_key k t) ≡ Branch f.row g.siblings f.siblings
  from_is = ap (part_from view) gone ∙ part_from-edit view (pruned_at_key k) f.row f.kids f.siblings f.key_is f.within (once view) ∙ ap (λ kids. Branch f.row kids f.siblings) left

  pub step : RemovesFirst t (pruned_at_key k t) view
  step =
      let e = count_of_key-edit view view (pruned_at_key k) f.row f.kids f.siblings f.key_is f.within (once view) in
      let own = own_more f.row f.kids f.siblings view f.key_is in
      let w = count_of_key-within view f.within in
      let o = once view in
      record {
        live = rw gone (omega arith);
        end = ap (pruned_at_key view) gone ∙ pruned_at_key-edit_same view (pruned_at_key k) t;
        fewer = rw (from_is, f.is, kids) (omega arith);
        part = λ q. rw (from_is, f.is, kids) (omega arith);
      }

  -- what is below the child is below the view
  pub below_kid : (q : ℕ) → count_of_key q (first_tree (part_from k t)) ≤ count_of_key q (first_tree (part_from view t))
  below_kid q = rw (g.is, f.is, kids) (omega arith)

  pub count_kid : count_of (first_tree (part_from k t)) ≤ count_of (children_of_first (part_from view t))
  count_kid = rw (g.is, f.is, kids) (omega arith)

-- one more child is removed
pub emptied_on : (start now : Forest Row) (view k : ℕ) (old mid new : ℕ → Held) → ((x : ℕ) → count_of_key x now ≤ 1) → 0 < count_of_key k now → part_from k now ≡ children_of_first (part_from view now)
    → ((q : ℕ) → count_of_key q (first_tree (part_from k now)) ≡ 0 → new q ≡ mid q)
    → Emptied start now view old mid → Emptied start (pruned_at_key k now) view old new
emptied_on start now view k old mid new once livek first kept w =
    let s = step now once view k w.live livek first in
    let fewer = s.fewer in let less = w.below_less in
    record {
      live = s.live;
      end = s.end ∙ w.end;
      below_less = omega arith;
      part = λ q. let siblings = s.part q in let kids = w.part q in omega arith;
      others = λ q h. kept q (let siblings = below_kid now once view k w.live livek first q in let kids = w.part q in omega arith) ∙ w.others q h;
    }

pub out_of : (k : ℕ) (t : Forest Row) (q : ℕ) → 0 < count_of_key k t → count_of_key q (first_tree (part_from k t)) ≡ 0 → q ≢ k
out_of k t q live z e =
    let f = located k t live in
    let z' : count_of_key q (Branch f.row f.kids Nothing) ≡ 0 = rw f.is at z in
    let o = own_more f.row f.kids Nothing q (f.key_is ∙ sym e) in
    absurd (omega arith)
