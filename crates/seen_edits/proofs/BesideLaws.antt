-- What an edit of a view leaves beside it, where a direction that it sets goes down the tree.
use Rattle.std.proofs.Common.{◌≡◌, ◌≢◌, ℕ, Bool, true, false, refl, sym, ap, ◌∙◌, subst, arith, inl, inr}
use Rattle.std.proofs.lemmas.Bool.{cases_eq, eq-eqb, ne_eqb}
use Rattle.std.specs.Prelude.{if◌then◌else◌}
use Rattle.seen_edits.proofs.StillLaws.{AreStill}
use Rattle.seen_parts.proofs.ChangeLaws.{cut_changed}
use Rattle.seen_parts.specs.Meeting.{canvas_around}
use Rattle.tree_edits.proofs.SpreadLaws.{count_of_key-directed}
use Rattle.tree_edits.specs.Editing.{turns}
use Rattle.tree_edits.specs.Keeping.{spread}
use Rattle.view_model.specs.declared.changes.Act.{Act}
use Rattle.view_model.specs.Direction.{dir}
use Rattle.view_model.specs.Forest.{Forest, Nothing, Branch}
use Rattle.view_model.specs.PlainTree.{PlainView}
use Rattle.view_model.specs.Visible.{Canvas, canvas_below}
use Rattle.view_tree.specs.tree.Directions.{directed_rows, row_running}
use Rattle.view_tree.specs.Rows.{Row, changed_at_key, count_of_key, pruned_at_key}
use Rattle.view_tree.specs.Views.{AreDirected, Held, scrolled}
use Rattle.view_tree.proofs.forest.KeyLaws.{times_self}
use Rattle.view_tree.proofs.forest.NumberLaws.{count_of_key-put}

-- a view that runs as its direction says
directed_row : (above : Bool) (row : Row) (kids siblings : Forest Row) → row.view.facts.rtl ≡ dir above row.view.facts.direction
    → directed_rows above (Branch row kids siblings) ≡ Branch row (directed_rows row.view.facts.rtl kids) (directed_rows above siblings)
directed_row above row kids siblings is = ap (λ (rtl : Bool). Branch (row_running rtl row) (directed_rows rtl kids) (directed_rows above siblings)) (sym is)

directed_same : (above : Bool) (tree : Forest Row) → AreDirected above tree → directed_rows above tree ≡ tree
directed_same above Nothing is = refl
directed_same above (Branch row kids siblings) is =
    directed_row above row kids siblings is.0
    ∙ ap (λ (list : Forest Row). Branch row list (directed_rows above siblings)) (directed_same row.view.facts.rtl kids is.1)
    ∙ ap (λ (list : Forest Row). Branch row kids list) (directed_same above siblings is.2)

changed_there : (key : ℕ) (change : PlainView → PlainView) (row : Row) (kids siblings : Forest Row) → row.key ≢ key
    → changed_at_key key change (Branch row kids siblings) ≡ Branch row (changed_at_key key change kids) (changed_at_key key change siblings)
changed_there key change row kids siblings ne = rw (ne_eqb row.key key ne) refl

pub cut_there : (key : ℕ) (row : Row) (kids siblings : Forest Row) → row.key ≢ key → pruned_at_key key (Branch row kids siblings) ≡ Branch row (pruned_at_key key kids) (pruned_at_key key siblings)
cut_there key row kids siblings ne = rw (ne_eqb row.key key ne) refl

-- beside the view that a direction goes down from, all stays
directed_beside : (above : Bool) (key : ℕ) (change : PlainView → PlainView) (row : Row) (kids siblings : Forest Row) → row.key ≢ key → row.view.facts.rtl ≡ dir above row.view.facts.direction
    → directed_rows above (changed_at_key key change (Branch row kids siblings))
    ≡ Branch row (directed_rows row.view.facts.rtl (changed_at_key key change kids)) (directed_rows above (changed_at_key key change siblings))
directed_beside above key change row kids siblings ne is =
    ap (directed_rows above) (changed_there key change row kids siblings ne)
    ∙ directed_row above row (changed_at_key key change kids) (changed_at_key key change siblings) is

cut_directed : (above : Bool) (key : ℕ) (change : PlainView → PlainView) (tree : Forest Row) → AreDirected above tree
    → pruned_at_key key (directed_rows above (changed_at_key key change tree)) ≡ pruned_at_key key tree
cut_directed above key change Nothing is = refl
cut_directed above key change (Branch row kids siblings) is = elim (cases_eq row.key key) [
  | inl e ↦ rw (eq-eqb row.key key e, eq-eqb row.key key e) (directed_same above siblings is.2)
  | inr ne ↦
      ap (pruned_at_key key) (directed_beside above key change row kids siblings ne is.0)
      ∙ cut_there key row (directed_rows row.view.facts.rtl (changed_at_key key change kids)) (directed_rows above (changed_at_key key change siblings)) ne
      ∙ ap (λ (list : Forest Row). Branch row list (pruned_at_key key (directed_rows above (changed_at_key key change siblings)))) (cut_directed row.view.facts.rtl key change kids is.1)
      ∙ ap (λ (list : Forest Row). Branch row (pruned_at_key key kids) list) (cut_directed above key change siblings is.2)
      ∙ sym (cut_there key row kids siblings ne)
]

pub cut_spread : (key : ℕ) (act : Act) (change : PlainView → PlainView) (tree : Forest Row) → AreDirected false tree
    → pruned_at_key key (spread act (changed_at_key key change tree)) ≡ pruned_at_key key tree
cut_spread key act change tree is = by (turns act)
  where
    by : (t : Bool) → pruned_at_key key (if t then directed_rows false (changed_at_key key change tree) else changed_at_key key change tree) ≡ pruned_at_key key tree
    by true = cut_directed false key change tree is
    by false = cut_changed key change tree

-- a view that has changed lies in the canvas in which it lay, where all others lie where they lay
pub around_still : (old new : ℕ → Held) (canvas : Canvas) (key : ℕ) (change : PlainView → PlainView) (list : Forest Row) → AreStill old new (pruned_at_key key list)
    → canvas_around new canvas key (changed_at_key key change list) ≡ canvas_around old canvas key list
around_still old new canvas key change Nothing still = refl
around_still old new canvas key change (Branch row kids siblings) still = elim (cases_eq row.key key) [
  | inl e ↦ rw (eq-eqb row.key key e, eq-eqb row.key key e) refl
  | inr ne ↦
      let still : AreStill old new (Branch row (pruned_at_key key kids) (pruned_at_key key siblings)) = subst (AreStill old new) (cut_there key row kids siblings ne) still in
      let own = still row.key (times_self row (pruned_at_key key kids) (pruned_at_key key siblings)) in
      elim (cases_eq (count_of_key key kids) 0) [
        | inl z ↦
            rw (ne_eqb row.key key ne, ne_eqb row.key key ne, count_of_key-put key key change kids, eq-eqb (count_of_key key kids) 0 z)
            (around_still old new canvas key change siblings (λ k some. still k (omega arith)))
        | inr nz ↦
            rw (ne_eqb row.key key ne, ne_eqb row.key key ne, count_of_key-put key key change kids, ne_eqb (count_of_key key kids) 0 nz, own.bounds, own.offset)
            (around_still old new (canvas_below (old row.key).state.bounds (scrolled old row).facts canvas) key change kids (λ k some. still k (omega arith)))
      ]
]

around_directed : (above : Bool) (old new : ℕ → Held) (canvas : Canvas) (key : ℕ) (change : PlainView → PlainView) (list : Forest Row) → AreDirected above list
    → AreStill old new (pruned_at_key key list)
    → canvas_around new canvas key (directed_rows above (changed_at_key key change list)) ≡ canvas_around old canvas key list
around_directed above old new canvas key change Nothing is still = refl
around_directed above old new canvas key change (Branch row kids siblings) is still = elim (cases_eq row.key key) [
  | inl e ↦ rw (eq-eqb row.key key e, eq-eqb row.key key e) refl
  | inr ne ↦
      let still : AreStill old new (Branch row (pruned_at_key key kids) (pruned_at_key key siblings)) = subst (AreStill old new) (cut_there key row kids siblings ne) still in
      let own = still row.key (times_self row (pruned_at_key key kids) (pruned_at_key key siblings)) in
      let count : count_of_key key (directed_rows row.view.facts.rtl (changed_at_key key change kids)) ≡ count_of_key key kids =
      count_of_key-directed key row.view.facts.rtl (changed_at_key key change kids) ∙ count_of_key-put key key change kids in
      ap (canvas_around new canvas key) (directed_beside above key change row kids siblings ne is.0) ∙ elim (cases_eq (count_of_key key kids) 0) [
        | inl z ↦
            rw (ne_eqb row.key key ne, count, eq-eqb (count_of_key key kids) 0 z)
            (around_directed above old new canvas key change siblings is.2 (λ k some. still k (omega arith)))
        | inr nz ↦
            rw (ne_eqb row.key key ne, count, ne_eqb (count_of_key key kids) 0 nz, own.bounds, own.offset)
            (around_directed row.view.facts.rtl old new (canvas_below (old row.key).state.bounds (scrolled old row).facts canvas) key change kids is.1 (λ k some. still k (omega arith)))
      ]
]

pub around_spread : (old new : ℕ → Held) (canvas : Canvas) (key : ℕ) (act : Act) (change : PlainView → PlainView) (tree : Forest Row) → AreDirected false tree
    → AreStill old new (pruned_at_key key tree) → canvas_around new canvas key (spread act (changed_at_key key change tree)) ≡ canvas_around old canvas key tree
around_spread old new canvas key act change tree is still = by (turns act)
  where
    by : (t : Bool) → canvas_around new canvas key (if t then directed_rows false (changed_at_key key change tree) else changed_at_key key change tree) ≡ canvas_around old canvas key tree
    by true = around_directed false old new canvas key change tree is still
    by false = around_still old new canvas key change tree still
