-- Edits that show in no picture.
use Rattle.std.proofs.Common.{◌≡◌, ℕ, ℤ, pos, [], Bool, true, false, Option, Some, None, Result, Ok, Err, refl, sym, ap, ◌∙◌, inl, inr, arith, eqb-true}
use Rattle.std.specs.Prelude.{◌==◌, if◌then◌else◌, OnErr, OnOk}
use Rattle.std.proofs.lemmas.Bool.{cases_Bool}
use mathlib.Core.Path.{fun_ext}
use Rattle.geom_core.specs.declared.color.Argb.{Argb}
use Rattle.geom_core.specs.declared.color.TheConstants.{BLACK}
use Rattle.geom_core.specs.declared.geometry.Rect.{Rect}
use Rattle.geom_core.specs.declared.geometry.Size.{Size}
use Rattle.seen_edits.proofs.StillLaws.{AreStill, placed_still}
use Rattle.seen_parts.proofs.PlacedLaws.{placed_is}
use Rattle.seen_edits.proofs.ShownLaws.{hiding_offset, live_after, shown_same}
use Rattle.seen_edits.specs.Shown.{KeepsShown, act_is_unseen, is_unseen}
use Rattle.seen_parts.specs.Meeting.{placed_rows}
use Rattle.tree_edits.proofs.SpreadLaws.{unspread}
use Rattle.tree_edits.proofs.UnaskedLaws.{stays_bounds, stays_offset}
use Rattle.tree_edits.specs.Editing.{hides, turns}
use Rattle.tree_edits.specs.Asking.{acted_view}
use Rattle.tree_edits.specs.Keeping.{KeepsViews, held_acted}
use Rattle.tree_edits.specs.declared.edits.Edit.{Edit}
use Rattle.tree_edits.specs.declared.edits.Edit.TheVariants as edit
use Rattle.view_model.specs.Changes.{facts_after_act}
use Rattle.view_model.proofs.FacetLaws.{unseen_stays, unseen_turns}
use Rattle.view_model.specs.Facets.{facet_of, touched_by}
use Rattle.view_model.specs.Facts.{new_facts}
use Rattle.view_model.specs.Forest.{Forest, Nothing, Branch, map_rows}
use Rattle.view_model.specs.Painting.{Painter, PlacedView, drawn_in, painted}
use Rattle.view_model.specs.PlainTree.{PlainView}
use Rattle.view_model.specs.declared.changes.Act.{Act}
use Rattle.view_model.specs.declared.changes.Act.TheVariants as act
use Rattle.view_model.specs.declared.changes.Change.TheVariants as change
use Rattle.view_model.specs.declared.changes.Flag.TheVariants as flag
use Rattle.view_model.specs.declared.facts.Facts.{Facts}
use Rattle.view_tree.proofs.forest.KeyLaws.{times_self}
use Rattle.view_tree.specs.Rows.{Row, changed_at_key}
use Rattle.view_tree.specs.Views.{Held, IsLive, IsTree, Views, facts_of, held_of}

-- what a picture shows of a view
abbrev look : PlainView → PlainView
look view =
    let own = view.facts in
    record view {
      facts = record (new_facts (pos 0) (pos 0)) {
        padding = own.padding;
        padding_start = own.padding_start;
        padding_end = own.padding_end;
        visibility = own.visibility;
        background = own.background;
        ink = own.ink;
        clip = own.clip;
        offset = own.offset;
        direction = own.direction;
        rtl = own.rtl;
      };
    }

abbrev look_of : PlacedView → PlacedView
look_of it = record it { view = look it.view }

drawn_alike : (bounds : Option Rect) (view : PlainView) (one other : Painter) → one ≡ other → (x y : ℤ) (under : Argb) → drawn_in bounds (look view) one x y under ≡ drawn_in bounds view other x y under
drawn_alike None view one other same x y under = refl
drawn_alike (Some rect) view one other same x y under = ap (λ (children : Painter). drawn_in (Some rect) view children x y under) same

painted_looks : (list : Forest PlacedView) → painted (map_rows look_of list) ≡ painted list
painted_looks Nothing = refl
painted_looks (Branch it below after) = fun_ext (λ x. fun_ext (λ y. fun_ext (λ under.
    ap (λ (paint : Painter). paint x y (drawn_in it.bounds (look it.view) (painted (map_rows look_of below)) x y under)) (painted_looks after)
    ∙ ap (painted after x y) (drawn_alike it.bounds it.view (painted (map_rows look_of below)) (painted below) (painted_looks below) x y under))))

-- what an act leaves that shows in no picture
acted_alike : (act : Act) → act_is_unseen act ≡ true → (view : PlainView) (offset : ℤ)
    → look (let own = acted_view act view in record own { facts = record own.facts { offset = offset } }) ≡ look (record view { facts = record view.facts { offset = offset } })
acted_alike (act.Change (change.Padding sides)) e view offset = absurd (cc)
acted_alike (act.Change (change.Background color)) e view offset = absurd (cc)
acted_alike (act.Change (change.Gravity true gravity)) e view offset = refl
acted_alike (act.Change (change.Gravity false gravity)) e view offset = refl
acted_alike (act.Direction direction) e view offset = absurd (cc)
acted_alike (act.Flag flag.Clip on) e view offset = absurd (cc)
acted_alike (act.Flag flag.Fill on) e view offset = absurd (cc)
acted_alike (act.Visible visibility) e view offset = absurd (cc)
acted_alike (act.Ink color) e view offset = absurd (cc)
acted_alike (act.Scroll offset) e view other = absurd (cc)
acted_alike _ e view offset = refl

unseen_offset : (act : Act) → act_is_unseen act ≡ true → (facts : Facts) → (facts_after_act act facts).offset ≡ facts.offset
unseen_offset (act.Change (change.Gravity true gravity)) e facts = refl
unseen_offset (act.Change (change.Gravity false gravity)) e facts = refl
unseen_offset (act.Flag flag.Clip on) e facts = refl
unseen_offset (act.Scroll offset) e facts = absurd (cc)
unseen_offset _ e facts = refl

is_unseen_act : (act : Act) → act_is_unseen act ≡ true → (touched_by act).shows ≡ false
is_unseen_act act e = elim (cases_Bool (touched_by act).shows) [
  | inl shows ↦ absurd (let no : false ≡ true = rw shows at e in cc)
  | inr unseen ↦ unseen
]

held_unseen : (views : Views) (view : ℕ) (act : Act) → act_is_unseen act ≡ true → (key : ℕ) → (held_acted views view act key).offset ≡ (held_of views key).offset
held_unseen views view act e key = elim (cases_Bool (key == view)) [
  | inl same ↦ rw same (unseen_offset act e (facts_of views view) ∙ ap (λ (k : ℕ). (held_of views k).offset) (sym (eqb-true _ _ same)))
  | inr other ↦ rw other (hiding_offset (hides act) views view key)
]

still_unseen : (old new : Views) (view : ℕ) (act : Act) → act_is_unseen act ≡ true → KeepsViews old new (edit.Act view act) → AreStill (held_of old) (held_of new) old.tree
still_unseen old new view act e keeps key live =
    let now : IsLive new key = live_after old new (edit.Act view act) tt keeps key live in
    record {
      bounds = stays_bounds old new (edit.Act view act) keeps key live now (rw (unseen_stays (facet_of act) (is_unseen_act act e)) refl);
      offset = stays_offset old new (edit.Act view act) keeps key live now ∙ held_unseen old view act e key;
    }

row_alike : (old new : ℕ → Held) (act : Act) → act_is_unseen act ≡ true → (row : Row) (kids siblings below after : Forest Row) → AreStill old new (Branch row kids siblings)
    → map_rows look_of (placed_rows new below) ≡ map_rows look_of (placed_rows old kids)
    → map_rows look_of (placed_rows new after) ≡ map_rows look_of (placed_rows old siblings) → (t : Bool)
    → map_rows look_of (placed_rows new (if t then Branch (record row { view = acted_view act row.view }) kids siblings else Branch row below after))
    ≡ map_rows look_of (placed_rows old (Branch row kids siblings))
row_alike old new act e row kids siblings below after still one two true =
    let own = still row.key (times_self row kids siblings) in
    rw (own.bounds, own.offset, placed_still old new kids (λ key some. still key (omega arith)), placed_still old new siblings (λ key some. still key (omega arith)), acted_alike act e row.view (old row.key).offset) refl
row_alike old new act e row kids siblings below after still one two false =
    let own = still row.key (times_self row kids siblings) in
    rw (own.bounds, own.offset, one, two) refl

rows_alike : (old new : ℕ → Held) (view : ℕ) (act : Act) → act_is_unseen act ≡ true → (list : Forest Row) → AreStill old new list
    → map_rows look_of (placed_rows new (changed_at_key view (acted_view act) list)) ≡ map_rows look_of (placed_rows old list)
rows_alike old new view act e Nothing still = refl
rows_alike old new view act e (Branch row kids siblings) still =
    row_alike old new act e row kids siblings (changed_at_key view (acted_view act) kids) (changed_at_key view (acted_view act) siblings) still
    (rows_alike old new view act e kids (λ key some. still key (omega arith))) (rows_alike old new view act e siblings (λ key some. still key (omega arith))) (row.key == view)

colors_alike : (old new : Views) (view : ℕ) (act : Act) → act_is_unseen act ≡ true → KeepsViews old new (edit.Act view act)
    → painted (placed_rows (held_of new) new.tree) ≡ painted (placed_rows (held_of old) old.tree)
colors_alike old new view act e keeps =
    sym (painted_looks (placed_rows (held_of new) new.tree))
    ∙ ap (λ (tree : Forest Row). painted (map_rows look_of (placed_rows (held_of new) tree)))
    (keeps.tree ∙ unspread act (changed_at_key view (acted_view act) old.tree) (unseen_turns (facet_of act) (is_unseen_act act e)))
    ∙ ap painted (rows_alike (held_of old) (held_of new) view act e old.tree (still_unseen old new view act e keeps))
    ∙ painted_looks (placed_rows (held_of old) old.tree)

-- an edit was made that shows in no picture
shown_unseen : (window : Size) (damage : Rect) (old new : Views) (e : Edit) → is_unseen e ≡ true → IsTree old → IsTree new → KeepsViews old new e → KeepsShown window damage damage old new
shown_unseen window damage old new (edit.Add parent class width height) unseen was is keeps = absurd (cc)
shown_unseen window damage old new (edit.Remove view) unseen was is keeps = absurd (cc)
shown_unseen window damage old new (edit.Text view text) unseen was is keeps = absurd (cc)
shown_unseen window damage old new (edit.Act view act) unseen was is keeps = record {
  grew = λ x y h. h;
  colors = λ x y inside out.
      ap (λ (list : Forest PlacedView). painted list x y BLACK) (placed_is new is)
      ∙ ap (λ (paint : Painter). paint x y BLACK) (colors_alike old new view act unseen keeps)
      ∙ ap (λ (list : Forest PlacedView). painted list x y BLACK) (sym (placed_is old was));
}

-- or it was refused
pub shown_quietly : {A E : Type 0} (result : Result A E) (window : Size) (damage : Rect) (old new : Views) (e : Edit) → is_unseen e ≡ true → IsTree old → IsTree new
    → OnOk result (KeepsViews old new e) → OnErr result (new ≡ old) → KeepsShown window damage damage old new
shown_quietly (Ok made) window damage old new e unseen was is keeps same = shown_unseen window damage old new e unseen was is keeps
shown_quietly (Err fault) window damage old new e unseen was is keeps same = shown_same window damage old new same
