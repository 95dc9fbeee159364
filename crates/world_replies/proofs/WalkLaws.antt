-- A walk over siblings and all below them, while the bounds of each view are sent.
use Rattle.std.proofs.Common.{◌≡◌, ℕ, List, [], Option, Some, None, refl, sym, ◌∙◌, ap, subst, append_assoc}
use Rattle.std.specs.Prelude.{IfSome}
use Rattle.std.proofs.lemmas.List.{append-nil}
use Rattle.text_lines.specs.BufferedText.{BufferedText, Sends}
use Rattle.text_lines.specs.Joined.{◌⧺◌}
use Rattle.text_lines.proofs.Sending.{sends_as, sends_none, ◌⨾◌}
use Rattle.view_model.specs.Forest.{Forest, Branch}
use Rattle.view_model.specs.PlainTree.{PlainView}
use Rattle.view_tree.specs.Rows.{Row, later_siblings, children_of_first, part_from, head_view, rest_from}
use Rattle.view_tree.specs.Views.{Views, IsLive, geometry_of, held_of, offset_of, plain_rows, view_at}
use Rattle.view_tree.proofs.forest.KeyLaws.{located}
use Rattle.view_tree.proofs.forest.Walks.{Walk, walk_on, walk_start}
use Rattle.world_replies.specs.Bounds.{bounds_of, bounds_text}
use Rattle.tool_io.specs.SinkState.{SinkState}

-- the bounds of a list of keyed views
abbrev pub rows_text : Views → Forest Row → List ℕ
rows_text views list = bounds_text (geometry_of views) (plain_rows (held_of views) list)

-- the views before the next one, with all below them, have been printed
pub record SentWalk (views : Views) (list : Forest Row) (next : Option ℕ) (old new : SinkState) (before held : BufferedText) : Type 0 where
  pub walk : Walk views.tree list next
  pub sent : List ℕ
  pub sends : Sends old new before held sent
  pub all : sent ⧺ rows_text views (rest_from next views.tree) ≡ rows_text views list

pub sent_start : (views : Views) (first : Option ℕ) (old : SinkState) (held : BufferedText) → IfSome first (λ view. IsLive views view)
    → SentWalk views (rest_from first views.tree) first old old held held
unfolding ◌⧺◌
sent_start views first old held live = record { walk = walk_start views.tree (rest_from first views.tree) first refl live; sent = []; sends = sends_none old held; all = refl }

-- of a view, of all below it, and then of its later siblings
pub rows_text-part_from : (views : Views) (view : ℕ) → IsLive views view → rows_text views (part_from view views.tree)
    ≡ bounds_of (geometry_of views) (view_at views view) ⧺ (rows_text views (children_of_first (part_from view views.tree)) ⧺ rows_text views (later_siblings (part_from view views.tree)))
rows_text-part_from views view live =
    let found = located view views.tree live in
    let seen : ℕ → Forest Row → PlainView = λ key list. record (head_view list) { facts = record (head_view list).facts { offset = offset_of views key } } in
    let P : Forest Row → Type 0 = λ list. rows_text views list ≡ bounds_of (geometry_of views) (seen view list) ⧺ (rows_text views (children_of_first list) ⧺ rows_text views (later_siblings list)) in
    let reported : P (Branch found.row found.kids found.siblings) =
    ap (λ (key : ℕ). bounds_of (geometry_of views) (seen key (Branch found.row found.kids found.siblings)) ⧺ (rows_text views found.kids ⧺ rows_text views found.siblings)) found.key_is in
    subst P (sym found.is) reported

pub sent_on : {old mid far new : SinkState} {before held further last : BufferedText} (views : Views) (list : Forest Row) (view : ℕ) (kid next : Option ℕ)
    → SentWalk views list (Some view) old mid before held
    → Sends mid far held further (bounds_of (geometry_of views) (view_at views view))
    → rest_from kid views.tree ≡ children_of_first (part_from view views.tree) → Sends far new further last (rows_text views (rest_from kid views.tree))
    → rest_from next views.tree ≡ later_siblings (part_from view views.tree) → IfSome next (λ view. IsLive views view)
    → SentWalk views list next old new before last
unfolding ◌⧺◌
sent_on views list view kid next w own ek kids en live =
    let here = bounds_of (geometry_of views) (view_at views view) in
    let inner = rows_text views (rest_from kid views.tree) in
    let outer = rows_text views (rest_from next views.tree) in
    let text : here ⧺ inner ⧺ outer ≡ rows_text views (part_from view views.tree) =
    ap (λ (l : List ℕ). here ⧺ (l ⧺ outer)) (ap (rows_text views) ek)
    ∙ ap (λ (l : List ℕ). here ⧺ (rows_text views (children_of_first (part_from view views.tree)) ⧺ l)) (ap (rows_text views) en)
    ∙ sym (rows_text-part_from views view w.walk.live) in
    record {
      walk = walk_on views.tree list view next w.walk en live;
      sent = (w.sent ⧺ here) ⧺ inner;
      sends = (w.sends ⨾ own) ⨾ kids;
      all = append_assoc (w.sent ⧺ here) inner outer ∙ append_assoc w.sent here (inner ⧺ outer) ∙ ap (λ (l : List ℕ). w.sent ⧺ l) text ∙ w.all;
    }

pub sent_end : {old new : SinkState} {before held : BufferedText} (views : Views) (list : Forest Row) → SentWalk views list None old new before held
    → Sends old new before held (rows_text views list)
unfolding ◌⧺◌
sent_end views list w = sends_as (sym (append-nil w.sent) ∙ w.all) w.sends
