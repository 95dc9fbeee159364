use Rattle.std.proofs.Common.{◌≡◌, ap, sym, ◌∙◌, subst}
use Rattle.std.specs.Option.{option_map}
use Rattle.std.specs.Prelude.{IfSome}
use Rattle.view_model.specs.Forest.{Forest}
use Rattle.view_model.specs.Visible.{Canvas, whole_window}
use Rattle.view_tree.specs.Rows.{Row, first_tree, part_from}
use Rattle.view_tree.specs.Views.{IsLive, held_of, number_of}
use Rattle.view_tree.proofs.forest.RootLaws.{whole_first}
use Rattle.focus_finder.proofs.LeastLaws.{lesser-none}
use Rattle.focus_finder.proofs.PlainLaws.{next_focus-keyed}
use Rattle.focus_finder.proofs.SightLaws.{found, found-live, live_view}
use Rattle.focus_finder.specs.declared.searching.Candidate.{Candidate}
use Rattle.focus_finder.specs.declared.searching.Search.{Search}
use Rattle.focus_finder.proofs.searching.next.Goals as goal

abbrev search_of : goal.After-view_of → Search
search_of c = record { view = c.args.view; side = c.args.side; from = c.seen-from.result }

found_is : (c : goal.After-view_of) → c.best_in_view.result ≡ found (search_of c) (held_of c.args.tree.now) (whole_window c.args.window) c.args.tree.now.tree
found_is c =
    let held = held_of c.args.tree.now in
    let tree = c.args.tree.now.tree in
    c.best_in_view.ensures
    ∙ lesser-none _
    ∙ ap (λ (canvas : Canvas). found (search_of c) held canvas (first_tree (part_from c.in_ok-root.root tree))) c.window_canvas.ensures.value
    ∙ ap (λ (list : Forest Row). found (search_of c) held (whole_window c.args.window) list) (ap first_tree c.in_ok-root.ensures.part ∙ whole_first tree c.root.ensures.is_tree.root)

pub returns-clause-value : goal.returns-clause-value
returns-clause-value c =
    ap (option_map (number_of c.args.tree.now)) (c.view_of.ensures ∙ ap (option_map (λ (best : Candidate). best.view)) (found_is c))
    ∙ next_focus-keyed c.args.tree.now c.args.window (search_of c) c.root.ensures.is_tree c.seen-from.ensures.value c.requires

pub returns-clause-live : goal.returns-clause-live
returns-clause-live c =
    let tree = c.args.tree.now.tree in
    let best : c.view_of.result ≡ option_map (λ (best : Candidate). best.view) (found (search_of c) (held_of c.args.tree.now) (whole_window c.args.window) tree) =
    c.view_of.ensures ∙ ap (option_map (λ (best : Candidate). best.view)) (found_is c) in
    subst (λ o. IfSome o (λ key. IsLive c.args.tree.now key)) (sym best)
    (live_view tree _ (found-live (search_of c) (held_of c.args.tree.now) (whole_window c.args.window) tree))
