use Rattle.std.proofs.Common.{◌≡◌, ◌<◌, ◌+◌, ℕ, zero, suc, List, [], ◌∷◌, drop, length, true, sym, ◌∙◌, ap, arith}
use Rattle.std.proofs.lemmas.List.{drop_more}
use Rattle.std.specs.Prelude.{slice_index_or}
use mathlib.Core.Path.{fun_ext}
use Rattle.kept_views.specs.Pressing.{all_pressed, path_of}
use Rattle.kept_views.proofs.edits.Paths.{among_first, among_rest}
use Rattle.view_tree.specs.tree.Requests.{among, pressed}
use Rattle.view_tree.specs.Rows.{count_of_key}
use Rattle.view_tree.specs.Views.{held_of}
use Rattle.traversal.proofs.forcing.force_all.Goals as goal

among_item : (views : List ℕ) (place : ℕ) → place < length views → among (slice_index_or views place 0) views ≡ true
among_item [] place within = absurd (omega arith)
among_item (view ∷ views) zero within = among_first view views
among_item (view ∷ views) (suc place) within = among_rest (slice_index_or views place 0) view views (among_item views place (omega arith))

pub force_path-requires : goal.force_path-requires
force_path-requires c =
    let live : 0 < count_of_key (slice_index_or c.args.views.now c.loop-view.view-index 0) c.args.tree.now.tree =
    c.requires (slice_index_or c.args.views.now c.loop-view.view-index 0) (among_item c.args.views.now c.loop-view.view-index c.loop-view-test.true) in
    rw c.loop-view.invariant.same.tree live

pub loop-view-preserved : goal.loop-view-preserved
loop-view-preserved c =
    let i = c.loop-view.invariant in
    let f = c.force_path.ensures in
    let tree = c.args.tree.now.tree in
    let views = c.args.views.now in
    let view = slice_index_or views c.loop-view.view-index 0 in
    let held : (key : ℕ) → held_of c.force_path.new.tree key ≡ pressed (held_of c.loop-view.tree) (path_of view tree) key = rw i.same.tree at f.held in
    let list : drop c.loop-view.view-index views ≡ view ∷ drop (c.loop-view.view-index + 1) views = drop_more views c.loop-view.view-index 0 c.loop-view-test.true in
    record {
      same = record { tree = f.same.tree ∙ i.same.tree; orders = f.same.orders ∙ i.same.orders; next = f.same.next ∙ i.same.next };
      counts = f.counts ∙ i.counts;
      still = λ none. absurd (let empty : length views ≡ 0 = ap (λ (l : List ℕ). length l) none in let within = c.loop-view-test.true in omega arith);
      left = ap (λ held. all_pressed held (drop (c.loop-view.view-index + 1) views) tree) (fun_ext held)
          ∙ ap (λ list. all_pressed (held_of c.loop-view.tree) list tree) (sym list) ∙ i.left;
    }
