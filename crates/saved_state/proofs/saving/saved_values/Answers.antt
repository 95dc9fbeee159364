use Rattle.std.proofs.Common.{◌≡◌, ℕ, List, [], Option, ap, arith, subst, sym, ◌∙◌, length}
use Rattle.std.specs.List.{AllByRecursion, fold}
use Rattle.view_model.specs.Forest.{count_of}
use Rattle.view_tree.specs.tree.Preorder.{rows_from, views_from}
use Rattle.view_tree.specs.Views.{plain_of}
use Rattle.view_tree.proofs.forest.PreorderLaws.{rows_from_root, views_from_root}
use Rattle.saved_state.specs.Saving.{FitsOffset, with_view}
use Rattle.saved_state.specs.State.{RisesFrom, StateEntry}
use Rattle.saved_state.specs.Numbers.{last_version}
use Rattle.saved_state.proofs.SavingLaws.{every_row, length-rows}
use Rattle.saved_state.proofs.saving.saved_values.Goals as goal

pub loop-next-init : goal.loop-next-init
loop-next-init c =
    let views = c.args.tree.now in
    let root = c.root-next.result in
    let whole = views_from_root views root c.root-next.ensures.key in
    let count : length (rows_from root views.tree) ≡ count_of views.tree =
    ap (λ (next : Option ℕ). length (rows_from next views.tree)) c.root-next.ensures.key ∙ ap length (rows_from_root views.tree) ∙ length-rows views.tree in
    record {
      live = c.root-next.ensures.live;
      fit = subst (AllByRecursion FitsOffset) (sym whole) (every_row FitsOffset (plain_of views) c.requires);
      rises = subst (RisesFrom last_version 0) (sym c.new-saved.ensures.empty) tt;
      few = let none = c.new-saved.ensures.len in omega arith;
      left = ap (λ (entries : List StateEntry). fold with_view entries (views_from views root)) c.new-saved.ensures.empty ∙ ap (fold with_view []) whole;
    }
