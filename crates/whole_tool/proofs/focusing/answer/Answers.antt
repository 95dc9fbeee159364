use Rattle.std.proofs.Common.{not, ap, sym, ◌∙◌}
use Rattle.std.specs.Option.{option_map}
use Rattle.std.specs.Prelude.{Ok}
use Rattle.view_tree.specs.Views.{number_of}
use Rattle.view_world.specs.screen.KeyedScreen.{world_of}
use Rattle.view_world.specs.declared.screen.stage.Stage.TheVariants.{Unsettled, Settled}
use Rattle.whole_tool.proofs.FocusLaws.{answer-no_frame, answer-no_root, answer-no_view, answer-no_window, answer-stage, answer-view}
use Rattle.whole_tool.proofs.focusing.answer.Goals as goal

pub returns-in_default-clause-value : goal.returns-in_default-clause-value
returns-in_default-clause-value c = answer-no_window c.args.world.now.screen c.args.question (sym c.window.ensures ∙ c.in_default.is)

pub returns-then-is_none-clause-value : goal.returns-then-is_none-clause-value
returns-then-is_none-clause-value c =
    let key = rw c.tree-tree.ensures.value at c.root.ensures.key in
    answer-no_root c.args.world.now.screen c.args.question c.in-Some.window c.root.result (sym c.window.ensures ∙ c.in-Some.is) key (ap not (c.is_none.ensures ∙ ap not c.if-is_none.true))

pub returns-in-NoWindow-clause-value : goal.returns-in-NoWindow-clause-value
returns-in-NoWindow-clause-value c =
    let key = rw c.tree-tree.ensures.value at c.root.ensures.key in
    answer-no_frame c.args.world.now.screen c.args.question c.in-Some.window c.root.result c.stage.result (sym c.window.ensures ∙ c.in-Some.is) key (ap not (c.is_none.ensures ∙ ap not c.if-is_none.false))
    (sym c.stage.ensures) c.in-NoWindow.is

pub returns-in-Unsettled-clause-value : goal.returns-in-Unsettled-clause-value
returns-in-Unsettled-clause-value c =
    let key = rw c.tree-tree.ensures.value at c.root.ensures.key in
    sym (answer-stage c.args.world.now.screen c.args.question c.in-Some.window c.root.result Unsettled (sym c.window.ensures ∙ c.in-Some.is) key (ap not (c.is_none.ensures ∙ ap not c.if-is_none.false))
    (sym c.stage.ensures ∙ c.in-Unsettled.is))

pub returns-in-None-clause-value : goal.returns-in-None-clause-value
returns-in-None-clause-value c =
    let screen = c.args.world.now.screen in
    let key = rw c.tree-tree.ensures.value at c.root.ensures.key in
    let number = rw c.tree-tree.ensures.value at c.find.ensures.number in
    sym (answer-stage screen c.args.question c.in-Some.window c.root.result Settled (sym c.window.ensures ∙ c.in-Some.is) key (ap not (c.is_none.ensures ∙ ap not c.if-is_none.false))
    (sym c.stage.ensures ∙ c.in-Settled.is)
    ∙ answer-no_view (world_of screen) c.args.question (sym number ∙ ap (option_map (number_of screen.views)) c.in-None.is))

pub returns-in-Some-find-clause-value : goal.returns-in-Some-find-clause-value
returns-in-Some-find-clause-value c =
    let screen = c.args.world.now.screen in
    let settled = sym c.stage.ensures ∙ c.in-Settled.is in
    let some = sym c.window.ensures ∙ c.in-Some.is in
    let key = rw c.tree-tree.ensures.value at c.root.ensures.key in
    let number = rw c.tree-tree.ensures.value at c.find.ensures.number in
    let found = sym number ∙ ap (option_map (number_of screen.views)) c.in-Some-find.is in
    let next = rw (c.tree-tree.ensures.laid settled, c.tree-tree.ensures.value) at c.next.ensures.value in
    let result = rw c.tree-tree.ensures.value at c.number_in.ensures in
    sym (answer-stage screen c.args.question c.in-Some.window c.root.result Settled some key (ap not (c.is_none.ensures ∙ ap not c.if-is_none.false)) settled
    ∙ answer-view (world_of screen) c.args.question c.in-Some.window (number_of screen.views c.in-Some-find.view) some found
    ∙ ap Ok (sym (result ∙ next)))
