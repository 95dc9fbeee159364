use Rattle.std.proofs.Common.{◌≡◌, ◌<◌, ℕ, pos, Some, None, true, false, refl, sym, ◌∙◌, ap, subst, arith}
use Rattle.measure_pass.specs.Caches.{Grew}
use Rattle.measure_pass.specs.Measured.{current}
use Rattle.measure_pass.proofs.held.Grows.{Grew-refl}
use Rattle.measure_pass.proofs.held.Own.{is-current}
use Rattle.view_model.specs.Geometry.{rect_at}
use Rattle.view_model.specs.Layout.{full_layout, root_specs}
use Rattle.view_tree.specs.Rows.{first_key, head_view, count_of_key}
use Rattle.kept_views.specs.Laying.{differ}
use Rattle.kept_views.specs.Passes.{settled_at}
use Rattle.kept_views.proofs.laid.LaidFrames.{differ-along}
use Rattle.view_tree.specs.declared.counts.Counts.{Counts}
use Rattle.view_tree.specs.declared.node.state.State.{State}
use Rattle.view_tree.specs.Views.{Held, Views, cache_of, geometry_of, held_of, number_of, plain_of, specs_of, state_of}
use Rattle.seen_parts.specs.Meeting.{met_at}
use Rattle.view_model.specs.Visible.{whole_window}
use Rattle.traversal.proofs.sight.CoverLaws.{covered_same, placed_same}
use Rattle.traversal.proofs.laid.LaidAt.{settled_mark}
use Rattle.traversal.proofs.laid.LaidWhole.{gone_whole, root_live, root_unmarked}
use Rattle.size_hooks.specs.Hooks.{hook_of}
use Rattle.traversal.specs.Frames.{edits_of, fired_in}
use Rattle.traversal.specs.Growing.{IsMeasuredByPass, IsOffPaths, IsUnedited, edits_fired}
use Rattle.traversal.proofs.hooks.Unedited.{off_same}
use Rattle.traversal.specs.Resting.{IsRootAtRest}
use Rattle.traversal.proofs.frames.GrownKeys.{grown_pass}
use Rattle.traversal.proofs.frames.StillKeys.{few_pass}
use Rattle.traversal.proofs.hooks.PassEdits.{passed_nowhere}
use Rattle.traversal.proofs.laid.ShapeLaws.{count_of_key-same}
use Rattle.traversal.proofs.pass.pass.Goals as goal

pub returns-in_default-clause-passed : goal.returns-in_default-clause-passed
returns-in_default-clause-passed c =
    let none = gone_whole c.args.tree.now.tree (held_of c.args.tree.now) c.args.window c.in_default.ensures.1 c.in_default.ensures.0 c.requires.consistent.kept in
    passed_nowhere c.args.hooks.now c.args.window c.args.tree.now none.0 none.1

pub returns-in_default-fired-clause-laid : goal.returns-in_default-fired-clause-laid
returns-in_default-fired-clause-laid c =
    let old = held_of c.args.tree.now in
    let d : differ old (held_of c.end_pass.new.tree) c.args.tree.now.tree ≡ differ old (held_of c.lay_root.new.tree) c.args.tree.now.tree =
    differ-along old old (held_of c.lay_root.new.tree) (held_of c.end_pass.new.tree) c.args.tree.now.tree (λ key here. refl) (λ key here. c.end_pass.ensures.bounds key) in
    let counts = ap (λ (counts : Counts). counts.laid) c.end_pass.ensures.counts in
    let laid = c.lay_root.ensures.laid in
    omega arith

pub returns-in_default-clause-sight : goal.returns-in_default-clause-sight
returns-in_default-clause-sight c = λ quiet x y out. refl

pub returns-in_default-clause-within : goal.returns-in_default-clause-within
returns-in_default-clause-within c = λ quiet box lies covered. lies

pub returns-in_default-fired-clause-quiet : goal.returns-in_default-fired-clause-quiet
returns-in_default-fired-clause-quiet c = λ quiet.
    let end = c.end_pass.ensures.same in
    let laid = c.lay_root.ensures.same in
    record { tree = end.tree ∙ laid.tree; orders = end.orders ∙ laid.orders; next = end.next ∙ laid.next }

pub returns-in_default-fired-clause-sight : goal.returns-in_default-fired-clause-sight
returns-in_default-fired-clause-sight c = λ quiet x y out.
    ap (met_at x y (whole_window c.args.window))
    (placed_same (held_of c.lay_root.new.tree) (held_of c.end_pass.new.tree) c.args.tree.now.tree (λ key here. (c.end_pass.ensures.bounds key, c.end_pass.ensures.offsets key)))
    ∙ c.lay_root.ensures.sight x y out

pub returns-in_default-fired-clause-within : goal.returns-in_default-fired-clause-within
returns-in_default-fired-clause-within c = λ quiet box lies covered.
    let old = held_of c.args.tree.now in
    c.lay_root.ensures.within box lies (covered_same (whole_window c.args.window) box old old (held_of c.end_pass.new.tree) (held_of c.lay_root.new.tree) c.args.tree.now.tree (λ key here. (refl, refl))
    (λ key here. (sym (c.end_pass.ensures.bounds key), sym (c.end_pass.ensures.offsets key))) covered)

pub returns-clause-quiet : goal.returns-clause-quiet
returns-clause-quiet c = λ quiet. absurd (let no : true ≡ false = quiet in cc)

pub returns-clause-sight : goal.returns-clause-sight
returns-clause-sight c = λ quiet. absurd (let no : true ≡ false = quiet in cc)

pub returns-clause-within : goal.returns-clause-within
returns-clause-within c = λ quiet. absurd (let no : true ≡ false = quiet in cc)

pub end_pass-requires-2-clause-live : goal.end_pass-requires-2-clause-live
end_pass-requires-2-clause-live c =
    let live : 0 < count_of_key c.in-Some.root c.args.tree.now.tree = root_live c.args.tree.now.tree c.in-Some.root c.in-Some.ensures.0 in
    let same : count_of_key c.in-Some.root c.fire-requesters.new.tree.tree ≡ count_of_key c.in-Some.root c.args.tree.now.tree =
    count_of_key-same c.in-Some.root c.fire-requesters.ensures.shape ∙ ap (count_of_key c.in-Some.root) c.lay_root.ensures.same.tree in
    omega arith

pub returns-clause-laid : goal.returns-clause-laid
returns-clause-laid c =
    let old = held_of c.args.tree.now in
    let d : differ old (held_of c.end_pass-2.new.tree) c.args.tree.now.tree ≡ differ old (held_of c.lay_root.new.tree) c.args.tree.now.tree =
    differ-along old old (held_of c.lay_root.new.tree) (held_of c.end_pass-2.new.tree) c.args.tree.now.tree (λ key here. refl)
    (λ key here. c.end_pass-2.ensures.bounds key ∙ c.fire-requesters.ensures.bounds key) in
    let counts = ap (λ (counts : Counts). counts.laid) c.end_pass-2.ensures.counts in
    let fire = ap (λ (counts : Counts). counts.laid) c.fire-requesters.ensures.counts in
    let laid = c.lay_root.ensures.laid in
    omega arith

some_is : {x y : ℕ} → Some x ≡ Some y → x ≡ y
some_is e = cc

pub returns-in_default-clause-idle : goal.returns-in_default-clause-idle
returns-in_default-clause-idle c = λ root first known. omega arith

pub returns-in_default-fired-clause-idle : goal.returns-in_default-fired-clause-idle
returns-in_default-fired-clause-idle c = λ root first known.
    let e : root ≡ c.in-Some.root = some_is (sym first ∙ c.in-Some.ensures.0) in
    c.lay_root.ensures.idle (subst (λ root. current (state_of c.args.tree.now root) (root_specs c.args.window (head_view c.args.tree.now.tree).facts) ≡ true) e known)

pub returns-clause-idle : goal.returns-clause-idle
returns-clause-idle c = λ root first known.
    let e : root ≡ c.in-Some.root = some_is (sym first ∙ c.in-Some.ensures.0) in
    c.lay_root.ensures.idle (subst (λ root. current (state_of c.args.tree.now root) (root_specs c.args.window (head_view c.args.tree.now.tree).facts) ≡ true) e known)

pub returns-in_default-clause-last : goal.returns-in_default-clause-last
returns-in_default-clause-last c = λ quiet root first shown.
    let none : None ≡ Some root = sym (ap first_key (c.in_default.ensures.0 shown)) ∙ first in absurd (cc)

pub returns-in_default-fired-clause-last : goal.returns-in_default-fired-clause-last
returns-in_default-fired-clause-last c = λ quiet root first shown.
    let same : c.end_pass.new.tree.tree ≡ c.args.tree.now.tree = c.end_pass.ensures.same.tree ∙ c.lay_root.ensures.same.tree in
    let e : c.in-Some.root ≡ root = some_is (sym c.in-Some.ensures.0 ∙ sym (ap first_key same) ∙ first) in
    let own = c.end_pass.ensures.own refl in
    let specs = ap (λ (h : Held). specs_of h.state) own ∙ c.lay_root.ensures.last ∙ ap (λ tree. root_specs c.args.window (head_view tree).facts) (sym same) in
    subst (λ root. current (state_of c.end_pass.new.tree root) (root_specs c.args.window (head_view c.end_pass.new.tree.tree).facts) ≡ true) e
    (is-current (state_of c.end_pass.new.tree c.in-Some.root) _ (ap (λ (h : Held). h.state.forced) own, specs))

pub returns-clause-last : goal.returns-clause-last
returns-clause-last c = λ quiet. absurd (let no : true ≡ false = quiet in cc)

pub returns-in_default-clause-calm : goal.returns-in_default-clause-calm
returns-in_default-clause-calm c = λ rests none. (refl, refl, refl, refl)

pub returns-in_default-fired-clause-calm : goal.returns-in_default-fired-clause-calm
returns-in_default-fired-clause-calm c = λ rests none.
    let own = rests c.in-Some.root c.in-Some.ensures.0 c.in-Some.ensures.1 in
    let laid = c.lay_root.ensures.still own in
    let state : state_of c.lay_root.new.tree c.in-Some.root ≡ state_of c.args.tree.now c.in-Some.root = ap (λ (views : Views). state_of views c.in-Some.root) laid.0 in
    (c.end_pass.ensures.still refl (ap (λ (s : State). s.forced) state ∙ own.place.forced) (ap (λ (s : State). s.layout_needed) state ∙ own.place.needed) ∙ laid.0, refl, refl, laid.1)

pub returns-clause-calm : goal.returns-clause-calm
returns-clause-calm c = λ rests none.
    let laid = c.lay_root.ensures.still (rests c.in-Some.root c.in-Some.ensures.0 c.in-Some.ensures.1) in
    let quiet : fired_in c.args.hooks.now (geometry_of c.lay_root.new.tree) ≡ None = ap (λ (views : Views). fired_in c.args.hooks.now (geometry_of views)) laid.0 ∙ none in
    absurd (let no : Some c.in-Some-fired.view ≡ None = c.in-Some-fired.ensures ∙ quiet in cc)

pub returns-in_default-clause-rest : goal.returns-in_default-clause-rest
returns-in_default-clause-rest c = λ quiet root first shown.
    let none : None ≡ Some root = sym (ap first_key (c.in_default.ensures.0 shown)) ∙ first in absurd (cc)

pub returns-in_default-fired-clause-rest : goal.returns-in_default-fired-clause-rest
returns-in_default-fired-clause-rest c = λ quiet root first shown.
    let own = c.in-Some.root in
    let laid = held_of c.lay_root.new.tree in
    let views = c.end_pass.new.tree in
    let same : views.tree ≡ c.args.tree.now.tree = c.end_pass.ensures.same.tree ∙ c.lay_root.ensures.same.tree in
    let e : own ≡ root = some_is (sym c.in-Some.ensures.0 ∙ sym (ap first_key same) ∙ first) in
    let is = c.end_pass.ensures.own refl in
    let unmarked : (laid own).state.measure_first ≡ false = sym (settled_mark own laid) ∙ root_unmarked c.args.tree.now.tree own (settled_at own laid) c.in-Some.ensures.0 c.lay_root.ensures.in_pass.reached in
    let rests : IsRootAtRest (state_of views own) (head_view views.tree).facts c.args.window = record {
      place = record {
        forced = ap (λ (h : Held). h.state.forced) is;
        needed = ap (λ (h : Held). h.state.layout_needed) is;
        marked = ap (λ (h : Held). h.state.measure_first) is ∙ unmarked;
        bounds = ap (λ (h : Held). h.state.bounds) is ∙ c.lay_root.ensures.lies ∙ ap (λ (h : Held). Some (rect_at (pos 0) (pos 0) h.state.measured)) (sym is);
      };
      specs = ap (λ (h : Held). specs_of h.state) is ∙ c.lay_root.ensures.last ∙ ap (λ tree. root_specs c.args.window (head_view tree).facts) (sym same);
    } in
    subst (λ root. IsRootAtRest (state_of views root) (head_view views.tree).facts c.args.window) e rests

pub returns-clause-rest : goal.returns-clause-rest
returns-clause-rest c = λ quiet. absurd (let no : true ≡ false = quiet in cc)

pub returns-in_default-clause-caches : goal.returns-in_default-clause-caches
returns-in_default-clause-caches c = λ key live un. Grew-refl (IsMeasuredByPass (plain_of c.args.tree.now) c.args.window (number_of c.args.tree.now key)) (cache_of c.args.tree.now key)

pub returns-in_default-fired-clause-caches : goal.returns-in_default-fired-clause-caches
returns-in_default-fired-clause-caches c = λ key live un.
    let old = c.args.tree.now in
    let laid = c.lay_root.ensures in
    let grown = grown_pass old laid.is_tree (held_of old) (held_of old) (held_of c.lay_root.new.tree) c.args.window key live c.in-Some.ensures.1 laid.caches in
    subst (λ cache. Grew (IsMeasuredByPass (plain_of old) c.args.window (number_of old key)) (cache_of old key) cache)
    (sym (c.end_pass.ensures.caches key (λ view named. absurd (let no : false ≡ true = named in cc)))) grown

pub returns-clause-caches : goal.returns-clause-caches
returns-clause-caches c = λ key live un.
    let old = c.args.tree.now in
    let laid = c.lay_root.ensures in
    let grown = grown_pass old laid.is_tree (held_of old) (held_of old) (held_of c.lay_root.new.tree) c.args.window key live c.in-Some.ensures.1 laid.caches in
    let fire = c.fire-requesters.ensures in
    let found : fired_in c.args.hooks.now (full_layout (plain_of old) c.args.window) ≡ Some c.in-Some-fired.view = ap (fired_in c.args.hooks.now) (sym laid.geometry) ∙ sym c.in-Some-fired.ensures in
    let edits = edits_of (hook_of c.args.hooks.now c.in-Some-fired.view) in
    let un : IsUnedited old.tree edits key = subst (λ view. IsUnedited old.tree (edits_fired c.args.hooks.now view) key) found un in
    let kept = fire.caches key (subst (λ tree. IsUnedited tree edits key) (sym laid.same.tree) un) in
    let off = off_same c.fire-requesters.result.items key fire.shape kept.1 in
    let off : IsOffPaths c.as_slice.result.now c.fire-requesters.new.tree.tree key = subst (λ views. IsOffPaths views c.fire-requesters.new.tree.tree key) (sym c.as_slice.ensures.value) off in
    subst (λ cache. Grew (IsMeasuredByPass (plain_of old) c.args.window (number_of old key)) (cache_of old key) cache) (sym (c.end_pass-2.ensures.caches key off ∙ kept.0)) grown

pub returns-in_default-clause-few : goal.returns-in_default-clause-few
returns-in_default-clause-few c = λ calm still. omega arith

pub returns-in_default-fired-clause-few : goal.returns-in_default-fired-clause-few
returns-in_default-fired-clause-few c = λ calm unasked.
    few_pass c.args.tree.now c.lay_root.ensures.is_tree c.args.window calm unasked (held_of c.lay_root.new.tree) c.args.work.now.measured c.lay_root.new.work.measured c.in-Some.ensures.1
    c.requires.consistent.reached c.lay_root.ensures.shares

pub returns-clause-few : goal.returns-clause-few
returns-clause-few c = λ calm unasked.
    few_pass c.args.tree.now c.lay_root.ensures.is_tree c.args.window calm unasked (held_of c.lay_root.new.tree) c.args.work.now.measured c.lay_root.new.work.measured c.in-Some.ensures.1
    c.requires.consistent.reached c.lay_root.ensures.shares
