use Rattle.std.proofs.Common.{◌≡◌, ◌≤◌, ◌+◌, ℕ, pos, Some, true, false, inl, [], arith, refl, sym, ◌∙◌, ap, subst}
use Rattle.geom_core.specs.declared.geometry.Rect.{Rect}
use Rattle.geom_core.specs.declared.geometry.Size.{Size}
use Rattle.geom_core.specs.declared.measuring.Spec.{Spec}
use Rattle.kept_views.specs.Kept.{Kept, Reached, firm, owed}
use Rattle.kept_views.specs.Laying.{Brought, differ}
use Rattle.kept_views.specs.Passes.{settled_at}
use Rattle.kept_views.proofs.laid.Brought.{brought-start}
use Rattle.kept_views.proofs.laid.LaidFrames.{differ-along}
use Rattle.measure_pass.specs.Caches.{Grown}
use Rattle.measure_pass.specs.Measured.{current, size_under}
use Rattle.measure_pass.proofs.held.Grows.{Grown-trans}
use Rattle.measure_pass.proofs.held.Own.{current-is, is-current}
use Rattle.measure_pass.proofs.Shares.{Shared-mono, SharesOut-trans}
use Rattle.measure_pass.specs.Sharing.{SharesOut}
use Rattle.view_model.specs.declared.facts.Facts.{Facts as FactsValue}
use Rattle.view_model.specs.declared.work.Work.{Work}
use Rattle.view_model.specs.Geometry.{Laid, rect_at}
use Rattle.view_model.specs.Layout.{full_layout, root_specs}
use Rattle.view_model.specs.Measuring.{Specs}
use Rattle.view_model.specs.Offsets.{ranged}
use Rattle.view_tree.specs.Rows.{first_tree, head_view, part_from}
use Rattle.std.proofs.Common.{List}
use Rattle.view_tree.specs.Views.{plain_rows, IsTree, Views, held_of, plain_of, specs_of, state_of}
use Rattle.view_tree.proofs.values.GeometryLaws.{laid_along}
use Rattle.view_tree.proofs.values.KeptLaws.{is_tree-same}
use Rattle.traversal.proofs.frames.CountedLaws.{counted_then}
use Rattle.traversal.proofs.laid.GrownLaid.{grown_own}
use Rattle.traversal.proofs.laid.LaidAt.{brought_settled, settled_bounds, settled_measured, settled_specs}
use Rattle.traversal.proofs.laid.LaidWhole.{at_narrow, calls_whole, laid_whole, owed_none, ready_whole, root_alone, root_from, root_live, root_sized}
use Rattle.traversal.proofs.SharesLaid.{shares_own}
use Rattle.traversal.proofs.sight.SightLaws.{sight_whole, within_whole}
use Rattle.traversal.proofs.offsets.Ranging.{cleared_firm, plain_brought}
use Rattle.traversal.specs.Resting.{IsAtPlace}
use Rattle.traversal.proofs.laying.whole.lay_root.Goals as goal

pub measure-size-requires : goal.measure-size-requires
measure-size-requires c =
    let old = c.args.tree.now.tree in
    let is = c.facts.ensures.is_tree in
    record {
      ready = record {
        live = root_live old c.args.root c.requires.root;
        shown = rw (root_from old c.args.root c.requires.root is.root) c.requires.shown;
        ready = rw (root_alone old c.args.root c.requires.root is.root) (ready_whole (held_of c.args.tree.now) old c.requires.consistent.kept c.requires.consistent.reached);
      };
    }

pub lay_open-requires : goal.lay_open-requires
lay_open-requires c =
    let m = c.measure-size.ensures in
    let old = c.args.tree.now.tree in
    let is = c.facts.ensures.is_tree in
    record {
      fit = record {
        live = rw m.same.tree (root_live old c.args.root c.requires.root);
        shown = rw m.same.tree (rw (root_from old c.args.root c.requires.root is.root) c.requires.shown);
        ready = m.measured.ready;
        sized = m.measured.sized;
      };
      narrow = rw c.rect_at.ensures (at_narrow (pos 0) (pos 0) c.measure-size.result m.width m.height);
      near = c.window_canvas.ensures.near;
    }

pub returns-clause-sight : goal.returns-clause-sight
returns-clause-sight c =
    let m = c.measure-size.ensures in
    sight_whole c.args.window c.window_canvas.result c.lay_open.new.context.damage.rect (held_of c.args.tree.now) (held_of c.measure-size.new.tree) (held_of c.lay_open.new.tree) c.args.tree.now.tree
    (first_tree (part_from c.args.root c.measure-size.new.tree.tree)) c.window_canvas.ensures.value
    (ap (λ tree. first_tree (part_from c.args.root tree)) m.same.tree ∙ root_alone c.args.tree.now.tree c.args.root c.requires.root c.facts.ensures.is_tree.root)
    (λ key here. (m.keeps.bounds key, m.keeps.offsets key)) c.lay_open.ensures.done.sight

pub returns-clause-within : goal.returns-clause-within
returns-clause-within c =
    let m = c.measure-size.ensures in
    within_whole c.args.window c.window_canvas.result c.args.damage.now.rect c.lay_open.new.context.damage.rect (held_of c.args.tree.now) (held_of c.measure-size.new.tree) (held_of c.lay_open.new.tree) c.args.tree.now.tree
    (first_tree (part_from c.args.root c.measure-size.new.tree.tree)) c.window_canvas.ensures.value
    (ap (λ tree. first_tree (part_from c.args.root tree)) m.same.tree ∙ root_alone c.args.tree.now.tree c.args.root c.requires.root c.facts.ensures.is_tree.root)
    (λ key here. (m.keeps.bounds key, m.keeps.offsets key)) c.lay_open.ensures.done.within

pub returns-clause-geometry : goal.returns-clause-geometry
returns-clause-geometry c =
    let m = c.measure-size.ensures in
    let old = c.args.tree.now.tree in
    let is = c.facts.ensures.is_tree in
    let tree : c.lay_open.new.tree.tree ≡ old = c.lay_open.ensures.done.same.tree ∙ m.same.tree in
    let laid = rw m.same.tree at c.lay_open.ensures.put.lies in
    let pair = ap (λ (p : Spec × Spec). let specs : Specs = record { across = p.0; down = p.1 } in specs) c.specs_in.ensures in
    let under = m.measured.last ∙ pair ∙ ap (λ (facts : FactsValue). root_specs c.args.window facts) c.facts.ensures.value in
    let size = m.size ∙ ap (λ (specs : Specs). size_under (part_from c.args.root old) specs) (sym m.measured.last) in
    let new = held_of c.lay_open.new.tree in
    rw tree
    (laid_along (settled_at c.args.root new) new old (λ key live. sym (settled_bounds c.args.root new key))
    ∙ laid_whole old c.args.root (held_of c.args.tree.now) (settled_at c.args.root new) c.args.window (specs_of (state_of c.measure-size.new.tree c.args.root))
    c.rect_at.result c.measure-size.result c.requires.root is.root laid under c.rect_at.ensures size)

pub returns-clause-plain : goal.returns-clause-plain
returns-clause-plain c =
    let m = c.measure-size.ensures in
    let old = c.args.tree.now.tree in
    let is = c.facts.ensures.is_tree in
    let tree : c.lay_open.new.tree.tree ≡ old = c.lay_open.ensures.done.same.tree ∙ m.same.tree in
    let new = held_of c.lay_open.new.tree in
    let next = c.lay_open.ensures.done.same.next ∙ m.same.next in
    let is_new : IsTree c.lay_open.new.tree = is_tree-same c.args.tree.now c.lay_open.new.tree is tree next in
    let brought : Brought (held_of c.measure-size.new.tree) (settled_at c.args.root new) (first_tree (part_from c.args.root old)) = rw m.same.tree at c.lay_open.ensures.put.offsets in
    let brought : Brought (held_of c.measure-size.new.tree) (settled_at c.args.root new) old = rw (root_alone old c.args.root c.requires.root is.root) at brought in
    let brought : Brought (held_of c.args.tree.now) (settled_at c.args.root new) old = brought-start (held_of c.args.tree.now) (held_of c.measure-size.new.tree) (settled_at c.args.root new) old (λ key here. m.keeps.offsets key) brought in
    plain_brought c.lay_open.new.tree is_new (held_of c.args.tree.now) (rw tree (brought_settled c.args.root (held_of c.args.tree.now) new old brought))
    ∙ ap (λ (geometry : List Laid). ranged geometry (plain_rows (held_of c.args.tree.now) c.lay_open.new.tree.tree)) (returns-clause-geometry c)
    ∙ ap (λ list. ranged (full_layout (plain_of c.args.tree.now) c.args.window) (plain_rows (held_of c.args.tree.now) list)) tree

pub returns-clause-in_pass : goal.returns-clause-in_pass
returns-clause-in_pass c =
    let m = c.measure-size.ensures in
    let old = c.args.tree.now.tree in
    let all = root_alone old c.args.root c.requires.root c.facts.ensures.is_tree.root in
    let new = settled_at c.args.root (held_of c.lay_open.new.tree) in
    let kept : Kept [] new firm (first_tree (part_from c.args.root old)) = rw m.same.tree at c.lay_open.ensures.put.kept in
    let kept : Kept [] new firm old = rw all at kept in
    let reached : Reached new false (first_tree (part_from c.args.root old)) = rw m.same.tree at c.lay_open.ensures.put.reached in
    record { kept = kept; reached = rw all at reached; cleared = cleared_firm new firm old (λ h. refl) kept }

pub returns-clause-last : goal.returns-clause-last
returns-clause-last c =
    let m = c.measure-size.ensures in
    let old = c.args.tree.now.tree in
    let new = held_of c.lay_open.new.tree in
    let pair = ap (λ (p : Spec × Spec). let specs : Specs = record { across = p.0; down = p.1 } in specs) c.specs_in.ensures in
    sym (settled_specs c.args.root new) ∙ c.lay_open.ensures.put.specs ∙ m.measured.last ∙ pair ∙ ap (λ (facts : FactsValue). root_specs c.args.window facts) c.facts.ensures.value
    ∙ ap (λ list. root_specs c.args.window (head_view list).facts) (root_from old c.args.root c.requires.root c.facts.ensures.is_tree.root)

pub returns-clause-measured : goal.returns-clause-measured
returns-clause-measured c =
    let m = c.measure-size.ensures in
    let old = c.args.tree.now.tree in
    let is = c.facts.ensures.is_tree in
    let all = root_alone old c.args.root c.requires.root is.root in
    let from_root = root_from old c.args.root c.requires.root is.root in
    let none : owed (held_of c.args.tree.now) (first_tree (part_from c.args.root old)) ≡ 0 = rw all (owed_none (held_of c.args.tree.now) old c.requires.consistent.reached) in
    let cost = m.costs.owing in
    let lay : c.lay_open.new.context.work.measured ≤ c.measure-size.new.work.measured + owed (held_of c.measure-size.new.tree) (first_tree (part_from c.args.root old)) = (rw m.same.tree at c.lay_open.ensures.done).measures in
    let pair = ap (λ (p : Spec × Spec). let specs : Specs = record { across = p.0; down = p.1 } in specs) c.specs_in.ensures in
    let under = pair ∙ ap (λ (facts : FactsValue). root_specs c.args.window facts) c.facts.ensures.value in
    let calls = calls_whole old c.args.root (held_of c.args.tree.now) c.args.window _ c.requires.root is.root (rw from_root c.requires.shown) under in
    omega arith

pub returns-clause-idle : goal.returns-clause-idle
returns-clause-idle c = λ known.
    let m = c.measure-size.ensures in
    let old = c.args.tree.now.tree in
    let is = c.facts.ensures.is_tree in
    let from_root = root_from old c.args.root c.requires.root is.root in
    let all = root_alone old c.args.root c.requires.root is.root in
    let pair = ap (λ (p : Spec × Spec). let specs : Specs = record { across = p.0; down = p.1 } in specs) c.specs_in.ensures in
    let specs = pair ∙ ap (λ (facts : FactsValue). root_specs c.args.window facts) c.facts.ensures.value ∙ ap (λ list. root_specs c.args.window (head_view list).facts) from_root in
    let now : current (state_of c.args.tree.now c.args.root) (record { across = c.specs_in.result.0; down = c.specs_in.result.1 }) ≡ true = ap (current (state_of c.args.tree.now c.args.root)) specs ∙ known in
    let still : c.measure-size.new.tree ≡ c.args.tree.now = m.still now in
    let work = ap (λ (work : Work). work.measured) (m.idle (inl (current-is (state_of c.args.tree.now c.args.root) _ now))).0 in
    let none : owed (held_of c.args.tree.now) (first_tree (part_from c.args.root old)) ≡ 0 = rw all (owed_none (held_of c.args.tree.now) old c.requires.consistent.reached) in
    let none' : owed (held_of c.measure-size.new.tree) (first_tree (part_from c.args.root old)) ≡ 0 = ap (λ (views : Views). owed (held_of views) (first_tree (part_from c.args.root old))) still ∙ none in
    let lay : c.lay_open.new.context.work.measured ≤ c.measure-size.new.work.measured + owed (held_of c.measure-size.new.tree) (first_tree (part_from c.args.root old)) = (rw m.same.tree at c.lay_open.ensures.done).measures in
    omega arith

pub returns-clause-laid : goal.returns-clause-laid
returns-clause-laid c =
    let m = c.measure-size.ensures in
    let old = c.args.tree.now.tree in
    let all = root_alone old c.args.root c.requires.root c.facts.ensures.is_tree.root in
    let mid = held_of c.measure-size.new.tree in
    let new = held_of c.lay_open.new.tree in
    let lay : c.lay_open.new.tree.counts.laid ≤ c.measure-size.new.tree.counts.laid + differ mid new (first_tree (part_from c.args.root old)) = (rw m.same.tree at c.lay_open.ensures.done).moves in
    let lay : c.lay_open.new.tree.counts.laid ≤ c.measure-size.new.tree.counts.laid + differ mid new old = rw all at lay in
    let same : differ mid new old ≡ differ (held_of c.args.tree.now) new old = differ-along (held_of c.args.tree.now) mid new new old (λ key here. m.keeps.bounds key) (λ key here. refl) in
    let had = m.counted.laid in
    omega arith

pub returns-clause-counted : goal.returns-clause-counted
returns-clause-counted c =
    let m = c.measure-size.ensures.counted in
    counted_then (record { by = m.by; work = m.work; tree = m.tree; painted = m.painted }) c.lay_open.ensures.done.counted

pub returns-clause-lies : goal.returns-clause-lies
returns-clause-lies c =
    let m = c.measure-size.ensures in
    let old = c.args.tree.now.tree in
    let root = c.args.root in
    let new = held_of c.lay_open.new.tree in
    let put = c.lay_open.ensures.put in
    let from_root = root_from old root c.requires.root c.facts.ensures.is_tree.root in
    let sized = root_sized old root (settled_at root new) c.requires.root c.requires.shown (returns-clause-in_pass c).kept in
    let size : c.measure-size.result ≡ (new root).state.measured =
    m.size ∙ ap (λ (specs : Specs). size_under (part_from root old) specs) (sym m.measured.last)
    ∙ ap (λ list. size_under list (specs_of (state_of c.measure-size.new.tree root))) from_root
    ∙ ap (λ (specs : Specs). size_under old specs) (sym put.specs) ∙ sym sized ∙ settled_measured root new in
    sym (settled_bounds root new root) ∙ put.bounds ∙ ap (λ (rect : Rect). Some rect) c.rect_at.ensures
    ∙ ap (λ (size : Size). Some (rect_at (pos 0) (pos 0) size)) size

pub returns-clause-still : goal.returns-clause-still
returns-clause-still c = λ rests.
    let m = c.measure-size.ensures in
    let old = c.args.tree.now.tree in
    let root = c.args.root in
    let from_root = root_from old root c.requires.root c.facts.ensures.is_tree.root in
    let asked : Specs = record { across = c.specs_in.result.0; down = c.specs_in.result.1 } in
    let pair = ap (λ (p : Spec × Spec). let specs : Specs = record { across = p.0; down = p.1 } in specs) c.specs_in.ensures in
    let specs = pair ∙ ap (λ (facts : FactsValue). root_specs c.args.window facts) c.facts.ensures.value ∙ ap (λ list. root_specs c.args.window (head_view list).facts) from_root in
    let now : current (state_of c.args.tree.now root) asked ≡ true = is-current (state_of c.args.tree.now root) asked (rests.place.forced, rests.specs ∙ sym specs) in
    let still : c.measure-size.new.tree ≡ c.args.tree.now = m.still now in
    let work : c.measure-size.new.work ≡ c.args.work.now = (m.idle (inl (current-is (state_of c.args.tree.now root) asked now))).0 in
    let size : c.measure-size.result ≡ (state_of c.measure-size.new.tree root).measured = m.size ∙ ap (λ list. size_under (part_from root list) asked) (sym m.same.tree) ∙ sym m.measured.size in
    let place : IsAtPlace (state_of c.measure-size.new.tree root) (rect_at (pos 0) (pos 0) (state_of c.measure-size.new.tree root).measured) =
    subst (λ (views : Views). IsAtPlace (state_of views root) (rect_at (pos 0) (pos 0) (state_of views root).measured)) (sym still) rests.place in
    let at : rect_at (pos 0) (pos 0) (state_of c.measure-size.new.tree root).measured ≡ c.rect_at.result = ap (λ (size : Size). rect_at (pos 0) (pos 0) size) (sym size) ∙ sym c.rect_at.ensures in
    let laid = c.lay_open.ensures.still (subst (λ (rect : Rect). IsAtPlace (state_of c.measure-size.new.tree root) rect) at place) in
    (laid.0 ∙ still, laid.1 ∙ work)

pub returns-clause-caches : goal.returns-clause-caches
returns-clause-caches c =
    let m = c.measure-size.ensures in
    let old = c.args.tree.now.tree in
    let root = c.args.root in
    let before = held_of c.args.tree.now in
    let mid = held_of c.measure-size.new.tree in
    let after = held_of c.lay_open.new.tree in
    let list = first_tree (part_from root old) in
    let pair = ap (λ (p : Spec × Spec). let specs : Specs = record { across = p.0; down = p.1 } in specs) c.specs_in.ensures in
    let specs = pair ∙ ap (λ (facts : FactsValue). root_specs c.args.window facts) c.facts.ensures.value
    ∙ ap (λ list. root_specs c.args.window (head_view list).facts) (root_from old root c.requires.root c.facts.ensures.is_tree.root) in
    let ok : Specs → ℕ → Specs → Type 0 = λ specs place other. other ≡ specs in
    let asked = root_specs c.args.window (head_view old).facts in
    let one = subst (λ (specs : Specs). Grown (ok specs) before mid list) specs m.caches in
    let laid = grown_own old root mid after (root_live old root c.requires.root) (rw m.same.tree at c.lay_open.ensures.done).caches in
    let two = subst (λ (specs : Specs). Grown (ok specs) mid after list) (m.measured.last ∙ specs) laid in
    let all : Grown (ok asked) before after list = Grown-trans (ok asked) before mid after list one two in
    rw (root_alone old root c.requires.root c.facts.ensures.is_tree.root) at all

pub returns-clause-shares : goal.returns-clause-shares
returns-clause-shares c =
    let m = c.measure-size.ensures in
    let old = c.args.tree.now.tree in
    let root = c.args.root in
    let before = held_of c.args.tree.now in
    let mid = held_of c.measure-size.new.tree in
    let after = held_of c.lay_open.new.tree in
    let list = first_tree (part_from root old) in
    let start = c.args.work.now.measured in
    let between = c.measure-size.new.work.measured in
    let end = c.lay_open.new.context.work.measured in
    let pair = ap (λ (p : Spec × Spec). let specs : Specs = record { across = p.0; down = p.1 } in specs) c.specs_in.ensures in
    let specs = pair ∙ ap (λ (facts : FactsValue). root_specs c.args.window facts) c.facts.ensures.value
    ∙ ap (λ list. root_specs c.args.window (head_view list).facts) (root_from old c.args.root c.requires.root c.facts.ensures.is_tree.root) in
    let ok : Specs → ℕ → Specs → Type 0 = λ specs place other. other ≡ specs in
    let asked = root_specs c.args.window (head_view old).facts in
    let one = subst (λ (specs : Specs). SharesOut (ok specs) (λ place. 1) before mid list start between) specs m.shares in
    let laid = shares_own old root mid after between end (root_live old root c.requires.root) (rw m.same.tree at c.lay_open.ensures.done).shares in
    let two = subst (λ (specs : Specs). SharesOut (ok specs) (λ place. 0) mid after list between end) (m.measured.last ∙ specs) laid in
    let both = SharesOut-trans (ok asked) (λ place. 1) (λ place. 0) before mid after list start between end one two in
    let all : SharesOut (ok asked) (λ place. 1) before after list start end = record {
      count = both.count;
      shared = Shared-mono (ok asked) (ok asked) (λ place. 1 + 0) (λ place. 1) before after list both.count (λ place other h. h) (λ place. omega arith) both.shared;
      spent = both.spent;
    } in
    rw (root_alone old c.args.root c.requires.root c.facts.ensures.is_tree.root) at all
