use Rattle.std.proofs.Common.{◌≡◌, ◌≢◌, ◌+◌, ◌≤◌, ℕ, None, true, false, length, refl, sym, ◌∙◌, ap, subst, arith}
use Rattle.std.specs.Prelude.{◌&&◌, if◌then◌else◌}
use Rattle.std.proofs.lemmas.Bool.{and_parts, cases_eq}
use Rattle.std.proofs.Common.{inl, inr}
use Rattle.geom_core.specs.declared.geometry.Size.{Size}
use Rattle.kept_views.specs.Laying.{Wrote, differ, moved_to, same_place, sizes_back, spot_of}
use Rattle.kept_views.specs.Passes.{settled_at}
use Rattle.kept_views.proofs.laid.LaidFrames.{Fit-along, Fit-first, differ-along}
use Rattle.kept_views.proofs.laid.LaidRows.{moved_is}
use Rattle.view_model.specs.declared.limits.TheConstants.{MAX_VIEWS}
use Rattle.view_model.specs.declared.facts.Facts.{Facts}
use Rattle.view_model.specs.Classes.{lays_in_line}
use Rattle.view_model.specs.Facts.{is_shown, layout_facts}
use Rattle.view_model.specs.Forest.{count_of}
use Rattle.view_model.specs.Geometry.{size_of_rect}
use Rattle.view_model.specs.Layout.{place_in, places_backwards}
use Rattle.view_model.specs.LinearLayout.{is_backwards}
use Rattle.view_model.specs.Measuring.{Measured, Specs}
use Rattle.view_model.specs.RelativeLayout.{sides_of}
use Rattle.view_tree.specs.declared.node.state.State.{State}
use Rattle.view_tree.specs.Rows.{first_tree, first_key, children_of_first, later_siblings, part_from, head_view}
use Rattle.view_tree.specs.Views.{Held, Views, class_of, facts_of, held_of, specs_of, state_of}
use Rattle.view_tree.specs.declared.counts.Counts.{Counts}
use Rattle.view_tree.proofs.forest.Walks.{count_few, count_one, fewer_below}
use Rattle.view_tree.proofs.forest.Forests.{count_alone, live_after}
use Rattle.traversal.specs.Placing.{LaidKids}
use Rattle.traversal.specs.Resting.{is_at_place}
use Rattle.measure_pass.specs.Caches.{Grown}
use Rattle.measure_pass.proofs.held.Grows.{Grown-trans}
use Rattle.measure_pass.proofs.held.Rests.{same_then}
use Rattle.traversal.specs.Growing.{LastAt}
use Rattle.traversal.specs.Laying.{HasLaid, LayingStage, stage_of}
use Rattle.traversal.proofs.frames.CountedLaws.{counted_still, counted_then}
use Rattle.traversal.proofs.laid.GrownLaid.{grown_caches, grown_kid, grown_view}
use Rattle.traversal.proofs.laid.LastAsked.{kids_asked}
use Rattle.traversal.proofs.SharesLaid.{SharesOut-less, alike_moved, shared_settled, shares_kid, shares_view}
use Rattle.measure_pass.specs.Sharing.{Shared}
use Rattle.measure_pass.proofs.Shares.{SharesOut-trans}
use Rattle.traversal.proofs.laid.FitLaws.{near_size_is}
use Rattle.traversal.proofs.laid.LaidAt.{alone_outside, below_at, calm_at, differ_at, kid_at, kid_gone, outside_at, put_at, put_same, settled_bounds, settled_cache, settled_is, settled_same, sides_at}
use Rattle.traversal.proofs.sight.FollowedViews.{covers_along, covers_at, covers_end, covers_on, covers_start, settled_places, sight_along, sight_at, sight_same, steps_by, walks_end, walks_on, walks_start}
use Rattle.traversal.proofs.laid.BackWalk.{WalkTo, back_few, back_fit, back_narrow, back_on, back_start, backwards_is, fewer_back}
use Rattle.traversal.proofs.laid.LaidStages.{laid_none}
use Rattle.traversal.proofs.laid.LaidWalk.{laid_on, laid_start, next_narrow, quiet_none}
use Rattle.traversal.proofs.frames.RestLaws.{calm_is, calm_of, is_at_place-IsAtPlace, unmoved}
use Rattle.traversal.proofs.laying.lay.+lay.Goals as goal

-- lay_kid

sums : (e d c b a m k w : ℕ) → e ≡ d → d ≤ c + k → c ≤ b + m → b ≡ a → m + k ≤ w → e ≤ a + w
sums e d c b a m k w p q r s t = omega arith

pub lay_kid-returns-then-not-is_shown-clause-quiet : goal.lay_kid-returns-then-not-is_shown-clause-quiet
lay_kid-returns-then-not-is_shown-clause-quiet t c = λ spot before places few.
    kid_gone c.args.tree.now.tree c.args.kid c.args.placer.now spot before (held_of c.args.tree.now) c.requires.live
    (sym (ap is_shown c.facts-facts.ensures.value) ∙ sym c.is_shown.ensures ∙ c.if-not-is_shown.true) c.requires.fit places

pub lay_kid-place-rect-requires-clause-width : goal.lay_kid-place-rect-requires-clause-width
lay_kid-place-rect-requires-clause-width t c =
    rw c.state-state.ensures.value (sides_at c.args.tree.now.tree c.args.kid (held_of c.args.tree.now) c.requires.live
    (sym (ap is_shown c.facts-facts.ensures.value) ∙ sym c.is_shown.ensures ∙ c.if-not-is_shown.false) c.requires.fit.sized).width

pub lay_kid-place-rect-requires-clause-height : goal.lay_kid-place-rect-requires-clause-height
lay_kid-place-rect-requires-clause-height t c =
    rw c.state-state.ensures.value (sides_at c.args.tree.now.tree c.args.kid (held_of c.args.tree.now) c.requires.live
    (sym (ap is_shown c.facts-facts.ensures.value) ∙ sym c.is_shown.ensures ∙ c.if-not-is_shown.false) c.requires.fit.sized).height

pub lay_kid-place-rect-requires-clause-sides : goal.lay_kid-place-rect-requires-clause-sides
lay_kid-place-rect-requires-clause-sides t c =
    rw c.state-state.ensures.value (c.requires.narrow (sym (ap is_shown c.facts-facts.ensures.value) ∙ sym c.is_shown.ensures ∙ c.if-not-is_shown.false))

pub lay_kid-lay-requires : goal.lay_kid-lay-requires
lay_kid-lay-requires t c =
    let shown = sym (ap is_shown c.facts-facts.ensures.value) ∙ sym c.is_shown.ensures ∙ c.if-not-is_shown.false in
    (omega arith, (record { live = c.requires.live; shown = shown; ready = c.requires.fit.ready; sized = c.requires.fit.sized }, (c.place-rect.ensures.narrow, c.requires.near)))

pub lay_kid-returns-clause-quiet : goal.lay_kid-returns-clause-quiet
lay_kid-returns-clause-quiet t c = λ spot before places few.
    let one = count_one c.args.tree.now.tree c.args.kid c.requires.live in
    let shown = sym (ap is_shown c.facts-facts.ensures.value) ∙ sym c.is_shown.ensures ∙ c.if-not-is_shown.false in
    let facts_is : layout_facts c.facts-facts.result.now ≡ layout_facts (head_view (part_from c.args.kid c.args.tree.now.tree)).facts =
    ap layout_facts c.facts-facts.ensures.value in
    let kid_of : Size → Measured = λ size. record { facts = layout_facts (head_view (part_from c.args.kid c.args.tree.now.tree)).facts; size = size } in
    let kid_with : Facts → Measured = λ facts. record { facts = facts; size = c.state-state.result.measured } in
    kid_at c.args.tree.now.tree c.args.kid c.place-rect.new.self spot before c.state-state.result.measured c.place-rect.result
    (held_of c.args.tree.now) (held_of c.lay.new.tree) c.requires.live shown c.requires.fit.sized
    (ap (λ (state : State). state.measured) c.state-state.ensures.value)
    (c.place-rect.ensures.place spot before places
    ∙ ap (λ (facts : Facts). place_in spot before (kid_with facts) (sides_of c.state-state.result.edges)) facts_is
    ∙ ap (λ (state : State). place_in spot before (kid_of c.state-state.result.measured) (sides_of state.edges)) c.state-state.ensures.value) (rw facts_is at (c.place-rect.ensures.next spot before places (omega arith))) c.lay.ensures.put

pub lay_kid-returns-then-not-is_shown-clause-done : goal.lay_kid-returns-then-not-is_shown-clause-done
lay_kid-returns-then-not-is_shown-clause-done t c =
    laid_none c.args.canvas.now (stage_of c.args.tree.now c.args.context.now) (first_tree (part_from c.args.kid c.args.tree.now.tree))

-- lay_forwards

pub lay_forwards-lay_kid-requires : goal.lay_forwards-lay_kid-requires
lay_forwards-lay_kid-requires t c =
    let tree = c.args.tree.now.tree in
    let walk = rw c.in-Some.is at c.loop-next.invariant.walked in
    let fewer = fewer_below tree c.args.view c.in-Some.kid c.requires.fit.live walk.walked.walk in
    rw c.loop-next.invariant.same.tree (
      omega arith,
      (
        walk.walked.walk.live,
        (
          Fit-first (held_of c.loop-next.tree) (part_from c.in-Some.kid tree)
              (Fit-along (held_of c.args.tree.now) (held_of c.loop-next.tree) (part_from c.in-Some.kid tree) walk.walked.still walk.fit),
          (
            λ shown.
                next_narrow tree (children_of_first (part_from c.args.view tree)) c.loop-next.placer (spot_of (part_from c.args.view tree) (held_of c.args.tree.now c.args.view) c.args.inside.now.size)
                (held_of c.args.tree.now) c.args.context.now.work.measured c.args.tree.now.counts.laid c.in-Some.kid (held_of c.loop-next.tree) c.loop-next.context.work.measured c.loop-next.tree.counts.laid walk shown,
            c.requires.fit.near,
          ),
        ),
      ),
    )

pub lay_forwards-loop-next-smaller : goal.lay_forwards-loop-next-smaller
lay_forwards-loop-next-smaller t c =
    let walk = rw c.in-Some.is at c.loop-next.invariant.walked in
    rw (c.next-next.ensures.part, c.lay_kid.ensures.done.same.tree, c.loop-next.invariant.same.tree, c.in-Some.is) (live_after c.in-Some.kid c.args.tree.now.tree walk.walked.walk.live)

pub lay_forwards-loop-next-init : goal.lay_forwards-loop-next-init
lay_forwards-loop-next-init t c =
    let tree = c.args.tree.now.tree in
    let first = c.first-next.ensures in
    let spot = spot_of (part_from c.args.view tree) (held_of c.args.tree.now c.args.view) c.args.inside.now.size in
    record {
      same = record { tree = refl; orders = refl; next = refl };
      counted = record { by = 0; work = omega arith; tree = omega arith; painted = refl };
      grew = λ x y h. h;
      sight = walks_start c.args.inside.now.canvas c.args.context.now.damage.rect tree (children_of_first (part_from c.args.view tree)) (held_of c.args.tree.now) c.first-next.result first.part;
      cover = covers_start c.args.inside.now.canvas c.args.context.now.damage.rect tree (children_of_first (part_from c.args.view tree)) (held_of c.args.tree.now) c.first-next.result first.part;
      walked =
          laid_start tree (children_of_first (part_from c.args.view tree)) c.args.placer.now spot (held_of c.args.tree.now) c.args.context.now.work.measured c.args.tree.now.counts.laid c.first-next.result c.requires.places
          (count_few c.args.view tree c.requires.fit.live first.is_tree.few) first.is_tree.keys first.part first.live c.requires.fit.fit c.requires.fit.narrow;
    }

pub lay_forwards-loop-next-preserved : goal.lay_forwards-loop-next-preserved
lay_forwards-loop-next-preserved t c =
    let tree = c.args.tree.now.tree in
    let before = c.loop-next.invariant in
    let kid = c.lay_kid.ensures.done in
    let spot = spot_of (part_from c.args.view tree) (held_of c.args.tree.now c.args.view) c.args.inside.now.size in
    let walk = rw c.in-Some.is at before.walked in
    let alone_few = count_alone (part_from c.in-Some.kid tree) in
    let short = walk.short in
    let few : length walk.before + count_of (first_tree (part_from c.in-Some.kid tree)) ≤ MAX_VIEWS = omega arith in
    let laid : LaidKids c.lay_kid.new.placer spot walk.before (held_of c.loop-next.tree) (held_of c.lay_kid.new.tree) (first_tree (part_from c.in-Some.kid tree)) =
    (rw before.same.tree at (c.lay_kid.ensures.quiet spot walk.before walk.places)) few in
    record {
      same = same_then c.args.tree.now c.loop-next.tree c.lay_kid.new.tree before.same kid.same;
      counted = counted_then before.counted kid.counted;
      grew = λ x y h. kid.grew x y (before.grew x y h);
      sight =
          walks_on c.args.inside.now.canvas c.loop-next.context.damage.rect c.lay_kid.new.context.damage.rect tree (children_of_first (part_from c.args.view tree)) (held_of c.args.tree.now) c.in-Some.kid
          (held_of c.loop-next.tree) (held_of c.lay_kid.new.tree) c.next-next.result walk.walked (rw c.in-Some.is at before.sight) kid.grew
          (rw before.same.tree at kid.others) (rw before.same.tree at kid.sight) (rw (kid.same.tree, before.same.tree) at c.next-next.ensures.part);
      cover =
          covers_on c.args.inside.now.canvas c.args.context.now.damage.rect c.loop-next.context.damage.rect c.lay_kid.new.context.damage.rect tree (children_of_first (part_from c.args.view tree)) (held_of c.args.tree.now) c.in-Some.kid
          (held_of c.loop-next.tree) (held_of c.lay_kid.new.tree) c.next-next.result walk.walked (rw c.in-Some.is at before.cover)
          (rw before.same.tree at kid.others) (rw before.same.tree at kid.within) (rw (kid.same.tree, before.same.tree) at c.next-next.ensures.part);
      walked =
          laid_on tree (children_of_first (part_from c.args.view tree)) c.loop-next.placer c.lay_kid.new.placer spot (held_of c.args.tree.now) c.args.context.now.work.measured c.args.tree.now.counts.laid c.in-Some.kid
          (held_of c.loop-next.tree) (held_of c.lay_kid.new.tree) c.loop-next.context.work.measured c.loop-next.tree.counts.laid c.lay_kid.new.context.work.measured c.lay_kid.new.tree.counts.laid
          walk laid (rw before.same.tree at kid.others) (rw before.same.tree at kid.measures) (rw before.same.tree at kid.moves) (rw before.same.tree at kid.caches) (rw before.same.tree at kid.shares) c.next-next.result
          (rw (kid.same.tree, before.same.tree) at c.next-next.ensures.part) (rw (kid.same.tree, before.same.tree) at c.next-next.ensures.live);
    }

pub lay_forwards-returns-clause-quiet : goal.lay_forwards-returns-clause-quiet
lay_forwards-returns-clause-quiet t c =
    let walk = rw c.in_default.is at c.loop-next.invariant.walked in
    walk.quiet (held_of c.loop-next.tree) (λ key none. refl) (record { kept = tt; reached = tt; specs = refl; edges = refl; lies = refl; places = refl; offsets = tt })

pub lay_forwards-returns-clause-done : goal.lay_forwards-returns-clause-done
lay_forwards-returns-clause-done t c =
    let tree = c.args.tree.now.tree in
    let list = children_of_first (part_from c.args.view tree) in
    let start = held_of c.args.tree.now in
    let now = held_of c.loop-next.tree in
    let all = c.loop-next.invariant in
    let walk = rw c.in_default.is at all.walked in
    record {
      same = all.same;
      others = walk.walked.others;
      measures = let m = walk.measures in omega arith;
      moves = let m = walk.moves now (λ key none. refl) in omega arith;
      counted = all.counted;
      caches = walk.caches now (λ key none. refl) tt;
      shares = walk.shares now c.loop-next.context.work.measured (λ key none. refl) (record { count = 0; shared = refl; spent = omega arith });
      grew = all.grew;
      sight = walks_end c.args.inside.now.canvas c.loop-next.context.damage.rect tree list start now (rw c.in_default.is at all.sight);
      within = covers_end c.args.inside.now.canvas c.args.context.now.damage.rect c.loop-next.context.damage.rect tree list start now (rw c.in_default.is at all.cover);
    }

-- lay_backwards

pub lay_backwards-lay_kid-requires : goal.lay_backwards-lay_kid-requires
lay_backwards-lay_kid-requires t c =
    let tree = c.args.tree.now.tree in
    let list = children_of_first (part_from c.args.view tree) in
    let spot = spot_of (part_from c.args.view tree) (held_of c.args.tree.now c.args.view) c.args.inside.now.size in
    let start = stage_of c.args.tree.now c.args.context.now in
    let now = stage_of c.loop-next.tree c.loop-next.context in
    let walk = rw c.in-Some.is at c.loop-next.invariant in
    let keys = c.in_line-placer.ensures.is_tree.keys in
    let fewer = fewer_back tree c.args.view c.in-Some.kid c.requires.fit.live walk.kid in
    rw walk.done.same.tree (
      omega arith,
      (
        walk.kid.live,
        (
          back_fit tree list c.loop-next.placer spot c.args.inside.now.canvas start c.in-Some.kid now keys walk c.requires.fit.fit,
          (back_narrow tree list c.loop-next.placer spot c.args.inside.now.canvas start c.in-Some.kid now keys walk c.requires.fit.narrow, c.requires.fit.near),
        ),
      ),
    )

stepped : (t : ℕ) (c : goal.lay_backwards-After-previous-next t)
    → (let spot = spot_of (part_from c.args.view c.args.tree.now.tree) (held_of c.args.tree.now c.args.view) c.args.inside.now.size in
    WalkTo c.args.tree.now.tree c.args.view c.lay_kid.new.placer spot c.args.inside.now.canvas (stage_of c.args.tree.now c.args.context.now)
    (stage_of c.lay_kid.new.tree c.lay_kid.new.context) c.in-Some.kid c.previous-next.result)
stepped t c =
    let tree = c.args.tree.now.tree in
    let list = children_of_first (part_from c.args.view tree) in
    let kid = c.lay_kid.ensures in
    let is_tree = c.in_line-placer.ensures.is_tree in
    let live = c.requires.fit.live in
    let spot = spot_of (part_from c.args.view tree) (held_of c.args.tree.now c.args.view) c.args.inside.now.size in
    let start = stage_of c.args.tree.now c.args.context.now in
    let old = stage_of c.loop-next.tree c.loop-next.context in
    let mid = stage_of c.lay_kid.new.tree c.lay_kid.new.context in
    let walk = rw c.in-Some.is at c.loop-next.invariant in
    let same = walk.done.same.tree in
    let few = back_few tree list c.loop-next.placer spot c.args.inside.now.canvas start c.in-Some.kid old is_tree.keys walk (count_few c.args.view tree live is_tree.few) in
    let sizes = sizes_back (held_of c.args.tree.now) (later_siblings (part_from c.in-Some.kid tree)) in
    let laid : LaidKids c.lay_kid.new.placer spot sizes (held_of c.loop-next.tree) (held_of c.lay_kid.new.tree) (first_tree (part_from c.in-Some.kid tree)) =
    (rw same at (kid.quiet spot sizes walk.places)) few in
    let done = subst (λ tree. HasLaid c.args.inside.now.canvas old mid (first_tree (part_from c.in-Some.kid tree))) same kid.done in
    back_on tree c.args.view c.loop-next.placer c.lay_kid.new.placer spot c.args.inside.now.canvas start c.in-Some.kid old mid c.previous-next.result
    is_tree.keys live walk laid done (rw (kid.done.same.tree, same) at c.previous-next.ensures.key)

pub lay_backwards-loop-next-smaller : goal.lay_backwards-loop-next-smaller
lay_backwards-loop-next-smaller t c =
    let walk = rw c.in-Some.is at c.loop-next.invariant in
    rw (c.lay_kid.ensures.done.same.tree, walk.done.same.tree, c.in-Some.is) (stepped t c).fewer

pub lay_backwards-loop-next-init : goal.lay_backwards-loop-next-init
lay_backwards-loop-next-init t c =
    let tree = c.args.tree.now.tree in
    let spot = spot_of (part_from c.args.view tree) (held_of c.args.tree.now c.args.view) c.args.inside.now.size in
    back_start tree c.args.view c.in_line-placer.result spot c.args.inside.now.canvas (stage_of c.args.tree.now c.args.context.now) c.last-next.result
    c.in_line-placer.ensures.is_tree.keys c.requires.fit.live c.last-next.ensures.key c.in_line-placer.ensures.places

pub lay_backwards-loop-next-preserved : goal.lay_backwards-loop-next-preserved
lay_backwards-loop-next-preserved t c = (stepped t c).walk

pub lay_backwards-returns-clause-quiet : goal.lay_backwards-returns-clause-quiet
lay_backwards-returns-clause-quiet t c = let walk = rw c.in_default.is at c.loop-next.invariant in walk.quiet

pub lay_backwards-returns-clause-done : goal.lay_backwards-returns-clause-done
lay_backwards-returns-clause-done t c = let walk = rw c.in_default.is at c.loop-next.invariant in walk.done

-- lay_kids

pub lay_kids-returns-then-is_none-clause-quiet : goal.lay_kids-returns-then-is_none-clause-quiet
lay_kids-returns-then-is_none-clause-quiet t c =
    let tree = c.args.tree.now.tree in
    let spot = spot_of (part_from c.args.view tree) (held_of c.args.tree.now c.args.view) c.args.inside.now.size in
    quiet_none (held_of c.args.tree.now) (held_of c.args.tree.now) spot (children_of_first (part_from c.args.view tree)) c.first.result c.is_none.result c.is_none.ensures c.if-is_none.true c.first.ensures.key

pub lay_kids-returns-then-is_none-clause-done : goal.lay_kids-returns-then-is_none-clause-done
lay_kids-returns-then-is_none-clause-done t c =
    laid_none c.args.inside.now.canvas (stage_of c.args.tree.now c.args.context.now) (children_of_first (part_from c.args.view c.args.tree.now.tree))

pub lay_kids-returns-then-places_backwards-clause-quiet : goal.lay_kids-returns-then-places_backwards-clause-quiet
lay_kids-returns-then-places_backwards-clause-quiet t c =
    let class = class_of c.args.tree.now c.args.view in
    let facts = facts_of c.args.tree.now c.args.view in
    let back : places_backwards class (layout_facts facts) ≡ true = sym (backwards_is class facts) ∙ sym c.places_backwards.ensures ∙ c.if-places_backwards.true in
    rw back c.lay_backwards.ensures.quiet

pub lay_kids-lay_backwards-requires : goal.lay_kids-lay_backwards-requires
lay_kids-lay_backwards-requires t c =
    let class = class_of c.args.tree.now c.args.view in
    let facts = facts_of c.args.tree.now c.args.view in
    let back : (lays_in_line class && is_backwards facts) ≡ true = sym c.places_backwards.ensures ∙ c.if-places_backwards.true in
    (omega arith, (c.requires.fit, (and_parts (lays_in_line class) (is_backwards facts) back).0))

pub lay_kids-returns-clause-quiet : goal.lay_kids-returns-clause-quiet
lay_kids-returns-clause-quiet t c =
    let class = class_of c.args.tree.now c.args.view in
    let facts = facts_of c.args.tree.now c.args.view in
    let on : places_backwards class (layout_facts facts) ≡ false = sym (backwards_is class facts) ∙ sym c.places_backwards.ensures ∙ c.if-places_backwards.false in
    rw on c.lay_over.ensures.quiet

pub lay_kids-returns-then-lays_in_line-clause-quiet : goal.lay_kids-returns-then-lays_in_line-clause-quiet
lay_kids-returns-then-lays_in_line-clause-quiet t c =
    let class = class_of c.args.tree.now c.args.view in
    let facts = facts_of c.args.tree.now c.args.view in
    let on : places_backwards class (layout_facts facts) ≡ false = sym (backwards_is class facts) ∙ sym c.places_backwards.ensures ∙ c.if-places_backwards.false in
    rw on c.lay_in_line.ensures.quiet

pub lay_kids-returns-then-is_relative-clause-quiet : goal.lay_kids-returns-then-is_relative-clause-quiet
lay_kids-returns-then-is_relative-clause-quiet t c =
    let class = class_of c.args.tree.now c.args.view in
    let facts = facts_of c.args.tree.now c.args.view in
    let on : places_backwards class (layout_facts facts) ≡ false = sym (backwards_is class facts) ∙ sym c.places_backwards.ensures ∙ c.if-places_backwards.false in
    rw on c.lay_between.ensures.quiet

-- lay_open

same_all : (old new : ℕ → Held) (view : ℕ) → new view ≡ old view → ((other : ℕ) → other ≢ view → new other ≡ old other) → (key : ℕ) → new key ≡ old key
same_all old new view own others key = elim (cases_eq key view) [ inl e ↦ rw e own | inr ne ↦ others key ne ]

pub lay_open-returns-then-is_calm-clause-put : goal.lay_open-returns-then-is_calm-clause-put
lay_open-returns-then-is_calm-clause-put t c =
    let tree = c.args.tree.now.tree in
    let view = c.args.view in
    let r = c.requires.fit in
    let a = held_of c.make_fit.new.tree in
    let b = held_of c.move_to-moved.new.tree in
    let calm = calm_of c.move_to-moved.result c.state-state.result.forced c.state-state.result.layout_needed (sym c.is_calm.ensures ∙ c.if-is_calm.true) in
    let f = c.move_to-moved.ensures in
    let g = c.make_fit.ensures in
    let own : b view ≡ a view = f.held ∙ ap (λ moved. if moved then moved_to (a view) c.args.rect else a view) calm.0 in
    let there = moved_is (a view) (b view) c.args.rect c.move_to-moved.result f.moved f.held in
    let fit = Fit-along a b (first_tree (part_from view tree)) (λ key live. same_all a b view own f.others key) g.fit in
    let state = c.state-state.ensures.value in
    calm_at tree view (held_of c.args.tree.now) b c.args.rect r.live r.shown fit
    (record {
      forced = ap (λ (state : State). state.forced) (sym state) ∙ calm.1;
      needed = ap (λ (state : State). state.layout_needed) (sym state) ∙ calm.2;
      bounds = ap (λ (h : Held). h.state.bounds) there;
      specs = ap (λ (h : Held). specs_of h.state) own ∙ g.unmarked.specs;
      edges = ap (λ (h : Held). h.state.edges) own ∙ g.unmarked.edges;
    })
    (λ key. ap (λ (h : Held). h.offset) (same_all a b view own f.others key) ∙ g.keeps.offsets key)

pub lay_open-returns-then-is_calm-clause-done : goal.lay_open-returns-then-is_calm-clause-done
lay_open-returns-then-is_calm-clause-done t c =
    let view = c.args.view in
    let old = c.args.tree.now in
    let fit = c.make_fit.new.tree in
    let list = first_tree (part_from view old.tree) in
    let r = c.requires.fit in
    let g = c.make_fit.ensures in
    let calm = calm_of c.move_to-moved.result c.state-state.result.forced c.state-state.result.layout_needed (sym c.is_calm.ensures ∙ c.if-is_calm.true) in
    let stage : Views → LayingStage = λ views. record { views = views; damage = c.args.context.now.damage.rect; work = c.make_fit.new.work } in
    subst (λ (views : Views). HasLaid c.args.canvas.now (stage_of old c.args.context.now) (stage views) list) (sym (c.move_to-moved.ensures.still calm.0))
    (record {
      same = g.same;
      others = g.others;
      measures = let m = g.measured in omega arith;
      moves = let m = g.laid in omega arith;
      counted = g.counted;
      caches = grown_kid old.tree view (held_of old) (held_of fit) r.live r.shown g.caches;
      shares = shares_kid old.tree view (held_of old) (held_of fit) c.args.context.now.work.measured c.make_fit.new.work.measured r.live r.shown g.shares;
      grew = λ x y h. h;
      sight = sight_same c.args.canvas.now c.args.context.now.damage.rect (held_of old) (held_of fit) list (λ key here. (g.keeps.bounds key, g.keeps.offsets key));
      within = λ box lies covered. lies;
    })

pub lay_open-lay_kids-requires : goal.lay_open-lay_kids-requires
lay_open-lay_kids-requires t c =
    let tree = c.args.tree.now.tree in
    let view = c.args.view in
    let r = c.requires.fit in
    let a = held_of c.make_fit.new.tree in
    let b = held_of c.move_to-moved.new.tree in
    let f = c.move_to-moved.ensures in
    let same : c.move_to-moved.new.tree.tree ≡ tree = f.same.tree ∙ c.make_fit.ensures.same.tree in
    let there = moved_is (a view) (b view) c.args.rect c.move_to-moved.result f.moved f.held in
    let under = below_at tree view a b (moved_to (a view) c.args.rect) c.make_fit.ensures.is_tree.keys r.live r.shown c.make_fit.ensures.fit c.make_fit.ensures.unmarked.first
    (record { at = there; others = f.others }) in
    rw same (omega arith, record { live = r.live; fit = under.fit; narrow = under.narrow; near = c.follow_in-inner.ensures.near })

pub lay_open-returns-clause-put : goal.lay_open-returns-clause-put
lay_open-returns-clause-put t c =
    let tree = c.args.tree.now.tree in
    let view = c.args.view in
    let r = c.requires.fit in
    let a = held_of c.make_fit.new.tree in
    let b = held_of c.move_to-moved.new.tree in
    let f = c.move_to-moved.ensures in
    let g = c.make_fit.ensures in
    let same : c.move_to-moved.new.tree.tree ≡ tree = f.same.tree ∙ g.same.tree in
    let all : c.lay_kids.new.tree.tree ≡ tree = c.lay_kids.ensures.done.same.tree ∙ same in
    let there = moved_is (a view) (b view) c.args.rect c.move_to-moved.result f.moved f.held in
    put_at tree view (held_of c.args.tree.now) a b (held_of c.lay_kids.new.tree) (held_of c.bring-2.new.tree) c.args.rect g.is_tree.keys r.live r.shown g.fit
    (record { first = g.unmarked.first; specs = g.unmarked.specs; edges = g.unmarked.edges }) g.keeps.offsets (record { at = there; others = f.others })
    (rw (c.near_size.ensures ∙ near_size_is c.args.rect c.requires.narrow) at (rw same at c.lay_kids.ensures.quiet)) (rw same at c.lay_kids.ensures.done.others)
    (record { at = rw all at c.bring-2.ensures.held; others = c.bring-2.ensures.others })

pub lay_open-returns-clause-done : goal.lay_open-returns-clause-done
lay_open-returns-clause-done t c =
    let tree = c.args.tree.now.tree in
    let view = c.args.view in
    let list = first_tree (part_from view tree) in
    let kids = children_of_first (part_from view tree) in
    let r = c.requires.fit in
    let old = held_of c.args.tree.now in
    let a = held_of c.make_fit.new.tree in
    let b = held_of c.move_to-moved.new.tree in
    let l = held_of c.lay_kids.new.tree in
    let n = held_of c.bring-2.new.tree in
    let f = c.move_to-moved.ensures in
    let g = c.make_fit.ensures in
    let follow = c.follow_in-inner.ensures in
    let bring = c.bring-2.ensures in
    let first = same_then c.args.tree.now c.make_fit.new.tree c.move_to-moved.new.tree g.same f.same in
    let laid = rw first.tree at c.lay_kids.ensures.done in
    let there = moved_is (a view) (b view) c.args.rect c.move_to-moved.result f.moved f.held in
    let wrote : Wrote a b view (moved_to (a view) c.args.rect) = record { at = there; others = f.others } in
    let under = below_at tree view a b (moved_to (a view) c.args.rect) g.is_tree.keys r.live r.shown g.fit g.unmarked.first wrote in
    let steps = steps_by view c.args.rect kids old a b l n g.keeps.bounds g.keeps.offsets wrote laid.others (ap (λ (h : Held). h.state.bounds) bring.held) bring.others in
    let was : (old view).state.bounds ≡ c.state-before.result.bounds = sym (ap (λ (state : State). state.bounds) c.state-before.ensures.value ∙ g.keeps.bounds view) in
    record {
      same = same_then c.args.tree.now c.lay_kids.new.tree c.bring-2.new.tree (same_then c.args.tree.now c.move_to-moved.new.tree c.lay_kids.new.tree first c.lay_kids.ensures.done.same) bring.same;
      others = λ key none. outside_at tree view a b l n _ _ r.live wrote laid.others (record { at = bring.held; others = bring.others }) key none ∙ g.others key none;
      measures =
          let owes = under.owed in
          let more = laid.measures in
          let fit = g.measured in
          omega arith;
      moves =
          let d = differ_at tree view old b l n c.args.rect c.move_to-moved.result g.is_tree.keys r.live
          (ap (λ bounds. same_place bounds c.args.rect) (sym (g.keeps.bounds view)) ∙ f.moved)
          (λ key ne. ap (λ (h : Held). h.state.bounds) (f.others key ne) ∙ g.keeps.bounds key) (sym (settled_bounds view n view) ∙ (lay_open-returns-clause-put t c).bounds)
          (λ key ne. ap (λ (h : Held). h.state.bounds) (bring.others key ne)) in
          sums c.bring-2.new.tree.counts.laid c.lay_kids.new.tree.counts.laid c.move_to-moved.new.tree.counts.laid c.make_fit.new.tree.counts.laid c.args.tree.now.counts.laid
          (if c.move_to-moved.result then 1 else 0) (differ b l kids) (differ old n list) (ap (λ (counts : Counts). counts.laid) bring.counts) laid.moves f.laid g.laid d;
      counted =
          counted_then g.counted
          (counted_then (counted_still c.make_fit.new.tree c.move_to-moved.new.tree c.make_fit.new.work f.measures)
          (counted_then c.lay_kids.ensures.done.counted
          (counted_still c.lay_kids.new.tree c.bring-2.new.tree c.lay_kids.new.context.work (ap (λ (counts : Counts). counts.measures) bring.counts))));
      caches =
          grown_kid tree view old n r.live r.shown
          (Grown-trans (ok (specs_of (old view).state)) old a n list g.caches
          (subst (λ (specs : Specs). Grown (ok specs) a n list) g.unmarked.specs
          (grown_view tree view (specs_of (a view).state) a b l n (moved_to (a view) c.args.rect) (n view) g.is_tree.keys r.live wrote refl
          (record { at = refl; others = bring.others }) (ap (λ (h : Held). h.cache) bring.held) laid.others
          (kids_asked c.args.tree.now view a g.is_tree r.live r.shown g.fit.sized g.unmarked.first) laid.caches)));
      shares =
          shares_kid tree view old n c.args.context.now.work.measured c.lay_kids.new.context.work.measured r.live r.shown
          (SharesOut-less (ok (specs_of (old view).state)) old n list c.args.context.now.work.measured c.lay_kids.new.context.work.measured
          (SharesOut-trans (ok (specs_of (old view).state)) (λ place. 0) (λ place. 0) old a n list c.args.context.now.work.measured c.make_fit.new.work.measured c.lay_kids.new.context.work.measured g.shares
          (record {
            count = laid.shares.count;
            shared =
                subst (λ (specs : Specs). Shared (ok specs) (λ place. 0) a n list laid.shares.count) g.unmarked.specs
                (shares_view tree view (specs_of (a view).state) a b l n (moved_to (a view) c.args.rect) (n view) laid.shares.count g.is_tree.keys r.live wrote
                (record { at = refl; others = bring.others }) laid.others
                (alike_moved tree view c.args.rect a b l n (record { at = there; others = f.others }) g.is_tree.keys r.live laid.others (ap (λ (h : Held). h.state) bring.held))
                g.fit.ready.reached
                (kids_asked c.args.tree.now view a g.is_tree r.live r.shown g.fit.sized g.unmarked.first) laid.shares.shared);
            spent = laid.shares.spent;
          })));
      grew = λ x y h. bring.grew x y (laid.grew x y (follow.grew x y h));
      sight =
          sight_at tree view c.args.rect old b l n c.args.canvas.now c.follow_in-inner.result c.follow_in-inner.new.damage.rect c.lay_kids.new.context.damage.rect c.bring-2.new.damage.rect c.state-before.result.bounds c.facts.result.now
          r.live g.is_tree.keys steps was (rw first.tree at c.facts.ensures.value) follow.follows laid.grew bring.grew laid.sight bring.seen;
      within =
          covers_at tree view c.args.rect old b l n c.args.canvas.now c.follow_in-inner.result c.follow_in-inner.new.damage.rect c.lay_kids.new.context.damage.rect c.bring-2.new.damage.rect c.state-before.result.bounds c.facts.result.now
          r.live g.is_tree.keys steps was (rw first.tree at c.facts.ensures.value) c.args.context.now.damage.rect
          follow.within follow.unfollowed follow.stays laid.within bring.within;
    }
  where
    ok : Specs → ℕ → Specs → Type 0
    ok specs place other = other ≡ specs

pub lay_open-returns-then-is_bare-clause-put : goal.lay_open-returns-then-is_bare-clause-put
lay_open-returns-then-is_bare-clause-put t c =
    let tree = c.args.tree.now.tree in
    let view = c.args.view in
    let kids = children_of_first (part_from view tree) in
    let r = c.requires.fit in
    let a = held_of c.make_fit.new.tree in
    let b = held_of c.move_to-moved.new.tree in
    let f = c.move_to-moved.ensures in
    let g = c.make_fit.ensures in
    let same : c.move_to-moved.new.tree.tree ≡ tree = f.same.tree ∙ g.same.tree in
    let there = moved_is (a view) (b view) c.args.rect c.move_to-moved.result f.moved f.held in
    let childless : first_key kids ≡ None = rw same at c.is_bare.ensures.childless c.if-is_bare.true in
    put_at tree view (held_of c.args.tree.now) a b b (held_of c.bring.new.tree) c.args.rect g.is_tree.keys r.live r.shown g.fit
    (record { first = g.unmarked.first; specs = g.unmarked.specs; edges = g.unmarked.edges }) g.keeps.offsets (record { at = there; others = f.others })
    (quiet_none b b (spot_of (part_from view tree) (b view) (size_of_rect c.args.rect)) kids None true refl refl (sym childless)) (λ key none. refl)
    (record { at = rw same at c.bring.ensures.held; others = c.bring.ensures.others })

pub lay_open-returns-then-is_bare-clause-done : goal.lay_open-returns-then-is_bare-clause-done
lay_open-returns-then-is_bare-clause-done t c =
    let tree = c.args.tree.now.tree in
    let view = c.args.view in
    let list = first_tree (part_from view tree) in
    let kids = children_of_first (part_from view tree) in
    let r = c.requires.fit in
    let old = held_of c.args.tree.now in
    let a = held_of c.make_fit.new.tree in
    let b = held_of c.move_to-moved.new.tree in
    let l = b in
    let n = held_of c.bring.new.tree in
    let f = c.move_to-moved.ensures in
    let g = c.make_fit.ensures in
    let bring = c.bring.ensures in
    let first = same_then c.args.tree.now c.make_fit.new.tree c.move_to-moved.new.tree g.same f.same in
    let unseen : c.args.canvas.now ≡ None = c.is_bare.ensures.unseen c.if-is_bare.true in
    let stage : LayingStage = record { views = c.move_to-moved.new.tree; damage = c.args.context.now.damage.rect; work = c.make_fit.new.work } in
    let laid : HasLaid None stage stage kids = laid_none None stage kids in
    let there = moved_is (a view) (b view) c.args.rect c.move_to-moved.result f.moved f.held in
    let wrote : Wrote a b view (moved_to (a view) c.args.rect) = record { at = there; others = f.others } in
    let under = below_at tree view a b (moved_to (a view) c.args.rect) g.is_tree.keys r.live r.shown g.fit g.unmarked.first wrote in
    record {
      same = same_then c.args.tree.now c.move_to-moved.new.tree c.bring.new.tree first bring.same;
      others = λ key none. outside_at tree view a b l n _ _ r.live wrote laid.others (record { at = bring.held; others = bring.others }) key none ∙ g.others key none;
      measures =
          let owes = under.owed in
          let more = laid.measures in
          let fit = g.measured in
          omega arith;
      moves =
          let d = differ_at tree view old b l n c.args.rect c.move_to-moved.result g.is_tree.keys r.live
          (ap (λ bounds. same_place bounds c.args.rect) (sym (g.keeps.bounds view)) ∙ f.moved)
          (λ key ne. ap (λ (h : Held). h.state.bounds) (f.others key ne) ∙ g.keeps.bounds key) (sym (settled_bounds view n view) ∙ (lay_open-returns-then-is_bare-clause-put t c).bounds)
          (λ key ne. ap (λ (h : Held). h.state.bounds) (bring.others key ne)) in
          sums c.bring.new.tree.counts.laid c.move_to-moved.new.tree.counts.laid c.move_to-moved.new.tree.counts.laid c.make_fit.new.tree.counts.laid c.args.tree.now.counts.laid
          (if c.move_to-moved.result then 1 else 0) (differ b l kids) (differ old n list) (ap (λ (counts : Counts). counts.laid) bring.counts) laid.moves f.laid g.laid d;
      counted =
          counted_then g.counted
          (counted_then (counted_still c.make_fit.new.tree c.move_to-moved.new.tree c.make_fit.new.work f.measures)
          (counted_still c.move_to-moved.new.tree c.bring.new.tree c.make_fit.new.work (ap (λ (counts : Counts). counts.measures) bring.counts)));
      caches =
          grown_kid tree view old n r.live r.shown
          (Grown-trans (ok (specs_of (old view).state)) old a n list g.caches
          (subst (λ (specs : Specs). Grown (ok specs) a n list) g.unmarked.specs
          (grown_view tree view (specs_of (a view).state) a b l n (moved_to (a view) c.args.rect) (n view) g.is_tree.keys r.live wrote refl
          (record { at = refl; others = bring.others }) (ap (λ (h : Held). h.cache) bring.held) laid.others
          (kids_asked c.args.tree.now view a g.is_tree r.live r.shown g.fit.sized g.unmarked.first) laid.caches)));
      shares =
          shares_kid tree view old n c.args.context.now.work.measured c.make_fit.new.work.measured r.live r.shown
          (SharesOut-less (ok (specs_of (old view).state)) old n list c.args.context.now.work.measured c.make_fit.new.work.measured
          (SharesOut-trans (ok (specs_of (old view).state)) (λ place. 0) (λ place. 0) old a n list c.args.context.now.work.measured c.make_fit.new.work.measured c.make_fit.new.work.measured g.shares
          (record {
            count = laid.shares.count;
            shared =
                subst (λ (specs : Specs). Shared (ok specs) (λ place. 0) a n list laid.shares.count) g.unmarked.specs
                (shares_view tree view (specs_of (a view).state) a b l n (moved_to (a view) c.args.rect) (n view) laid.shares.count g.is_tree.keys r.live wrote
                (record { at = refl; others = bring.others }) laid.others
                (alike_moved tree view c.args.rect a b l n (record { at = there; others = f.others }) g.is_tree.keys r.live laid.others (ap (λ (h : Held). h.state) bring.held))
                g.fit.ready.reached
                (kids_asked c.args.tree.now view a g.is_tree r.live r.shown g.fit.sized g.unmarked.first) laid.shares.shared);
            spent = laid.shares.spent;
          })));
      grew = bring.grew;
      sight = rw unseen tt;
      within = λ box lies covered. bring.within box lies (rw unseen tt);
    }
  where
    ok : Specs → ℕ → Specs → Type 0
    ok specs place other = other ≡ specs

pub lay_open-returns-then-is_calm-clause-still : goal.lay_open-returns-then-is_calm-clause-still
lay_open-returns-then-is_calm-clause-still t c = λ place.
    let fit = c.make_fit.ensures.still place.marked in
    let calm = calm_of c.move_to-moved.result c.state-state.result.forced c.state-state.result.layout_needed (sym c.is_calm.ensures ∙ c.if-is_calm.true) in
    (c.move_to-moved.ensures.still calm.0 ∙ fit.0, fit.1)

pub lay_open-returns-clause-still : goal.lay_open-returns-clause-still
lay_open-returns-clause-still t c = λ place.
    let fit = c.make_fit.ensures.still place.marked in
    let own : state_of c.make_fit.new.tree c.args.view ≡ state_of c.args.tree.now c.args.view = ap (λ (views : Views). state_of views c.args.view) fit.0 in
    let stays = unmoved (state_of c.make_fit.new.tree c.args.view).bounds c.args.rect c.move_to-moved.result (ap (λ (s : State). s.bounds) own ∙ place.bounds) c.move_to-moved.ensures.moved in
    let state = c.state-state.ensures.value ∙ ap (λ (views : Views). state_of views c.args.view) (c.move_to-moved.ensures.still stays) ∙ own in
    let calm = calm_is c.move_to-moved.result c.state-state.result.forced c.state-state.result.layout_needed stays (ap (λ (s : State). s.forced) state ∙ place.forced) (ap (λ (s : State). s.layout_needed) state ∙ place.needed) in
    absurd (let no : true ≡ false = sym calm ∙ sym c.is_calm.ensures ∙ c.if-is_calm.false in cc)

pub lay_open-returns-then-is_bare-clause-still : goal.lay_open-returns-then-is_bare-clause-still
lay_open-returns-then-is_bare-clause-still t c = λ place.
    let fit = c.make_fit.ensures.still place.marked in
    let own : state_of c.make_fit.new.tree c.args.view ≡ state_of c.args.tree.now c.args.view = ap (λ (views : Views). state_of views c.args.view) fit.0 in
    let stays = unmoved (state_of c.make_fit.new.tree c.args.view).bounds c.args.rect c.move_to-moved.result (ap (λ (s : State). s.bounds) own ∙ place.bounds) c.move_to-moved.ensures.moved in
    let state = c.state-state.ensures.value ∙ ap (λ (views : Views). state_of views c.args.view) (c.move_to-moved.ensures.still stays) ∙ own in
    let calm = calm_is c.move_to-moved.result c.state-state.result.forced c.state-state.result.layout_needed stays (ap (λ (s : State). s.forced) state ∙ place.forced) (ap (λ (s : State). s.layout_needed) state ∙ place.needed) in
    absurd (let no : true ≡ false = sym calm ∙ sym c.is_calm.ensures ∙ c.if-is_calm.false in cc)

-- lay

pub lay-returns-then-is_at_place-clause-put : goal.lay-returns-then-is_at_place-clause-put
lay-returns-then-is_at_place-clause-put t c =
    let tree = c.args.tree.now.tree in
    let view = c.args.view in
    let r = c.requires.fit in
    let held = held_of c.args.tree.now in
    let place = is_at_place-IsAtPlace (held view) c.args.rect (ap (λ (state : State). is_at_place state c.args.rect) (sym c.state.ensures.value) ∙ sym c.is_at_place.ensures ∙ c.if-is_at_place.true) in
    put_same held (settled_at view held) held view (part_from view tree) c.args.rect (λ key. sym (settled_same view held place.forced place.needed key))
    (calm_at tree view held held c.args.rect r.live r.shown (record { ready = r.ready; sized = r.sized })
    (record { forced = place.forced; needed = place.needed; bounds = place.bounds; specs = refl; edges = refl }) (λ key. refl))

pub lay-returns-then-is_at_place-clause-done : goal.lay-returns-then-is_at_place-clause-done
lay-returns-then-is_at_place-clause-done t c =
    laid_none c.args.canvas.now (stage_of c.args.tree.now c.args.context.now) (first_tree (part_from c.args.view c.args.tree.now.tree))

pub lay-returns-clause-put : goal.lay-returns-clause-put
lay-returns-clause-put t c =
    let mid = held_of c.lay_open.new.tree in
    let new = held_of c.settle.new.tree in
    put_same (held_of c.args.tree.now) (settled_at c.args.view mid) new c.args.view (part_from c.args.view c.args.tree.now.tree) c.args.rect
    (settled_is c.args.view mid new c.settle.ensures.held c.settle.ensures.others) c.lay_open.ensures.put

pub lay-returns-clause-done : goal.lay-returns-clause-done
lay-returns-clause-done t c =
    let tree = c.args.tree.now.tree in
    let view = c.args.view in
    let list = first_tree (part_from view tree) in
    let old = held_of c.args.tree.now in
    let mid = held_of c.lay_open.new.tree in
    let new = held_of c.settle.new.tree in
    let laid = c.lay_open.ensures.done in
    let own = c.settle.ensures in
    let is = settled_is view mid new own.held own.others in
    let places = settled_places view mid new list own.held own.others in
    record {
      same = same_then c.args.tree.now c.lay_open.new.tree c.settle.new.tree laid.same own.same;
      others = λ key none. alone_outside tree view mid new _ c.requires.fit.live (record { at = own.held; others = own.others }) key none ∙ laid.others key none;
      measures = laid.measures;
      moves =
          let d : differ old new list ≡ differ old mid list = differ-along old old mid new list (λ key here. refl) (λ key here. ap (λ (h : Held). h.state.bounds) (is key) ∙ settled_bounds view mid key) in
          let counts = ap (λ (counts : Counts). counts.laid) own.counts in
          let had = laid.moves in
          omega arith;
      counted = counted_then laid.counted (counted_still c.lay_open.new.tree c.settle.new.tree c.lay_open.new.context.work (ap (λ (counts : Counts). counts.measures) own.counts));
      caches = grown_caches (LastAt old list) old old mid new list (λ key. refl) (λ key. ap (λ (h : Held). h.cache) (is key) ∙ settled_cache view mid key) laid.caches;
      shares = record {
        count = laid.shares.count;
        shared = shared_settled (LastAt old list) (λ place. 0) view old mid new list laid.shares.count is laid.shares.shared;
        spent = laid.shares.spent;
      };
      grew = laid.grew;
      sight = sight_along c.args.canvas.now c.lay_open.new.context.damage.rect old old mid new list (λ key here. (refl, refl)) places laid.sight;
      within = λ box lies covered.
          laid.within box lies (covers_along c.args.canvas.now box old old new mid list (λ key here. (refl, refl)) (λ key here. let s = places key here in (sym s.0, sym s.1)) covered);
    }
