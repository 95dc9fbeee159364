use Rattle.std.proofs.Common.{◌≡◌, ◌<◌, List, None, true, false, sym, ◌∙◌, ap, subst, arith}
use Rattle.damage_rect.proofs.RectLaws.{holds_none}
use Rattle.damage_rect.specs.Within.{LiesIn}
use Rattle.damage_rect.specs.declared.bounding.Damage.{Damage}
use Rattle.geom_core.specs.Rects.{holds}
use Rattle.geom_core.specs.declared.geometry.Rect.{Rect}
use Rattle.size_hooks.specs.Hook.{Hook}
use Rattle.view_tree.specs.Rows.{count_of_key}
use Rattle.view_tree.specs.Views.{Views, geometry_of, held_of, plain_of}
use Rattle.traversal.proofs.frames.GrownKeys.{grown_once, grown_twice}
use Rattle.traversal.specs.Frames.{fired_in}
use Rattle.traversal.proofs.frames.CountLaws.{differ_few, measured_once, measured_twice}
use Rattle.traversal.proofs.frames.CountedLaws.{counted_then}
use Rattle.traversal.proofs.sight.SightLaws.{color_stays, covered_tree}
use Rattle.traversal.proofs.laid.ShapeLaws.{count_of-same, count_of_key-same}
use Rattle.traversal.proofs.frames.FrameLaws.{passed_fits, settled_first, settled_second}
use Rattle.traversal.proofs.hooks.QuietHooks.{reported_quiet, reported_still}
use Rattle.traversal.proofs.framing.frame.Goals as goal

pub returns-then-not-pass-clause-framed : goal.returns-then-not-pass-clause-framed
returns-then-not-pass-clause-framed c =
    settled_first (plain_of c.args.tree.now) c.args.hooks.now c.args.window c.pass.new.tree c.pass.new.hooks c.settle.new.hooks c.settle.result
    c.pass.ensures.passed (sym c.pass.ensures.fired ∙ c.if-not-pass.true) c.settle.ensures.is_tree c.settle.ensures.hooks c.settle.ensures.settled c.settle.ensures.fired

pub returns-then-not-pass-2-clause-framed : goal.returns-then-not-pass-2-clause-framed
returns-then-not-pass-2-clause-framed c =
    settled_second (plain_of c.args.tree.now) c.args.hooks.now c.args.window c.pass.new.tree c.pass-2.new.tree c.pass.new.hooks c.pass-2.new.hooks c.settle-then-not-pass-2.new.hooks c.settle-then-not-pass-2.result
    c.pass.ensures.passed (sym c.pass.ensures.fired ∙ c.if-not-pass.false) c.pass-2.ensures.passed (sym c.pass-2.ensures.fired ∙ c.if-not-pass-2.true)
    c.settle-then-not-pass-2.ensures.is_tree c.settle-then-not-pass-2.ensures.hooks c.settle-then-not-pass-2.ensures.settled c.settle-then-not-pass-2.ensures.fired

pub returns-then-not-pass-clause-damage : goal.returns-then-not-pass-clause-damage
returns-then-not-pass-clause-damage c =
    let quiet = c.pass.ensures.quiet c.if-not-pass.true in
    let damage = c.settle.ensures.damage ∙ c.rect.ensures in
    record {
      colors = λ settled x y inside out.
          color_stays c.args.tree.now c.pass.new.tree c.args.window c.pass.new.damage.rect quiet c.settle.ensures.is_tree
          (c.pass.ensures.sight c.if-not-pass.true) x y inside (ap (λ (rect : Rect). holds rect x y) (sym damage) ∙ out);
      whole = λ some. absurd (let none = c.settle.ensures.fired in omega arith);
      within = λ none box around.
          subst (λ (rect : Rect). LiesIn rect box) (sym damage)
          (c.pass.ensures.within c.if-not-pass.true box (λ x y h. absurd (let no : true ≡ false = sym h ∙ ap (λ (damage : Damage). holds damage.rect x y) c.new-damage.ensures ∙ holds_none x y in cc))
          (covered_tree c.args.tree.now c.pass.new.tree c.args.window box quiet c.settle.ensures.is_tree around));
    }

pub returns-then-not-pass-clause-fits : goal.returns-then-not-pass-clause-fits
returns-then-not-pass-clause-fits c = passed_fits (plain_of c.args.tree.now) c.args.hooks.now c.args.window c.pass.new.tree c.pass.new.hooks c.pass.ensures.passed

pub returns-then-not-pass-2-clause-fits : goal.returns-then-not-pass-2-clause-fits
returns-then-not-pass-2-clause-fits c = passed_fits (plain_of c.pass.new.tree) c.pass.new.hooks c.args.window c.pass-2.new.tree c.pass-2.new.hooks c.pass-2.ensures.passed

pub returns-clause-fits : goal.returns-clause-fits
returns-clause-fits c = passed_fits (plain_of c.pass.new.tree) c.pass.new.hooks c.args.window c.pass-2.new.tree c.pass-2.new.hooks c.pass-2.ensures.passed

pub returns-then-not-pass-clause-measured : goal.returns-then-not-pass-clause-measured
returns-then-not-pass-clause-measured c = measured_once (plain_of c.args.tree.now) c.args.hooks.now c.args.window c.args.work.now.measured c.pass.new.work.measured c.pass.ensures.measured

pub returns-then-not-pass-2-clause-measured : goal.returns-then-not-pass-2-clause-measured
returns-then-not-pass-2-clause-measured c =
    measured_twice (plain_of c.args.tree.now) (plain_of c.pass.new.tree) c.args.hooks.now c.args.window c.args.work.now.measured c.pass.new.work.measured c.pass-2.new.work.measured
    (sym c.pass.ensures.fired ∙ c.if-not-pass.false) c.pass.ensures.passed.plain c.pass.ensures.measured c.pass-2.ensures.measured

pub returns-clause-measured : goal.returns-clause-measured
returns-clause-measured c =
    measured_twice (plain_of c.args.tree.now) (plain_of c.pass.new.tree) c.args.hooks.now c.args.window c.args.work.now.measured c.pass.new.work.measured c.pass-2.new.work.measured
    (sym c.pass.ensures.fired ∙ c.if-not-pass.false) c.pass.ensures.passed.plain c.pass.ensures.measured c.pass-2.ensures.measured

pub returns-then-not-pass-2-clause-laid : goal.returns-then-not-pass-2-clause-laid
returns-then-not-pass-2-clause-laid c = λ none. absurd (let no : 1 ≡ 0 = sym c.settle-then-not-pass-2.ensures.fired ∙ none in omega arith)

pub returns-clause-laid : goal.returns-clause-laid
returns-clause-laid c = λ none. absurd (let no : 2 ≡ 0 = none in omega arith)

pub returns-then-not-pass-clause-laid_twice : goal.returns-then-not-pass-clause-laid_twice
returns-then-not-pass-clause-laid_twice c =
    let first = c.pass.ensures.laid in
    let few = differ_few (held_of c.args.tree.now) (held_of c.pass.new.tree) c.args.tree.now.tree in
    omega arith

pub returns-then-not-pass-2-clause-laid_twice : goal.returns-then-not-pass-2-clause-laid_twice
returns-then-not-pass-2-clause-laid_twice c =
    let first = c.pass.ensures.laid in
    let second = c.pass-2.ensures.laid in
    let few = differ_few (held_of c.args.tree.now) (held_of c.pass.new.tree) c.args.tree.now.tree in
    let again = differ_few (held_of c.pass.new.tree) (held_of c.pass-2.new.tree) c.pass.new.tree.tree in
    let same = count_of-same c.pass.ensures.shape in
    omega arith

pub returns-clause-laid_twice : goal.returns-clause-laid_twice
returns-clause-laid_twice c =
    let first = c.pass.ensures.laid in
    let second = c.pass-2.ensures.laid in
    let few = differ_few (held_of c.args.tree.now) (held_of c.pass.new.tree) c.args.tree.now.tree in
    let again = differ_few (held_of c.pass.new.tree) (held_of c.pass-2.new.tree) c.pass.new.tree.tree in
    let same = count_of-same c.pass.ensures.shape in
    omega arith

pub returns-then-not-pass-2-clause-counted : goal.returns-then-not-pass-2-clause-counted
returns-then-not-pass-2-clause-counted c = counted_then c.pass.ensures.counted c.pass-2.ensures.counted

pub returns-clause-counted : goal.returns-clause-counted
returns-clause-counted c = counted_then c.pass.ensures.counted c.pass-2.ensures.counted

pub returns-then-not-pass-clause-idle : goal.returns-then-not-pass-clause-idle
returns-then-not-pass-clause-idle c = λ none. c.pass.ensures.idle

pub returns-then-not-pass-clause-last : goal.returns-then-not-pass-clause-last
returns-then-not-pass-clause-last c = λ settled. c.pass.ensures.last c.if-not-pass.true

pub returns-then-not-pass-2-clause-idle : goal.returns-then-not-pass-2-clause-idle
returns-then-not-pass-2-clause-idle c = λ none. absurd (let no : 1 ≡ 0 = sym c.settle-then-not-pass-2.ensures.fired ∙ none in omega arith)

pub returns-then-not-pass-2-clause-last : goal.returns-then-not-pass-2-clause-last
returns-then-not-pass-2-clause-last c = λ settled. c.pass-2.ensures.last c.if-not-pass-2.true

pub returns-clause-idle : goal.returns-clause-idle
returns-clause-idle c = λ none. absurd (let no : 2 ≡ 0 = none in omega arith)

pub returns-clause-last : goal.returns-clause-last
returns-clause-last c = λ settled. absurd (let no : false ≡ true = settled in cc)

pub returns-then-not-pass-clause-calm : goal.returns-then-not-pass-clause-calm
returns-then-not-pass-clause-calm c = λ rests none.
    let calm = c.pass.ensures.calm rests none in
    let fits = passed_fits (plain_of c.args.tree.now) c.args.hooks.now c.args.window c.pass.new.tree c.pass.new.hooks c.pass.ensures.passed in
    let quiet : fired_in c.pass.new.hooks (geometry_of c.pass.new.tree) ≡ None =
    ap (λ (hooks : List Hook). fired_in hooks (geometry_of c.pass.new.tree)) calm.2 ∙ ap (λ (views : Views). fired_in c.args.hooks.now (geometry_of views)) calm.0 ∙ none in (
      calm.0,
      c.settle.ensures.fired,
      c.settle.ensures.settled,
      calm.3,
      c.settle.ensures.hooks ∙ reported_still (geometry_of c.pass.new.tree) c.pass.new.hooks fits c.settle.ensures.map.single quiet ∙ calm.2,
    )

pub returns-then-not-pass-2-clause-calm : goal.returns-then-not-pass-2-clause-calm
returns-then-not-pass-2-clause-calm c = λ rests none. absurd (let no : false ≡ true = sym (c.pass.ensures.calm rests none).1 ∙ c.if-not-pass.false in cc)

pub returns-clause-calm : goal.returns-clause-calm
returns-clause-calm c = λ rests none. absurd (let no : false ≡ true = sym (c.pass.ensures.calm rests none).1 ∙ c.if-not-pass.false in cc)

pub returns-then-not-pass-clause-rest : goal.returns-then-not-pass-clause-rest
returns-then-not-pass-clause-rest c = λ settled. (
  c.pass.ensures.rest c.if-not-pass.true,
  reported_quiet c.pass.new.tree c.pass.new.hooks c.settle.new.hooks c.settle.ensures.is_tree
      (passed_fits (plain_of c.args.tree.now) c.args.hooks.now c.args.window c.pass.new.tree c.pass.new.hooks c.pass.ensures.passed) c.settle.ensures.hooks,
)

pub returns-then-not-pass-2-clause-rest : goal.returns-then-not-pass-2-clause-rest
returns-then-not-pass-2-clause-rest c = λ settled. (
  c.pass-2.ensures.rest c.if-not-pass-2.true,
  reported_quiet c.pass-2.new.tree c.pass-2.new.hooks c.settle-then-not-pass-2.new.hooks c.settle-then-not-pass-2.ensures.is_tree
      (passed_fits (plain_of c.pass.new.tree) c.pass.new.hooks c.args.window c.pass-2.new.tree c.pass-2.new.hooks c.pass-2.ensures.passed) c.settle-then-not-pass-2.ensures.hooks,
)

pub returns-clause-rest : goal.returns-clause-rest
returns-clause-rest c = λ settled. absurd (let no : false ≡ true = settled in cc)

pub returns-then-not-pass-clause-caches : goal.returns-then-not-pass-clause-caches
returns-then-not-pass-clause-caches c = λ key live un. grown_once c.args.tree.now c.pass.new.tree c.args.hooks.now c.args.window key un (c.pass.ensures.caches key live)

pub returns-then-not-pass-2-clause-caches : goal.returns-then-not-pass-2-clause-caches
returns-then-not-pass-2-clause-caches c = λ key live un.
    let first = c.pass.ensures in
    let still : count_of_key key c.pass.new.tree.tree ≡ count_of_key key c.args.tree.now.tree = count_of_key-same key first.shape in
    let there : 0 < count_of_key key c.pass.new.tree.tree = omega arith in
    grown_twice c.args.tree.now c.pass.new.tree c.pass-2.new.tree c.args.hooks.now c.pass.new.hooks c.args.window key (sym first.fired ∙ c.if-not-pass.false) first.shape
    first.passed.plain first.passed.hooks_are un (first.caches key live) (c.pass-2.ensures.caches key there)

pub returns-clause-caches : goal.returns-clause-caches
returns-clause-caches c = λ key live un.
    let first = c.pass.ensures in
    let still : count_of_key key c.pass.new.tree.tree ≡ count_of_key key c.args.tree.now.tree = count_of_key-same key first.shape in
    let there : 0 < count_of_key key c.pass.new.tree.tree = omega arith in
    grown_twice c.args.tree.now c.pass.new.tree c.pass-2.new.tree c.args.hooks.now c.pass.new.hooks c.args.window key (sym first.fired ∙ c.if-not-pass.false) first.shape
    first.passed.plain first.passed.hooks_are un (first.caches key live) (c.pass-2.ensures.caches key there)

pub returns-then-not-pass-clause-few : goal.returns-then-not-pass-clause-few
returns-then-not-pass-clause-few c = λ none. c.pass.ensures.few

pub returns-then-not-pass-2-clause-few : goal.returns-then-not-pass-2-clause-few
returns-then-not-pass-2-clause-few c = λ none. absurd (let no : 1 ≡ 0 = sym c.settle-then-not-pass-2.ensures.fired ∙ none in omega arith)

pub returns-clause-few : goal.returns-clause-few
returns-clause-few c = λ none. absurd (let no : 2 ≡ 0 = none in omega arith)
