-- What a world keeps once the views of a file were added.
use Rattle.std.proofs.Common.{◌≡◌, ◌≢◌, ◌∙◌, ℕ, suc, ◌+◌, ◌*◌, ◌≤◌, arith, List, length, length-append, refl, sym, ap, subst, inl, inr}
use Rattle.std.specs.Prelude.{◌==◌, ◌<◌, Bool, true, IfSome, Option, Some, None, Box, Result, Err}
use Rattle.std.specs.Option.{option_map, option_or}
use Rattle.std.specs.declared.alloc.Global.{Global}
use Rattle.size_hooks.specs.Hook.{Hook}
use Rattle.std.proofs.lemmas.Bool.{cases_Bool, cases_eq, cases_lt, eq-eqb}
use Rattle.saved_state.specs.Saving.{OffsetsFit}
use Rattle.pixel_raster.specs.Raster.{size_of}
use Rattle.seen_edits.proofs.ShownLaws.{shows_on}
use Rattle.touch_dispatch.specs.gesture.Kept.{Kept, gesture_of, is_open}
use Rattle.touch_dispatch.specs.reaching.TreeEvents.{room_of}
use Rattle.touch_dispatch.specs.declared.log.Log.{Log}
use Rattle.inflater.specs.Inflating.{Plan}
use Rattle.traversal.specs.Changing.{FitAll}
use Rattle.view_model.specs.Directed.{directed, rtl_at}
use Rattle.view_model.specs.Forest.{Forest, Nothing, Branch, count_of, joined}
use Rattle.view_model.specs.Geometry.{rect_in}
use Rattle.view_model.specs.Growth.{grown_at}
use Rattle.view_model.specs.PlainTree.{PlainView, grown}
use Rattle.view_model.specs.Refusals.{PlainRefusal}
use Rattle.view_model.specs.Sprouts.{IsPreorder, Seed, numbered, preorder, seeds_of}
use Rattle.view_model.specs.declared.sprout.Sprout.{Sprout}
use Rattle.view_model.proofs.SproutLaws.{preorder-seeds_of}
use Rattle.view_tree.proofs.forest.ForestLaws.{times_in}
use Rattle.view_tree.specs.Faults.{IsRefusedOrCyclic}
use Rattle.kept_views.specs.Kept.{IsConsistent}
use Rattle.view_tree.specs.Views.{IsLive, IsTree, Views, geometry_of, held_of, number_of, plain_of, plain_rows}
use Rattle.view_model.specs.declared.fault.Fault.{Fault}
use Rattle.view_model.specs.declared.fault.Fault.TheVariants as fault
use Rattle.view_tree.proofs.forest.KeyLaws.{number_live, zero_or_more}
use Rattle.view_tree.proofs.forest.PlainLaws.{plain-count}
use Rattle.world_parts.proofs.touches.CaughtLaws.{times-plain}
use Rattle.world_parts.proofs.trees.DirectedLaws.{count-directed, every-directed, times-directed}
use Rattle.view_world.proofs.edits.GrowingLaws.{placed_root, plain_root}
use Rattle.world_parts.proofs.touches.GrownCaught.{gesture_grafted}
use Rattle.view_world.proofs.edits.GrownShown.{nowhere_numbered, shown_come}
use Rattle.world_parts.proofs.trees.PartCounts.{times-joined}
use Rattle.view_world.specs.screen.Changed.{CarriesOut}
use Rattle.world_parts.specs.Faults.{step_fault_of}
use Rattle.view_world.specs.screen.KeyedScreen.{KeyedScreen}
use Rattle.world_parts.specs.Places.{AreOpened, HasGained}
use Rattle.view_world.specs.screen.Sound.{IsSound}
use Rattle.view_world.specs.world.Step.{grafted}
use Rattle.world_parts.specs.World.{World}
use Rattle.view_world.specs.declared.screen.Screen.TheInside.{Inside}

length-preorder : (depth : ℕ) (seeds : Forest Seed) → length (preorder depth seeds) ≡ count_of seeds
length-preorder depth Nothing = refl
length-preorder depth (Branch seed below after) =
    let both = length-append (preorder (suc depth) below) (preorder depth after) in
    let one = length-preorder (suc depth) below in
    let two = length-preorder depth after in
    omega (arith, both, one, two)

-- a sapling has as many views as sprouts
pub count-seeds_of : (sprouts : List Sprout) → IsPreorder sprouts → count_of (seeds_of sprouts) ≡ length sprouts
count-seeds_of sprouts is = sym (length-preorder 1 (seeds_of sprouts)) ∙ ap length (preorder-seeds_of sprouts is)

count-numbered : (first : ℕ) (seeds : Forest Seed) → count_of (numbered first seeds) ≡ count_of seeds
count-numbered first Nothing = refl
count-numbered first (Branch seed below after) =
    let one = count-numbered (suc first) below in
    let two = count-numbered (suc first + count_of below) after in
    omega (arith, one, two)

count-joined : (list more : Forest PlainView) → count_of (joined list more) ≡ count_of list + count_of more
count-joined Nothing more = omega arith
count-joined (Branch view below after) more = let later = count-joined after more in omega (arith, later)

count-grown_none : (parent : ℕ) (new tree : Forest PlainView) → times_in parent tree ≡ 0 → count_of (grown parent new tree) ≡ count_of tree
count-grown_none parent new Nothing none = refl
count-grown_none parent new (Branch view below after) none =
    elim (cases_Bool (view.number == parent)) [
      | inl e ↦ absurd (let none : 1 + (times_in parent below + times_in parent after) ≡ 0 = rw e at none in omega arith)
      | inr e ↦
          let none : 0 + (times_in parent below + times_in parent after) ≡ 0 = rw e at none in
          let one = count-grown_none parent new below (omega (arith, none)) in
          let two = count-grown_none parent new after (omega (arith, none)) in
          rw e (omega (arith, one, two))
    ]

count-grown : (parent : ℕ) (new tree : Forest PlainView) → times_in parent tree ≤ 1 → count_of (grown parent new tree) ≤ count_of tree + count_of new
count-grown parent new Nothing once = omega arith
count-grown parent new (Branch view below after) once =
    elim (cases_Bool (view.number == parent)) [
      | inl e ↦ let both = count-joined below new in rw e (omega (arith, both))
      | inr e ↦
          let once : 0 + (times_in parent below + times_in parent after) ≤ 1 = rw e at once in
          elim (zero_or_more (times_in parent below)) [
            | inl z ↦
                let one = count-grown_none parent new below z in
                let two = count-grown parent new after (omega (arith, once)) in
                rw e (omega (arith, one, two))
            | inr l ↦
                let one = count-grown parent new below (omega (arith, once)) in
                let two = count-grown_none parent new after (omega (arith, once, l)) in
                rw e (omega (arith, one, two))
          ]
    ]

count-grown_at : (place : Option ℕ) (new tree : Forest PlainView) → ((number : ℕ) → times_in number tree ≤ 1) → count_of (grown_at place new tree) ≤ count_of tree + count_of new
count-grown_at None new tree once = omega arith
count-grown_at (Some parent) new tree once = count-grown parent new tree (once parent)

-- no more views are added than a sapling has
pub count_grafted : (old new : Views) (place : Option ℕ) (rtl : Bool) (seeds : Forest Seed) → IsTree old
    → plain_of new ≡ grown_at (option_map (number_of old) place) (directed rtl (numbered old.next seeds)) (plain_of old)
    → count_of new.tree ≤ count_of old.tree + count_of seeds
count_grafted old new place rtl seeds is grew =
    let at = option_map (number_of old) place in
    let once : (number : ℕ) → times_in number (plain_of old) ≤ 1 =
    λ number. let same = times-plain (held_of old) number old.tree in let few = is.numbers number in omega (arith, same, few) in
    let most = count-grown_at at (directed rtl (numbered old.next seeds)) (plain_of old) once in
    let now = sym (plain-count (held_of new) new.tree) ∙ ap count_of grew in
    let before = plain-count (held_of old) old.tree in
    let come = count-directed rtl (numbered old.next seeds) ∙ count-numbered old.next seeds in
    omega (arith, most, now, before, come)

-- views that are added leave those that are there, and are there then

times_grown : (number parent : ℕ) (new tree : Forest PlainView) → times_in number tree ≤ times_in number (grown parent new tree)
times_grown number parent new Nothing = omega arith
times_grown number parent new (Branch view below after) = elim (cases_Bool (view.number == parent)) [
  | inl e ↦ let more = times-joined number below new in rw e (omega (arith, more))
  | inr e ↦
      let one = times_grown number parent new below in
      let two = times_grown number parent new after in
      rw e (omega (arith, one, two))
]

times_still : (number : ℕ) (place : Option ℕ) (new tree : Forest PlainView) → (place ≡ None → tree ≡ Nothing) → times_in number tree ≤ times_in number (grown_at place new tree)
times_still number None new tree root = rw (root refl) (omega arith)
times_still number (Some parent) new tree root = times_grown number parent new tree

times_new : (number parent : ℕ) (new tree : Forest PlainView) → 0 < times_in parent tree → times_in number new ≤ times_in number (grown parent new tree)
times_new number parent new Nothing there = absurd (omega arith)
times_new number parent new (Branch view below after) there = elim (cases_Bool (view.number == parent)) [
  | inl e ↦ let more = times-joined number below new in rw e (omega (arith, more))
  | inr e ↦
      let there : 0 < 0 + (times_in parent below + times_in parent after) = rw e at there in
      elim (zero_or_more (times_in parent below)) [
        | inl none ↦ let two = times_new number parent new after (omega (arith, there, none)) in rw e (omega (arith, two))
        | inr some ↦ let one = times_new number parent new below some in rw e (omega (arith, one))
      ]
]

times_come : (number : ℕ) (place : Option ℕ) (new tree : Forest PlainView) → IfSome place (λ (parent : ℕ). 0 < times_in parent tree) → times_in number new ≤ times_in number (grown_at place new tree)
times_come number None new tree there = omega arith
times_come number (Some parent) new tree there = times_new number parent new tree there

placed_there : (views : Views) (place : Option ℕ) → IfSome place (λ (view : ℕ). IsLive views view) → IfSome (option_map (number_of views) place) (λ (parent : ℕ). 0 < times_in parent (plain_of views))
placed_there views None live = tt
placed_there views (Some view) live = subst (λ (n : ℕ). 0 < n) (sym (times-plain (held_of views) (number_of views view) views.tree)) (number_live view views.tree live)

numbered_there : (number first : ℕ) (seeds : Forest Seed) → first ≤ number → number < first + count_of seeds → 0 < times_in number (numbered first seeds)
numbered_there number first Nothing from to = absurd (omega (arith, from, to))
numbered_there number first (Branch seed below after) from to = elim (cases_eq first number) [
  | inl e ↦ rw (eq-eqb first number e) (omega arith)
  | inr ne ↦ elim (cases_lt number (suc first + count_of below)) [
    | inl less ↦ let one = numbered_there number (suc first) below (omega (arith, from, ne)) less in omega (arith, one)
    | inr more ↦ let two = numbered_there number (suc first + count_of below) after more (omega (arith, to)) in omega (arith, two)
  ]
]

stay : (first count : ℕ) (old new : Kept) → AreOpened first count old new → (number : ℕ) → is_open old number ≡ true → is_open new number ≡ true
stay first count old new opened number was =
    elim (cases_lt number first) [
      | inl less ↦ opened.below number less ∙ was
      | inr from ↦ elim (cases_lt number (first + count)) [ inl to ↦ opened.there number from to | inr above ↦ opened.above number above ∙ was ]
    ]

-- the fault of a graft is the reply
pub graft_reported : (world : World) (number : Option ℕ) (plan : Plan) (new : KeyedScreen) (reason cycle : Option PlainRefusal) (why : Fault)
    → IsRefusedOrCyclic reason cycle (let r : Result (Unit {0}) Fault = Err why in r) → CarriesOut (grafted world number plan (option_or reason cycle)) new (Err (step_fault_of why))
graft_reported world number plan new reason cycle (fault.Refused refusal) reported = rw reported refl
graft_reported world number plan new reason cycle fault.NoMemory reported = tt

-- the views of a file are in the tree, and have places
pub sound_grafted : (inside : Inside) (new : Views) (gesture : Kept) (log : Log) (hooks : Option (Box (List Hook) Global)) (place : Option ℕ) (sprouts : List Sprout) → IsSound inside → IsTree inside.tree → IfSome place (λ (view : ℕ). IsLive inside.tree view)
    → (place ≡ None → inside.tree.tree ≡ Nothing) → IsPreorder sprouts → HasGained inside.tree place (seeds_of sprouts) new → IsConsistent new
    → gesture_of gesture ≡ gesture_of inside.gesture → AreOpened inside.tree.next (length sprouts) inside.gesture gesture
    → (count_of new.tree ≤ count_of inside.tree.tree + length sprouts → 3 * count_of new.tree ≤ room_of log) → hooks ≢ None → OffsetsFit (plain_of new)
    → IsSound (record inside { tree = new; gesture = gesture; log = log; hooks = hooks })
sound_grafted inside new gesture log hooks place sprouts sound is live root order came consistent same opened room made offsets =
    let count = count-seeds_of sprouts order in
    let old = inside.tree in
    let rtl = rtl_at (option_map (number_of old) place) (plain_of old) in
    let views = directed rtl (numbered old.next (seeds_of sprouts)) in
    record {
      consistent = consistent;
      caught =
          gesture_grafted old new (option_map (number_of old) place) rtl (seeds_of sprouts) inside.gesture gesture is (placed_root old place root) came.plain same
          (stay old.next (length sprouts) inside.gesture gesture opened)
          (λ number from to. opened.there number from (omega (arith, to, count))) sound.caught;
      closed = λ number none.
          let times : times_in number (grown_at (option_map (number_of old) place) views (plain_of old)) ≡ 0 =
          ap (times_in number) (sym came.plain) ∙ times-plain (held_of new) number new.tree ∙ none in
          let before = times_still number (option_map (number_of old) place) views (plain_of old)
          (λ e. ap (plain_rows (held_of old)) (placed_root old place root e)) in
          let was = times-plain (held_of old) number old.tree in
          let shut = sound.closed number (omega (arith, times, before, was)) in
          elim (cases_lt number old.next) [
            | inl less ↦ opened.below number less ∙ shut
            | inr from ↦ elim (cases_lt number (old.next + length sprouts)) [
              | inr above ↦ opened.above number above ∙ shut
              | inl to ↦ absurd (
                  let some = numbered_there number old.next (seeds_of sprouts) from (omega (arith, to, count)) in
                  let same = times-directed number rtl (numbered old.next (seeds_of sprouts)) in
                  let come = times_come number (option_map (number_of old) place) views (plain_of old) (placed_there old place live) in
                  omega (arith, some, same, come, times)
                  )
            ]
          ];
      room = room (let most = count_grafted old new place rtl (seeds_of sprouts) is came.plain in omega (arith, most, count));
      armable = λ none. absurd (made none);
      down = sound.down;
      narrow = subst FitAll (sym came.geometry) sound.narrow;
      offsets = offsets;
      shows = shows_on inside.surface inside.damage.rect inside.damage.rect old new sound.shows
          (shown_come (size_of inside.surface) inside.damage.rect old new (option_map (number_of old) place) views
          (every-directed (λ (view : PlainView). rect_in (geometry_of old) view.number ≡ None) (λ rtl view none. none) rtl (numbered old.next (seeds_of sprouts))
          (nowhere_numbered old old.next (seeds_of sprouts) is (omega arith)))
          (plain_root old place root) came.plain came.geometry);
    }
