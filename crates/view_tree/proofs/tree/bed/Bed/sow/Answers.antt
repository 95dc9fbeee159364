use Rattle.std.proofs.Common.{rules, ◌≡◌, ◌∙◌, ◌∷◌, length, ap, arith, refl}
use Rattle.std.proofs.lemmas.List.{nil_from_length}
use Rattle.std.specs.Vec.Iter.{into_iter_items}
use Rattle.view_tree.proofs.grafts.SownSprouts.{ready, sow_on, sowing_start, sown_all}
use Rattle.view_tree.proofs.tree.bed.Bed.sow.Goals as goal

pub loop-sprout-init : goal.loop-sprout-init
loop-sprout-init c = record {
  references = record { nodes = refl; keys = refl; ids = refl; root = refl; next = refl };
  sound = c.requires.sound;
  room = c.requires.room;
  small = c.requires.small;
  spare = c.requires.spare;
  sowing = sowing_start _ _ _ _ c.requires.live refl c.requires.follow c.requires.fits;
}

pub overflow_sub-above : goal.overflow_sub-above
overflow_sub-above c =
    let sowing = rw c.in-Some.ensures.items at c.loop-sprout.invariant.sowing in
    let d = (ready _ _ _ _ _ _ _ c.loop-sprout.invariant.sound.kept sowing).deep in
    omega arith

pub bounds-path-depth : goal.bounds-path-depth
bounds-path-depth c =
    let sowing = rw c.in-Some.ensures.items at c.loop-sprout.invariant.sowing in
    let s = (ready _ _ _ _ _ _ _ c.loop-sprout.invariant.sound.kept sowing).shallow in
    omega arith

pub plant-key-requires-clause-taken : goal.plant-key-requires-clause-taken
plant-key-requires-clause-taken c =
    let sowing = rw c.in-Some.ensures.items at c.loop-sprout.invariant.sowing in
    (ready _ _ _ _ _ _ _ c.loop-sprout.invariant.sound.kept sowing).taken

pub overflow_sub-path : goal.overflow_sub-path
overflow_sub-path c =
    let sowing = rw c.in-Some.ensures.items at c.loop-sprout.invariant.sowing in
    let d = (ready _ _ _ _ _ _ _ c.loop-sprout.invariant.sound.kept sowing).deep in
    omega arith

pub bounds-path-depth-in-Some : goal.bounds-path-depth-in-Some
bounds-path-depth-in-Some c =
    let sowing = rw c.in-Some.ensures.items at c.loop-sprout.invariant.sowing in
    let r = ready _ _ _ _ _ _ _ c.loop-sprout.invariant.sound.kept sowing in
    let d = r.deep in
    let s = r.shallow in
    omega arith

pub loop-sprout-preserved : goal.loop-sprout-preserved
loop-sprout-preserved c =
    let sowing = rw c.in-Some.ensures.items at c.loop-sprout.invariant.sowing in
    let one : length (into_iter_items c.loop-sprout.sprouts) ≡ length (c.in-Some.sprout ∷ into_iter_items c.next.new.self) = ap length c.in-Some.ensures.items in
    let spared = c.loop-sprout.invariant.spare in
    let spare = c.plant-key.ensures.spare in
    let old = c.loop-sprout.invariant.references in
    let new = c.plant-key.ensures.references in
    record {
      references = record { nodes = new.nodes ∙ old.nodes; keys = new.keys ∙ old.keys; ids = new.ids ∙ old.ids; root = new.root ∙ old.root; next = new.next ∙ old.next };
      sound = c.plant-key.ensures.sound;
      room = let r = c.loop-sprout.invariant.room in let l = c.plant-key.ensures.len in let k = c.plant-key.ensures.capacity in omega arith;
      small = rw c.plant-key.ensures.capacity c.loop-sprout.invariant.small;
      spare = (let a = spared.0 in let b = spare.0 in omega arith, let a = spared.1 in let b = spare.1 in omega arith);
      sowing = sow_on _ _ _ _ _ _ _ c.loop-sprout.invariant.sound.kept sowing _ _ _ refl c.plant-key.ensures.attached;
    }

pub returns-clause-plain : goal.returns-clause-plain
returns-clause-plain c = λ kids same.
    let none : length (into_iter_items c.loop-sprout.sprouts) ≡ 0 = search rules in
    let sowing = rw (nil_from_length (into_iter_items c.loop-sprout.sprouts) none) at c.loop-sprout.invariant.sowing in
    sown_all _ _ _ _ _ c.requires.sound.kept c.requires.live sowing kids same
