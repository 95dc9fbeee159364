use Rattle.std.proofs.Common.{◌≡◌, ◌∙◌, ap}
use Rattle.view_tree.specs.Views.{Held, held_of, laid_rows, plain_rows}
use Rattle.view_tree.proofs.values.GeometryLaws.{laid_along}
use Rattle.kept_views.specs.Pressing.{all_pressed}
use Rattle.traversal.proofs.hooks.PassEdits.{all_bounds, all_offset, ended_kept, one_bounds, one_offset, plain_same}
use Rattle.traversal.proofs.hooks.Unedited.{ended_cache}
use Rattle.traversal.proofs.pass.end_pass.Goals as goal

offsets_same : goal.returns-clause-offsets
offsets_same c = λ key.
    ap (λ (h : Held). h.offset) (c.force_all.ensures.held key) ∙ all_offset (held_of c.settle.new.tree) c.args.requesters.now c.settle.new.tree.tree key
    ∙ one_offset c.args.root (held_of c.args.tree.now) (held_of c.settle.new.tree) c.settle.ensures.held c.settle.ensures.others key

pub returns-clause-offsets : goal.returns-clause-offsets
returns-clause-offsets c = offsets_same c

pub returns-clause-plain : goal.returns-clause-plain
returns-clause-plain c =
    let tree : c.force_all.new.tree.tree ≡ c.args.tree.now.tree = c.force_all.ensures.same.tree ∙ c.settle.ensures.same.tree in
    ap (plain_rows (held_of c.force_all.new.tree)) tree
    ∙ plain_same (held_of c.args.tree.now) (held_of c.force_all.new.tree) c.args.tree.now.tree (offsets_same c)

bounds_same : goal.returns-clause-bounds
bounds_same c = λ key.
    ap (λ (h : Held). h.state.bounds) (c.force_all.ensures.held key) ∙ all_bounds (held_of c.settle.new.tree) c.args.requesters.now c.settle.new.tree.tree key
    ∙ one_bounds c.args.root (held_of c.args.tree.now) (held_of c.settle.new.tree) c.settle.ensures.held c.settle.ensures.others key

pub returns-clause-bounds : goal.returns-clause-bounds
returns-clause-bounds c = bounds_same c

pub returns-clause-geometry : goal.returns-clause-geometry
returns-clause-geometry c =
    let tree : c.force_all.new.tree.tree ≡ c.args.tree.now.tree = c.force_all.ensures.same.tree ∙ c.settle.ensures.same.tree in
    ap (laid_rows (held_of c.force_all.new.tree)) tree
    ∙ laid_along (held_of c.args.tree.now) (held_of c.force_all.new.tree) c.args.tree.now.tree (λ key live. bounds_same c key)

pub returns-clause-kept : goal.returns-clause-kept
returns-clause-kept c = λ p.
    ended_kept c.args.root c.args.requesters.now (held_of c.args.tree.now) (held_of c.settle.new.tree) (held_of c.force_all.new.tree) c.args.tree.now.tree
    c.settle.ensures.is_tree.keys c.requires.requesters c.settle.ensures.held c.settle.ensures.others (rw c.settle.ensures.same.tree at c.force_all.ensures.held) p

pub returns-clause-own : goal.returns-clause-own
returns-clause-own c = λ none.
    c.force_all.ensures.held c.args.root
    ∙ ap (λ views. all_pressed (held_of c.settle.new.tree) views c.settle.new.tree.tree c.args.root) none ∙ c.settle.ensures.held

pub returns-clause-still : goal.returns-clause-still
returns-clause-still c = λ none unforced unneeded. c.force_all.ensures.still none ∙ c.settle.ensures.still unforced unneeded

pub returns-clause-caches : goal.returns-clause-caches
returns-clause-caches c = λ key off.
    let pressed = rw c.settle.ensures.same.tree at (c.force_all.ensures.held key) in
    ended_cache c.args.root c.args.requesters.now (held_of c.args.tree.now) (held_of c.settle.new.tree) (held_of c.force_all.new.tree) c.args.tree.now.tree key
    c.settle.ensures.held c.settle.ensures.others pressed off
