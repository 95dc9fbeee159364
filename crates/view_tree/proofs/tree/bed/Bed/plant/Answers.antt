use Rattle.std.proofs.Common.{◌≡◌, ℕ, ◌+◌, ◌∙◌, Bool, Some, ap, refl, subst}
use Rattle.view_model.specs.declared.facts.Facts.{Facts}
use Rattle.view_model.specs.Direction.{dir}
use Rattle.view_model.specs.PlainTree.{PlainView}
use Rattle.view_model.specs.Sprouts.{seed_of, view_of}
use Rattle.view_tree.specs.tree.Bed.{fields_of}
use Rattle.view_tree.specs.tree.Directions.{running_below}
use Rattle.view_tree.specs.node.Nodes.{fields, last_child, linked, plain_node_at, tree_of, value_of}
use Rattle.view_tree.specs.Views.{fresh_held}
use Rattle.view_tree.specs.declared.tree.ViewTree.TheInside.{Inside}
use Rattle.view_tree.proofs.forest.IdLaws.{holders_of-few}
use Rattle.view_tree.proofs.nodes.NodeGrowth.{attached, last_child_there, parent_linked, parent_there, runs_is, sound-attach}
use Rattle.view_tree.proofs.nodes.NodeReads.{is_tree, named_for}
use Rattle.view_tree.proofs.tree.bed.Bed.plant.Goals as goal
use Rattle.view_tree.proofs.tree.bed.Bed.plant.Goals.{After-note_id}

pub directed-facts-requires : goal.directed-facts-requires
directed-facts-requires c = λ k is.
    parent_there (fields_of c.args.self.now) _ c.args.parent c.requires.sound refl c.requires.live k is

pub link_last-key-requires-clause-parent : goal.link_last-key-requires-clause-parent
link_last-key-requires-clause-parent c = λ k is.
    parent_there (fields_of c.args.self.now) _ c.args.parent c.requires.sound refl c.requires.live k is

pub link_last-key-requires-clause-linked : goal.link_last-key-requires-clause-linked
link_last-key-requires-clause-linked c =
    parent_linked (fields_of c.args.self.now) _ c.args.parent c.requires.sound refl c.requires.live

pub link_last-key-requires-clause-last : goal.link_last-key-requires-clause-last
link_last-key-requires-clause-last c = λ l is.
    last_child_there (fields_of c.args.self.now) _ c.args.parent c.requires.sound refl c.requires.live l is

pub note_id-requires : goal.note_id-requires
note_id-requires c =
    let old : Inside = fields_of c.args.self.now in
    rw (named_for old _ c.requires.sound refl c.args.sprout.facts.id)
    (holders_of-few c.args.sprout.facts.id (tree_of old) (is_tree old _ c.requires.sound refl).few)

abbrev old_of : After-note_id → Inside
old_of c = fields_of c.args.self.now

-- the view that comes
abbrev came : After-note_id → PlainView
came c = running_below c.args.parent (tree_of (old_of c)) (view_of c.args.self.now.next.now (seed_of c.args.sprout))

facts_as : (c : After-note_id) → c.directed-facts.result ≡ (came c).facts
facts_as c =
    c.directed-facts.ensures
    ∙ ap (λ (above : Bool). record c.args.sprout.facts { rtl = dir above c.args.sprout.facts.direction })
    (runs_is (old_of c) (value_of (old_of c)) c.args.parent c.requires.sound refl c.requires.live)

linked_as : (c : After-note_id) → (x : ℕ) → plain_node_at c.link_last-key.new.nodes x
    ≡ linked (plain_node_at c.args.self.now.nodes.now) c.args.parent c.link_last-key.result (came c) (last_child (plain_node_at c.args.self.now.nodes.now) c.args.parent) x
linked_as c =
    subst (λ (facts : Facts). (x : ℕ) → plain_node_at c.link_last-key.new.nodes x
    ≡ linked (plain_node_at c.args.self.now.nodes.now) c.args.parent c.link_last-key.result (record (came c) { facts = facts }) (last_child (plain_node_at c.args.self.now.nodes.now) c.args.parent) x)
    (facts_as c) c.link_last-key.ensures.links

pub returns-clause-sound : goal.returns-clause-sound
returns-clause-sound c =
    let d = (goal.at.returns-clause-sound c).After-note_id in
    let new : Inside = fields c.link_last-key.new.nodes c.note_key.new.keys c.note_id.new.ids c.root_with-self.result (c.args.self.now.next.now + 1) in
    sound-attach (old_of d) new (value_of (old_of d)) c.args.parent c.link_last-key.result (came d)
    c.requires.sound refl c.requires.live c.requires.empty c.requires.taken c.link_last-key.ensures.unused (linked_as d)
    c.root_with-self.ensures refl refl refl c.link_last-key.ensures.len c.note_key.ensures.noted c.in-Ok.ensures.noted c.link_last-key.ensures.small

pub returns-clause-attached : goal.returns-clause-attached
returns-clause-attached c =
    let d = (goal.at.returns-clause-attached c).After-note_id in
    let new : Inside = fields c.link_last-key.new.nodes c.note_key.new.keys c.note_id.new.ids c.root_with-self.result (c.args.self.now.next.now + 1) in
    attached (old_of d) new (value_of (old_of d)) c.args.parent c.link_last-key.result (came d)
    c.requires.sound refl c.requires.live c.requires.empty c.requires.taken c.link_last-key.ensures.unused (linked_as d)
    c.root_with-self.ensures refl refl refl c.link_last-key.ensures.len c.note_key.ensures.noted c.in-Ok.ensures.noted c.link_last-key.ensures.small
    (c.link_last-key.ensures.held ∙ ap (λ (facts : Facts). Some (fresh_held facts.offset)) (facts_as d)) c.link_last-key.ensures.others
