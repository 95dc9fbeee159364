-- A walk over the children of a view, from the last to the first.
use Rattle.std.proofs.Common.{◌≡◌, ℕ, ℤ, true, false, Option}
use Rattle.std.specs.Prelude.{IfSome}
use Rattle.touch_event.specs.declared.event.Event.{Event}
use Rattle.touch_dispatch.specs.declared.reaching.taker.Taker.TheVariants.{NoChild}
use Rattle.touch_targets.specs.Captures.{is_target}
use Rattle.view_model.specs.PlainTree.{PlainView}
use Rattle.view_tree.proofs.forest.BackwardWalks.{following}
use Rattle.view_tree.specs.Rows.{part_from, views_of, children_of_first}
use Rattle.view_tree.specs.Views.{Views}
use Rattle.touch_dispatch.specs.Dispatch.{EventChild, Scene, event_children, tried_event, try_children}
use Rattle.touch_dispatch.specs.handling.Handling.{Progress, targets_at}
use Rattle.touch_dispatch.specs.reaching.Points.{is_tried, local_event}
use Rattle.touch_dispatch.specs.reaching.TreeEvents.{IsKidAt, own_of, scene_of}

-- no child after the next one took the pointer
pub record TryWalk (views : Views) (slop : ℤ) (view : ℕ) (event : Event) (next : Option ℕ) (start now : Progress) : Type 0 where
  pub kid : IfSome next (IsKidAt views view)
  pub rest : try_children (scene_of views slop) (own_of views view) event (event_children (scene_of views slop) (views_of (following next (children_of_first (part_from view views.tree)) views.tree))) start ≡ record { taker = NoChild; progress = now }

-- a child gets its part of an event: it is tried, and is no target yet
pub record GetsPart (scene : Scene) (own : PlainView) (event : Event) (kid : EventChild) (progress : Progress) (part : Event) : Type 0 where
  pub tried : is_tried kid.view.facts.visibility (scene.rects kid.view.number) (progress.offsets own.number) event ≡ true
  pub other : is_target kid.view.number (targets_at progress own.number) ≡ false
  pub part_is : part ≡ local_event (scene.rects kid.view.number) (progress.offsets own.number) (tried_event own.facts.split event)
