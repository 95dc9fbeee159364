use Rattle.std.proofs.Common.{ℕ, ◌<◌, get_or}
use Rattle.view_model.specs.SiblingRules.{no_link}
use Rattle.sibling_orders.specs.Highest.{IsAboveRules}
use Rattle.sibling_orders.proofs.highest.highest_named.Given as goal

abbrev pub invariant-loop-link : goal.invariant-loop-link
invariant-loop-link l = (place : ℕ) → place < l.link-index → IsAboveRules l.highest (get_or l.links place no_link).rules
