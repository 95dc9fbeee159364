-- Trees of which a change leaves everything except what is kept of views.
use Rattle.std.proofs.Common.{◌∙◌}
use Rattle.view_tree.specs.Views.{SameTree, Views}

-- two changes that do
pub same_then : {old mid new : Views} → SameTree old mid → SameTree mid new → SameTree old new
same_then first second = record { tree = second.tree ∙ first.tree; orders = second.orders ∙ first.orders; next = second.next ∙ first.next }
