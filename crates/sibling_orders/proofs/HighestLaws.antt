-- Ids that no rules of some children exceed.
use Rattle.std.specs.Prelude.{◌==◌}
use Rattle.std.proofs.Common.{◌≡◌, ℕ, zero, suc, ◌≤◌, true, List, ◌∷◌, get_or, sym, subst, arith, inl, inr}
use Rattle.std.proofs.lemmas.Bool.{cases_eq, eq-eqb, ne_eqb}
use Rattle.view_model.specs.declared.facts.Rules.{Rules}
use Rattle.view_model.specs.declared.relative.Axis.TheVariants.{Horizontal, Vertical}
use Rattle.view_model.specs.declared.relative.Link.{Link}
use Rattle.view_model.specs.Cycles.{link_of, links_in}
use Rattle.view_model.specs.Forest.{Forest, Nothing, Branch, changed_where}
use Rattle.view_model.specs.PlainTree.{PlainView}
use Rattle.view_model.specs.SiblingRules.{names}
use Rattle.sibling_orders.specs.Highest.{IsAboveNamed, IsAboveRules}

pub above_both : (across down highest : ℕ) (rules : Rules) → ((id : ℕ) → names Horizontal rules id ≡ true → id ≤ across) → ((id : ℕ) → names Vertical rules id ≡ true → id ≤ down)
    → across ≤ highest → down ≤ highest → IsAboveRules highest rules
above_both across down highest rules first second more most Horizontal id named = let less = first id named in omega arith
above_both across down highest rules first second more most Vertical id named = let less = second id named in omega arith

pub above_more : (rules : Rules) (low high : ℕ) → IsAboveRules low rules → low ≤ high → IsAboveRules high rules
above_more rules low high above more axis id named = let less = above axis id named in omega arith

pub named_more : (links : List Link) (low high : ℕ) → IsAboveNamed low links → low ≤ high → IsAboveNamed high links
named_more links low high above more place small = above_more (get_or links place _).rules low high (above place small) more

-- one more child before the others
above_next : (highest : ℕ) (link : Link) (links : List Link) → IsAboveRules highest link.rules → IsAboveNamed highest links → IsAboveNamed highest (link ∷ links)
above_next highest link links own others zero small = own
above_next highest link links own others (suc place) small = others place (omega arith)

-- one child is another
pub above_changed : (number highest : ℕ) (link : Link) (change : PlainView → PlainView) (list : Forest PlainView) → ((view : PlainView) → link_of (change view) ≡ link) → IsAboveRules highest link.rules
    → IsAboveNamed highest (links_in list) → IsAboveNamed highest (links_in (changed_where (λ (view : PlainView). view.number == number) change list))
above_changed number highest link change Nothing reads own above = above
above_changed number highest link change (Branch view below after) reads own above =
    elim (cases_eq view.number number) [
      | inl is ↦ rw (eq-eqb view.number number is)
          (above_next highest (link_of (change view)) (links_in after) (subst (λ (l : Link). IsAboveRules highest l.rules) (sym (reads view)) own) (λ place small. above (suc place) (omega arith)))
      | inr isnt ↦ rw (ne_eqb view.number number isnt)
          (above_next highest (link_of view) (links_in (changed_where (λ (view : PlainView). view.number == number) change after)) (above 0 (omega arith))
          (above_changed number highest link change after reads own (λ place small. above (suc place) (omega arith))))
    ]
