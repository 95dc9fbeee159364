use Rattle.view_model.specs.declared.relative.Link.{Link}
use Rattle.std.proofs.Common.{◌≡◌, ℕ, List, refl, false, get_or, sym, ap, ◌∙◌, arith, below_more}
use Rattle.relative_layout.specs.ordering.Naming.{id_at, link_at}
use Rattle.relative_layout.specs.ordering.Topological.{has_more, waits_for}
use Rattle.relative_layout.proofs.orders.Counting.{waits_false, waits_for-more}
use Rattle.relative_layout.proofs.orders.NamingLaws.{last_in_rows, leads_inside, leads_parts, names-some}
use Rattle.relative_layout.proofs.orders.TakingLaws.{waits_by}
use Rattle.view_model.specs.SiblingRules.{last_with_id}
use Rattle.relative_layout.proofs.ordering.topological.Taking.must_wait.Goals as goal

pub has_more-requires : goal.has_more-requires
has_more-requires c =
    let id : ℕ = get_or c.named_ids.result c.loop-id.id-index 0 in
    let last : c.last.result ≡ last_with_id c.args.kids.now id = c.last.ensures ∙ c.requires.naming.table id in
    last_in_rows c.args.kids.now id _ c.last.result c.requires.counts.size last

pub loop-id-preserved : goal.loop-id-preserved
loop-id-preserved c =
    let kids = c.args.kids.now in
    let self = c.args.self.now in
    let id : ℕ = get_or c.named_ids.result c.loop-id.id-index 0 in
    let last : c.last.result ≡ last_with_id kids id = c.last.ensures ∙ c.requires.naming.table id in
    let value : c.has_more.result ≡ waits_for kids self.taken.items (id_at kids c.args.place) id
    = c.has_more.ensures ∙ ap (λ own. has_more c.last.result own self.left.items) c.own_count.ensures
    ∙ waits_for-more kids self.taken.items self.left.items (id_at kids c.args.place) id c.last.result last c.requires.counts in
    below_more _ _ c.loop-id.invariant (rw c.named_ids.ensures at (sym value ∙ c.if-has_more.false))

pub returns-then-has_more-clause-yes : goal.returns-then-has_more-clause-yes
returns-then-has_more-clause-yes c = λ t.
    let kids = c.args.kids.now in
    let self = c.args.self.now in
    let place = c.args.place in
    let id : ℕ = get_or c.named_ids.result c.loop-id.id-index 0 in
    let last : c.last.result ≡ last_with_id kids id = c.last.ensures ∙ c.requires.naming.table id in
    let value : c.has_more.result ≡ waits_for kids self.taken.items (id_at kids place) id
    = c.has_more.ensures ∙ ap (λ own. has_more c.last.result own self.left.items) c.own_count.ensures
    ∙ waits_for-more kids self.taken.items self.left.items (id_at kids place) id c.last.result last c.requires.counts in
    let waits = rw c.named_ids.ensures at (sym value ∙ c.if-has_more.true) in
    waits_by c.args.naming.now.axis kids self.taken.items place c.loop-id.id-index c.requires.place c.loop-id-test.true c.requires.fresh waits

pub returns-clause-no : goal.returns-clause-no
returns-clause-no c = λ f anchor led.
    let kids = c.args.kids.now in
    let place = c.args.place in
    let parts = leads_parts c.args.naming.now.axis kids place anchor led in
    let k = names-some c.args.naming.now.axis (link_at kids place).rules (id_at kids anchor) parts.1 in
    let free = c.loop-id.invariant k.0 (omega (arith, k.1)) in
    let inside = leads_inside c.args.naming.now.axis kids place anchor led in
    let at_id : waits_for kids c.args.self.now.taken.items (id_at kids place) (id_at kids anchor) ≡ false = rw k.2 at free in
    waits_false kids c.args.self.now.taken.items place (id_at kids anchor) anchor c.requires.place c.requires.fresh at_id k.3 (λ same. parts.0 (sym same)) inside (same_id kids anchor)
  where
    same_id : (kids : List Link) (anchor : ℕ) → id_at kids anchor ≡ id_at kids anchor
    same_id kids anchor = refl
