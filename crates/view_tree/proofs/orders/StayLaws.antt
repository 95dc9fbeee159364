-- Orders that stay right when a child gets another id or other rules.
use Rattle.std.proofs.Common.{◌≡◌, ◌≢◌, ◌⊎◌, ℕ, zero, suc, ◌+◌, ◌-◌, ◌<◌, ◌≤◌, Bool, true, false, List, length, get_or, refl, sym, ◌∙◌, ap, subst, arith, inl, inr}
use Rattle.std.proofs.lemmas.Bool.{cases_Bool, eqb-true, true≢false}
use Rattle.std.specs.Prelude.{◌==◌}
use Rattle.relative_layout.specs.ordering.Naming.{padded_ids}
use Rattle.relative_layout.proofs.orders.NamingLaws.{leads_from, leads_inside, leads_parts, leads_whole, names-at, names-some}
use Rattle.view_model.specs.Cycles.{each, link_of, links_in, numbers_in}
use Rattle.view_model.specs.Forest.{Forest, Nothing, Branch}
use Rattle.view_model.specs.Orders.{IsOrder}
use Rattle.view_model.specs.PlainTree.{PlainView}
use Rattle.view_model.specs.SiblingRules.{leads, names, no_link}
use Rattle.view_model.specs.declared.facts.Rules.{Rules}
use Rattle.view_model.specs.declared.relative.Axis.{Axis}
use Rattle.view_model.specs.declared.relative.Axis.TheVariants.{Horizontal, Vertical}
use Rattle.view_model.specs.declared.relative.Link.{Link}
use Rattle.view_tree.specs.tree.Sorted.{links_below}
use Rattle.sibling_orders.specs.Ordering.{AreOrders, PlainOrders, link_or}
use Rattle.view_tree.specs.Rows.{Row, children_of_first, count_of_key, head_view, later_siblings, part_from, siblings_from, views_of}
use Rattle.view_tree.specs.tree.Staying.{AreBefore, MayNameAll, NamesNone}
use Rattle.sibling_orders.specs.Staying.{IsBefore, IsLastIn}
use Rattle.view_tree.specs.Views.{IsLive, IsOnlyHolder, IsTree, Views, number_of}
use Rattle.view_tree.proofs.forest.Forests.{Within-later_siblings}
use Rattle.view_tree.proofs.forest.KeyLaws.{Within, count_of_key-within, from_within, located, times_self}
use Rattle.view_tree.proofs.orders.ListLaws.{length-each}
use Rattle.view_tree.proofs.orders.RowLaws.{ChildAt, child_there, link_there, numbered_key, within_children}

-- in an order a place is the last, or it keeps its place after another that keeps its own
abbrev pub Follows : ℕ → List ℕ → ℕ → ℕ → Type 0
Follows count order a b = ((a ≢ b) × (a ≡ get_or order (count - 1) 0)) ⊎ ((b < a) × (a < count) × (get_or order a 0 ≡ a) × (get_or order b 0 ≡ b))

-- an order, for other relations: those of before, and those of a place that follows
pub order_kept : (old new : ℕ → ℕ → Bool) (count : ℕ) (order : List ℕ) → IsOrder old count order
    → ((a b : ℕ) → new a b ≡ true → (old a b ≡ true) ⊎ ((b < count) × Follows count order a b)) → IsOrder new count order
order_kept old new count order is ties = record {
  size = is.size;
  inside = is.inside;
  each = is.each;
  anchors = record {
    once = is.anchors.once;
    first = λ p anchor small leads. elim (ties (get_or order p 0) anchor leads) [
      | inl before ↦ is.anchors.first p anchor small before
      | inr (inside, inl last) ↦
          let size = is.size in
          let end : p ≡ count - 1 = is.anchors.once p (count - 1) small (omega arith) last.1 in
          let at = is.each anchor inside in
          let apart : at.0 ≢ p = λ same. last.0 (ap (λ q. get_or order q 0) (sym same) ∙ at.2) in
          let less = at.1 in
          (at.0, omega arith, at.2)
      | inr (inside, inr both) ↦
          let size = is.size in
          let less = both.1 in
          let own : p ≡ get_or order p 0 = is.anchors.once p (get_or order p 0) small (omega arith) (sym both.2) in
          let early = both.0 in
          (anchor, omega arith, both.3)
    ];
  };
}

-- no rules name the id 0
pub names_zero : (axis : Axis) (rules : Rules) → names axis rules 0 ≡ false
unfolding names
names_zero Horizontal rules = refl
names_zero Vertical rules = refl

pub names_not : (axis : Axis) (rules : Rules) (id : ℕ) → ((k : ℕ) → k < 8 → get_or (padded_ids axis rules) k 0 ≢ id) → names axis rules id ≡ false
names_not axis rules id none = elim (cases_Bool (names axis rules id)) [
  | inl e ↦ let some = names-some axis rules id e in absurd (none some.0 some.1 some.2)
  | inr e ↦ e
]

names_none_here : (axis : Axis) (rules : Rules) (id : ℕ) → names Horizontal rules id ≡ false → names Vertical rules id ≡ false → names axis rules id ≡ false
names_none_here Horizontal rules id across down = across
names_none_here Vertical rules id across down = down

names_none_at : (axis : Axis) (id : ℕ) (list : Forest Row) (place : ℕ) → NamesNone id list → place < length (links_in (views_of list))
    → names axis (get_or (links_in (views_of list)) place no_link).rules id ≡ false
names_none_at axis id Nothing place none small = absurd (omega arith)
names_none_at axis id (Branch row kids siblings) zero none small = names_none_here axis row.view.facts.rules id none.0 none.1
names_none_at axis id (Branch row kids siblings) (suc place) none small = names_none_at axis id siblings place none.2 (omega arith)

pub none_more : (id : ℕ) (tree : Forest Row) (key : ℕ) → 0 < count_of_key key tree → names Horizontal (head_view (part_from key tree)).facts.rules id ≡ false
    → names Vertical (head_view (part_from key tree)).facts.rules id ≡ false → NamesNone id (later_siblings (part_from key tree)) → NamesNone id (part_from key tree)
none_more id tree key live across down rest =
    let f = located key tree live in
    let first : names Horizontal f.row.view.facts.rules id ≡ false = rw f.is at across in
    let second : names Vertical f.row.view.facts.rules id ≡ false = rw f.is at down in
    let more : NamesNone id f.siblings = rw f.is at rest in
    subst (NamesNone id) (sym f.is) (first, second, more)

-- one of the list by its place
each_there : (f : PlainView → Link) (list : Forest Row) (place : ℕ) → place < length (each f (views_of list)) → get_or (each f (views_of list)) place no_link ≡ f (head_view (siblings_from place list))
each_there f Nothing place small = absurd (omega arith)
each_there f (Branch row kids siblings) zero small = refl
each_there f (Branch row kids siblings) (suc place) small = each_there f siblings place (omega arith)

-- one of a list that has an id comes before a child, if all that have it do
before_at : (id number : ℕ) (numbers order : List ℕ) (list : Forest Row) (place : ℕ) → AreBefore id number numbers order list → place < length (links_in (views_of list))
    → (get_or (links_in (views_of list)) place no_link).id ≡ id → IsBefore (get_or (numbers_in (views_of list)) place 0) number numbers order
before_at id number numbers order Nothing place are small is = absurd (omega arith)
before_at id number numbers order (Branch row kids siblings) zero are small is = are.0 is
before_at id number numbers order (Branch row kids siblings) (suc place) are small is = before_at id number numbers order siblings place are.1 (omega arith) is

-- the view that alone has an id comes before a child: so does each of a list that has it
pub before_only : (views : Views) (only id number : ℕ) (numbers order : List ℕ) (list : Forest Row) → IsTree views → IsOnlyHolder views only id → Within list views.tree
    → IsBefore (number_of views only) number numbers order → AreBefore id number numbers order list
before_only views only id number numbers order Nothing is holder within before = tt
before_only views only id number numbers order (Branch row kids siblings) is holder within before = (
  λ named.
      let part = from_within row kids siblings within (is.keys row.key) in
      let live : IsLive views row.key = (let own = times_self row kids siblings in let less = count_of_key-within row.key within in omega arith) in
      let key : row.key ≡ only = holder.alone row.key live (ap (λ part. (head_view part).facts.id) part ∙ named) in
      subst (λ n. IsBefore n number numbers order) (ap (number_of views) (sym key) ∙ ap (λ part. (head_view part).number) part) before,
  before_only views only id number numbers order siblings is holder (Within-later_siblings within) before,
)

-- a view of a list, and those after it
pub before_more : (id number : ℕ) (numbers order : List ℕ) (tree : Forest Row) (key : ℕ) → 0 < count_of_key key tree
    → ((head_view (part_from key tree)).facts.id ≡ id → IsBefore (head_view (part_from key tree)).number number numbers order)
    → AreBefore id number numbers order (later_siblings (part_from key tree)) → AreBefore id number numbers order (part_from key tree)
before_more id number numbers order tree key live own rest =
    let f = located key tree live in
    let first : f.row.view.facts.id ≡ id → IsBefore f.row.view.number number numbers order = rw f.is at own in
    let more : AreBefore id number numbers order f.siblings = rw f.is at rest in
    subst (AreBefore id number numbers order) (sym f.is) (first, more)

length_from : (list : Forest Row) (place : ℕ) → place ≤ length (numbers_in (views_of list))
    → place + length (numbers_in (views_of (siblings_from place list))) ≡ length (numbers_in (views_of list))
length_from list zero small = omega arith
length_from Nothing (suc place) small = absurd (omega arith)
length_from (Branch row kids siblings) (suc place) small = let more = length_from siblings place (omega arith) in omega arith

-- no two children have one number
alike : (views : Views) (parent a b : ℕ) → IsTree views → IsLive views parent → a < length (numbers_in (views_of (children_of_first (part_from parent views.tree))))
    → b < length (numbers_in (views_of (children_of_first (part_from parent views.tree))))
    → get_or (numbers_in (views_of (children_of_first (part_from parent views.tree)))) a 0 ≡ get_or (numbers_in (views_of (children_of_first (part_from parent views.tree)))) b 0 → a ≡ b
alike views parent a b is above a_in b_in same =
    let kids = children_of_first (part_from parent views.tree) in
    let one = child_there views kids a is (within_children views parent above) a_in in
    let two = child_there views kids b is (within_children views parent above) b_in in
    let f = located one.key views.tree one.live in
    let key : one.key ≡ two.key =
    sym f.key_is ∙ numbered_key views two.key f.row f.kids f.siblings is two.live f.within (ap (λ part. (head_view part).number) (sym f.is) ∙ one.number ∙ same ∙ sym two.number) in
    let part : siblings_from a kids ≡ siblings_from b kids = sym one.part ∙ ap (λ k. part_from k views.tree) key ∙ two.part in
    let first = length_from kids a (omega arith) in
    let second = length_from kids b (omega arith) in
    let rest = ap (λ (list : Forest Row). length (numbers_in (views_of list))) part in
    omega arith

module _ (views : Views) (parent view : ℕ) (link : Link) (is : IsTree views) (above : IsLive views parent) (live : IsLive views view) where
  abbrev kids : Forest Row
  kids = children_of_first (part_from parent views.tree)

  abbrev old : List Link
  old = links_in (views_of kids)

  abbrev new : List Link
  new = links_below views parent (number_of views view) link

  abbrev own : Link
  own = link_of (head_view (part_from view views.tree))

  abbrev numbers : List ℕ
  numbers = numbers_in (views_of kids)

  old_size : length old ≡ length numbers
  old_size = length-each link_of (views_of kids)

  new_size : length new ≡ length numbers
  new_size = length-each (link_or (number_of views view) link) (views_of kids)

  child : (place : ℕ) → place < length numbers → ChildAt views kids place
  child place small = child_there views kids place is (within_children views parent above) small

  -- a child that has the number is the view
  own_key : (place : ℕ) (small : place < length numbers) → number_of views (child place small).key ≡ number_of views view → (child place small).key ≡ view
  own_key place small same =
      let there = child place small in
      let f = located there.key views.tree there.live in
      sym f.key_is ∙ numbered_key views view f.row f.kids f.siblings is live f.within (ap (λ part. (head_view part).number) (sym f.is) ∙ same)

  own_part : (place : ℕ) (small : place < length numbers) → number_of views (child place small).key ≡ number_of views view → siblings_from place kids ≡ part_from view views.tree
  own_part place small same = sym (child place small).part ∙ ap (λ k. part_from k views.tree) (own_key place small same)

  same_place : (a b : ℕ) → a < length numbers → b < length numbers → get_or numbers a 0 ≡ number_of views view → get_or numbers b 0 ≡ number_of views view → a ≡ b
  same_place a b a_in b_in first second = alike views parent a b is above a_in b_in (first ∙ sym second)

  -- a place of another child, or the place of the view
  record IsViewAt (place : ℕ) : Type 0 where
    after : get_or new place no_link ≡ link
    before : get_or old place no_link ≡ own
    number : get_or numbers place 0 ≡ number_of views view

  at_place : (place : ℕ) → place < length numbers → (get_or new place no_link ≡ get_or old place no_link) ⊎ IsViewAt place
  at_place place small =
      let there = child place small in
      let here = head_view (siblings_from place kids) in
      let old_is = link_there kids place (let size = old_size in omega arith) in
      let new_is = each_there (link_or (number_of views view) link) kids place (let size = new_size in omega arith) in
      elim (cases_Bool (here.number == number_of views view)) [
        | inl e ↦
            let number : number_of views there.key ≡ number_of views view = ap (λ part. (head_view part).number) there.part ∙ eqb-true here.number (number_of views view) e in
            inr (record {
              after = new_is ∙ rw e refl;
              before = old_is ∙ ap (λ part. link_of (head_view part)) (own_part place small number);
              number = sym there.number ∙ number;
            })
        | inr e ↦ inl (new_is ∙ rw e (sym old_is))
      ]

  module _ (named : (link.id ≡ own.id) ⊎ NamesNone link.id kids) (axis : Axis) (order : List ℕ) (sorted : IsOrder (leads axis old) (length old) order)
      (follows : IsLastIn (number_of views view) numbers order ⊎ MayNameAll (padded_ids axis own.rules) (padded_ids axis link.rules) (number_of views view) numbers order kids) where
    -- what is named is named by the id of before
    named_before : (a b : ℕ) → a ≢ b → a < length numbers → b < length numbers → names axis (get_or new a no_link).rules (get_or new b no_link).id ≡ true
        → names axis (get_or new a no_link).rules (get_or old b no_link).id ≡ true
    named_before a b ne a_in b_in names_new = elim (at_place b b_in) [
      | inl same ↦ subst (λ (l : Link). names axis (get_or new a no_link).rules l.id ≡ true) same names_new
      | inr v ↦
          let names_link : names axis (get_or new a no_link).rules link.id ≡ true = subst (λ (l : Link). names axis (get_or new a no_link).rules l.id ≡ true) v.after names_new in
          elim named [
            | inl same ↦ subst (λ id. names axis (get_or new a no_link).rules id ≡ true) (same ∙ ap (λ (l : Link). l.id) (sym v.before)) names_link
            | inr none ↦ elim (at_place a a_in) [
              | inl same ↦
                  let never = names_none_at axis link.id kids a none (let size = old_size in omega arith) in
                  absurd (true≢false (sym (subst (λ (l : Link). names axis l.rules link.id ≡ true) same names_link) ∙ never))
              | inr w ↦ absurd (ne (same_place a b a_in b_in w.number v.number))
            ]
          ]
    ]

    -- the view comes after a child that it names
    after_named : (a b : ℕ) → a ≢ b → a < length numbers → b < length numbers → get_or numbers a 0 ≡ number_of views view
        → IsBefore (get_or numbers b 0) (number_of views view) numbers order → Follows (length old) order a b
    after_named a b ne a_in b_in number before =
        let size = old_size in
        let all = sorted.size in
        let late_in = before.after.inside in
        let less = before.less in
        let late : before.late ≡ a = same_place before.late a (omega arith) a_in before.after.is number in
        let early : before.early ≡ b = alike views parent before.early b is above (omega arith) b_in before.before.is in
        inr (omega arith, omega arith, subst (λ p. get_or order p 0 ≡ p) late before.after.stays, subst (λ p. get_or order p 0 ≡ p) early before.before.stays)

    -- the view may name a child
    own_tie : (a b : ℕ) → a ≢ b → a < length numbers → b < length numbers → IsViewAt a → names axis link.rules (get_or old b no_link).id ≡ true
        → (leads axis old a b ≡ true) ⊎ Follows (length old) order a b
    own_tie a b ne a_in b_in v named = elim follows [
      | inl last ↦
          let all = sorted.size in
          let some = last.0 in
          let within = sorted.inside (length order - 1) (omega arith) in
          let size = old_size in
          let end : a ≡ get_or order (length order - 1) 0 = same_place a (get_or order (length order - 1) 0) a_in (omega arith) v.number last.1 in
          inr (inl (ne, end ∙ ap (λ count. get_or order (count - 1) 0) all))
      | inr may ↦
          let id : ℕ = (get_or old b no_link).id in
          let some = names-some axis link.rules id named in
          elim (may some.0 some.1) [
            | inl none ↦ absurd (some.3 (sym some.2 ∙ none))
            | inr (inl same) ↦
                let is_named : get_or (padded_ids axis own.rules) some.0 0 ≡ id = sym same ∙ some.2 in
                let by_own : names axis own.rules id ≡ true = subst (λ i. names axis own.rules i ≡ true) is_named (names-at axis own.rules some.0 some.1 (λ zero. some.3 (sym is_named ∙ zero))) in
                inl (leads_whole axis old a b ne (subst (λ (l : Link). names axis l.rules id ≡ true) (sym v.before) by_own))
            | inr (inr before) ↦
                let size = old_size in
                inr (after_named a b ne a_in b_in v.number
                (before_at (get_or (padded_ids axis link.rules) some.0 0) (number_of views view) numbers order kids b before (omega arith) (sym some.2)))
          ]
    ]

    tie : (a b : ℕ) → leads axis new a b ≡ true → (leads axis old a b ≡ true) ⊎ ((b < length old) × Follows (length old) order a b)
    tie a b led =
        let parts = leads_parts axis new a b led in
        let size = new_size in
        let before = old_size in
        let a_new = leads_from axis new a b led in
        let b_new = leads_inside axis new a b led in
        let a_in : a < length numbers = omega arith in
        let b_in : b < length numbers = omega arith in
        let named_old = named_before a b parts.0 a_in b_in parts.1 in
        elim (at_place a a_in) [
          | inl same ↦ inl (leads_whole axis old a b parts.0 (subst (λ (l : Link). names axis l.rules (get_or old b no_link).id ≡ true) same named_old))
          | inr v ↦ elim (own_tie a b parts.0 a_in b_in v (subst (λ (l : Link). names axis l.rules (get_or old b no_link).id ≡ true) v.after named_old)) [
            | inl led ↦ inl led
            | inr follows ↦ inr (omega arith, follows)
          ]
        ]

    stays : IsOrder (leads axis new) (length new) order
    stays = subst (λ count. IsOrder (leads axis new) count order) (old_size ∙ sym new_size) (order_kept (leads axis old) (leads axis new) (length old) order sorted tie)

  pub all_stay : (link.id ≡ own.id) ⊎ NamesNone link.id kids → (orders : PlainOrders) → AreOrders old orders
      → IsLastIn (number_of views view) numbers orders.across
      ⊎ MayNameAll (padded_ids Horizontal own.rules) (padded_ids Horizontal link.rules) (number_of views view) numbers orders.across kids
      → IsLastIn (number_of views view) numbers orders.down
      ⊎ MayNameAll (padded_ids Vertical own.rules) (padded_ids Vertical link.rules) (number_of views view) numbers orders.down kids
      → AreOrders new orders
  all_stay named orders sorted across down = record {
    across = stays named Horizontal orders.across sorted.across across;
    down = stays named Vertical orders.down sorted.down down;
  }
