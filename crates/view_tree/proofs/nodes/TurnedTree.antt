-- A tree whose views have turned with their parents.
use Rattle.std.proofs.Common.{◌≡◌, ℕ, Bool, false, List, [], ◌∷◌, refl, sym, ◌∙◌, ap, inl, inr}
use Rattle.std.proofs.lemmas.Bool.{cases_Bool}
use Rattle.std.specs.Prelude.{◌==◌, if◌then◌else◌}
use Rattle.view_model.specs.Classes.{is_group, is_relative}
use Rattle.view_model.specs.Cycles.{each, link_of}
use Rattle.view_model.specs.declared.placing.Direction.{Direction}
use Rattle.view_model.specs.Forest.{Forest, Nothing, Branch, count_of, sum_of}
use Rattle.view_model.specs.PlainTree.{PlainView}
use Rattle.view_tree.specs.tree.Directions.{directed_rows, with_direction}
use Rattle.view_tree.specs.node.Nodes.{has_id, holders_of}
use Rattle.view_tree.specs.tree.Groups.{HasNoOther, is_layout}
use Rattle.sibling_orders.specs.Ordering.{IsGrouped}
use Rattle.view_tree.specs.Rows.{Row, around, changed_at_key, count_of_key, count_of_number, count_where, key_where, keys_where, later_siblings}
use Rattle.view_tree.specs.Views.{AreDirected, GroupsOnly, Held, IsTree, Unscrolled, Views, plain_rows, scrolled}
use Rattle.view_tree.proofs.forest.IdLaws.{key_of, one_of}
use Rattle.view_tree.proofs.forest.SearchLaws.{search}
use Rattle.view_tree.proofs.orders.TreeLaws.{Groups, kept_along}

-- rows that differ at most in their directions and in how they run
pub record SameRow (row other : Row) : Type 0 where
  pub key : other.key ≡ row.key
  pub number : other.view.number ≡ row.view.number
  pub class : other.view.class ≡ row.view.class
  pub offset : other.view.facts.offset ≡ row.view.facts.offset
  pub id : other.view.facts.id ≡ row.view.facts.id
  pub rules : other.view.facts.rules ≡ row.view.facts.rules

-- trees of such rows
pub data Alike : Forest Row → Forest Row → Type 0 where
  No_rows : Alike Nothing Nothing
  Rows : {row other : Row} {kids siblings b a : Forest Row} → SameRow row other → Alike kids b → Alike siblings a → Alike (Branch row kids siblings) (Branch other b a)

pub same_row : (row : Row) → SameRow row row
same_row row = record { key = refl; number = refl; class = refl; offset = refl; id = refl; rules = refl }

pub alike_self : (t : Forest Row) → Alike t t
alike_self Nothing = No_rows
alike_self (Branch row kids siblings) = Rows (same_row row) (alike_self kids) (alike_self siblings)

pub alike_put : (key : ℕ) (direction : Direction) (t : Forest Row) → Alike t (changed_at_key key (with_direction direction) t)
alike_put key direction Nothing = No_rows
alike_put key direction (Branch row kids siblings) =
    elim (cases_Bool (row.key == key)) [
      | inl e ↦ rw e (Rows (record { key = refl; number = refl; class = refl; offset = refl; id = refl; rules = refl }) (alike_self kids) (alike_self siblings))
      | inr e ↦ rw e (Rows (same_row row) (alike_put key direction kids) (alike_put key direction siblings))
    ]

pub alike_directed : (above : Bool) {t u : Forest Row} → Alike t u → Alike t (directed_rows above u)
alike_directed above No_rows = No_rows
alike_directed above (Rows s b a) =
    Rows (record { key = s.key; number = s.number; class = s.class; offset = s.offset; id = s.id; rules = s.rules }) (alike_directed _ b) (alike_directed above a)

-- what is summed over such trees
pub sum-alike : (f : Row → ℕ) → ((row other : Row) → SameRow row other → f other ≡ f row) → {t u : Forest Row} → Alike t u → sum_of f u ≡ sum_of f t
sum-alike f same No_rows = refl
sum-alike f same (Rows {row = row} {other = other} s b a) = rw (same row other s, sum-alike f same b, sum-alike f same a) refl

pub count_of_key-alike : (key : ℕ) {t u : Forest Row} → Alike t u → count_of_key key u ≡ count_of_key key t
count_of_key-alike key alike = sum-alike (λ (row : Row). if row.key == key then 1 else 0) (λ row other s. ap (λ k. if k == key then 1 else 0) s.key) alike

pub number-alike : (number : ℕ) {t u : Forest Row} → Alike t u → count_of_number number u ≡ count_of_number number t
number-alike number alike = sum-alike (λ (row : Row). if row.view.number == number then 1 else 0) (λ row other s. ap (λ n. if n == number then 1 else 0) s.number) alike

pub count-alike : {t u : Forest Row} → Alike t u → count_of u ≡ count_of t
count-alike alike = sum-alike (λ (row : Row). 1) (λ row other s. refl) alike

pub count_where-alike : (passes : PlainView → Bool) → ((row other : Row) → SameRow row other → passes other.view ≡ passes row.view) → {t u : Forest Row} → Alike t u
    → count_where passes u ≡ count_where passes t
count_where-alike passes same alike = sum-alike (one_of passes) (λ row other s. ap (λ pass. if pass then 1 else 0) (same row other s)) alike

pub keys_where-alike : (passes : PlainView → Bool) → ((row other : Row) → SameRow row other → passes other.view ≡ passes row.view) → {t u : Forest Row} → Alike t u
    → keys_where passes u ≡ keys_where passes t
keys_where-alike passes same alike = sum-alike (key_of passes) (λ row other s. rw (same row other s, s.key) refl) alike

-- where views are
pub nothing-alike : {t u : Forest Row} → Alike t u → t ≡ Nothing → u ≡ Nothing
nothing-alike No_rows is = refl
nothing-alike (Rows s b a) is = absurd (cc)

pub later_siblings-alike : {t u : Forest Row} → Alike t u → later_siblings t ≡ Nothing → later_siblings u ≡ Nothing
later_siblings-alike No_rows is = refl
later_siblings-alike (Rows s b a) is = nothing-alike a is

pub around-alike : (outer : List ℕ) (key : ℕ) {t u : Forest Row} → Alike t u → around outer key u ≡ around outer key t
around-alike outer key No_rows = refl
around-alike outer key (Rows {row = row} s b a) =
    rw (s.key, count_of_key-alike key b, around-alike (row.key ∷ outer) key b, around-alike outer key a) refl

pub unscrolled-alike : {t u : Forest Row} → Alike t u → Unscrolled t → Unscrolled u
unscrolled-alike No_rows flat = tt
unscrolled-alike (Rows s b a) flat = (s.offset ∙ flat.0, unscrolled-alike b flat.1, unscrolled-alike a flat.2)

pub groups-alike : {t u : Forest Row} → Alike t u → GroupsOnly t → GroupsOnly u
groups-alike No_rows groups = tt
groups-alike (Rows s b a) groups =
    (λ leaf. nothing-alike b (groups.0 (ap is_group (sym s.class) ∙ leaf)), groups-alike b groups.1, groups-alike a groups.2)

pub key_where-alike : (passes : PlainView → Bool) → ((row other : Row) → SameRow row other → passes other.view ≡ passes row.view) → {t u : Forest Row} → Alike t u
    → key_where passes u ≡ key_where passes t
key_where-alike passes same No_rows = refl
key_where-alike passes same (Rows {row = row} {other = other} {kids = kids} {siblings = siblings} {b = b} {a = a} s below after) =
    rw (
      search passes other b a,
      search passes row kids siblings,
      same row other s,
      s.key,
      key_where-alike passes same below,
      key_where-alike passes same after,
    ) refl

pub holders_of-alike : (id : ℕ) {t u : Forest Row} → Alike t u → holders_of id u ≡ holders_of id t
holders_of-alike id alike =
    rw (
      count_where-alike (has_id id) (λ row other s. ap (λ x. x == id) s.id) alike,
      keys_where-alike (has_id id) (λ row other s. ap (λ x. x == id) s.id) alike,
    ) refl

-- what is kept of relative layouts
pub each-alike : {X : Type 0} (f : PlainView → X) (old new : ℕ → Held) → ((row other : Row) → SameRow row other → f (scrolled new other) ≡ f (scrolled old row))
    → {t u : Forest Row} → Alike t u → each f (plain_rows new u) ≡ each f (plain_rows old t)
each-alike f old new same No_rows = refl
each-alike f old new same (Rows {row = row} {other = other} s b a) = rw (same row other s, each-alike f old new same a) refl

pub grouped-alike : (groups : Groups) (old new : ℕ → Held) {t u : Forest Row} → Alike t u → IsGrouped groups (plain_rows old t) → IsGrouped groups (plain_rows new u)
grouped-alike groups old new No_rows grouped = tt
grouped-alike groups old new (Rows {row = row} {other = other} {kids = kids} {b = b} s below after) grouped = (
  λ relative. rw s.number
      (kept_along (plain_rows old kids) (plain_rows new b) (groups row.view.number)
      (each-alike link_of old new (λ row other s. rw (s.id, s.rules) refl) below)
      (each-alike (λ (view : PlainView). view.number) old new (λ row other s. s.number) below)
      (grouped.0 (ap is_relative (sym s.class) ∙ relative))),
  grouped-alike groups old new below grouped.1,
  grouped-alike groups old new after grouped.2,
)

pub only-alike : (groups : Groups) {t u : Forest Row} → Alike t u → HasNoOther groups t → HasNoOther groups u
only-alike groups alike only = λ k none.
    only k (sym (count_where-alike (is_layout k) (λ row other s. rw (s.number, s.class) refl) alike) ∙ none)

-- such a tree keeps what every tree keeps
pub is_tree-alike : (old new : Views) → IsTree old → Alike old.tree new.tree → AreDirected false new.tree → new.next ≡ old.next → IsTree new
is_tree-alike old new is alike directed next = record {
  root = later_siblings-alike alike is.root;
  keys = λ key. rw (count_of_key-alike key alike) (is.keys key);
  numbers = λ number. rw (number-alike number alike) (is.numbers number);
  earlier = λ number later. number-alike number alike ∙ is.earlier number (rw next at later);
  few = rw (count-alike alike) is.few;
  shallow = λ key live. rw (around-alike [] key alike) (is.shallow key (rw (count_of_key-alike key alike) at live));
  unscrolled = unscrolled-alike alike is.unscrolled;
  groups = groups-alike alike is.groups;
  directed = directed;
}
