-- Trees that have gained views, and gain more below these.
use Rattle.std.proofs.Common.{◌≡◌, ◌≢◌, ℕ, ◌<◌, Option, Some, None, refl, sym, ◌∙◌, ap, subst, arith, ◌⊎◌, inl, inr}
use Rattle.std.proofs.lemmas.Bool.{cases_eq, eq-eqb}
use Rattle.std.specs.Prelude.{◌==◌}
use Rattle.view_model.specs.Forest.{Forest, Nothing, Branch, joined}
use Rattle.view_model.specs.Layout.{unscrolled}
use Rattle.view_model.specs.PlainTree.{PlainView}
use Rattle.view_tree.specs.tree.Attached.{Attached}
use Rattle.view_tree.specs.tree.Grafted.{Gained}
use Rattle.view_tree.specs.Rows.{Row, count_of_key, grown_at_key, leaf, with_child}
use Rattle.view_tree.specs.Views.{Held, Views}
use Rattle.view_tree.proofs.forest.ForestLaws.{grown_where-again, grown_where-nothing}
use Rattle.view_tree.proofs.forest.GrownParts.{count_of_key-grown_more, count_of_key-with_child_more, grown_at_key-inside, with_child-inside}
use Rattle.view_tree.proofs.forest.NumberLaws.{count_of_key-grown_none, count_of_key-grown_some, count_of_key-joined, count_of_key-leaf_other, count_of_key-leaf_own}

-- nothing was added yet
pub gained_nothing : (start : Views) (outermost : ℕ) → Gained start (Some outermost) Nothing start
gained_nothing start outermost = record {
  unused = λ key there. absurd (omega arith);
  tree = sym (grown_where-nothing (λ (row : Row). row.key == outermost) start.tree);
  made = λ key there. absurd (omega arith);
  bare = λ key there. absurd (omega arith);
  others = λ key none. refl;
}

-- one more view was added below one
pub record GainedMore (start : Views) (outermost : ℕ) (added : Forest Row) (key : ℕ) (new : Views) : Type 0 where
  pub more : Forest Row
  pub gained : Gained start (Some outermost) more new
  pub keeps : (other : ℕ) → 0 < count_of_key other added → 0 < count_of_key other more
  pub own : 0 < count_of_key key more

module _ (start now new : Views) (outermost parent key : ℕ) (view : PlainView) (added : Forest Row)
    (gained : Gained start (Some outermost) added now) (came : Attached now (Some parent) view key new) where
  vacant : count_of_key key start.tree ≡ 0
  vacant =
      let le = count_of_key-grown_more key outermost added start.tree in
      let none : count_of_key key (grown_at_key outermost added start.tree) ≡ 0 = rw (sym gained.tree) came.unused in
      omega arith

  gained_with : (more : Forest Row) → new.tree ≡ grown_at_key outermost more start.tree → ((other : ℕ) → other ≢ key → count_of_key other more ≡ count_of_key other added)
      → 0 < count_of_key key more → ((other : ℕ) → 0 < count_of_key other added → 0 < count_of_key other more) → GainedMore start outermost added key new
  gained_with more tree same own keeps = record {
    more = more;
    gained = record {
      unused = λ other there. elim (cases_eq other key) [
        | inl e ↦ rw e vacant
        | inr ne ↦ gained.unused other (let s = same other ne in omega arith)
      ];
      tree = tree;
      made = λ other there. elim (cases_eq other key) [
        | inl e ↦ rw e (ap (λ (held : Held). held.state) came.held)
        | inr ne ↦ ap (λ (held : Held). held.state) (came.others other ne) ∙ gained.made other (let s = same other ne in omega arith)
      ];
      bare = λ other there. elim (cases_eq other key) [
        | inl e ↦ rw e (ap (λ (held : Held). held.cache) came.held)
        | inr ne ↦ ap (λ (held : Held). held.cache) (came.others other ne) ∙ gained.bare other (let s = same other ne in omega arith)
      ];
      others = λ other none.
          let ne : other ≢ key = λ e. let none : count_of_key key more ≡ 0 = rw e at none in absurd (omega arith) in
          came.others other ne ∙ gained.others other (let s = same other ne in omega arith);
    };
    keeps = keeps;
    own = own;
  }

  -- the parent is the outermost view, or one of those that were added
  pub gained_more : (parent ≡ outermost) ⊎ (0 < count_of_key parent added) → GainedMore start outermost added key new
  gained_more where_is =
      let one = count_of_key-leaf_own key view in
      elim where_is [
        | inl e ↦
            gained_with (joined added (leaf key view))
            (came.tree ∙ ap (grown_at_key parent (leaf key view)) gained.tree ∙ ap (λ p. grown_at_key p (leaf key view) (grown_at_key outermost added start.tree)) e
            ∙ grown_where-again (λ (row : Row). row.key == outermost) added (leaf key view) start.tree)
            (λ other ne. let j = count_of_key-joined other added (leaf key view) in let z = count_of_key-leaf_other other key view ne in omega arith)
            (let j = count_of_key-joined key added (leaf key view) in omega arith)
            (λ other there. let j = count_of_key-joined other added (leaf key view) in omega arith)
        | inr there ↦
            gained_with (grown_at_key parent (leaf key view) added)
            (came.tree ∙ ap (grown_at_key parent (leaf key view)) gained.tree ∙ grown_at_key-inside outermost parent (leaf key view) added start.tree (gained.unused parent there))
            (λ other ne. count_of_key-grown_none other parent (leaf key view) added (count_of_key-leaf_other other key view ne))
            (count_of_key-grown_some key parent (leaf key view) added there (omega arith))
            (λ other there. let le = count_of_key-grown_more other parent (leaf key view) added in omega arith)
      ]

-- the outermost view was added, and then what is below it
pub gained_whole : (old mid new : Views) (parent : Option ℕ) (key : ℕ) (view : PlainView) (added : Forest Row) → (parent ≡ None → old.tree ≡ Nothing)
    → Attached old parent view key mid → 0 < count_of_key key mid.tree → Gained mid (Some key) added new
    → Gained old parent (Branch (record { key = key; view = unscrolled view }) added Nothing) new
gained_whole old mid new parent key view added empty came live gained =
    let whole : Forest Row = Branch (record { key = key; view = unscrolled view }) added Nothing in
    let grown : grown_at_key key added (leaf key view) ≡ whole = rw (eq-eqb key key refl) refl in
    let own : count_of_key key added ≡ 0 = once (count_of_key key added) (λ there. let none = gained.unused key there in omega arith) in
    let other_is : (other : ℕ) → other ≢ key → count_of_key other whole ≡ count_of_key other added =
    λ other ne. let z = count_of_key-leaf_other other key view ne in omega arith in
    record {
      unused = λ other there. elim (cases_eq other key) [
        | inl e ↦ rw e came.unused
        | inr ne ↦
            let none = gained.unused other (let s = other_is other ne in omega arith) in
            let le = count_of_key-with_child_more other parent (leaf key view) old.tree empty in
            let now : count_of_key other (with_child parent (leaf key view) old.tree) ≡ 0 = rw (sym came.tree) none in
            omega arith
      ];
      tree = gained.tree ∙ ap (grown_at_key key added) came.tree ∙ with_child-inside parent key added (leaf key view) old.tree came.unused
          ∙ ap (λ more. with_child parent more old.tree) grown;
      made = λ other there. elim (cases_eq other key) [
        | inl e ↦ rw e (ap (λ (held : Held). held.state) (gained.others key own ∙ came.held))
        | inr ne ↦ gained.made other (let s = other_is other ne in omega arith)
      ];
      bare = λ other there. elim (cases_eq other key) [
        | inl e ↦ rw e (ap (λ (held : Held). held.cache) (gained.others key own ∙ came.held))
        | inr ne ↦ gained.bare other (let s = other_is other ne in omega arith)
      ];
      others = λ other none.
          let ne : other ≢ key = λ e. let none = subst (λ k. count_of_key k whole ≡ 0) e none in let l = count_of_key-leaf_own key view in absurd (omega arith) in
          gained.others other (let s = other_is other ne in omega arith) ∙ came.others other ne;
    }
  where
    once : (n : ℕ) → (0 < n → ⊥) → n ≡ 0
    once n not = omega arith
