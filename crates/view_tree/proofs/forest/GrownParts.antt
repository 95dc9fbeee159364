-- What each view is, and how often its key occurs, once others were added below one.
use Rattle.std.proofs.Common.{◌≡◌, ℕ, ◌<◌, ◌≤◌, true, Option, Some, None, refl, sym, ◌∙◌, ap, arith, inl, inr}
use Rattle.std.proofs.lemmas.Bool.{cases_Bool, eq-eqb}
use Rattle.std.specs.Prelude.{◌==◌}
use Rattle.view_model.specs.Forest.{Forest, Nothing, Branch, joined}
use Rattle.view_model.specs.Layout.{unscrolled}
use Rattle.view_model.specs.PlainTree.{PlainView}
use Rattle.view_tree.specs.Rows.{Row, count_of_key, grown_at_key, head_view, leaf, part_from, with_child}
use Rattle.view_tree.proofs.forest.KeyLaws.{absent, or_else_live, zero_or_more}
use Rattle.view_tree.proofs.forest.NumberLaws.{count_of_key-grown_none, count_of_key-grown_some, count_of_key-joined, grown_absent}

-- no key becomes less frequent
pub count_of_key-grown_more : (other parent : ℕ) (new tree : Forest Row) → count_of_key other tree ≤ count_of_key other (grown_at_key parent new tree)
count_of_key-grown_more other parent new Nothing = omega arith
count_of_key-grown_more other parent new (Branch row kids siblings) =
    elim (cases_Bool (row.key == parent)) [
      | inl e ↦ rw e (let j = count_of_key-joined other kids new in omega arith)
      | inr e ↦ rw e (let b = count_of_key-grown_more other parent new kids in let a = count_of_key-grown_more other parent new siblings in omega arith)
    ]

pub count_of_key-with_child_more : (other : ℕ) (parent : Option ℕ) (new tree : Forest Row) → (parent ≡ None → tree ≡ Nothing)
    → count_of_key other tree ≤ count_of_key other (with_child parent new tree)
count_of_key-with_child_more other None new tree empty = rw (empty refl) (omega arith)
count_of_key-with_child_more other (Some parent) new tree empty = count_of_key-grown_more other parent new tree

-- what is read of the part from a view on stays if others are added after the view, or below another one
module _ {A : Type 0} (read : Forest Row → A) (key : ℕ) (new : Forest Row) (none : count_of_key key new ≡ 0)
    (following : (row : Row) (kids siblings : Forest Row) → read (Branch row kids (joined siblings new)) ≡ read (Branch row kids siblings)) where
  pub read-joined : (list : Forest Row) → read (part_from key (joined list new)) ≡ read (part_from key list)
  read-joined Nothing = ap read (absent key new none)
  read-joined (Branch row kids siblings) =
      elim (cases_Bool (row.key == key)) [
        | inl e ↦ rw e (following row kids siblings)
        | inr e ↦ rw e (elim (zero_or_more (count_of_key key kids)) [
          | inl z ↦ rw (absent key kids z) (read-joined siblings)
          | inr l ↦ ap read (or_else_live key kids (part_from key (joined siblings new)) l ∙ sym (or_else_live key kids (part_from key siblings) l))
        ])
      ]

  module _ (parent : ℕ)
      (inside : (row : Row) (kids siblings : Forest Row) → read (Branch row (grown_at_key parent new kids) (grown_at_key parent new siblings)) ≡ read (Branch row kids siblings))
      (below : (row : Row) (kids siblings : Forest Row) → (row.key == key) ≡ true → (row.key == parent) ≡ true → read (Branch row (joined kids new) siblings) ≡ read (Branch row kids siblings)) where
    pub read-grown : (tree : Forest Row) → read (part_from key (grown_at_key parent new tree)) ≡ read (part_from key tree)
    read-grown Nothing = refl
    read-grown (Branch row kids siblings) =
        elim (cases_Bool (row.key == parent)) [
          | inl e ↦ elim (cases_Bool (row.key == key)) [
            | inl f ↦ rw (e, f) (below row kids siblings f e)
            | inr f ↦ rw (e, f) (elim (zero_or_more (count_of_key key kids)) [
              | inl z ↦
                  let y : count_of_key key (joined kids new) ≡ 0 = let j = count_of_key-joined key kids new in omega arith in
                  rw (absent key kids z, absent key (joined kids new) y)
              | inr l ↦
                  let m : 0 < count_of_key key (joined kids new) = let j = count_of_key-joined key kids new in omega arith in
                  ap read (or_else_live key (joined kids new) (part_from key siblings) m) ∙ read-joined kids
                  ∙ ap read (sym (or_else_live key kids (part_from key siblings) l))
            ])
          ]
          | inr e ↦ elim (cases_Bool (row.key == key)) [
            | inl f ↦ rw (e, f) (inside row kids siblings)
            | inr f ↦ rw (e, f) (elim (zero_or_more (count_of_key key kids)) [
              | inl z ↦
                  let y : count_of_key key (grown_at_key parent new kids) ≡ 0 = let j = count_of_key-grown_none key parent new kids none in omega arith in
                  rw (absent key kids z, absent key (grown_at_key parent new kids) y) (read-grown siblings)
              | inr l ↦
                  let m : 0 < count_of_key key (grown_at_key parent new kids) = let j = count_of_key-grown_more key parent new kids in omega arith in
                  ap read (or_else_live key (grown_at_key parent new kids) (part_from key (grown_at_key parent new siblings)) m)
                  ∙ read-grown kids
                  ∙ ap read (sym (or_else_live key kids (part_from key siblings) l))
            ])
          ]
        ]

-- a view stays what it is if others are added after it or below it
pub head_view-grown : (key parent : ℕ) (new tree : Forest Row) → count_of_key key new ≡ 0
    → head_view (part_from key (grown_at_key parent new tree)) ≡ head_view (part_from key tree)
head_view-grown key parent new tree none =
    read-grown head_view key new none (λ row kids siblings. refl) parent (λ row kids siblings. refl) (λ row kids siblings f e. refl) tree

-- a new view is what it is among the new ones
part_from-following : (key : ℕ) (list more : Forest Row) → count_of_key key list ≡ 0 → part_from key (joined list more) ≡ part_from key more
part_from-following key Nothing more none = refl
part_from-following key (Branch row kids siblings) more none =
    elim (cases_Bool (row.key == key)) [
      | inl e ↦ absurd (let none = rw e at none in omega arith)
      | inr e ↦ rw (e, absent key kids (omega arith)) (part_from-following key siblings more (omega arith))
    ]

pub part_from-new : (key parent : ℕ) (new tree : Forest Row) → 0 < count_of_key parent tree → count_of_key key tree ≡ 0 → 0 < count_of_key key new
    → part_from key (grown_at_key parent new tree) ≡ part_from key new
part_from-new key parent new Nothing live none there = absurd (omega arith)
part_from-new key parent new (Branch row kids siblings) live none there =
    elim (cases_Bool (row.key == key)) [
      | inl f ↦ absurd (let none = rw f at none in omega arith)
      | inr f ↦
          let none = rw f at none in
          elim (cases_Bool (row.key == parent)) [
            | inl e ↦
                let m : 0 < count_of_key key (joined kids new) = let j = count_of_key-joined key kids new in omega arith in
                rw (e, f) (or_else_live key (joined kids new) (part_from key siblings) m ∙ part_from-following key kids new (omega arith))
            | inr e ↦
                let live = rw e at live in
                elim (zero_or_more (count_of_key parent kids)) [
                  | inl y ↦ rw (e, f, grown_absent parent new kids y, absent key kids (let n = none in omega arith)) (part_from-new key parent new siblings (omega arith) (omega arith) there)
                  | inr l ↦
                      let m : 0 < count_of_key key (grown_at_key parent new kids) = count_of_key-grown_some key parent new kids l there in
                      rw (e, f)
                      (or_else_live key (grown_at_key parent new kids) (part_from key (grown_at_key parent new siblings)) m ∙ part_from-new key parent new kids l (omega arith) there)
                ]
          ]
    ]

pub head_view-new : (key parent : ℕ) (new tree : Forest Row) → 0 < count_of_key parent tree → count_of_key key tree ≡ 0 → 0 < count_of_key key new
    → head_view (part_from key (grown_at_key parent new tree)) ≡ head_view (part_from key new)
head_view-new key parent new tree live none there = ap head_view (part_from-new key parent new tree live none there)

pub head_view-leaf : (key : ℕ) (view : PlainView) → head_view (part_from key (leaf key view)) ≡ unscrolled view
head_view-leaf key view = rw (eq-eqb key key refl)

-- views are added below one of the new ones
grown_at_key-joined : (parent : ℕ) (new list more : Forest Row) → count_of_key parent list ≡ 0
    → grown_at_key parent new (joined list more) ≡ joined list (grown_at_key parent new more)
grown_at_key-joined parent new Nothing more none = refl
grown_at_key-joined parent new (Branch row kids siblings) more none =
    elim (cases_Bool (row.key == parent)) [
      | inl e ↦ absurd (let none = rw e at none in omega arith)
      | inr e ↦ rw (e, grown_absent parent new kids (omega arith), grown_at_key-joined parent new siblings more (omega arith))
    ]

pub grown_at_key-inside : (outer parent : ℕ) (new added tree : Forest Row) → count_of_key parent tree ≡ 0
    → grown_at_key parent new (grown_at_key outer added tree) ≡ grown_at_key outer (grown_at_key parent new added) tree
grown_at_key-inside outer parent new added Nothing none = refl
grown_at_key-inside outer parent new added (Branch row kids siblings) none =
    elim (cases_Bool (row.key == parent)) [
      | inl f ↦ absurd (let none = rw f at none in omega arith)
      | inr f ↦
          let none = rw f at none in
          elim (cases_Bool (row.key == outer)) [
            | inl e ↦ rw (e, f, grown_at_key-joined parent new kids added (omega arith), grown_absent parent new siblings (omega arith))
            | inr e ↦ rw (e, f, grown_at_key-inside outer parent new added kids (omega arith), grown_at_key-inside outer parent new added siblings (omega arith))
          ]
    ]

pub with_child-inside : (outer : Option ℕ) (parent : ℕ) (new added tree : Forest Row) → count_of_key parent tree ≡ 0
    → grown_at_key parent new (with_child outer added tree) ≡ with_child outer (grown_at_key parent new added) tree
with_child-inside None parent new added tree none = refl
with_child-inside (Some outer) parent new added tree none = grown_at_key-inside outer parent new added tree none
