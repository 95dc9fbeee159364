-- What names a class, and what the measuring, the range of offsets and the places of children depend on, whatever the
-- class.
use Rattle.std.proofs.Common.{◌≡◌, ℕ, ℤ, true, false, Option, Some, None, List, refl, ap, inl, inr}
use Rattle.std.proofs.lemmas.Bool.{cases_Bool}
use Rattle.std.specs.Prelude.{if◌then◌else◌, ◌-ℤ◌}
use Rattle.geom_core.specs.Limits.{clamp_size}
use Rattle.geom_core.specs.declared.geometry.Rect.{Rect}
use Rattle.view_model.proofs.WordLaws.{named_is}
use Rattle.view_model.specs.declared.facts.Facts.{Facts}
use Rattle.view_model.specs.declared.class.Class.{Class}
use Rattle.view_model.specs.declared.class.Class.TheVariants.{View, FrameLayout, LinearLayout, ScrollView, RelativeLayout}
use Rattle.view_model.specs.Classes.{class_named, class_word, classes, is_group, is_relative, scrolls}
use Rattle.view_model.specs.Facts.{layout_facts, padding_down}
use Rattle.view_model.specs.Geometry.{size_of_rect}
use Rattle.view_model.specs.Layout.{Spot, manner_by, place_by}
use Rattle.view_model.specs.Leaf.{leaf_rule, leaf_size}
use Rattle.view_model.specs.Measuring.{ByRule, Measured, Specs}
use Rattle.view_model.specs.Offsets.{range_by}
use Rattle.view_model.specs.PlainTree.{PlainView}

-- the word of a class names it, and no other word does
pub class_named-word : (class : Class) → class_named (class_word class) ≡ Some class
unfolding class_named
class_named-word View = refl
class_named-word _ = refl

pub class_named-is : (word : List ℕ) (class : Class) → class_named word ≡ Some class → word ≡ class_word class
unfolding class_named
class_named-is word class is = named_is class_word classes word class is

-- a view of a class without children has its size at once
pub manner_leaf : (class : Class) (view : PlainView) (specs : Specs) → is_group class ≡ false
    → manner_by class view specs ≡ ByRule (leaf_rule (leaf_size class view specs))
manner_leaf FrameLayout view specs alone = absurd (cc)
manner_leaf LinearLayout view specs alone = absurd (cc)
manner_leaf ScrollView view specs alone = absurd (cc)
manner_leaf RelativeLayout view specs alone = absurd (cc)
manner_leaf _ view specs alone = refl

-- of a view's facts a range depends on its padding alone
pub range_padded : (class : Class) (one other : Facts) (rect child : Option Rect) → padding_down one ≡ padding_down other
    → range_by class one rect child ≡ range_by class other rect child
range_padded class one other None child same = refl
range_padded class one other (Some rect) None same = refl
range_padded class one other (Some rect) (Some child) same =
    ap (λ padding. if scrolls class then Some (clamp_size ((size_of_rect child).h -ℤ ((size_of_rect rect).h -ℤ padding))) else None) same

-- it does not look at the offset
pub range_unscrolled : (class : Class) (own : Facts) (offset : ℤ) (rect child : Option Rect)
    → range_by class (record own { offset = offset }) rect child ≡ range_by class own rect child
range_unscrolled class own offset rect child = range_padded class (record own { offset = offset }) own rect child refl

-- and only at what layout reads
pub range_layout : (class : Class) (own : Facts) (rect child : Option Rect)
    → range_by class (layout_facts own) rect child ≡ range_by class own rect child
range_layout class own rect child = range_padded class (layout_facts own) own rect child refl

-- a view that has no bounds has no range
pub range_nowhere : (class : Class) (own : Facts) (child : Option Rect) → range_by class own None child ≡ None
range_nowhere class own child = elim (cases_Bool (scrolls class)) [ inl moves ↦ rw moves refl | inr stays ↦ rw stays refl ]

-- a view that does not scroll has none either
pub range_still : (class : Class) (own : Facts) (rect child : Option Rect) → scrolls class ≡ false → range_by class own rect child ≡ None
range_still class own rect child stays = rw stays refl

-- only a view that ties its children to one another looks at the sides that measuring found for them
pub place_sides : (class : Class) (spot : Spot) (before : List Measured) (kid : Measured) (some other : Option Rect)
    → (is_relative class ≡ true → some ≡ other) → place_by class spot before kid some ≡ place_by class spot before kid other
place_sides class spot before kid some other same = elim (cases_Bool (is_relative class)) [
  | inl tied ↦ ap (place_by class spot before kid) (same tied)
  | inr untied ↦ rw untied refl
]

-- the class that does so
pub relative_is : (class : Class) → is_relative class ≡ true → class ≡ RelativeLayout
relative_is RelativeLayout tied = refl
relative_is _ tied = absurd (cc)
