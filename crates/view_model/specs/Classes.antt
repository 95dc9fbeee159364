-- The words of classes, and what a view has by its class.
use Rattle.std.specs.Prelude.{ℕ, Bool, true, false, List, [], ◌∷◌, Option, codes}
use Rattle.view_model.specs.declared.class.Class.{Class}
use Rattle.view_model.specs.declared.class.Class.TheVariants.{View, TextView, FrameLayout, LinearLayout, ScrollView}
use Rattle.view_model.specs.declared.class.Class.TheVariants.{RelativeLayout}
use Rattle.view_model.specs.Words.{named}

-- the word of a class, in scripts and in layout files
abbrev pub class_word : Class → List ℕ
class_word View = codes "View"
class_word TextView = codes "TextView"
class_word FrameLayout = codes "FrameLayout"
class_word LinearLayout = codes "LinearLayout"
class_word RelativeLayout = codes "RelativeLayout"
class_word ScrollView = codes "ScrollView"

abbrev pub classes : List Class
classes = View ∷ TextView ∷ FrameLayout ∷ LinearLayout ∷ RelativeLayout ∷ ScrollView ∷ []

-- the class that has this word, if there is one
unfoldable pub class_named : List ℕ → Option Class
class_named word = named class_word classes word

-- whether a view of this class may have children
abbrev pub is_group : Class → Bool
is_group View = false
is_group TextView = false
is_group FrameLayout = true
is_group LinearLayout = true
is_group ScrollView = true
is_group RelativeLayout = true

-- whether a view of this class has a text
abbrev pub has_text : Class → Bool
has_text View = false
has_text TextView = true
has_text FrameLayout = false
has_text LinearLayout = false
has_text ScrollView = false
has_text RelativeLayout = false

-- whether a view of this class lays its children in a line, and so has an orientation, a sum of weights and a gravity
-- for them
abbrev pub lays_in_line : Class → Bool
lays_in_line View = false
lays_in_line TextView = false
lays_in_line FrameLayout = false
lays_in_line LinearLayout = true
lays_in_line ScrollView = false
lays_in_line RelativeLayout = false

-- whether a view of this class ties its children to one another
abbrev pub is_relative : Class → Bool
is_relative View = false
is_relative TextView = false
is_relative FrameLayout = false
is_relative LinearLayout = false
is_relative ScrollView = false
is_relative RelativeLayout = true

-- whether a view of this class has at most one child
abbrev pub takes_one_child : Class → Bool
takes_one_child View = false
takes_one_child TextView = false
takes_one_child FrameLayout = false
takes_one_child LinearLayout = false
takes_one_child ScrollView = true
takes_one_child RelativeLayout = false

-- whether a view of this class moves its child up by an offset, and may have its child fill it; it handles touches by
-- moving, and in no other way
abbrev pub scrolls : Class → Bool
scrolls View = false
scrolls TextView = false
scrolls FrameLayout = false
scrolls LinearLayout = false
scrolls ScrollView = true
scrolls RelativeLayout = false
