-- The names of classes in layout files, by what is before their word.
use Rattle.std.proofs.Common.{◌≡◌, ◌≢◌, ℕ, false, refl, ap, sym, ◌∙◌, inl, inr, List, [], ◌∷◌, ◌++◌, Some, None}
use Rattle.std.specs.Prelude.{if◌then◌else◌, codes}
use Rattle.std.specs.Map.{lookup}
use Rattle.std.specs.Str.{bytes_eq}
use Rattle.std.proofs.lemmas.Bool.{cases_Bool}
use Rattle.std.proofs.lemmas.Slice.Eq.{bytes_eq-Decides}
use Rattle.view_model.proofs.ClassLaws.{class_named-is}
use Rattle.view_model.specs.declared.class.Class.{Class}
use Rattle.view_model.specs.declared.class.Class.TheVariants.{View}
use Rattle.view_model.specs.Classes.{class_named, class_word, classes}
use Rattle.view_model.specs.Words.{named}
use Rattle.inflater.specs.ClassNames.{class_of, names_of, package_of}

other_word : (word : List ℕ) → class_named word ≢ Some View → bytes_eq word (codes "View") ≡ false
unfolding class_named
other_word word other = elim (cases_Bool (bytes_eq word (codes "View"))) [
  | inl same ↦ absurd (other (rw same refl))
  | inr differs ↦ differs
]

-- after the package of most classes
widget_step : (class : Class) (more : List Class) (word : List ℕ) → bytes_eq word (codes "View") ≡ false
    → lookup (bytes_eq (codes "android.widget." ++ word)) (names_of more) ≡ named class_word more word
    → lookup (bytes_eq (codes "android.widget." ++ word)) (names_of (class ∷ more)) ≡ named class_word (class ∷ more) word
widget_step View more word other rest = rw other rest
widget_step class more word other rest = ap (λ found. if bytes_eq word (class_word class) then Some class else found) rest

widgets : (list : List Class) (word : List ℕ) → bytes_eq word (codes "View") ≡ false
    → lookup (bytes_eq (codes "android.widget." ++ word)) (names_of list) ≡ named class_word list word
widgets [] word other = refl
widgets (class ∷ more) word other = widget_step class more word other (widgets more word other)

of_widget : (word : List ℕ) → class_named word ≢ Some View → class_of (codes "android.widget." ++ word) ≡ class_named word
unfolding class_of class_named
of_widget word other = widgets classes word (other_word word other)

not_none : (word : List ℕ) → class_named word ≡ None → class_named word ≢ Some View
not_none word none = λ some. let e : None ≡ Some View = sym none ∙ some in absurd (cc)

not_view : (word : List ℕ) (class : Class) → class_named word ≡ Some class → class ≢ View → class_named word ≢ Some View
not_view word class is other = λ some. let e : Some class ≡ Some View = sym is ∙ some in let same : class ≡ View = cc in other same

pub widget_none : (name word : List ℕ) → name ≡ codes "android.widget." ++ word → class_named word ≡ None → class_of name ≡ None
widget_none name word is none = ap class_of is ∙ of_widget word (not_none word none) ∙ none

pub widget_view : (name word : List ℕ) → name ≡ codes "android.widget." ++ word → class_named word ≡ Some View → class_of name ≡ None
unfolding class_of
widget_view name word is view = rw (is, class_named-is word View view) refl

pub widget_other : (name word : List ℕ) (class : Class) → name ≡ codes "android.widget." ++ word → class_named word ≡ Some class → class ≢ View → class_of name ≡ Some class
widget_other name word class is names other = ap class_of is ∙ of_widget word (not_view word class names other) ∙ names

-- after the package of a plain view
view_step : (class : Class) (more : List Class) (word : List ℕ) → bytes_eq word (codes "View") ≡ false
    → lookup (bytes_eq (codes "android.view." ++ word)) (names_of more) ≡ None
    → lookup (bytes_eq (codes "android.view." ++ word)) (names_of (class ∷ more)) ≡ None
view_step View more word other rest = rw other rest
view_step class more word other rest = rest

views : (list : List Class) (word : List ℕ) → bytes_eq word (codes "View") ≡ false → lookup (bytes_eq (codes "android.view." ++ word)) (names_of list) ≡ None
views [] word other = refl
views (class ∷ more) word other = view_step class more word other (views more word other)

no_view : (word : List ℕ) → class_named word ≢ Some View → class_of (codes "android.view." ++ word) ≡ None
unfolding class_of
no_view word other = views classes word (other_word word other)

pub view_none : (name word : List ℕ) → name ≡ codes "android.view." ++ word → class_named word ≡ None → class_of name ≡ None
view_none name word is none = ap class_of is ∙ no_view word (not_none word none)

pub view_view : (name word : List ℕ) → name ≡ codes "android.view." ++ word → class_named word ≡ Some View → class_of name ≡ Some View
unfolding class_of
view_view name word is view = rw (is, class_named-is word View view) refl

pub view_other : (name word : List ℕ) (class : Class) → name ≡ codes "android.view." ++ word → class_named word ≡ Some class → class ≢ View → class_of name ≡ None
view_other name word class is names other = ap class_of is ∙ no_view word (not_view word class names other)

-- without a package
differing : (some other : List ℕ) → some ≢ other → bytes_eq some other ≡ false
differing some other apart = elim (cases_Bool (bytes_eq some other)) [
  | inl same ↦ absurd (apart ((bytes_eq-Decides some other).0 same))
  | inr differs ↦ differs
]

outside : (class : Class) (name : List ℕ) → ((word : List ℕ) → name ≢ codes "android.widget." ++ word) → ((word : List ℕ) → name ≢ codes "android.view." ++ word)
    → bytes_eq name (package_of class ++ class_word class) ≡ false
outside View name widget view = differing name _ (view (codes "View"))
outside class name widget view = differing name _ (widget (class_word class))

alone : (list : List Class) (name : List ℕ) → ((word : List ℕ) → name ≢ codes "android.widget." ++ word) → ((word : List ℕ) → name ≢ codes "android.view." ++ word)
    → lookup (bytes_eq name) (names_of list) ≡ named class_word list name
alone [] name widget view = refl
alone (class ∷ more) name widget view =
    rw (outside class name widget view) (ap (λ found. if bytes_eq name (class_word class) then Some class else found) (alone more name widget view))

pub of_word : (name : List ℕ) → ((word : List ℕ) → name ≢ codes "android.widget." ++ word) → ((word : List ℕ) → name ≢ codes "android.view." ++ word)
    → class_of name ≡ class_named name
unfolding class_of class_named
of_word name widget view = alone classes name widget view
