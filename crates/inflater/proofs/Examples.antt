-- Worked examples: names of classes, which elements are below which, and the first refusal.
use Rattle.std.proofs.Common.{◌≡◌, ℕ, List, [], ◌∷◌, Option, Some, None, Result, Ok, Err, refl}
use Rattle.std.specs.Prelude.{codes, map, true}
use Rattle.attr_table.specs.Attributes.{attributes}
use Rattle.attr_table.specs.Setting.{with_margins, with_paddings}
use Rattle.attr_table.specs.Taking.{facets_of, finished, known_place, with_known}
use Rattle.attr_table.specs.Values.{extent_given, found_of, pixels_within, signed}
use Rattle.axml_reader.specs.declared.doc.Node.{Node}
use Rattle.axml_reader.specs.declared.doc.Node.TheVariants.{NsStart, NsEnd, Start, End, Chars}
use Rattle.axml_reader.specs.Document.{Document}
use Rattle.view_model.specs.declared.class.Class.{Class}
use Rattle.view_model.specs.declared.sprout.Sprout.{Sprout}
use Rattle.view_model.specs.Sprouts.{preorder}
use Rattle.view_model.specs.declared.class.Class.TheVariants.{View, FrameLayout}
use Rattle.view_model.specs.Forest.{Nothing, Branch}
use Rattle.view_model.specs.Refusals.{Element, PlainRefusal}
use Rattle.inflater.specs.ClassNames.{class_of}
use Rattle.inflater.specs.Elements.{elements}
use Rattle.inflater.specs.Inflating.{Plan, inflated, view_with}

-- a name alone, or with the package of its class

view_alone : class_of (codes "View") ≡ Some View
unfolding class_of
view_alone = refl

view_in_its_package : class_of (codes "android.view.View") ≡ Some View
unfolding class_of
view_in_its_package = refl

group_in_its_package : class_of (codes "android.widget.FrameLayout") ≡ Some FrameLayout
unfolding class_of
group_in_its_package = refl

view_in_another_package : class_of (codes "android.widget.View") ≡ None
unfolding class_of
view_in_another_package = refl

group_in_another_package : class_of (codes "android.view.FrameLayout") ≡ None
unfolding class_of
group_in_another_package = refl

other_letters : class_of (codes "view") ≡ None
unfolding class_of
other_letters = refl

-- the first element has two in it, the second of which has one; namespaces and characters are no elements

begin : ℕ → Node
begin name = Start 0 0 name 0 0

end : ℕ → Node
end name = End 0 0 name

some_nodes : List Node
some_nodes =
    NsStart 8 9 ∷ begin 1 ∷ Chars 0 7 0 0 ∷ begin 2 ∷ end 2 ∷ NsStart 8 9 ∷ begin 3 ∷ begin 4 ∷ Chars 0 7 0 0 ∷ end 4 ∷
    NsEnd 8 9 ∷ end 3 ∷ end 1 ∷ NsEnd 8 9 ∷ []

some_elements : elements some_nodes ≡ Branch (begin 1) (Branch (begin 2) Nothing (Branch (begin 3) (Branch (begin 4) Nothing Nothing) Nothing)) Nothing
unfolding some_nodes begin end
some_elements = refl

-- a class that is not known, whatever the attributes are
button : Document
button = record {
  pool = record { utf8 = true; texts = codes "Button" ∷ [] };
  map = [];
  nodes = Start 0 4294967295 0 0 0 ∷ End 0 4294967295 0 ∷ [];
  attrs = [];
}

refused_button : inflated button [] 160 ≡ Err (record { number = 23; reason = Element 1 })
unfolding button view_with class_of
refused_button = refl

-- a group with two views in it, of which the second has this many attributes; the third attribute is not known
nodes_with : ℕ → List Node
nodes_with count =
    Start 0 4294967295 3 0 3 ∷ Start 0 4294967295 4 0 2 ∷ End 0 4294967295 4 ∷ Start 0 4294967295 4 0 count ∷ End 0 4294967295 4 ∷ End 0 4294967295 3 ∷ []

group_with : ℕ → Document
group_with count = record {
  pool = record {
    utf8 = true;
    texts = codes "http://schemas.android.com/apk/res/android" ∷ codes "layout_width" ∷ codes "layout_height" ∷ codes "FrameLayout" ∷ codes "View" ∷ codes "style" ∷ [];
  };
  map = [];
  nodes = nodes_with count;
  attrs =
      record { ns = 0; name = 1; raw = 4294967295; kind = 0x10; word = 0xffff_ffff } ∷ record { ns = 0; name = 2; raw = 4294967295; kind = 0x10; word = 0xffff_ffff } ∷
      record { ns = 4294967295; name = 5; raw = 4294967295; kind = 0x10; word = 0 } ∷ [];
}

-- the depth and the class of each view in preorder, and how many attributes are not known
abbrev outline : Result Plan PlainRefusal → Option (List (ℕ × Class) × ℕ)
outline (Ok plan) = Some (map (λ (sprout : Sprout). (sprout.depth, sprout.class)) (preorder 1 plan.seeds), plan.ignored)
outline (Err refusal) = None

whole_group : outline (inflated (group_with 3) [] 160) ≡ Some ((1, FrameLayout) ∷ (2, View) ∷ (2, View) ∷ [], 2)
unfolding group_with nodes_with view_with class_of facets_of known_place with_known found_of extent_given finished with_margins with_paddings signed pixels_within attributes
whole_group = refl

-- the third element has no height
no_height : inflated (group_with 1) [] 160 ≡ Err (record { number = 17; reason = Element 3 })
unfolding group_with nodes_with view_with class_of facets_of known_place with_known found_of extent_given finished with_margins with_paddings signed pixels_within attributes
no_height = refl
