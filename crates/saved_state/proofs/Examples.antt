-- Worked states, by computation.
use Rattle.std.specs.Prelude.{◌≡◌, ℕ, ℤ, pos, refl, true, false, List, [], ◌∷◌, Ok, Err}
use Rattle.std.specs.Str.{is_utf8, chars}
use lib.Utf8.{encode}
use Rattle.view_model.specs.declared.class.Class.{Class}
use Rattle.view_model.specs.declared.class.Class.TheVariants as class
use Rattle.view_model.specs.Facts.{new_facts}
use Rattle.view_model.specs.Forest.{Forest, Nothing, Branch, rows}
use Rattle.view_model.specs.PlainTree.{PlainView}
use Rattle.saved_state.specs.Restoring.{is_for_other_class, restored}
use Rattle.saved_state.specs.Saving.{saved_of}
use Rattle.saved_state.specs.State.{decoded, encoded, encoded_as, entry_of, head_of, id_of, kind_of, offset_of, text_of, words_of}
use Rattle.saved_state.specs.declared.value.Value.TheVariants.{Offset, Text}

abbrev view : ℕ → Class → ℕ → ℤ → PlainView
view number class id offset = record { number = number; class = class; facts = record (new_facts (pos 0) (pos 0)) { id = id; offset = offset }; text = [] }

-- a root that has scrolled by 30
abbrev scrolled : Forest PlainView
scrolled = Branch (view 1 class.ScrollView 2131230721 (pos 30)) (Branch (view 2 class.LinearLayout 0 (pos 0)) Nothing Nothing) Nothing

abbrev bytes : List ℕ
bytes = 86 ∷ 83 ∷ 2 ∷ 1 ∷ 0 ∷ 1 ∷ 0 ∷ 8 ∷ 127 ∷ 1 ∷ 30 ∷ 0 ∷ 0 ∷ 0 ∷ []

saved_bytes : encoded (saved_of scrolled) ≡ bytes
saved_bytes = refl

first_version : encoded_as 1 (saved_of scrolled) ≡ 86 ∷ 83 ∷ 1 ∷ 1 ∷ 0 ∷ 1 ∷ 0 ∷ 8 ∷ 127 ∷ 1 ∷ 30 ∷ 0 ∷ 0 ∷ 0 ∷ []
first_version = refl

first_version_back : decoded (86 ∷ 83 ∷ 1 ∷ 1 ∷ 0 ∷ 1 ∷ 0 ∷ 8 ∷ 127 ∷ 1 ∷ 30 ∷ 0 ∷ 0 ∷ 0 ∷ []) ≡ Ok ((2131230721, Offset 30) ∷ [])
unfolding is_utf8 chars encode decoded head_of entry_of id_of kind_of offset_of text_of words_of
first_version_back = refl

-- a text view of the id 1 with the text `hi`
abbrev reported : ℕ → List ℕ → PlainView
reported id text = record { number = 1; class = class.TextView; facts = record (new_facts (pos 0) (pos 0)) { id = id }; text = text }

reported_bytes : encoded (saved_of (Branch (reported 1 (104 ∷ 105 ∷ [])) Nothing Nothing)) ≡ 86 ∷ 83 ∷ 2 ∷ 1 ∷ 0 ∷ 1 ∷ 0 ∷ 0 ∷ 0 ∷ 2 ∷ 2 ∷ 0 ∷ 104 ∷ 105 ∷ []
unfolding encode
reported_bytes = refl

reported_back : decoded (86 ∷ 83 ∷ 2 ∷ 1 ∷ 0 ∷ 1 ∷ 0 ∷ 0 ∷ 0 ∷ 2 ∷ 2 ∷ 0 ∷ 104 ∷ 105 ∷ []) ≡ Ok ((1, Text (104 ∷ 105 ∷ [])) ∷ [])
unfolding is_utf8 chars encode decoded head_of entry_of id_of kind_of offset_of text_of words_of
reported_back = refl

text_restored : restored ((1, Text (104 ∷ 105 ∷ [])) ∷ []) (Branch (reported 1 (120 ∷ [])) Nothing Nothing) ≡ Branch (reported 1 (104 ∷ 105 ∷ [])) Nothing Nothing
text_restored = refl

-- the length of a text is a field, and its bytes are another
half_a_length : decoded (86 ∷ 83 ∷ 2 ∷ 1 ∷ 0 ∷ 1 ∷ 0 ∷ 0 ∷ 0 ∷ 2 ∷ 2 ∷ []) ≡ Err 10
unfolding is_utf8 chars encode decoded head_of entry_of id_of kind_of offset_of text_of words_of
half_a_length = refl

half_a_text : decoded (86 ∷ 83 ∷ 2 ∷ 1 ∷ 0 ∷ 1 ∷ 0 ∷ 0 ∷ 0 ∷ 2 ∷ 2 ∷ 0 ∷ 104 ∷ []) ≡ Err 12
unfolding is_utf8 chars encode decoded head_of entry_of id_of kind_of offset_of text_of words_of
half_a_text = refl

half_a_character : decoded (86 ∷ 83 ∷ 2 ∷ 1 ∷ 0 ∷ 1 ∷ 0 ∷ 0 ∷ 0 ∷ 2 ∷ 1 ∷ 0 ∷ 195 ∷ []) ≡ Err 12
unfolding is_utf8 chars encode decoded head_of entry_of id_of kind_of offset_of text_of words_of
half_a_character = refl

a_text_of_the_first_version : decoded (86 ∷ 83 ∷ 1 ∷ 1 ∷ 0 ∷ 1 ∷ 0 ∷ 0 ∷ 0 ∷ 2 ∷ 0 ∷ 0 ∷ []) ≡ Err 9
unfolding is_utf8 chars encode decoded head_of entry_of id_of kind_of offset_of text_of words_of
a_text_of_the_first_version = refl

read_back : decoded bytes ≡ Ok ((2131230721, Offset 30) ∷ [])
unfolding is_utf8 chars encode decoded head_of entry_of id_of kind_of offset_of text_of words_of
read_back = refl

another_version : decoded (86 ∷ 83 ∷ 3 ∷ 1 ∷ 0 ∷ []) ≡ Err 2
unfolding is_utf8 chars encode decoded head_of entry_of id_of kind_of offset_of text_of words_of
another_version = refl

no_entry_comes : decoded (86 ∷ 83 ∷ 1 ∷ 1 ∷ 0 ∷ []) ≡ Err 5
unfolding is_utf8 chars encode decoded head_of entry_of id_of kind_of offset_of text_of words_of
no_entry_comes = refl

one_letter : decoded (86 ∷ []) ≡ Err 0
unfolding is_utf8 chars encode decoded head_of entry_of id_of kind_of offset_of text_of words_of
one_letter = refl

half_a_count : decoded (86 ∷ 83 ∷ 1 ∷ 0 ∷ []) ≡ Err 3
unfolding is_utf8 chars encode decoded head_of entry_of id_of kind_of offset_of text_of words_of
half_a_count = refl

nothing_saved : decoded (86 ∷ 83 ∷ 1 ∷ 0 ∷ 0 ∷ []) ≡ Ok []
unfolding is_utf8 chars encode decoded head_of entry_of id_of kind_of offset_of text_of words_of
nothing_saved = refl

one_byte_follows : decoded (86 ∷ 83 ∷ 1 ∷ 0 ∷ 0 ∷ 7 ∷ []) ≡ Err 5
unfolding is_utf8 chars encode decoded head_of entry_of id_of kind_of offset_of text_of words_of
one_byte_follows = refl

id_0 : decoded (86 ∷ 83 ∷ 1 ∷ 1 ∷ 0 ∷ 0 ∷ 0 ∷ 0 ∷ 0 ∷ 1 ∷ 30 ∷ 0 ∷ 0 ∷ 0 ∷ []) ≡ Err 5
unfolding is_utf8 chars encode decoded head_of entry_of id_of kind_of offset_of text_of words_of
id_0 = refl

another_kind : decoded (86 ∷ 83 ∷ 1 ∷ 1 ∷ 0 ∷ 1 ∷ 0 ∷ 0 ∷ 0 ∷ 2 ∷ 30 ∷ 0 ∷ 0 ∷ 0 ∷ []) ≡ Err 9
unfolding is_utf8 chars encode decoded head_of entry_of id_of kind_of offset_of text_of words_of
another_kind = refl

offset_too_great : decoded (86 ∷ 83 ∷ 1 ∷ 1 ∷ 0 ∷ 1 ∷ 0 ∷ 0 ∷ 0 ∷ 1 ∷ 0 ∷ 0 ∷ 0 ∷ 1 ∷ []) ≡ Err 10
unfolding is_utf8 chars encode decoded head_of entry_of id_of kind_of offset_of text_of words_of
offset_too_great = refl

-- two views of one id, of which the second begins after the first
abbrev twins : Forest PlainView
twins = Branch (view 1 class.ScrollView 7 (pos 5)) (Branch (view 2 class.ScrollView 7 (pos 9)) Nothing Nothing) (Branch (view 3 class.ScrollView 3 (pos 4)) Nothing Nothing)

the_last_of_two_stays : saved_of twins ≡ (3, Offset 4) ∷ (7, Offset 9) ∷ []
the_last_of_two_stays = refl

both_are_restored : restored ((7, Offset 1) ∷ []) twins ≡ Branch (view 1 class.ScrollView 7 (pos 1)) (Branch (view 2 class.ScrollView 7 (pos 1)) Nothing Nothing) (Branch (view 3 class.ScrollView 3 (pos 4)) Nothing Nothing)
both_are_restored = refl

-- of a text and an offset of one id the later in preorder stays
abbrev both : Forest PlainView
both = Branch (view 1 class.ScrollView 1 (pos 5)) (Branch (reported 1 (120 ∷ [])) Nothing Nothing) Nothing

the_text_stays : saved_of both ≡ (1, Text (120 ∷ [])) ∷ []
unfolding encode
the_text_stays = refl

a_text_is_not_for_a_scroll_view : is_for_other_class ((7, Text []) ∷ []) (rows twins) ≡ true
a_text_is_not_for_a_scroll_view = refl

-- a group of the same id does no harm beside a scroll view of it, and alone it does
abbrev mixed : ℕ → Forest PlainView
mixed id = Branch (view 1 class.FrameLayout 7 (pos 0)) (Branch (view 2 class.ScrollView id (pos 0)) Nothing Nothing) Nothing

beside_another : is_for_other_class ((7, Offset 1) ∷ []) (rows (mixed 7)) ≡ false
beside_another = refl

alone : is_for_other_class ((7, Offset 1) ∷ []) (rows (mixed 8)) ≡ true
alone = refl

of_no_view : is_for_other_class ((9, Offset 1) ∷ []) (rows (mixed 8)) ≡ false
of_no_view = refl
