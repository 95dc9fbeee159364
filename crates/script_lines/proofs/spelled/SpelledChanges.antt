-- Changes, read from their texts.
use Rattle.std.proofs.Common.{◌≡◌, ℕ, ◌<◌, ◌^◌, Bool, true, false, refl, arith}
use Rattle.std.specs.Prelude.{if◌then◌else◌, ℤ, pos, negsuc, codes, Ok}
use Rattle.std.proofs.lemmas.Int.{ints}
use Rattle.geom_core.specs.declared.geometry.Insets.{Insets}
use Rattle.view_model.specs.Numbers.{max_inset, max_size}
use Rattle.view_model.specs.declared.changes.Change.{Change}
use Rattle.view_model.specs.declared.changes.Change.TheVariants as change
use Rattle.script_lines.specs.reading.Changes.{AreWithin, IsChangeInBounds, change_by, gravity_change_of, insets_of, kids_of, sides_of}
use Rattle.line_words.specs.words.Numbers.{IsWithin}
use Rattle.script_lines.specs.commands.Spelled.{ChangeHasLine, change_head, change_verb_of, change_words, insets_words}
use Rattle.script_lines.specs.declared.reading.changes.Sides.{Sides}
use Rattle.line_words.proofs.spelled.SpelledColors.{color_word, last_color-text}
use Rattle.line_words.proofs.spelled.SpelledNumbers.{IsShort, integer_of-signed, pair_of-signed, short_within, signed_word, within_of-within}
use Rattle.line_words.proofs.spelled.SpelledWords.{AreWords, IsWord, word_by}
use Rattle.line_words.proofs.spelled.SpelledDimensions.{extents_of-text, extent_word}
use Rattle.line_words.proofs.spelled.SpelledGravities.{gravity_back}
use Rattle.line_words.proofs.spelled.SpelledWeights.{weight_reads_words, weight_of-words}

-- sides
side_short : (low : ℕ) (z : ℤ) → low < 2 ^ 31 → IsWithin (negsuc low) max_inset z → IsShort z
side_short low z l h = short_within low 1048575 z h.0 h.1 l (omega arith)

abbrev sides_as : Insets → Sides
sides_as sides = record { left = sides.left; top = sides.top; right = sides.right; bottom = sides.bottom }

pub record AreShort (sides : Insets) : Type 0 where
  pub left : IsShort sides.left
  pub top : IsShort sides.top
  pub right : IsShort sides.right
  pub bottom : IsShort sides.bottom

pub sides_short : (low : ℕ) (sides : Insets) → low < 2 ^ 31 → AreWithin (negsuc low) max_inset sides → AreShort sides
sides_short low sides l h = record { left = side_short low sides.left l h.0; top = side_short low sides.top l h.1; right = side_short low sides.right l h.2; bottom = side_short low sides.bottom l h.3 }

sides_of-text : (sides : Insets) → AreShort sides → sides_of (insets_words sides) ≡ Ok (sides_as sides)
unfolding sides_of
sides_of-text sides h = rw (integer_of-signed sides.left h.left, integer_of-signed sides.top h.top, integer_of-signed sides.right h.right, integer_of-signed sides.bottom h.bottom) refl

insets_of-as : (low : ℤ) (sides : Insets) → AreWithin low max_inset sides → insets_of low (sides_as sides) ≡ Ok sides
unfolding insets_of
insets_of-as low sides h =
    rw (within_of-within low max_inset sides.left h.0, within_of-within low max_inset sides.top h.1, within_of-within low max_inset sides.right h.2, within_of-within low max_inset sides.bottom h.3) refl

sides_words : (sides : Insets) → AreShort sides → AreWords (insets_words sides)
sides_words sides h = (signed_word sides.left h.left, (signed_word sides.top h.top, (signed_word sides.right h.right, (signed_word sides.bottom h.bottom, tt))))

-- from 0 upward is from -1 upward
from_0 : (z : ℤ) → IsWithin (pos 0) max_inset z → IsWithin (negsuc 0) max_inset z
from_0 z h = (omega (arith, ints, h.0), h.1)

pub padding_short : (sides : Insets) → AreWithin (pos 0) max_inset sides → AreShort sides
padding_short sides h = sides_short 0 sides (omega arith) (from_0 sides.left h.0, from_0 sides.top h.1, from_0 sides.right h.2, from_0 sides.bottom h.3)

pub size_short : (z : ℤ) → IsWithin (pos 0) max_size z → IsShort z
size_short z h = short_within 0 16777215 z (omega (arith, ints, h.0)) h.1 (omega arith) (omega arith)

-- words of two
kids_word : (kids : Bool) → IsWord (if kids then codes "kids" else codes "self")
kids_word true = word_by (codes "kids") refl
kids_word false = word_by (codes "self") refl

pub kids_of-text : (kids : Bool) → kids_of (if kids then codes "kids" else codes "self") ≡ Ok kids
unfolding kids_of
kids_of-text true = refl
kids_of-text false = refl

-- the words of a change after the view, and what they are read as
pub record ChangeReads (c : Change) : Type 0 where
  pub head : IsWord (change_head c)
  pub words : AreWords (change_words c)
  pub value : change_by (change_verb_of c) (change_words c) ≡ Ok c

pub change_reads : (c : Change) → IsChangeInBounds c → ChangeHasLine c → ChangeReads c
unfolding gravity_change_of
change_reads (change.Size width height) b l = record {
  head = word_by (codes "size") refl;
  words = (extent_word width b.0, (extent_word height b.1, tt));
  value = rw (extents_of-text width height b.0 b.1) refl;
}
change_reads (change.Min size) b l = record {
  head = word_by (codes "min") refl;
  words = (signed_word size.w (size_short size.w b.0), (signed_word size.h (size_short size.h b.1), tt));
  value = rw (pair_of-signed (pos 0) max_size size.w size.h (size_short size.w b.0) (size_short size.h b.1) b.0 b.1) refl;
}
change_reads (change.Margins sides) b l =
    let h = sides_short 1048574 sides (omega arith) b in
    record {
      head = word_by (codes "margins") refl;
      words = sides_words sides h;
      value = rw (sides_of-text sides h, insets_of-as (negsuc 1048574) sides b) refl;
    }
change_reads (change.Padding sides) b l =
    let h = padding_short sides b in
    record {
      head = word_by (codes "padding") refl;
      words = sides_words sides h;
      value = rw (sides_of-text sides h, insets_of-as (pos 0) sides b) refl;
    }
change_reads (change.Weight weight) b l = record {
  head = word_by (codes "weight") refl;
  words = weight_reads_words weight b;
  value = rw (weight_of-words weight b) refl;
}
change_reads (change.Gravity kids gravity) b l =
    let back = gravity_back gravity l in
    record {
      head = word_by (codes "gravity") refl;
      words = (kids_word kids, (back.word, tt));
      value = rw (kids_of-text kids, back.value) refl;
    }
change_reads (change.Background color) b l = record {
  head = word_by (codes "bg") refl;
  words = (color_word color, tt);
  value = rw (last_color-text color l) refl;
}
