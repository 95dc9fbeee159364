-- Touches, read from their texts.
use Rattle.std.proofs.Common.{◌≡◌, ℕ, ◌<◌, ◌≤◌, ◌^◌, refl, arith}
use Rattle.std.specs.Prelude.{ℤ, pos, Ok}
use Rattle.line_words.specs.words.Numbers.{IsWithin}
use Rattle.script_lines.specs.commands.Spelled.{touch_words}
use Rattle.script_lines.specs.reading.Touches.{IsTouchInBounds, pointer_of, touch_of}
use Rattle.script_lines.specs.Numbers.{max_pointer, max_touch, min_touch}
use Rattle.line_words.proofs.spelled.SpelledNumbers.{IsShort, decimal_word, integer_of-signed, natural_within-within, short_within, signed_word, within_of-within}
use Rattle.line_words.proofs.spelled.SpelledWords.{AreWords}

pub pointer_short : (p : ℕ) → p ≤ max_pointer → p < 10 ^ 10
pointer_short p h = omega (arith, h)

pub pointer_of-id : (p : ℕ) → p ≤ max_pointer → pointer_of (pos p) ≡ Ok p
unfolding pointer_of
pointer_of-id p h = natural_within-within 0 max_pointer p (omega arith) h

coordinate_short : (z : ℤ) → IsWithin min_touch max_touch z → IsShort z
coordinate_short z h = short_within 1048575 1048576 z h.0 h.1 (omega arith) (omega arith)

pub touch_reads_words : (p : ℕ) (x y : ℤ) → IsTouchInBounds p x y → AreWords (touch_words p x y)
touch_reads_words p x y b = (decimal_word p (pointer_short p b.0), (signed_word x (coordinate_short x b.1), (signed_word y (coordinate_short y b.2), tt)))

pub touch_of-words : (p : ℕ) (x y : ℤ) → IsTouchInBounds p x y → touch_of (touch_words p x y) ≡ Ok (record { pointer = p; x = x; y = y })
unfolding touch_of
touch_of-words p x y b =
    rw (
      integer_of-signed (pos p) (pointer_short p b.0),
      integer_of-signed x (coordinate_short x b.1),
      integer_of-signed y (coordinate_short y b.2),
      pointer_of-id p b.0,
      within_of-within min_touch max_touch x b.1,
      within_of-within min_touch max_touch y b.2,
    ) refl
