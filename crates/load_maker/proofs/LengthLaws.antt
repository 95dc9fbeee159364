-- How long the script of a load is at most.
use Rattle.std.proofs.Common.{◌≡◌, ℕ, zero, suc, ◌+◌, ◌*◌, ◌<◌, ◌≤◌, ◌^◌, List, length, refl, ap, arith, length-append, inl, inr}
use Rattle.std.specs.Prelude.{codes, decimal, ◌==◌, ◌%◌}
use Rattle.std.proofs.lemmas.Bool.{cases_Bool}
use Rattle.std.proofs.lemmas.Fmt.{length-decimal-le}
use Rattle.text_lines.specs.Hex.{eight_digits, hex_text}
use Rattle.text_lines.specs.Joined.{◌⧺◌, texts_of}
use Rattle.load_maker.specs.Drawing.{drawn, next_state}
use Rattle.load_maker.specs.Load.{Load, add_line, class_name, color_line, load_of, margins_line, opening, size_line, text_line, text_of, visibility_name, visible_line, weight_line, with_color, with_edit, with_frame, with_line, with_margins, with_size, with_step, with_steps, with_text, with_view, with_views, with_visibility, with_weight}
use Rattle.load_maker.proofs.MakerLaws.{text_of-push}

length-⧺ : (a b : List ℕ) → length (a ⧺ b) ≡ length a + length b
unfolding ◌⧺◌
length-⧺ a b = length-append a b

below : (state limit : ℕ) → 0 < limit → drawn state limit < limit
unfolding drawn
below state limit some = omega arith

short : (n : ℕ) → n < 2 ^ 64 → length (decimal n) ≤ 20
short n small = length-decimal-le 20 n (omega arith) (omega arith) small

-- a number that is drawn is short
drawn_short : (state limit : ℕ) → 0 < limit → limit < 2 ^ 64 → length (decimal (drawn state limit)) ≤ 20
drawn_short state limit some small = short (drawn state limit) (omega (arith, below state limit some))

size : Load → ℕ
size load = length (text_of load.lines)

line_grows : (load : Load) (line : List ℕ) → length line ≤ 127 → size (with_line load line) ≤ size load + 128
unfolding size
line_grows load line few =
    omega (arith, ap length (text_of-push load.lines line), length-append (text_of load.lines) (line ⧺ codes "\n"), length-⧺ line (codes "\n"), few)

-- the lines

add_short : (parent width height : ℕ) (class : List ℕ) → length (decimal parent) ≤ 20 → length (decimal width) ≤ 20 → length (decimal height) ≤ 20 → length class ≤ 11 → length (add_line parent class width height) ≤ 127
unfolding add_line
add_short parent width height class a b c d = simp length-⧺ (omega (arith, a, b, c, d))

text_short : (view number : ℕ) → length (decimal view) ≤ 20 → length (decimal number) ≤ 20 → length (text_line view number) ≤ 127
unfolding text_line
text_short view number a b = simp length-⧺ (omega (arith, a, b))

size_short : (view width height : ℕ) → length (decimal view) ≤ 20 → length (decimal width) ≤ 20 → length (decimal height) ≤ 20 → length (size_line view width height) ≤ 127
unfolding size_line
size_short view width height a b c = simp length-⧺ (omega (arith, a, b, c))

hex_short : (n : ℕ) → length (hex_text n 6) ≡ 6
unfolding hex_text eight_digits
hex_short n = refl

color_short : (view color : ℕ) → length (decimal view) ≤ 20 → length (color_line view color) ≤ 127
unfolding color_line
color_short view color a = simp length-⧺ (omega (arith, a, hex_short color))

visible_short : (view : ℕ) (visibility : List ℕ) → length (decimal view) ≤ 20 → length visibility ≤ 11 → length (visible_line view visibility) ≤ 127
unfolding visible_line
visible_short view visibility a b = simp length-⧺ (omega (arith, a, b))

weight_short : (view weight : ℕ) → length (decimal view) ≤ 20 → length (decimal weight) ≤ 20 → length (weight_line view weight) ≤ 127
unfolding weight_line
weight_short view weight a b = simp length-⧺ (omega (arith, a, b))

margins_short : (view across down : ℕ) → length (decimal view) ≤ 20 → length (decimal across) ≤ 20 → length (decimal down) ≤ 20 → length (margins_line view across down) ≤ 127
unfolding margins_line
margins_short view across down a b c = simp length-⧺ (omega (arith, a, b, c))

class_short : (class : ℕ) → length (class_name class) ≤ 11
unfolding class_name
class_short class = elim (cases_Bool (class == 0)) [
  | inl e ↦ rw e (omega arith)
  | inr e ↦ elim (cases_Bool (class == 1)) [
    | inl f ↦ rw (e, f) (omega arith)
    | inr f ↦ rw (e, f) (omega arith)
  ]
]

visibility_short : (visibility : ℕ) → length (visibility_name visibility) ≤ 11
unfolding visibility_name
visibility_short visibility = elim (cases_Bool (visibility == 0)) [
  | inl e ↦ rw e (omega arith)
  | inr e ↦ elim (cases_Bool (visibility == 1)) [
    | inl f ↦ rw (e, f) (omega arith)
    | inr f ↦ rw (e, f) (omega arith)
  ]
]

-- and the steps

text_grows : (view class : ℕ) (load : Load) → view < 2 ^ 64 → size (with_text view class load) ≤ size load + 128
unfolding size
text_grows view class load small = elim (cases_Bool (class == 1)) [
  | inl e ↦ rw e (let s = next_state load.state in let grows = line_grows (record load { state = s }) (text_line view (drawn s 100000)) (text_short view (drawn s 100000) (short view small) (drawn_short s 100000 (omega arith) (omega arith))) in grows)
  | inr e ↦ rw e (omega arith)
]

view_grows : (view : ℕ) (load : Load) → view < 2 ^ 64 → size (with_view view load) ≤ size load + 256
unfolding size with_view
view_grows view load small =
    let a = next_state load.state in
    let b = next_state a in
    let c = next_state b in
    let d = next_state c in
    let line = add_line (1 + drawn b 7) (class_name (drawn a 3)) (drawn c 60) (drawn d 60) in
    let one = line_grows (record load { state = d }) line
    (add_short (1 + drawn b 7) (drawn c 60) (drawn d 60) (class_name (drawn a 3)) (short (1 + drawn b 7) (omega (arith, below b 7))) (drawn_short c 60 (omega arith) (omega arith)) (drawn_short d 60 (omega arith) (omega arith)) (class_short (drawn a 3))) in
    let two = text_grows view (drawn a 3) (with_line (record load { state = d }) line) small in
    omega (arith, one, two)

edit_grows : (choice view : ℕ) (load : Load) → view < 2 ^ 64 → size (with_edit choice view load) ≤ size load + 128
unfolding size with_size with_color with_visibility with_weight with_margins
edit_grows choice view load small =
    let a = next_state load.state in
    let b = next_state a in
    let v = short view small in
    let first : Load = record load { state = a } in
    let second : Load = record load { state = b } in
    elim (cases_Bool (choice == 0)) [
      | inl e ↦ rw e (line_grows second (size_line view (drawn a 60) (drawn b 60)) (size_short view (drawn a 60) (drawn b 60) v (drawn_short a 60 (omega arith) (omega arith)) (drawn_short b 60 (omega arith) (omega arith))))
      | inr e ↦ elim (cases_Bool (choice == 1)) [
        | inl f ↦ rw (e, f) (line_grows first (color_line view (drawn a 16777216)) (color_short view (drawn a 16777216) v))
        | inr f ↦ elim (cases_Bool (choice == 2)) [
          | inl g ↦ rw (e, f, g) (line_grows first (visible_line view (visibility_name (drawn a 3))) (visible_short view (visibility_name (drawn a 3)) v (visibility_short (drawn a 3))))
          | inr g ↦ elim (cases_Bool (choice == 3)) [
            | inl h ↦ rw (e, f, g, h) (line_grows first (weight_line view (drawn a 3)) (weight_short view (drawn a 3) v (drawn_short a 3 (omega arith) (omega arith))))
            | inr h ↦ rw (e, f, g, h) (line_grows second (margins_line view (drawn a 8) (drawn b 8)) (margins_short view (drawn a 8) (drawn b 8) v (drawn_short a 8 (omega arith) (omega arith)) (drawn_short b 8 (omega arith) (omega arith))))
          ]
        ]
      ]
    ]

frame_grows : (step : ℕ) (load : Load) → size (with_frame step load) ≤ size load + 256
unfolding size with_frame
frame_grows step load =
    let one = line_grows load (codes "frame") (omega arith) in
    let two = line_grows (with_line load (codes "frame")) (codes "digest") (omega arith) in
    elim (cases_Bool (step % 16 == 0)) [
      | inl e ↦ rw e (omega (arith, one, two))
      | inr e ↦ rw e (omega (arith, one))
    ]

step_grows : (views step : ℕ) (load : Load) → 0 < views → views < 2 ^ 40 → size (with_step views step load) ≤ size load + 384
unfolding size with_step
step_grows views step load some few =
    let a = next_state load.state in
    let b = next_state a in
    let drawn_load : Load = record load { state = b } in
    let one = edit_grows (drawn b 5) (8 + drawn a views) drawn_load (omega (arith, below a views some, few)) in
    let two = frame_grows step (with_edit (drawn b 5) (8 + drawn a views) drawn_load) in
    omega (arith, one, two)

views_grow : (k : ℕ) (load : Load) → k < 2 ^ 40 → size (with_views k load) ≤ size load + 256 * k
views_grow zero load small = omega arith
views_grow (suc k) load small =
    omega (arith, views_grow k load (omega (arith, small)), view_grows (8 + k) (with_views k load) (omega (arith, small)))

steps_grow : (views k : ℕ) (load : Load) → 0 < views → views < 2 ^ 40 → size (with_steps views k load) ≤ size load + 384 * k
steps_grow views zero load some few = omega arith
steps_grow views (suc k) load some few =
    omega (arith, steps_grow views k load some few, step_grows views (k + 1) (with_steps views k load) some few)

opening_short : (n : ℕ) → size (opening n) ≤ 512
unfolding size text_of texts_of ◌⧺◌
opening_short n = omega arith

-- the script of a load of a size up to 100
pub load_short : (n : ℕ) → n ≤ 100 → length (text_of (load_of n).lines) ≤ 16777216
unfolding load_of size
load_short zero few = omega (arith, opening_short 0)
load_short (suc n) few =
    let views = 32 * suc n in
    let made = with_views views (opening (suc n)) in
    omega (arith, opening_short (suc n), views_grow views (opening (suc n)) (omega (arith, few)), steps_grow views (64 * suc n) made (omega arith) (omega (arith, few)), few)
