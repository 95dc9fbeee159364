-- The texts of a part of a stack, and the colour of a point of a window.
use Rattle.std.proofs.Common.{◌≡◌, ◌∙◌, ℕ, zero, suc, ◌≤◌, List, [], ◌∷◌, ap, arith, refl, sym}
use Rattle.std.specs.Option.{option_map}
use Rattle.std.proofs.lemmas.Int.{ints}
use Rattle.std.specs.Prelude.{ℤ, pos, negsuc, ◌≤ℤ◌, unsigned_abs, Option, Some, None}
use Rattle.geom_core.specs.declared.color.Argb.{Argb}
use Rattle.geom_core.specs.Numbers.{unpainted}
use Rattle.stack_worlds.proofs.StackLaws.{plain_at, plain_there}
use Rattle.script_lines.specs.reading.Pixels.{IsPart}
use Rattle.stack_worlds.specs.Composed.{IsComposed, part_of}
use Rattle.stack_worlds.specs.KeptStack.{KeyedStack, keyed_at, stack_of}
use Rattle.stack_worlds.specs.PlainStack.{color_from, color_in, settled_sizes}
use Rattle.stack_worlds.specs.declared.stack.composing.Composed.{Composed}
use Rattle.stack_worlds.specs.declared.stack.composing.Part.{Part}
use Rattle.text_lines.specs.Joined.{◌⧺◌}
use Rattle.view_world.specs.world.KeyedWorld.{KeyedWorld, world_of}
use Rattle.world_replies.specs.Replies.{pixel_text, pixels_text, separator, texts_below}
use Rattle.world_parts.specs.World.{World}
use Rattle.window_stack.specs.PlainPanes.{corner_of}

-- the colour of a point of a window that has a world
pub color_there : (stack : KeyedStack) (k : ℕ) (world : KeyedWorld) (x y : ℤ) → keyed_at stack k ≡ Some world
    → color_from (corner_of stack.panes k) x y (Some (world_of world)) ≡ color_in (stack_of stack) x y (Some k)
color_there stack k world x y e = ap (color_from (corner_of stack.panes k) x y) (sym (plain_there stack k world e))

-- and where the coordinates are written in another way
pub color_same : (corner : Option (ℤ × ℤ)) (i j x y : ℤ) (world : Option World) → i ≡ x → j ≡ y → color_from corner i j world ≡ color_from corner x y world
color_same corner i j x y world across down = rw (across, down) refl

color_none : (corner : Option (ℤ × ℤ)) (x y : ℤ) → unpainted ≡ color_from corner x y None
color_none None x y = refl
color_none (Some corner) x y = refl

-- and of one that has none
pub black_there : (stack : KeyedStack) (k : ℕ) (x y : ℤ) → keyed_at stack k ≡ None → unpainted ≡ color_in (stack_of stack) x y (Some k)
black_there stack k x y e =
    color_none (corner_of stack.panes k) x y
    ∙ ap (color_from (corner_of stack.panes k) x y) (sym (plain_at stack.worlds k ∙ ap (option_map world_of) e))

pub part_same : (a b c d x y w h : ℤ) → a ≡ x → b ≡ y → c ≡ w → d ≡ h → part_of a b c d ≡ part_of x y w h
part_same a b c d x y w h left top width height = rw (left, top, width, height) refl

abs_pos : (n : ℤ) → pos 0 ≤ℤ n → pos (unsigned_abs n) ≡ n
abs_pos (pos n) h = refl
abs_pos (negsuc n) h = absurd (omega (arith, ints, h))

-- a part of which a line may ask
pub is_composed : (c : Composed) (x y w h : ℤ) → IsPart x y w h → c.sizes ≡ settled_sizes (stack_of c.stack.now) → c.part ≡ part_of x y w h → IsComposed c
is_composed c x y w h bounds sizes same = record {
  sizes = sizes;
  left = let at : c.part.left ≡ unsigned_abs x = ap (λ (p : Part). p.left) same in omega (arith, ints, at, abs_pos x bounds.0.0, bounds.0.1);
  top = let at : c.part.top ≡ unsigned_abs y = ap (λ (p : Part). p.top) same in omega (arith, ints, at, abs_pos y bounds.1.0, bounds.1.1);
  width =
      let at : c.part.width ≡ unsigned_abs w = ap (λ (p : Part). p.width) same in
      let some : pos 0 ≤ℤ w = omega (arith, ints, bounds.2.0) in omega (arith, ints, at, abs_pos w some, bounds.2.1);
  height =
      let at : c.part.height ≡ unsigned_abs h = ap (λ (p : Part). p.height) same in
      let some : pos 0 ≤ℤ h = omega (arith, ints, bounds.3.0) in omega (arith, ints, at, abs_pos h some, bounds.3.1);
}

not_empty : (xs ys : List ℕ) (z : ℕ) → xs ⧺ (ys ⧺ (z ∷ [])) ≡ [] → ⊥
unfolding ◌⧺◌
not_empty [] [] z e = cc e
not_empty [] (y ∷ ys) z e = cc e
not_empty (x ∷ xs) ys z e = cc e

-- a part that has a row has a text
pub some_text : (color : ℕ → ℕ → Argb) (width height : ℕ) → 1 ≤ height → pixels_text color width height ≡ [] → ⊥
some_text color width zero one e = omega arith
some_text color width (suc height) one e = not_empty (pixels_text color width height) (texts_below (λ column. separator column ⧺ pixel_text (color column height)) width) 10 e
