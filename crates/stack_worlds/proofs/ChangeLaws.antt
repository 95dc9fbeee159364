-- What a change of a stack leaves of its windows and their worlds, and what it writes.
use Rattle.std.proofs.Common.{◌≡◌, ◌∙◌, ℕ, ◌+◌, ◌≤◌, false, Bool, List, [], refl, ap, sym, arith, set, FitsSigned, of_z, to_z, w32}
use Rattle.std.proofs.lemmas.Int.{ints, to_z-of_z}
use Rattle.std.proofs.lemmas.List.{map-set}
use Rattle.std.specs.Option.{option_map}
use Rattle.std.specs.Prelude.{Option, Some, None, Box, Result, Ok, Err, ℤ, pos, negsuc, ◌≤ℤ◌, unsigned_abs, if◌then◌else◌, map}
use Rattle.std.specs.declared.alloc.Global.{Global}
use Rattle.script_lines.specs.reading.Pixels.{IsPart}
use Rattle.stack_worlds.proofs.ComposedLaws.{some_text}
use Rattle.stack_worlds.proofs.GivenLaws.{text_in}
use Rattle.stack_worlds.proofs.PlaceLaws.{place_set}
use Rattle.stack_worlds.specs.KeptStack.{KeyedStack, kept_world, stack_of}
use Rattle.stack_worlds.specs.PlainStack.{PlainStack, Done, composed, composed_text, own_step, placed_at}
use Rattle.stack_worlds.specs.StackCarried.{WritesStack, written}
use Rattle.stack_worlds.specs.declared.stack.way.Own.TheVariants as own
use Rattle.text_lines.specs.Delivered.{Delivered}
use Rattle.tool_io.specs.SinkState.{SinkState}
use Rattle.tool_io.specs.declared.faults.Failed.{Failed}
use Rattle.view_world.specs.world.KeyedWorld.{KeyedWorld, new_world, world_of}
use Rattle.world_parts.specs.World.{World, empty_world}
use Rattle.window_stack.specs.PlainPanes.{PlainPanes, closed, is_open, set_at}

abbrev pub stacked : PlainPanes → List (Option KeyedWorld) → KeyedStack
stacked panes worlds = record { panes = panes; worlds = worlds }

pub both_are : (panes after : PlainPanes) (worlds now : List (Option KeyedWorld)) → panes ≡ after → worlds ≡ now → stacked panes worlds ≡ stacked after now
both_are panes after worlds now p w = ap (λ (q : PlainPanes). stacked q worlds) p ∙ ap (stacked after) w

-- an empty world in a place of the code
pub opened_place : (worlds new : List (Option (Box KeyedWorld Global))) (k : ℕ) (b : Box KeyedWorld Global) → b.value ≡ new_world → new ≡ set worlds k (Some b)
    → map kept_world new ≡ set (map kept_world worlds) k (Some new_world)
opened_place worlds new k b is e =
    ap (map kept_world) e ∙ map-set kept_world worlds k (Some b) ∙ ap (λ (world : KeyedWorld). set (map kept_world worlds) k (Some world)) is

-- a window that was opened
pub placed_opened : (stack : KeyedStack) (k : ℕ) (x y : ℤ) → is_open stack.panes k ≡ false
    → stack_of (stacked (set_at stack.panes k x y) (set stack.worlds k (Some new_world))) ≡ placed_at (stack_of stack) k x y
placed_opened stack k x y off =
    let plain = map (option_map world_of) stack.worlds in
    ap (λ (worlds : List (Option World)). record { panes = set_at stack.panes k x y; worlds = worlds }) (
    map-set (option_map world_of) stack.worlds k (Some new_world)
    ∙ sym (ap (λ (b : Bool). if b then plain else set plain k (Some empty_world)) off)
    )

-- a place of the code from which a world was taken, and its window closed
pub closed_place : (panes after : PlainPanes) (worlds : List (Option (Box KeyedWorld Global))) (k n : ℕ) → n ≡ k → after ≡ closed panes k
    → stacked after (map kept_world (set worlds n None)) ≡ stacked (closed panes k) (set (map kept_world worlds) k None)
closed_place panes after worlds k n at e =
    place_set after worlds k n None None at refl ∙ ap (λ (q : PlainPanes). stacked q (set (map kept_world worlds) k None)) e

-- the plain stack without that window
pub closed_plain : (stack : KeyedStack) (k : ℕ) → own_step (stack_of stack) (own.Close k) ≡ Done (stack_of (stacked (closed stack.panes k) (set stack.worlds k None))) []
closed_plain stack k =
    ap (λ (worlds : List (Option World)). Done (record { panes = closed stack.panes k; worlds = worlds }) []) (sym (map-set (option_map world_of) stack.worlds k None))

-- a text that was delivered was written by the line
pub delivered_writes : (stack : PlainStack) (text : List ℕ) (before after : SinkState) (result : Result (Unit {0}) Failed) → Delivered before after result text
    → WritesStack (Done stack text) stack before after (written result)
delivered_writes stack text before after (Ok u) d = (text, refl, d.whole, d.counted)
delivered_writes stack text before after (Err failed) d = (text, refl, d.prefix, d.counted)

at_least_one : (h : ℤ) → pos 1 ≤ℤ h → 1 ≤ unsigned_abs h
at_least_one (pos n) e = omega (arith, ints)
at_least_one (negsuc n) e = absurd (omega (arith, ints))

abbrev back : ℤ → ℤ
back z = to_z w32 (of_z w32 z)

same_back : (z : ℤ) → pos 0 ≤ℤ z → z ≤ℤ pos 4096 → back z ≡ z
same_back z low high = let fits : FitsSigned w32 z = grind (arith, ints) in to_z-of_z w32 z fits

-- the numbers of a part are not changed on their way to a call
pub part_back : (stack : PlainStack) (x y w h : ℤ) → IsPart x y w h
    → composed_text stack (unsigned_abs (to_z w32 (of_z w32 x))) (unsigned_abs (to_z w32 (of_z w32 y))) (unsigned_abs (to_z w32 (of_z w32 w))) (unsigned_abs (to_z w32 (of_z w32 h)))
    ≡ composed_text stack (unsigned_abs x) (unsigned_abs y) (unsigned_abs w) (unsigned_abs h)
part_back stack x y w h part =
    ap (λ (n : ℤ). composed_text stack (unsigned_abs n) (unsigned_abs (back y)) (unsigned_abs (back w)) (unsigned_abs (back h))) (same_back x part.0.0 (omega (arith, ints, part.0.1)))
    ∙ ap (λ (n : ℤ). composed_text stack (unsigned_abs x) (unsigned_abs n) (unsigned_abs (back w)) (unsigned_abs (back h))) (same_back y part.1.0 (omega (arith, ints, part.1.1)))
    ∙ ap (λ (n : ℤ). composed_text stack (unsigned_abs x) (unsigned_abs y) (unsigned_abs n) (unsigned_abs (back h))) (same_back w (omega (arith, ints, part.2.0)) part.2.1)
    ∙ ap (λ (n : ℤ). composed_text stack (unsigned_abs x) (unsigned_abs y) (unsigned_abs w) (unsigned_abs n)) (same_back h (omega (arith, ints, part.3.0)) part.3.1)

-- a part always has a text
pub part_text : (stack after : PlainStack) (x y w h : ℤ) → IsPart x y w h → own_step stack (own.Compose x y w h) ≡ Done after [] → ⊥
part_text stack after x y w h part e =
    some_text (λ column row. composed stack (pos (unsigned_abs x + column)) (pos (unsigned_abs y + row))) (unsigned_abs w) (unsigned_abs h) (at_least_one h part.3.0) (ap text_in e)
