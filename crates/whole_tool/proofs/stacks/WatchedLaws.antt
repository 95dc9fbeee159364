-- The worlds of a stack of windows that are watched, one by one, and what a line leaves of them.
use Rattle.std.proofs.Common.{◌≡◌, ◌≤◌, ℕ, zero, suc, List, [], ◌∷◌, refl, ap, sym, subst, ◌∙◌, arith, inl, inr, true, false}
use Rattle.std.specs.Prelude.{Option, Some, None, Result, map, replicate, slice_index_or, slice_set}
use Rattle.std.specs.Option.{option_map}
use Rattle.std.proofs.lemmas.Bool.{cases_Bool}
use Rattle.script_lines.specs.commands.PlainCommands.{PlainCommand}
use Rattle.stack_worlds.specs.KeptStack.{KeyedStack, stack_of}
use Rattle.stack_worlds.specs.PlainStack.{PlainStack, PlainWay, Given, Missed, RefusedBy, ToStack, after_given, by_way, given_to, with_world}
use Rattle.stack_worlds.specs.PlainStack as stack_reply
use Rattle.stack_worlds.specs.WindowLines.{WorksBy, next_in, worlds_after}
use Rattle.stack_worlds.specs.declared.stack.way.Own.{Own}
use Rattle.stack_worlds.specs.declared.stack.way.Own.TheVariants as own
use Rattle.tool_io.specs.Fetched.{Files}
use Rattle.view_model.specs.declared.work.Work.{Work}
use Rattle.whole_tool.specs.Carrier.{AreWatched, IsWatchedAt, IsWatchedStack, greatest_next}
use Rattle.whole_tool.specs.WatchedStack.{WatchedStack, after_own, after_said, after_way, costs_in, costs_of_way, plain_stack, watched_at, watched_first}
use Rattle.whole_tool.proofs.costs.SumLaws.{worth_none}
use Rattle.view_world.specs.world.Carried.{IsDone}
use Rattle.view_world.specs.world.KeyedWorld.{KeyedWorld, new_world, world_of}
use Rattle.world_parts.specs.Reply.{Reply}
use Rattle.view_world.specs.world.Step.{step}
use Rattle.world_parts.specs.Reply as world
use Rattle.view_world.specs.frames.Watched.{IsWatched, IsWorth, Watched, costs_of, no_costs, watched_after}
use Rattle.world_parts.specs.World.{World, empty_world}
use Rattle.world_parts.specs.declared.fault.StepFault.{StepFault}
use Rattle.window_stack.specs.PlainPanes.{PlainPanes, is_open}

-- lists

at_map : {A B : Type 0} (f : A → B) (items : List (Option A)) (k : ℕ) → slice_index_or (map (option_map f) items) k None ≡ option_map f (slice_index_or items k None)
at_map f [] zero = refl
at_map f [] (suc k) = refl
at_map f (item ∷ items) zero = refl
at_map f (item ∷ items) (suc k) = at_map f items k

put_back : {A : Type 0} (items : List (Option A)) (k : ℕ) (there : A) (item : Option A) → slice_index_or items k None ≡ Some there → slice_index_or (slice_set items k item) k None ≡ item
put_back [] zero there item e = absurd (cc)
put_back [] (suc k) there item e = absurd (cc)
put_back (other ∷ items) zero there item e = refl
put_back (other ∷ items) (suc k) there item e = put_back items k there item e

-- numbers

pub next_within : (worlds : List (Option KeyedWorld)) (k : ℕ) → next_in (slice_index_or worlds k None) ≤ greatest_next worlds
next_within [] zero = omega arith
next_within [] (suc k) = omega arith
next_within (world ∷ worlds) zero = omega arith
next_within (world ∷ worlds) (suc k) = let more = next_within worlds k in omega (arith, more)

pub all_within : (worlds : List (Option KeyedWorld)) (most : ℕ) → 1 ≤ most → ((k : ℕ) → next_in (slice_index_or worlds k None) ≤ most) → greatest_next worlds ≤ most
all_within [] most some each = some
all_within (world ∷ worlds) most some each =
    let one = each 0 in
    let more = all_within worlds most some (λ k. each (suc k)) in
    omega (arith, one, more)

-- worlds

at_same : (world : Option KeyedWorld) (watched : Option Watched) → IsWatchedAt world watched → option_map world_of world ≡ option_map (λ (w : Watched). w.world) watched
at_same None None seen = refl
at_same None (Some watched) seen = absurd seen
at_same (Some world) None seen = absurd seen
at_same (Some world) (Some watched) seen = ap (λ (w : Watched). Some w.world) seen.same

are_same : (worlds : List (Option KeyedWorld)) (watched : List (Option Watched)) → AreWatched worlds watched → map (option_map world_of) worlds ≡ map (option_map (λ (w : Watched). w.world)) watched
are_same [] [] seen = refl
are_same [] (one ∷ watched) seen = absurd seen
are_same (world ∷ worlds) [] seen = absurd seen
are_same (world ∷ worlds) (one ∷ watched) seen =
    ap (λ (l : List (Option World)). option_map world_of world ∷ l) (are_same worlds watched seen.1)
    ∙ ap (λ (w : Option World). w ∷ map (option_map (λ (w : Watched). w.world)) watched) (at_same world one seen.0)

pub stack_same : (stack : KeyedStack) (watched : WatchedStack) → IsWatchedStack stack watched → stack_of stack ≡ plain_stack watched
stack_same stack watched seen =
    let one : stack_of stack ≡ record { panes = watched.panes; worlds = map (option_map world_of) stack.worlds } = ap (λ (panes : PlainPanes). record { panes = panes; worlds = map (option_map world_of) stack.worlds }) seen.panes in
    let two : record { panes = watched.panes; worlds = map (option_map world_of) stack.worlds } ≡ plain_stack watched = ap (λ (worlds : List (Option World)). record { panes = watched.panes; worlds = worlds }) (are_same stack.worlds watched.worlds seen.worlds) in
    one ∙ two

at_watched : (worlds : List (Option KeyedWorld)) (watched : List (Option Watched)) (k : ℕ) → AreWatched worlds watched → IsWatchedAt (slice_index_or worlds k None) (watched_at watched k)
at_watched [] [] zero seen = tt
at_watched [] [] (suc k) seen = tt
at_watched [] (one ∷ watched) k seen = absurd seen
at_watched (world ∷ worlds) [] k seen = absurd seen
at_watched (world ∷ worlds) (one ∷ watched) zero seen = seen.0
at_watched (world ∷ worlds) (one ∷ watched) (suc k) seen = at_watched worlds watched k seen.1

set_watched : (worlds : List (Option KeyedWorld)) (watched : List (Option Watched)) (k : ℕ) (world : Option KeyedWorld) (one : Option Watched) → AreWatched worlds watched → IsWatchedAt world one
    → AreWatched (slice_set worlds k world) (slice_set watched k one)
set_watched [] [] zero world one seen held = tt
set_watched [] [] (suc k) world one seen held = tt
set_watched [] (other ∷ watched) k world one seen held = absurd seen
set_watched (other ∷ worlds) [] k world one seen held = absurd seen
set_watched (other ∷ worlds) (past ∷ watched) zero world one seen held = (held, seen.1)
set_watched (other ∷ worlds) (past ∷ watched) (suc k) world one seen held = (seen.0, set_watched worlds watched k world one seen.1 held)

pub none_watched : (n : ℕ) → AreWatched (replicate n None) (map (option_map watched_first) (map (option_map world_of) (replicate n None)))
none_watched zero = tt
none_watched (suc n) = (tt, none_watched n)

pub first_watched : IsWatched new_world (watched_first empty_world)
first_watched = record { same = refl; box = λ based. (let clash : false ≡ true = based in absurd (cc)) }

-- a window that was given a command

reply_world : (files : Files) (stack : PlainStack) (after : PlainStack) (holder : Option ℕ) (k : ℕ) (said : PlainCommand) (before : World) (reply : Reply) (text : List ℕ)
    → step files before said ≡ reply → after_given stack holder k (step files before said) ≡ stack_reply.Done after text
    → (made : World) × (step files before said ≡ world.Done made (text)) × (after.worlds ≡ slice_set stack.worlds k (Some made))
reply_world files stack after holder k said before (world.Done made other) text e done =
    let f : stack_reply.Done (with_world stack holder k made) other ≡ stack_reply.Done after text = ap (after_given stack holder k) (sym e) ∙ done in
    let texts : other ≡ text = cc in
    let stacks : with_world stack holder k made ≡ after = cc in
    (made, e ∙ ap (world.Done made) texts, ap (λ (s : PlainStack). s.worlds) (sym stacks))
reply_world files stack after holder k said before (world.Refused refusal) text e done =
    let f : stack_reply.Refused refusal ≡ stack_reply.Done after text = ap (after_given stack holder k) (sym e) ∙ done in absurd (cc)

given_watched : (files : Files) (before after : KeyedStack) (watched : WatchedStack) (holder : Option ℕ) (k : ℕ) (said : PlainCommand) (result : Result (Unit {0}) StepFault) (old new : Work) (text : List ℕ) (here : Option Watched)
    → watched_at watched.worlds k ≡ here → IsWatchedStack before watched → WorksBy (Given holder k said) before after result old new
    → by_way files (plain_stack watched) (Given holder k said) ≡ stack_reply.Done (stack_of after) text → IsDone result
    → AreWatched after.worlds (after_said files watched.worlds k said here) × IsWorth (costs_in here said) old new
given_watched files before after watched holder k said result old new text None e seen works done ended =
    let held = at_watched before.worlds watched.worlds k seen.worlds in
    absurd (rw (e, works.1) at held)
given_watched files before after watched holder k said result old new text (Some one) e seen works done ended =
    let held = at_watched before.worlds watched.worlds k seen.worlds in
    let is : IsWatched works.0 one = rw (e, works.1) at held in
    let here : slice_index_or (plain_stack watched).worlds k None ≡ Some one.world = at_map (λ (w : Watched). w.world) watched.worlds k ∙ ap (option_map (λ (w : Watched). w.world)) e in
    let given : given_to files (plain_stack watched) holder k said (Some one.world) ≡ stack_reply.Done (stack_of after) text = ap (given_to files (plain_stack watched) holder k said) (sym here) ∙ done in
    let made = reply_world files (plain_stack watched) (stack_of after) holder k said one.world (step files one.world said) text refl given in
    let there : slice_index_or after.worlds k None ≡ Some works.2 = ap (λ (l : List (Option KeyedWorld)). slice_index_or l k None) works.3 ∙ put_back before.worlds k works.0 (Some works.2) works.1 in
    let plain : Some made.0 ≡ Some (world_of works.2) =
    sym (put_back (plain_stack watched).worlds k one.world (Some made.0) here)
    ∙ ap (λ (l : List (Option World)). slice_index_or l k None) (sym made.2)
    ∙ at_map world_of after.worlds k ∙ ap (option_map world_of) there in
    let same : made.0 ≡ world_of works.2 = cc in
    let now = subst (λ (w : Watched). IsWatched works.2 (watched_after w said (world_of works.2))) is.same (works.4.watched ended one.box is.box) in
    let last : IsWatched works.2 (watched_after one said made.0) = subst (λ (w : World). IsWatched works.2 (watched_after one said w)) (sym same) now in (
      rw (works.3, made.1) (set_watched before.worlds watched.worlds k (Some works.2) (Some (watched_after one said made.0)) seen.worlds last),
      subst (λ (w : Watched). IsWorth (costs_of w said) old new) is.same (works.4.worth ended one.box is.box),
    )

-- a change of the stack itself

own_watched : (before : KeyedStack) (watched : WatchedStack) (change : Own) → IsWatchedStack before watched → AreWatched (worlds_after before change) (after_own watched change)
own_watched before watched (own.At k x y) seen = elim (cases_Bool (is_open watched.panes k)) [
  | inl e ↦ rw (seen.panes, e) seen.worlds
  | inr e ↦ rw (seen.panes, e) (set_watched before.worlds watched.worlds k (Some new_world) (Some (watched_first empty_world)) seen.worlds first_watched)
]
own_watched before watched (own.Raise k) seen = seen.worlds
own_watched before watched (own.Close k) seen = set_watched before.worlds watched.worlds k None None seen.worlds tt
own_watched before watched (own.Compose x y w h) seen = seen.worlds

-- what a line leaves of the worlds of a stack, and what it costs
pub way_watched : (files : Files) (before after : KeyedStack) (watched : WatchedStack) (way : PlainWay) (result : Result (Unit {0}) StepFault) (old new : Work) (text : List ℕ)
    → IsWatchedStack before watched → WorksBy way before after result old new → by_way files (plain_stack watched) way ≡ stack_reply.Done (stack_of after) text → IsDone result
    → AreWatched after.worlds (after_way files watched way) × IsWorth (costs_of_way watched way) old new
way_watched files before after watched (Given holder k said) result old new text seen works done ended =
    given_watched files before after watched holder k said result old new text (watched_at watched.worlds k) refl seen works done ended
way_watched files before after watched Missed result old new text seen works done ended = (
  subst (λ (l : List (Option KeyedWorld)). AreWatched l watched.worlds) (sym works.0) seen.worlds,
  subst (λ (w : Work). IsWorth no_costs old w) (sym works.1) (worth_none old),
)
way_watched files before after watched (RefusedBy number) result old new text seen works done ended = (
  subst (λ (l : List (Option KeyedWorld)). AreWatched l watched.worlds) (sym works.0) seen.worlds,
  subst (λ (w : Work). IsWorth no_costs old w) (sym works.1) (worth_none old),
)
way_watched files before after watched (ToStack change) result old new text seen works done ended = (
  subst (λ (l : List (Option KeyedWorld)). AreWatched l (after_own watched change)) (sym (works.0 ended)) (own_watched before watched change seen),
  subst (λ (w : Work). IsWorth no_costs old w) (sym works.1) (worth_none old),
)
