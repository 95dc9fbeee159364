-- A line that is given to one window leaves the others as they are, and what it does in that one is what it does in a world
-- that no other window uses.
use Rattle.std.proofs.Common.{◌≡◌, ℕ, zero, ◌<◌, ◌==◌, suc, true, false, length, List, [], ◌∷◌, ◌++◌, refl, ap, sym, subst, ◌∙◌, arith, inl, inr, get_or, set}
use Rattle.std.specs.Prelude.{Option, Some, None, fold, if◌then◌else◌, not, ◌&&◌, replicate}
use Rattle.std.proofs.lemmas.Bool.{cases_Bool, cases_eq, eq-eqb, ne_eqb}
use Rattle.std.proofs.lemmas.Grind.{fold-append}
use Rattle.std.proofs.lemmas.List.{append-nil, get_or-set_same, get_or-set_other}
use Rattle.script_lines.specs.commands.PlainCommands.{PlainCommand}
use Rattle.tool_io.specs.Fetched.{Files}
use Rattle.stack_worlds.specs.Isolation.{AreAlike, DependsOnShare, IsAlone, IsIsolated, Shared, after_shared, given_by, nothing_shared, opens, replies_alone, replies_from, reply_in, reply_of, share, shared_by, stack_or, world_alone, world_or}
use Rattle.stack_worlds.specs.PlainStack.{PlainStack, PlainWay, Given, Missed, RefusedBy, ToStack, after_given, by_way, empty_stack, given_to, own_step, way_of, world_at}
use Rattle.stack_worlds.specs.declared.stack.way.Own.TheVariants as own
use Rattle.world_parts.specs.Reply.{Reply, Done, Refused}
use Rattle.view_world.specs.world.Step.{step}
use Rattle.world_parts.specs.World.{World, empty_world}
use Rattle.window_stack.specs.PlainPanes.{is_open}
use Rattle.window_stack.specs.StackLines.{PlainLine}

replies_push : (files : Files) (world : World) (share : List PlainCommand) (said : PlainCommand)
    → replies_from files world (share ++ said ∷ []) ≡ replies_from files world share ++ step files (fold (λ world said. world_or world (step files world said)) world share) said ∷ []
replies_push files world [] said = refl
replies_push files world (first ∷ more) said =
    ap (λ (rest : List Reply). step files world first ∷ rest) (replies_push files (world_or world (step files world first)) more said)

alone_push : (files : Files) (share : List PlainCommand) (said : PlainCommand)
    → world_alone files (share ++ said ∷ []) ≡ world_or (world_alone files share) (step files (world_alone files share) said)
alone_push files share said = fold-append (λ world said. world_or world (step files world said)) empty_world share (said ∷ [])

next_world : (files : Files) (share : List PlainCommand) (said : PlainCommand) (world : World) (reply : Reply) → world ≡ world_alone files share → reply ≡ step files world said
    → world_or world reply ≡ world_alone files (share ++ said ∷ [])
next_world files share said world reply w r = ap (world_or world) r ∙ ap (λ v. world_or v (step files v said)) w ∙ sym (alone_push files share said)

next_reply : (files : Files) (share : List PlainCommand) (said : PlainCommand) (world : World) (replies : List Reply) (reply : Reply) → world ≡ world_alone files share
    → replies ≡ replies_alone files share → reply ≡ step files world said → replies ++ reply ∷ [] ≡ replies_alone files (share ++ said ∷ [])
next_reply files share said world replies reply w rs r =
    ap (λ (l : List Reply). l ++ reply ∷ []) rs ∙ ap (λ (one : Reply). replies_alone files share ++ one ∷ []) (r ∙ ap (λ v. step files v said) w)
    ∙ sym (replies_push files empty_world share said)

still : (files : Files) (world : Option World) (share : List PlainCommand) (replies : List Reply) → IsAlone files world share replies → IsAlone files world (share ++ []) (replies ++ [])
still files world share replies is =
    subst (λ (l : List PlainCommand). IsAlone files world l (replies ++ [])) (sym (append-nil share)) (subst (IsAlone files world share) (sym (append-nil replies)) is)

-- a place at which there is something is one of the list
pub within : {X : Type 0} (xs : List (Option X)) (k : ℕ) (x : X) → get_or xs k None ≡ Some x → k < length xs
within [] k x e = absurd (cc e)
within (y ∷ ys) zero x e = omega arith
within (y ∷ ys) (suc k) x e = let more = within ys k x e in omega arith

-- a command for the window itself
same_replied : (files : Files) (k : ℕ) (holder : Option ℕ) (said : PlainCommand) (stack : PlainStack) (share : List PlainCommand) (replies : List Reply) (world : World) (reply : Reply)
    → get_or stack.worlds k None ≡ Some world → world ≡ world_alone files share → replies ≡ replies_alone files share → reply ≡ step files world said
    → IsAlone files (world_at (stack_or stack (after_given stack holder k reply)) k) (share ++ said ∷ []) (replies ++ reply ∷ [])
same_replied files k holder said stack share replies world (Refused refusal) there w rs r =
    subst (λ (o : Option World). IsAlone files o (share ++ said ∷ []) (replies ++ Refused refusal ∷ [])) (sym there)
    (next_world files share said world (Refused refusal) w r, next_reply files share said world replies (Refused refusal) w rs r)
same_replied files k holder said stack share replies world (Done after text) there w rs r =
    subst (λ (o : Option World). IsAlone files o (share ++ said ∷ []) (replies ++ Done after text ∷ []))
    (sym (get_or-set_same stack.worlds k (Some after) None (within stack.worlds k world there)))
    (next_world files share said world (Done after text) w r, next_reply files share said world replies (Done after text) w rs r)

same_way : (files : Files) (k : ℕ) (holder : Option ℕ) (said : PlainCommand) (stack : PlainStack) (share : List PlainCommand) (replies : List Reply) (there : Option World)
    → get_or stack.worlds k None ≡ there → IsAlone files there share replies
    → IsAlone files (world_at (stack_or stack (given_to files stack holder k said there)) k) (share ++ said ∷ []) (replies ++ reply_in files there said)
same_way files k holder said stack share replies None e is =
    subst (λ (o : Option World). IsAlone files o (share ++ said ∷ []) (replies ++ [])) (sym e) tt
same_way files k holder said stack share replies (Some world) e is =
    same_replied files k holder said stack share replies world (step files world said) e is.0 is.1 refl

-- a command for another one
other_replied : (k j : ℕ) (holder : Option ℕ) (stack : PlainStack) (reply : Reply) → (k ≡ j → ⊥) → world_at (stack_or stack (after_given stack holder j reply)) k ≡ world_at stack k
other_replied k j holder stack (Refused refusal) ne = refl
other_replied k j holder stack (Done after text) ne = get_or-set_other stack.worlds j k (Some after) None ne

other_way : (files : Files) (k j : ℕ) (holder : Option ℕ) (said : PlainCommand) (stack : PlainStack) (there : Option World) → (k ≡ j → ⊥)
    → world_at (stack_or stack (given_to files stack holder j said there)) k ≡ world_at stack k
other_way files k j holder said stack None ne = refl
other_way files k j holder said stack (Some world) ne = other_replied k j holder stack (step files world said) ne

given_alone : (files : Files) (k j : ℕ) (holder : Option ℕ) (said : PlainCommand) (stack : PlainStack) (share : List PlainCommand) (replies : List Reply)
    → IsAlone files (world_at stack k) share replies
    → IsAlone files (world_at (stack_or stack (given_to files stack holder j said (world_at stack j))) k) (share ++ (if j == k then said ∷ [] else []))
    (replies ++ (if j == k then reply_in files (world_at stack j) said else []))
given_alone files k j holder said stack share replies is = elim (cases_eq j k) [
  | inl e ↦ rw (eq-eqb j k e) (subst (λ (n : ℕ). IsAlone files (world_at (stack_or stack (given_to files stack holder n said (world_at stack n))) k) (share ++ said ∷ []) (replies ++ reply_in files (world_at stack n) said)) (sym e)
      (same_way files k holder said stack share replies (world_at stack k) refl is))
  | inr ne ↦ rw (ne_eqb j k ne) (subst (λ (o : Option World). IsAlone files o (share ++ []) (replies ++ [])) (sym (other_way files k j holder said stack (world_at stack j) (λ same. ne (sym same))))
      (still files (world_at stack k) share replies is))
]

at_place : (files : Files) (worlds : List (Option World)) (j : ℕ) → IsAlone files (get_or (set worlds j (Some empty_world)) j None) [] []
at_place files [] j = tt
at_place files (world ∷ worlds) zero = (refl, refl)
at_place files (world ∷ worlds) (suc j) = at_place files worlds j

-- an empty world where a window was opened, and no other world changed
opened : (files : Files) (k j : ℕ) (worlds : List (Option World)) (share : List PlainCommand) (replies : List Reply) → IsAlone files (get_or worlds k None) share replies
    → IsAlone files (get_or (set worlds j (Some empty_world)) k None) (if j == k && true then [] else share ++ []) (if j == k && true then [] else replies ++ [])
opened files k j worlds share replies is = elim (cases_eq j k) [
  | inl e ↦ rw (eq-eqb j k e) (subst (λ (n : ℕ). IsAlone files (get_or (set worlds j (Some empty_world)) n None) [] []) e (at_place files worlds j))
  | inr ne ↦ rw (ne_eqb j k ne, get_or-set_other worlds j k (Some empty_world) None (λ same. ne (sym same))) (still files (get_or worlds k None) share replies is)
]

unopened : (files : Files) (k j : ℕ) (world : Option World) (share : List PlainCommand) (replies : List Reply) → IsAlone files world share replies
    → IsAlone files world (if j == k && false then [] else share ++ []) (if j == k && false then [] else replies ++ [])
unopened files k j world share replies is = elim (cases_Bool (j == k)) [ inl e ↦ rw e (still files world share replies is) | inr e ↦ rw e (still files world share replies is) ]

at_alone : (files : Files) (k j : ℕ) (stack : PlainStack) (share : List PlainCommand) (replies : List Reply) (x y : _) → IsAlone files (world_at stack k) share replies
    → IsAlone files (world_at (stack_or stack (own_step stack (own.At j x y))) k) (if j == k && not (is_open stack.panes j) then [] else share ++ [])
    (if j == k && not (is_open stack.panes j) then [] else replies ++ [])
at_alone files k j stack share replies x y is = elim (cases_Bool (is_open stack.panes j)) [
  | inl e ↦ rw e (unopened files k j (world_at stack k) share replies is)
  | inr e ↦ rw e (opened files k j stack.worlds share replies is)
]

closed : (files : Files) (k j : ℕ) (worlds : List (Option World)) (share : List PlainCommand) (replies : List Reply) → IsAlone files (get_or worlds k None) share replies
    → IsAlone files (get_or (set worlds j None) k None) (share ++ []) (replies ++ [])
closed files k j [] share replies is = still files None share replies is
closed files zero zero (world ∷ worlds) share replies is = tt
closed files zero (suc j) (world ∷ worlds) share replies is = still files world share replies is
closed files (suc k) zero (world ∷ worlds) share replies is = still files (get_or worlds k None) share replies is
closed files (suc k) (suc j) (world ∷ worlds) share replies is = closed files k j worlds share replies is

by_way_alone : (files : Files) (k : ℕ) (stack : PlainStack) (share : List PlainCommand) (replies : List Reply) (way : PlainWay) → IsAlone files (world_at stack k) share replies
    → IsAlone files (world_at (stack_or stack (by_way files stack way)) k) (if opens stack k way then [] else share ++ given_by k way)
    (if opens stack k way then [] else replies ++ reply_of files stack k way)
by_way_alone files k stack share replies (Given holder j said) is = given_alone files k j holder said stack share replies is
by_way_alone files k stack share replies Missed is = still files (world_at stack k) share replies is
by_way_alone files k stack share replies (RefusedBy number) is = still files (world_at stack k) share replies is
by_way_alone files k stack share replies (ToStack (own.At j x y)) is = at_alone files k j stack share replies x y is
by_way_alone files k stack share replies (ToStack (own.Raise j)) is = still files (world_at stack k) share replies is
by_way_alone files k stack share replies (ToStack (own.Close j)) is = closed files k j stack.worlds share replies is
by_way_alone files k stack share replies (ToStack (own.Compose x y w h)) is = still files (world_at stack k) share replies is

-- a line keeps each window's state and replies those of its share alone
pub alone_after : (files : Files) (k : ℕ) (shared : Shared) (line : PlainLine) → IsAlone files (world_at shared.stack k) shared.share shared.replies
    → let after = after_shared files k shared line in IsAlone files (world_at after.stack k) after.share after.replies
alone_after files k shared line is = by_way_alone files k shared.stack shared.share shared.replies (way_of shared.stack line) is

alone_from : (files : Files) (k : ℕ) (shared : Shared) (lines : List PlainLine) → IsAlone files (world_at shared.stack k) shared.share shared.replies
    → let after = fold (after_shared files k) shared lines in IsAlone files (world_at after.stack k) after.share after.replies
alone_from files k shared [] is = is
alone_from files k shared (line ∷ lines) is = alone_from files k (after_shared files k shared line) lines (alone_after files k shared line is)

abbrev no_world : Option World
no_world = None

none_in : (n k : ℕ) → get_or (replicate n no_world) k None ≡ None
none_in zero k = refl
none_in (suc n) zero = refl
none_in (suc n) (suc k) = none_in n k

none_at_first : (files : Files) (k : ℕ) → IsAlone files (world_at empty_stack k) [] []
none_at_first files k = subst (λ (o : Option World). IsAlone files o [] []) (sym (none_in 8 k)) tt

-- for its own sake: after any lines, the state and the replies of each open window are those of its share alone
pub isolated : (files : Files) (k : ℕ) (lines : List PlainLine) → IsIsolated files k lines
isolated files k lines = alone_from files k nothing_shared lines (none_at_first files k)

alike : (files : Files) (said : List PlainCommand) (world : Option World) (replies : List Reply) (other : Option World) (others : List Reply)
    → IsAlone files world said replies → IsAlone files other said others → AreAlike world replies other others
alike files said None replies other others one two = tt
alike files said (Some world) replies None others one two = tt
alike files said (Some world) replies (Some other) others one two = (one.0 ∙ sym two.0, one.1 ∙ sym two.1)

-- for its own sake: what a window has become and what it has replied to depends on its share alone
pub depends_on_share : (files : Files) (k : ℕ) (lines others : List PlainLine) → DependsOnShare files k lines others
depends_on_share files k lines others same =
    let one = shared_by files k lines in
    let other = shared_by files k others in
    alike files (share files k lines) (world_at one.stack k) one.replies (world_at other.stack k) other.replies (isolated files k lines)
    (subst (λ (l : List PlainCommand). IsAlone files (world_at other.stack k) l other.replies) (sym same) (isolated files k others))
