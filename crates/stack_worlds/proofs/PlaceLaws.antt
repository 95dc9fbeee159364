-- One place of the worlds is another world.
use Rattle.std.proofs.Common.{◌≡◌, ℕ, zero, ◌<◌, ◌≤◌, suc, length, List, [], ◌∷◌, refl, ap, sym, subst, ◌∙◌, arith, inl, inr, get_or, set}
use Rattle.std.specs.Prelude.{Option, Some, None, Box, map}
use Rattle.std.specs.Option.{is_some}
use Rattle.std.proofs.lemmas.Bool.{cases_eq}
use Rattle.std.specs.declared.alloc.Global.{Global}
use Rattle.std.proofs.lemmas.List.{get_or-set_same, get_or-set_other, length-map, length-set, map-set, set-get_or}
use Rattle.window_stack.specs.PlainPanes.{PlainPanes, is_open}
use Rattle.stack_worlds.specs.KeptStack.{HasWorlds, KeyedStack, kept_world, keyed_at}
use Rattle.view_world.specs.world.KeyedWorld.{KeyedWorld}

pub keep_worlds : (panes : PlainPanes) (worlds : List (Option KeyedWorld)) (k : ℕ) (world : Option KeyedWorld) → k ≤ 7 → HasWorlds (record { panes = panes; worlds = worlds })
    → is_some world ≡ is_some (get_or worlds k None) → HasWorlds (record { panes = panes; worlds = set worlds k world })
keep_worlds panes worlds k world name is same = record {
  all = length-set worlds k world ∙ is.all;
  there = λ j. elim (cases_eq j k) [
    | inl e ↦
        let within : k < length worlds = let all = is.all in omega arith in
        ap (λ n. is_some (get_or (set worlds k world) n None)) e ∙ ap is_some (get_or-set_same worlds k world None within) ∙ same ∙ is.there k ∙ ap (is_open panes) (sym e)
    | inr ne ↦ ap is_some (get_or-set_other worlds k j world None ne) ∙ is.there j
  ];
}

pub some_of : {A : Type 0} {x y : A} → Some x ≡ Some y → x ≡ y
some_of {x = x} e = ap (or_else x) e
  where
    or_else : {A : Type 0} → A → Option A → A
    or_else x None = x
    or_else x (Some y) = y

pub map_within : {A B : Type 0} (f : A → B) (xs : List A) (k : ℕ) (d : A) (other : B) → k < length xs → get_or (map f xs) k other ≡ f (get_or xs k d)
map_within f [] k d other within = absurd (omega arith)
map_within f (x ∷ xs) zero d other within = refl
map_within f (x ∷ xs) (suc k) d other within = map_within f xs k d other (omega arith)

abbrev Place : Type 0
Place = Option (Box KeyedWorld Global)

abbrev kept : PlainPanes → List Place → KeyedStack
kept panes worlds = record { panes = panes; worlds = map kept_world worlds }

place_within : (panes : PlainPanes) (worlds : List Place) (k : ℕ) → k ≤ 7 → HasWorlds (kept panes worlds) → k < length worlds
place_within panes worlds k name has = let all = has.all in let same = length-map worlds kept_world in omega arith

-- what is in the place of a window is the world that the stack has there
pub place_is : (panes : PlainPanes) (worlds : List Place) (k n : ℕ) (d : Place) → n ≡ k → k ≤ 7 → HasWorlds (kept panes worlds)
    → kept_world (get_or worlds n d) ≡ keyed_at (kept panes worlds) k
place_is panes worlds k n d at name has =
    ap (λ (i : ℕ). kept_world (get_or worlds i d)) at ∙ sym (map_within kept_world worlds k d None (place_within panes worlds k name has))

-- the stack with something else in that place
pub place_set : (panes : PlainPanes) (worlds : List Place) (k n : ℕ) (place : Place) (world : Option KeyedWorld) → n ≡ k → kept_world place ≡ world
    → kept panes (set worlds n place) ≡ record { panes = panes; worlds = set (map kept_world worlds) k world }
place_set panes worlds k n place world at e =
    ap (λ (i : ℕ). kept panes (set worlds i place)) at
    ∙ ap (λ (l : List (Option KeyedWorld)). record { panes = panes; worlds = l }) (map-set kept_world worlds k place ∙ ap (λ (w : Option KeyedWorld). set (map kept_world worlds) k w) e)

-- which keeps a window in each place that had one
pub place_kept : (panes : PlainPanes) (worlds : List Place) (k n : ℕ) (d place : Place) → n ≡ k → k ≤ 7 → HasWorlds (kept panes worlds)
    → is_some (kept_world place) ≡ is_some (kept_world (get_or worlds n d)) → HasWorlds (kept panes (set worlds n place))
place_kept panes worlds k n d place at name has same =
    subst HasWorlds (sym (place_set panes worlds k n place (kept_world place) at refl))
    (keep_worlds panes (map kept_world worlds) k (kept_world place) name has (same ∙ ap is_some (place_is panes worlds k n d at name has)))

-- the same stack, where the same is in the place
pub place_same : (panes : PlainPanes) (worlds : List Place) (k n : ℕ) (d place : Place) → n ≡ k → k ≤ 7 → HasWorlds (kept panes worlds)
    → kept_world place ≡ kept_world (get_or worlds n d) → kept panes (set worlds n place) ≡ kept panes worlds
place_same panes worlds k n d place at name has same =
    place_set panes worlds k n place (keyed_at (kept panes worlds) k) at (same ∙ place_is panes worlds k n d at name has)
    ∙ ap (λ (l : List (Option KeyedWorld)). record { panes = panes; worlds = l }) (set-get_or (map kept_world worlds) k None)
