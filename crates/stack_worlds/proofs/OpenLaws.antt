-- Which windows are open after a line, and that each of them has a world.
use Rattle.std.proofs.Common.{◌≡◌, ◌∙◌, ℕ, ◌<◌, ◌≤◌, ◌==◌, true, false, Bool, length, List, [], ◌∷◌, ◌++◌, refl, ap, sym, arith, inl, inr, get_or, set}
use Rattle.std.specs.Prelude.{Option, Some, None, ℤ, ◌||◌, if◌then◌else◌, map}
use Rattle.std.specs.Option.{is_some}
use Rattle.std.proofs.lemmas.Bool.{cases_Bool, cases_eq, eq-eqb, ne_eqb}
use Rattle.std.proofs.lemmas.List.{get_or-set_same, get_or-set_other, length-set}
use Rattle.stack_worlds.specs.KeptStack.{HasWorlds}
use Rattle.view_world.specs.world.KeyedWorld.{KeyedWorld}
use Rattle.window_stack.specs.PlainPanes.{PlainPanes, closed, is_open, only, pane_at, placed, raised, set_at, without}
use Rattle.window_stack.specs.declared.panes.Pane.{Pane}

-- a corner that is set opens and closes none of these
placed_some : (to : Pane) (panes : List Pane) (j : ℕ) → is_some (pane_at (map (placed to) panes) j) ≡ is_some (pane_at panes j)
placed_some to [] j = refl
placed_some to (p ∷ panes) j = elim (cases_eq p.k to.k) [
  | inl e ↦ rw (eq-eqb p.k to.k e, sym e) (elim (cases_Bool (p.k == j)) [ inl f ↦ rw f refl | inr f ↦ rw f (placed_some to panes j) ])
  | inr ne ↦ rw (ne_eqb p.k to.k ne) (elim (cases_Bool (p.k == j)) [ inl f ↦ rw f refl | inr f ↦ rw f (placed_some to panes j) ])
]

pub set_keeps : (panes : PlainPanes) (k : ℕ) (x y : ℤ) (j : ℕ) → is_open panes k ≡ true → is_open (set_at panes k x y) j ≡ is_open panes j
set_keeps panes k x y j e = rw e (placed_some (record { k = k; x = x; y = y }) panes.panes j)

pub set_opens : (panes : PlainPanes) (k : ℕ) (x y : ℤ) (j : ℕ) → is_open panes k ≡ false → is_open (set_at panes k x y) j ≡ (if k == j then true else is_open panes j)
set_opens panes k x y j e = rw e (elim (cases_Bool (k == j)) [ inl f ↦ rw f refl | inr f ↦ rw f refl ])

or_true : (b : Bool) → (b || true) ≡ true
or_true true = refl
or_true false = refl

some_append : (xs ys : List Pane) (j : ℕ) → is_some (pane_at (xs ++ ys) j) ≡ (is_some (pane_at xs j) || is_some (pane_at ys j))
some_append [] ys j = refl
some_append (p ∷ xs) ys j = elim (cases_Bool (p.k == j)) [ inl e ↦ rw e refl | inr e ↦ rw e (some_append xs ys j) ]

parted_some : (k : ℕ) (panes : List Pane) (j : ℕ) → (is_some (pane_at (only k panes) j) || is_some (pane_at (without k panes) j)) ≡ is_some (pane_at panes j)
parted_some k [] j = refl
parted_some k (p ∷ panes) j = elim (cases_Bool (p.k == k)) [
  | inl e ↦ rw e (elim (cases_Bool (p.k == j)) [ inl f ↦ rw f refl | inr f ↦ rw f (parted_some k panes j) ])
  | inr e ↦ rw e (elim (cases_Bool (p.k == j)) [ inl f ↦ rw f (or_true (is_some (pane_at (only k panes) j))) | inr f ↦ rw f (parted_some k panes j) ])
]

pub raise_keeps : (panes : PlainPanes) (k j : ℕ) → is_open (raised panes k) j ≡ is_open panes j
raise_keeps panes k j = some_append (only k panes.panes) (without k panes.panes) j ∙ parted_some k panes.panes j

without_same : (k : ℕ) (panes : List Pane) → is_some (pane_at (without k panes) k) ≡ false
without_same k [] = refl
without_same k (p ∷ panes) = elim (cases_Bool (p.k == k)) [ inl e ↦ rw e (without_same k panes) | inr e ↦ rw (e, e) (without_same k panes) ]

without_other : (k : ℕ) (panes : List Pane) (j : ℕ) → (j ≡ k → ⊥) → is_some (pane_at (without k panes) j) ≡ is_some (pane_at panes j)
without_other k [] j ne = refl
without_other k (p ∷ panes) j ne = elim (cases_eq p.k k) [
  | inl e ↦ rw (eq-eqb p.k k e, ne_eqb p.k j (λ same. ne (sym same ∙ e))) (without_other k panes j ne)
  | inr off ↦ rw (ne_eqb p.k k off) (elim (cases_Bool (p.k == j)) [ inl f ↦ rw f refl | inr f ↦ rw f (without_other k panes j ne) ])
]

-- each open window has a world, where none was opened or closed
pub has_same : (panes after : PlainPanes) (worlds : List (Option KeyedWorld)) → ((j : ℕ) → is_open after j ≡ is_open panes j) → HasWorlds (record { panes = panes; worlds = worlds })
    → HasWorlds (record { panes = after; worlds = worlds })
has_same panes after worlds same has = record { all = has.all; there = λ j. has.there j ∙ sym (same j) }

-- one was opened
pub has_opened : (panes : PlainPanes) (worlds : List (Option KeyedWorld)) (k : ℕ) (x y : ℤ) (world : KeyedWorld) → k ≤ 7 → is_open panes k ≡ false → HasWorlds (record { panes = panes; worlds = worlds })
    → HasWorlds (record { panes = set_at panes k x y; worlds = set worlds k (Some world) })
has_opened panes worlds k x y world name off has = record {
  all = length-set worlds k (Some world) ∙ has.all;
  there = λ j. elim (cases_eq j k) [
    | inl e ↦
        let within : k < length worlds = let all = has.all in omega arith in
        ap (λ (n : ℕ). is_some (get_or (set worlds k (Some world)) n None)) e ∙ ap is_some (get_or-set_same worlds k (Some world) None within)
        ∙ sym (set_opens panes k x y j off ∙ ap (λ (b : Bool). if b then true else is_open panes j) (eq-eqb k j (sym e)))
    | inr ne ↦ ap is_some (get_or-set_other worlds k j (Some world) None ne) ∙ has.there j
        ∙ sym (set_opens panes k x y j off ∙ ap (λ (b : Bool). if b then true else is_open panes j) (ne_eqb k j (λ same. ne (sym same))))
  ];
}

-- one was closed
pub has_closed : (panes : PlainPanes) (worlds : List (Option KeyedWorld)) (k : ℕ) → k ≤ 7 → HasWorlds (record { panes = panes; worlds = worlds })
    → HasWorlds (record { panes = closed panes k; worlds = set worlds k None })
has_closed panes worlds k name has = record {
  all = length-set worlds k None ∙ has.all;
  there = λ j. elim (cases_eq j k) [
    | inl e ↦
        let within : k < length worlds = let all = has.all in omega arith in
        ap (λ (n : ℕ). is_some (get_or (set worlds k None) n None)) e ∙ ap is_some (get_or-set_same worlds k None None within)
        ∙ sym (ap (λ (n : ℕ). is_some (pane_at (without k panes.panes) n)) e ∙ without_same k panes.panes)
    | inr ne ↦ ap is_some (get_or-set_other worlds k j None None ne) ∙ has.there j ∙ sym (without_other k panes.panes j ne)
  ];
}
