-- A list in preorder with depths and its trees represent one another.
use Rattle.std.proofs.Common.{◌≡◌, ℕ, suc, ◌+◌, ◌<◌, ◌≤◌, List, [], ◌∷◌, ◌++◌, refl, sym, subst, ◌∙◌, ap, arith, append_assoc, true, false, Bool}
use Rattle.std.proofs.lemmas.Bool.{and_parts, eqb-true, leb-true, le-ltb, lt-ltb, ltb-false, ltb-true}
use Rattle.std.proofs.lemmas.List.{append-nil}
use Rattle.std.specs.Prelude.{◌&&◌, nat_lt, nat_le, ◌==◌}
use Rattle.view_model.specs.declared.sprout.Sprout.{Sprout}
use Rattle.view_model.specs.Forest.{Forest, Nothing, Branch}
use Rattle.view_model.specs.Sprouts.{IsPreorder, Seed, Stem, beyond, deeper, follows, preorder, seeds_of, sprout_of, stems}

-- the outermost views of trees as stems, if they have this depth
abbrev stems_at : ℕ → Forest Seed → List Stem
stems_at depth Nothing = []
stems_at depth (Branch seed below after) = record { depth = depth; seed = seed; below = below } ∷ stems_at depth after

-- the first of these is not deeper than this
abbrev Ends : ℕ → List Stem → Type 0
Ends depth [] = Unit {0}
Ends depth (stem ∷ more) = stem.depth ≤ depth

deeper-at : (d : ℕ) (t : Forest Seed) (more : List Stem) → Ends d more → deeper d (stems_at (suc d) t ++ more) ≡ t
deeper-at d Nothing [] e = refl
deeper-at d Nothing (stem ∷ more) e = rw (le-ltb d stem.depth e)
deeper-at d (Branch seed below after) more e = let h : d < suc d = omega arith in rw (lt-ltb d (suc d) h) (ap (λ t. Branch seed below t) (deeper-at d after more e))

beyond-at : (d : ℕ) (t : Forest Seed) (more : List Stem) → Ends d more → beyond d (stems_at (suc d) t ++ more) ≡ more
beyond-at d Nothing [] e = refl
beyond-at d Nothing (stem ∷ more) e = rw (le-ltb d stem.depth e)
beyond-at d (Branch seed below after) more e = let h : d < suc d = omega arith in rw (lt-ltb d (suc d) h) (beyond-at d after more e)

ends_at : (d : ℕ) (t : Forest Seed) (more : List Stem) → Ends d more → Ends d (stems_at d t ++ more)
ends_at d Nothing more e = e
ends_at d (Branch seed below after) more e = omega arith

ends_deeper : (d : ℕ) (more : List Stem) → Ends d more → Ends (suc d) more
ends_deeper d [] e = tt
ends_deeper d (stem ∷ more) e = omega arith

stems-preorder : (d : ℕ) (t : Forest Seed) (rest : List Sprout) → Ends d (stems rest) → stems (preorder d t ++ rest) ≡ stems_at d t ++ stems rest
stems-preorder d Nothing rest e = refl
stems-preorder d (Branch seed below after) rest e =
    let later = stems-preorder d after rest e in
    let ends : Ends d (stems (preorder d after ++ rest)) = rw later (ends_at d after (stems rest) e) in
    let all : stems ((preorder (suc d) below ++ preorder d after) ++ rest) ≡ stems_at (suc d) below ++ stems (preorder d after ++ rest) =
    ap stems (append_assoc (preorder (suc d) below) (preorder d after) rest) ∙ stems-preorder (suc d) below (preorder d after ++ rest) (ends_deeper d _ ends) in
    ap (λ more. record { depth = d; seed = seed; below = deeper d more } ∷ beyond d more) all
    ∙ rw (deeper-at d below (stems (preorder d after ++ rest)) ends, beyond-at d below (stems (preorder d after ++ rest)) ends, later)

-- the trees of their own preorder
pub seeds_of-preorder : (t : Forest Seed) → seeds_of (preorder 1 t) ≡ t
seeds_of-preorder t =
    ap seeds_of (sym (append-nil (preorder 1 t))) ∙ ap (deeper 0) (stems-preorder 1 t [] tt) ∙ deeper-at 0 t [] tt

-- each of these is at most as deep as the one before it, and the first at most this deep
abbrev Sinks : ℕ → List Stem → Type 0
Sinks most [] = Unit {0}
Sinks most (stem ∷ more) = (stem.depth ≤ most) × Sinks stem.depth more

sinks-beyond : (d most : ℕ) (all : List Stem) → Sinks most all → Sinks d (beyond d all)
sinks-beyond d most [] s = tt
sinks-beyond d most (stem ∷ more) s = by_test (nat_lt d stem.depth) refl (sinks-beyond d stem.depth more s.1)
  where
    by_test : (v : Bool) → nat_lt d stem.depth ≡ v → Sinks d (beyond d more) → Sinks d (beyond d (stem ∷ more))
    by_test true is rest = rw is rest
    by_test false is rest = rw is (ltb-false d stem.depth is, s.1)

-- the parts of what `follows` says of a list that is not empty
parts : (before : ℕ) (sprout : Sprout) (more : List Sprout) → follows before (sprout ∷ more) ≡ true
    → (1 < sprout.depth) × ((sprout.depth ≤ before + 1) × (follows sprout.depth more ≡ true))
parts before sprout more f =
    let deep = and_parts (nat_lt 1 sprout.depth) (nat_le sprout.depth (before + 1) && follows sprout.depth more) f in
    let near = and_parts (nat_le sprout.depth (before + 1)) (follows sprout.depth more) deep.1 in
    (ltb-true 1 sprout.depth deep.0, (leb-true sprout.depth (before + 1) near.0, near.1))

sinks-stems : (before : ℕ) (sprouts : List Sprout) → follows before sprouts ≡ true → Sinks (suc before) (stems sprouts)
sinks-stems before [] f = tt
sinks-stems before (sprout ∷ more) f =
    let p = parts before sprout more f in
    (omega (arith, p.1.0), sinks-beyond sprout.depth (suc sprout.depth) (stems more) (sinks-stems sprout.depth more p.1.1))

-- the list that stems represent
abbrev listed : List Stem → List Sprout
listed [] = []
listed (stem ∷ more) = sprout_of stem.depth stem.seed ∷ (preorder (suc stem.depth) stem.below ++ listed more)

preorder-deeper : (d : ℕ) (all : List Stem) → Sinks (suc d) all → preorder (suc d) (deeper d all) ++ listed (beyond d all) ≡ listed all
preorder-deeper d [] s = refl
preorder-deeper d (stem ∷ more) s = by_test (nat_lt d stem.depth) refl (preorder-deeper d more)
  where
    by_test : (v : Bool) → nat_lt d stem.depth ≡ v
        → (Sinks (suc d) more → preorder (suc d) (deeper d more) ++ listed (beyond d more) ≡ listed more)
        → preorder (suc d) (deeper d (stem ∷ more)) ++ listed (beyond d (stem ∷ more)) ≡ listed (stem ∷ more)
    by_test true is later =
        let exact : stem.depth ≡ suc d = omega (arith, ltb-true d stem.depth is, s.0) in
        let rest : Sinks (suc d) more = subst (λ n. Sinks n more) exact s.1 in
        rw is (rw exact (ap (λ l. sprout_of (suc d) stem.seed ∷ l)
        (append_assoc (preorder (suc (suc d)) stem.below) (preorder (suc d) (deeper d more)) (listed (beyond d more))
        ∙ ap (λ l. preorder (suc (suc d)) stem.below ++ l) (later rest))))
    by_test false is later = rw is refl

listed-stems : (before : ℕ) (sprouts : List Sprout) → follows before sprouts ≡ true → listed (stems sprouts) ≡ sprouts
listed-stems before [] f = refl
listed-stems before (sprout ∷ more) f =
    let p = parts before sprout more f in
    ap (λ l. sprout ∷ l) (preorder-deeper sprout.depth (stems more) (sinks-stems sprout.depth more p.1.1) ∙ listed-stems sprout.depth more p.1.1)

beyond-beyond : (d : ℕ) (all : List Stem) → beyond 0 (beyond d all) ≡ beyond 0 all
beyond-beyond d [] = refl
beyond-beyond d (stem ∷ more) = by_test (nat_lt d stem.depth) refl (beyond-beyond d more)
  where
    by_test : (v : Bool) → nat_lt d stem.depth ≡ v → beyond 0 (beyond d more) ≡ beyond 0 more → beyond 0 (beyond d (stem ∷ more)) ≡ beyond 0 (stem ∷ more)
    by_test true is later =
        let some : nat_lt 0 stem.depth ≡ true = lt-ltb 0 stem.depth (omega (arith, ltb-true d stem.depth is)) in
        rw (is, some) later
    by_test false is later = rw is refl

-- no view is outside of the trees
none_beyond : (before : ℕ) (sprouts : List Sprout) → follows before sprouts ≡ true → beyond 0 (stems sprouts) ≡ []
none_beyond before [] f = refl
none_beyond before (sprout ∷ more) f =
    let p = parts before sprout more f in
    let some : nat_lt 0 sprout.depth ≡ true = lt-ltb 0 sprout.depth (omega (arith, p.0)) in
    rw some (beyond-beyond sprout.depth (stems more) ∙ none_beyond sprout.depth more p.1.1)

-- the preorder of its trees
pub preorder-seeds_of : (sprouts : List Sprout) → IsPreorder sprouts → preorder 1 (seeds_of sprouts) ≡ sprouts
preorder-seeds_of [] is = refl
preorder-seeds_of (sprout ∷ more) is =
    let both = and_parts (sprout.depth == 1) (follows 1 more) is in
    let one = eqb-true sprout.depth 1 both.0 in
    let follow : follows sprout.depth more ≡ true = rw one both.1 in
    let sinks : Sinks 1 (stems (sprout ∷ more)) = (omega (arith, one), sinks-beyond sprout.depth (suc sprout.depth) (stems more) (sinks-stems sprout.depth more follow)) in
    let none : beyond 0 (stems (sprout ∷ more)) ≡ [] =
    rw (lt-ltb 0 sprout.depth (omega (arith, one))) (beyond-beyond sprout.depth (stems more) ∙ none_beyond sprout.depth more follow) in
    let all : preorder 1 (seeds_of (sprout ∷ more)) ++ listed (beyond 0 (stems (sprout ∷ more))) ≡ listed (stems (sprout ∷ more)) =
    preorder-deeper 0 (stems (sprout ∷ more)) sinks in
    let list : listed (stems (sprout ∷ more)) ≡ sprout ∷ more =
    ap (λ l. sprout ∷ l) (preorder-deeper sprout.depth (stems more) (sinks-stems sprout.depth more follow) ∙ listed-stems sprout.depth more follow) in
    sym (append-nil (preorder 1 (seeds_of (sprout ∷ more)))) ∙ ap (λ l. preorder 1 (seeds_of (sprout ∷ more)) ++ listed l) (sym none) ∙ all ∙ list
