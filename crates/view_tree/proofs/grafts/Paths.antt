-- What is known of the last view of each depth while the views of a sapling are added in preorder. The place of a depth
-- is one less than the depth.
use Rattle.std.proofs.Common.{◌≡◌, ℕ, ◌<◌, ◌≤◌, ◌+◌, Bool, true, false, List, ◌∷◌, refl, arith}
use Rattle.std.proofs.lemmas.Bool.{eq-eqb, leb-true, ltb-true, ne_eqb}
use Rattle.std.specs.Prelude.{◌==◌, ◌&&◌, if◌then◌else◌, nat_le, nat_lt}
use Rattle.view_model.specs.declared.sprout.Sprout.{Sprout}
use Rattle.view_model.specs.Sprouts.{follows}

-- the last of each place, once one of this place was added
abbrev pub with_last : {A : Type 0} → (ℕ → A) → ℕ → A → ℕ → A
with_last path place new other = if other == place then new else path other

pub last_own : {A : Type 0} (path : ℕ → A) (place : ℕ) (new : A) → with_last path place new place ≡ new
last_own path place new = rw (eq-eqb place place refl)

pub last_earlier : {A : Type 0} (path : ℕ → A) (place other : ℕ) (new : A) → other < place → with_last path place new other ≡ path other
last_earlier path place other new less = rw (ne_eqb other place (λ e. absurd (omega arith)))

pub both : (a b : Bool) → (a && b) ≡ true → (a ≡ true) × (b ≡ true)
both true b is = (refl, is)
both false b is = absurd (cc)

-- where the next sprout goes, after one of this depth
pub record FollowsDepth (before : ℕ) (sprout : Sprout) (more : List Sprout) : Type 0 where
  pub deep : 1 < sprout.depth
  pub next : sprout.depth ≤ before + 1
  pub rest : follows sprout.depth more ≡ true

pub followed : (before : ℕ) (sprout : Sprout) (more : List Sprout) → follows before (sprout ∷ more) ≡ true → FollowsDepth before sprout more
followed before sprout more follow =
    let one = both (nat_lt 1 sprout.depth) _ follow in
    let two = both (nat_le sprout.depth (before + 1)) _ one.1 in
    record { deep = ltb-true 1 sprout.depth one.0; next = leb-true sprout.depth (before + 1) two.0; rest = two.1 }
