-- How a link is kept.
use Rattle.std.specs.Prelude.{◌≡◌, ◌==◌, ℕ, if◌then◌else◌, Option, Some, None, refl}
use Rattle.std.proofs.Common.{ap, sym, inl, inr}
use Rattle.std.proofs.lemmas.Bool.{cases_Bool, eqb-true}
use Rattle.slab_link.specs.Numbers.{links_end}
use Rattle.slab_link.specs.declared.link.Link.TheInside.{Inside}

-- the key that is kept, where the end of the keys is none
abbrev pub key_in : Inside → Option ℕ
key_in inside = if inside.raw == links_end then None else Some inside.raw

abbrev pub kept_of : Option ℕ → Inside
kept_of None = record { raw = links_end }
kept_of (Some key) = record { raw = key }

-- a key is kept in one way alone
pub kept_of_key : (inside : Inside) → kept_of (key_in inside) ≡ inside
kept_of_key inside = elim (cases_Bool (inside.raw == links_end)) [
  | inl is ↦ rw is (ap (λ n. let i : Inside = record { raw = n } in i) (sym (eqb-true inside.raw links_end is)))
  | inr not ↦ rw not refl
]
