-- References, one after the other.
use Rattle.std.proofs.Common.{◌≡◌, ℕ, zero, suc, ◌+◌, ◌-◌, ◌<◌, List, Option, Some, None, refl, sym, ap, ◌∙◌, arith}
use Rattle.arsc_reader.specs.declared.held.Entry.{Entry}
use Rattle.arsc_reader.specs.declared.held.Held.{Held}
use Rattle.arsc_reader.specs.declared.held.Held.TheVariants as held
use Rattle.arsc_reader.specs.Table.{latest, named_by, through, followed}

on_by_one : (n : ℕ) (entries : List Entry) (id word : ℕ) → named_by (latest entries id) ≡ Some word → followed (suc n) entries id ≡ followed n entries word
unfolding followed
on_by_one n entries id word e = rw e refl

pub follow_on : (k : ℕ) (entries : List Entry) (id word : ℕ) → k < 16 → named_by (latest entries id) ≡ Some word → followed (16 - (k + 1)) entries word ≡ followed (16 - k) entries id
follow_on k entries id word lt e =
    let n : suc (16 - (k + 1)) ≡ 16 - k = omega arith in
    sym (on_by_one (16 - (k + 1)) entries id word e) ∙ ap (λ (m : ℕ). followed m entries id) n

pub follow_out : (n : ℕ) (entries : List Entry) (id : ℕ) → named_by (latest entries id) ≡ None → followed n entries id ≡ latest entries id
unfolding followed
follow_out zero entries id e = rw e refl
follow_out (suc n) entries id e = rw e refl

pub follow_end : (entries : List Entry) (id word : ℕ) → named_by (latest entries id) ≡ Some word → followed 0 entries id ≡ held.None
unfolding followed
follow_end entries id word e = rw e refl

through_same : (own : Held) (next : Option ℕ) (f g : ℕ → Held) → ((word : ℕ) → f word ≡ g word) → through own next f ≡ through own next g
through_same own None f g same = refl
through_same own (Some word) f g same = same word

-- where each id has the same last entry, each has the same value
pub followed_same : (n : ℕ) (a b : List Entry) → ((id : ℕ) → latest a id ≡ latest b id) → (id : ℕ) → followed n a id ≡ followed n b id
unfolding followed
followed_same zero a b same id = rw (same id) refl
followed_same (suc n) a b same id =
    rw (same id) (through_same (latest b id) (named_by (latest b id)) (λ word. followed n a word) (λ word. followed n b word) (λ word. followed_same n a b same word))
