-- What a word names.
use Rattle.std.proofs.Common.{◌≡◌, ℕ, ap, ◌∙◌, inl, inr, List, [], ◌∷◌, Some}
use Rattle.std.specs.Str.{bytes_eq}
use Rattle.std.proofs.lemmas.Bool.{cases_Bool}
use Rattle.std.proofs.lemmas.Slice.Eq.{bytes_eq-Decides}
use Rattle.view_model.specs.Words.{named}

-- a word names what has it
pub named_is : {A : Type 0} (word_of : A → List ℕ) (all : List A) (word : List ℕ) (a : A) → named word_of all word ≡ Some a → word ≡ word_of a
named_is word_of [] word a h = absurd (cc)
named_is word_of (b ∷ more) word a h = elim (cases_Bool (bytes_eq word (word_of b))) [
  | inl same ↦ (let e : Some b ≡ Some a = rw same at h in let is : b ≡ a = cc in (bytes_eq-Decides word (word_of b)).0 same ∙ ap word_of is)
  | inr other ↦ (let e : named word_of more word ≡ Some a = rw other at h in named_is word_of more word a e)
]
