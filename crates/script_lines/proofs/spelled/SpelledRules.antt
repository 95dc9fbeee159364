-- Rules, read from their texts.
use Rattle.std.proofs.Common.{◌≡◌, ℕ, suc, zero, ◌<◌, ◌^◌, Bool, true, false, refl, subst, inl, inr, length, [], ◌∷◌, arith}
use Rattle.std.specs.Prelude.{◌&&◌, ◌==◌, if◌then◌else◌, codes, nat_lt, Result, Ok, Err}
use Rattle.std.specs.Char.{is_ascii_graphic}
use Rattle.std.specs.List.{list_all}
use Rattle.std.proofs.lemmas.Bool.{cases_lt}
use Rattle.std.proofs.lemmas.Bool.Decides.{nat_tests}
use Rattle.line_words.specs.words.Names.{id_in}
use Rattle.script_lines.specs.reading.Rules.{answer_in, names_sibling, rule_value_in, verb_of}
use Rattle.script_lines.specs.commands.Spelled.{answer_text, rule_value_text, verb_text}
use Rattle.line_words.specs.Spelled.{name_text}
use Rattle.line_words.specs.words.Words.{on_of}
use Rattle.line_words.specs.declared.fault.LineFault.{LineFault}
use Rattle.line_words.specs.declared.words.naming.Name.TheVariants.{Id}
use Rattle.line_words.proofs.texts.BothLaws.{and-left, and-right}
use Rattle.line_words.proofs.spelled.SpelledNames.{id_of-text, name_word}
use Rattle.line_words.proofs.spelled.SpelledWords.{IsWord, word_by}

abbrev pub all_below : (ℕ → Bool) → ℕ → Bool
all_below passes zero = true
all_below passes (suc n) = passes n && all_below passes n

pub all_below-at : (passes : ℕ → Bool) (n k : ℕ) → k < n → all_below passes n ≡ true → passes k ≡ true
all_below-at passes zero k short h = absurd (omega (arith, short))
all_below-at passes (suc n) k short h = elim (cases_lt k n) [
  | inl less ↦ all_below-at passes n k less (and-right (passes n) (all_below passes n) h)
  | inr more ↦ subst (λ m. passes m ≡ true) (let e : n ≡ k = omega (arith, short, more) in e) (and-left (passes n) (all_below passes n) h)
]

abbrev pub is_ok_of : ℕ → Result ℕ LineFault → Bool
is_ok_of n (Ok m) = m == n
is_ok_of n (Err fault) = false

pub ok_of : (n : ℕ) (r : Result ℕ LineFault) → is_ok_of n r ≡ true → r ≡ Ok n
ok_of n (Ok m) h = let e : m ≡ n = grind (arith, nat_tests) in rw e refl
ok_of n (Err fault) h = absurd (cc)

-- every verb
abbrev reads_back : ℕ → Bool
reads_back verb = is_ok_of verb (verb_of (verb_text verb))

abbrev is_graphic : ℕ → Bool
is_graphic verb = nat_lt 0 (length (verb_text verb)) && list_all is_ascii_graphic (verb_text verb)

all_back : all_below reads_back 21 ≡ true
unfolding verb_of
all_back = refl

all_graphic : all_below is_graphic 21 ≡ true
all_graphic = refl

pub verb_of-text : (verb : ℕ) → verb < 21 → verb_of (verb_text verb) ≡ Ok verb
verb_of-text verb short = ok_of verb (verb_of (verb_text verb)) (all_below-at reads_back 21 verb short all_back)

pub verb_word : (verb : ℕ) → verb < 21 → IsWord (verb_text verb)
verb_word verb short = word_by (verb_text verb) (all_below-at is_graphic 21 verb short all_graphic)

-- what follows a verb
value_word : (sibling : Bool) (value : ℕ) → value < (if sibling then 2 ^ 32 else 2) → IsWord (if sibling then name_text (Id value) else answer_text value)
value_word true value h = name_word (Id value) h
value_word false zero h = word_by (codes "no") refl
value_word false (suc value) h = word_by (codes "yes") refl

pub rule_value_word : (verb value : ℕ) → value < (if names_sibling verb then 2 ^ 32 else 2) → IsWord (rule_value_text verb value)
rule_value_word verb value h = value_word (names_sibling verb) value h

value_reads : (sibling : Bool) (value : ℕ) → value < (if sibling then 2 ^ 32 else 2)
    → (let text = (if sibling then name_text (Id value) else answer_text value) in if sibling then id_in (text ∷ []) else answer_in (text ∷ [])) ≡ Ok (value, [])
unfolding on_of
value_reads true value h = rw (id_of-text value h) refl
value_reads false zero h = refl
value_reads false (suc zero) h = refl
value_reads false (suc (suc value)) h = absurd (omega (arith, h))

pub rule_value_in-text : (verb value : ℕ) → value < (if names_sibling verb then 2 ^ 32 else 2) → rule_value_in verb (rule_value_text verb value ∷ []) ≡ Ok (value, [])
unfolding rule_value_in
rule_value_in-text verb value h = value_reads (names_sibling verb) value h
