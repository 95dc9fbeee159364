-- The first words of lines, and what each asks for.
use Rattle.std.proofs.Common.{◌≡◌, ◌≢◌, ℕ, refl, ap, sym, ◌∙◌, List}
use Rattle.std.specs.Prelude.{IfOk, Option, Some, None}
use Rattle.view_model.proofs.WordLaws.{named_is}
use Rattle.view_model.specs.Words.{named}
use Rattle.script_lines.specs.reading.Verbs.{act_named, act_verbs, act_word, change_named, change_verbs, change_word, line_verbs, line_word, or_else, verb_named}
use Rattle.line_words.specs.words.Names.{known}
use Rattle.script_lines.specs.declared.verbs.ActVerb.{ActVerb}
use Rattle.script_lines.specs.declared.verbs.ActVerb.TheVariants as act_verb
use Rattle.script_lines.specs.declared.verbs.ChangeVerb.{ChangeVerb}
use Rattle.script_lines.specs.declared.verbs.ChangeVerb.TheVariants as change_verb
use Rattle.script_lines.specs.declared.verbs.Verb.{Verb}
use Rattle.script_lines.specs.declared.verbs.Verb.TheVariants as verb
use Rattle.line_words.proofs.texts.OkLaws.{if_known}

-- a word names what has it
or_else_is : {A B : Type 0} (P : B → Type 0) (make : A → B) (first : Option A) (second : Option B) → ((a : A) → first ≡ Some a → P (make a)) → ((b : B) → second ≡ Some b → P b) → (b : B) → or_else make first second ≡ Some b → P b
or_else_is P make (Some a) second here there b h = let is : make a ≡ b = cc in rw (sym is) (here a refl)
or_else_is P make None second here there b h = there b h

pub change_named-is : (word : List ℕ) (verb : ChangeVerb) → change_named word ≡ Some verb → word ≡ change_word verb
unfolding change_named
change_named-is word verb h = named_is change_word change_verbs word verb h

act_named-is : (word : List ℕ) (verb : ActVerb) → act_named word ≡ Some verb → word ≡ act_word verb
unfolding act_named
act_named-is word v h = or_else_is (λ v. word ≡ act_word v) act_verb.Change (change_named word) (named act_word act_verbs word) (λ change e. change_named-is word change e) (λ v e. named_is act_word act_verbs word v e) v h

verb_named-is : (word : List ℕ) (verb : Verb) → verb_named word ≡ Some verb → word ≡ line_word verb
unfolding verb_named
verb_named-is word v h = or_else_is (λ v. word ≡ line_word v) verb.Act (act_named word) (named line_word line_verbs word) (λ act e. act_named-is word act e) (λ v e. named_is line_word line_verbs word v e) v h

pub verb_named-written : (word : List ℕ) → IfOk (known (verb_named word)) (λ verb. word ≡ line_word verb)
verb_named-written word = if_known (λ verb. word ≡ line_word verb) (verb_named word) (verb_named-is word)

-- each has a word of its own
pub change_named-word : (verb : ChangeVerb) → change_named (change_word verb) ≡ Some verb
unfolding change_named
change_named-word change_verb.Size = refl
change_named-word change_verb.Min = refl
change_named-word change_verb.Margins = refl
change_named-word change_verb.Padding = refl
change_named-word change_verb.Weight = refl
change_named-word change_verb.Gravity = refl
change_named-word change_verb.Background = refl

act_named-word : (act : ActVerb) → verb_named (act_word act) ≡ Some (verb.Act act)
unfolding verb_named act_named change_named
act_named-word (act_verb.Change change_verb.Size) = refl
act_named-word (act_verb.Change change_verb.Min) = refl
act_named-word (act_verb.Change change_verb.Margins) = refl
act_named-word (act_verb.Change change_verb.Padding) = refl
act_named-word (act_verb.Change change_verb.Weight) = refl
act_named-word (act_verb.Change change_verb.Gravity) = refl
act_named-word (act_verb.Change change_verb.Background) = refl
act_named-word act_verb.WeightSum = refl
act_named-word act_verb.Orient = refl
act_named-word act_verb.Direction = refl
act_named-word act_verb.Flag = refl
act_named-word act_verb.Visible = refl
act_named-word act_verb.Ink = refl
act_named-word act_verb.Id = refl
act_named-word act_verb.Rule = refl
act_named-word act_verb.Answer = refl
act_named-word act_verb.Intercept = refl
act_named-word act_verb.Scroll = refl

pub verb_named-word : (verb : Verb) → verb_named (line_word verb) ≡ Some verb
unfolding verb_named act_named change_named
verb_named-word (verb.Act act) = act_named-word act
verb_named-word verb.Window = refl
verb_named-word verb.Dpi = refl
verb_named-word verb.Res = refl
verb_named-word verb.Inflate = refl
verb_named-word verb.Add = refl
verb_named-word verb.Remove = refl
verb_named-word verb.Text = refl
verb_named-word verb.Disallow = refl
verb_named-word verb.Hook = refl
verb_named-word verb.Down = refl
verb_named-word verb.Move = refl
verb_named-word verb.Up = refl
verb_named-word verb.Cancel = refl
verb_named-word verb.Frame = refl
verb_named-word verb.Bounds = refl
verb_named-word verb.Pixels = refl
verb_named-word verb.Digest = refl
verb_named-word verb.Save = refl
verb_named-word verb.Restore = refl

-- a word that is none of those of changes
pub no_change : (word : List ℕ) → ((verb : ChangeVerb) → word ≢ change_word verb) → (made : Option ChangeVerb) → change_named word ≡ made → made ≡ None
no_change word other None h = refl
no_change word other (Some verb) h = absurd (other verb (change_named-is word verb h))

pub other_word : (word : List ℕ) → change_named word ≡ None → (verb : ChangeVerb) → word ≢ change_word verb
other_word word none verb = λ same. let e : None ≡ Some verb = sym none ∙ ap change_named same ∙ change_named-word verb in absurd (cc)
