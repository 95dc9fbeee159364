-- The lines that give a command: what their words are, and that there are no others.
use Rattle.std.specs.Prelude.{◌≡◌, ◌≢◌, ℕ, ◌-◌, ◌<◌, ◌^◌, ◌%◌, if◌then◌else◌, Bool, true, false, ◌⊎◌, List, [], ◌∷◌}
use Rattle.std.specs.Prelude.{length, drop, fold, map, codes, bit_or, slice_index_or, Some}
use Rattle.std.specs.Fmt.{signed_decimal}
use Rattle.std.specs.List.{All, slice_split}
use Rattle.std.specs.Str.{is_utf8}
use Rattle.view_model.specs.Classes.{class_word}
use Rattle.view_model.specs.Dimensions.{mantissa}
use Rattle.view_model.specs.declared.changes.Act.{Act}
use Rattle.view_model.specs.declared.changes.Act.TheVariants as act
use Rattle.view_model.specs.declared.changes.Change.{Change}
use Rattle.view_model.specs.declared.changes.Change.TheVariants as change
use Rattle.view_model.specs.Numbers.{max_edits}
use Rattle.script_lines.specs.reading.Hooks.{parts_edits}
use Rattle.script_lines.specs.reading.Verbs.{change_word, line_word}
use Rattle.script_lines.specs.commands.PlainCommands.{PlainCommand, PlainGiven}
use Rattle.script_lines.specs.commands.PlainCommands as plain
use Rattle.script_lines.specs.reading.Rules.{names_sibling}
use Rattle.script_lines.specs.commands.Spelled.{act_words, action_words, answer_text, change_head, change_words}
use Rattle.script_lines.specs.commands.Spelled.{command_words, unit_text, verb_text}
use Rattle.line_words.specs.Spelled.{extent_text, on_text}
use Rattle.line_words.specs.words.Words.{after_word, first_word, words}
use Rattle.script_lines.specs.declared.commands.Asked.{Asked}
use Rattle.script_lines.specs.declared.verbs.ChangeVerb.{ChangeVerb}
use Rattle.script_lines.specs.declared.verbs.Verb.{Verb}
use Rattle.script_lines.specs.declared.verbs.Verb.TheVariants as verb
use Rattle.line_words.specs.Written.{IsHexWord, IsNameWord, IsParentWord, IsColorWord, IsGravityWord, AreWeightWords}

-- words of actions, one or more, in any order: the bits are theirs
pub record AreActions (actions : ℕ) (ws : List (List ℕ)) : Type 0 where
  pub places : List ℕ
  pub some : 0 < length places
  pub known : All (λ place. place < 6) places
  pub are : ws ≡ map (λ place. slice_index_or action_words place []) places
  pub bits : actions ≡ fold (λ bits place. bit_or bits (2 ^ place)) 0 places

-- `none`, or the words of one or more actions
abbrev pub AreInterceptWords : ℕ → List (List ℕ) → Type 0
AreInterceptWords actions ws = ((ws ≡ codes "none" ∷ []) × (actions ≡ 0)) ⊎ AreActions actions ws

-- the id of a sibling, or whether a rule on the parent counts
abbrev pub IsRuleWord : Bool → ℕ → List ℕ → Type 0
IsRuleWord true value word = IsHexWord 64 value word
IsRuleWord false value word = (word ≡ answer_text value) × (value < 2)

-- the words after the view, of a line that makes a change
abbrev pub AreChangeWords : Change → List (List ℕ) → Type 0
AreChangeWords (change.Weight weight) ws = AreWeightWords weight ws
AreChangeWords (change.Gravity kids gravity) ws =
    (word : List ℕ) × (ws ≡ (if kids then codes "kids" else codes "self") ∷ word ∷ []) × IsGravityWord gravity word
AreChangeWords (change.Background color) ws = (word : List ℕ) × (ws ≡ word ∷ []) × IsColorWord color word
AreChangeWords change ws = ws ≡ change_words change

-- the words after the view, of a line that sets something
abbrev pub AreActWords : Act → List (List ℕ) → Type 0
AreActWords (act.Change change) ws = AreChangeWords change ws
AreActWords (act.WeightSum sum) ws = AreWeightWords sum ws
AreActWords (act.Ink color) ws = (word : List ℕ) × (ws ≡ word ∷ []) × IsColorWord color word
AreActWords (act.Id id) ws = (word : List ℕ) × (ws ≡ word ∷ []) × IsHexWord 64 id word
AreActWords (act.Rule verb value) ws =
    (word : List ℕ) × (ws ≡ verb_text verb ∷ word ∷ []) × IsRuleWord (names_sibling verb) value word
AreActWords (act.Intercept actions) ws = AreInterceptWords actions ws
AreActWords act ws = ws ≡ act_words act

-- the words of an edit that a hook can make
pub record AreEditWords (asked : Asked) (ws : List (List ℕ)) : Type 0 where
  pub view : List ℕ
  pub rest : List (List ℕ)
  pub are : ws ≡ change_head asked.change ∷ view ∷ rest
  pub name : IsNameWord asked.view view
  pub change : AreChangeWords asked.change rest

-- words that begin with that of a line, of which no hook makes an edit: with another word than that of an edit, or
-- after the greatest number of edits
pub record AreUnmadeWords (left : ℕ) (ws : List (List ℕ)) : Type 0 where
  pub verb : Verb
  pub rest : List (List ℕ)
  pub are : ws ≡ line_word verb ∷ rest
  pub unmade : (left ≡ 0) ⊎ ((change : ChangeVerb) → line_word verb ≢ change_word change)

-- edits in a row, with how many a hook may still have: those that it makes, and whether there is one that it can't make
abbrev pub AreEdits : ℕ → List Asked → Bool → List (List (List ℕ)) → Type 0
AreEdits left edits bad [] = (edits ≡ []) × (bad ≡ false)
AreEdits left edits bad (part ∷ parts) =
    ((asked : Asked) × (more : List Asked) × (edits ≡ asked ∷ more) × (0 < left) × AreEditWords asked part
    × AreEdits (left - 1) more bad parts)
    ⊎ ((others : Bool) × (bad ≡ true) × AreUnmadeWords left part × AreEdits (left - 1) edits others parts)

-- the words after the first one, of a line in which no spaces count
abbrev pub AreArguments : PlainCommand → List (List ℕ) → Type 0
AreArguments (plain.Inflate name (Some view)) ws =
    (word : List ℕ) × (ws ≡ name ∷ codes "into" ∷ word ∷ []) × IsNameWord view word
AreArguments (plain.Add parent class width height) ws =
    (word : List ℕ) × (ws ≡ word ∷ class_word class ∷ extent_text width ∷ extent_text height ∷ [])
    × IsParentWord parent word
AreArguments (plain.Remove view) ws = (word : List ℕ) × (ws ≡ word ∷ []) × IsNameWord view word
AreArguments (plain.Act view act) ws =
    (word : List ℕ) × (rest : List (List ℕ)) × (ws ≡ word ∷ rest) × IsNameWord view word × AreActWords act rest
AreArguments (plain.Disallow view on) ws = (word : List ℕ) × (ws ≡ word ∷ on_text on ∷ []) × IsNameWord view word
AreArguments (plain.Hook view edits bad) ws =
    (word : List ℕ) × (rest : List (List ℕ)) × (ws ≡ word ∷ rest) × IsNameWord view word
    × AreEdits max_edits edits bad (slice_split parts_edits rest)
AreArguments (plain.Bounds (Some view)) ws = (word : List ℕ) × (ws ≡ word ∷ []) × IsNameWord view word
AreArguments command ws = ws ≡ drop 1 (command_words command)

-- what comes after the id of a resource: the kind of its value, and the value; a text is all that comes after one space
abbrev pub IsGivenBy : PlainGiven → List ℕ → Type 0
IsGivenBy (plain.Color color) bytes =
    (word : List ℕ) × (words bytes ≡ codes "color" ∷ word ∷ []) × IsColorWord color word
IsGivenBy (plain.Dimen word) bytes =
    words bytes ≡ codes "dimen" ∷ signed_decimal (mantissa word) ∷ unit_text (word % 256) ∷ []
IsGivenBy (plain.Text text) bytes =
    (first_word bytes ≡ codes "text") × (after_word bytes ≡ 32 ∷ text) × (is_utf8 text ≡ true)

-- a line that gives this command
abbrev pub IsWritten : PlainCommand → List ℕ → Type 0
IsWritten (plain.Res id value) line =
    (first_word line ≡ line_word verb.Res) × IsHexWord 64 id (first_word (after_word line))
    × IsGivenBy value (after_word (after_word line))
IsWritten (plain.SetText view text) line =
    (first_word line ≡ line_word verb.Text) × IsNameWord view (first_word (after_word line))
    × (after_word (after_word line) ≡ 32 ∷ text)
    × (is_utf8 text ≡ true)
IsWritten command line =
    (arguments : List (List ℕ)) × (words line ≡ slice_index_or (command_words command) 0 [] ∷ arguments)
    × AreArguments command arguments
