-- The words with which lines begin, and what each asks for.
use Rattle.std.specs.Prelude.{ℕ, List, [], ◌∷◌, codes, Option, Some, None}
use Rattle.view_model.specs.Words.{named}
use Rattle.script_lines.specs.declared.verbs.ActVerb.{ActVerb}
use Rattle.script_lines.specs.declared.verbs.ActVerb.TheVariants as act
use Rattle.script_lines.specs.declared.verbs.ChangeVerb.{ChangeVerb}
use Rattle.script_lines.specs.declared.verbs.ChangeVerb.TheVariants as change
use Rattle.script_lines.specs.declared.verbs.Verb.{Verb}
use Rattle.script_lines.specs.declared.verbs.Verb.TheVariants as verb

-- the words of what a line changes of a view that a hook can change too
abbrev pub change_word : ChangeVerb → List ℕ
change_word change.Size = codes "size"
change_word change.Min = codes "min"
change_word change.Margins = codes "margins"
change_word change.Padding = codes "padding"
change_word change.Weight = codes "weight"
change_word change.Gravity = codes "gravity"
change_word change.Background = codes "bg"

abbrev pub change_verbs : List ChangeVerb
change_verbs =
    change.Size ∷ change.Min ∷ change.Margins ∷ change.Padding ∷ change.Weight ∷ change.Gravity ∷ change.Background ∷ []

-- the words of what a line sets of a view
abbrev pub act_word : ActVerb → List ℕ
act_word (act.Change verb) = change_word verb
act_word act.WeightSum = codes "weightsum"
act_word act.Orient = codes "orient"
act_word act.Direction = codes "direction"
act_word act.Flag = codes "flag"
act_word act.Visible = codes "visible"
act_word act.Ink = codes "ink"
act_word act.Id = codes "id"
act_word act.Rule = codes "rule"
act_word act.Answer = codes "answer"
act_word act.Intercept = codes "intercept"
act_word act.Scroll = codes "scroll"

-- what no hook can set
abbrev pub act_verbs : List ActVerb
act_verbs =
    act.WeightSum ∷ act.Orient ∷ act.Direction ∷ act.Flag ∷ act.Visible ∷ act.Ink ∷ act.Id ∷ act.Rule ∷ act.Answer
    ∷ act.Intercept ∷ act.Scroll ∷ []

-- the first words of lines
abbrev pub line_word : Verb → List ℕ
line_word verb.Window = codes "window"
line_word verb.Dpi = codes "dpi"
line_word verb.Res = codes "res"
line_word verb.Inflate = codes "inflate"
line_word verb.Add = codes "add"
line_word verb.Remove = codes "remove"
line_word (verb.Act act) = act_word act
line_word verb.Text = codes "text"
line_word verb.Disallow = codes "disallow"
line_word verb.Hook = codes "hook"
line_word verb.Down = codes "down"
line_word verb.Move = codes "move"
line_word verb.Up = codes "up"
line_word verb.Cancel = codes "cancel"
line_word verb.Frame = codes "frame"
line_word verb.Bounds = codes "bounds"
line_word verb.Pixels = codes "pixels"
line_word verb.Digest = codes "digest"
line_word verb.Save = codes "save"
line_word verb.Restore = codes "restore"

-- what else lines ask for
abbrev pub line_verbs : List Verb
line_verbs =
    verb.Window ∷ verb.Dpi ∷ verb.Res ∷ verb.Inflate ∷ verb.Add ∷ verb.Remove ∷ verb.Text ∷ verb.Disallow ∷ verb.Hook
    ∷ verb.Down ∷ verb.Move ∷ verb.Up ∷ verb.Cancel ∷ verb.Frame ∷ verb.Bounds ∷ verb.Pixels ∷ verb.Digest ∷ verb.Save
    ∷ verb.Restore ∷ []

-- what is made of something, or else another thing
abbrev pub or_else : {A B : Type 0} → (A → B) → Option A → Option B → Option B
or_else make (Some a) b = Some (make a)
or_else make None b = b

-- what a word changes
unfoldable pub change_named : List ℕ → Option ChangeVerb
change_named word = named change_word change_verbs word

-- what a word sets
unfoldable pub act_named : List ℕ → Option ActVerb
act_named word = or_else act.Change (change_named word) (named act_word act_verbs word)

-- what a word asks for
unfoldable pub verb_named : List ℕ → Option Verb
verb_named word = or_else verb.Act (act_named word) (named line_word line_verbs word)
