-- What a line sets of a view, after the view's name.
use Rattle.std.specs.Prelude.{ℕ, ◌≤◌, ◌<◌, if◌then◌else◌, Bool, true, false, ℤ, pos, List, codes, Result, Ok, Err}
use Rattle.std.specs.Str.{bytes_eq}
use Rattle.geom_core.specs.declared.geometry.Insets.{Insets}
use Rattle.view_model.specs.Numbers.{max_inset, max_size, max_weight, min_margin}
use Rattle.view_model.specs.declared.changes.Act.{Act}
use Rattle.view_model.specs.declared.changes.Act.TheVariants as act
use Rattle.view_model.specs.declared.changes.Change.{Change}
use Rattle.view_model.specs.declared.changes.Change.TheVariants as change
use Rattle.view_model.specs.declared.changes.Flag.{Flag}
use Rattle.view_model.specs.declared.changes.Flag.TheVariants as flag
use Rattle.view_model.specs.declared.answer.Answer.{Answer}
use Rattle.view_model.specs.declared.answer.Answer.TheVariants as answer
use Rattle.view_model.specs.declared.visibility.Visibility.{Visibility}
use Rattle.view_model.specs.declared.visibility.Visibility.TheVariants as visibility
use Rattle.view_model.specs.Verbs.{verb_count}
use Rattle.script_lines.specs.Numbers.{actions_end}
use Rattle.script_lines.specs.reading.Actions.{actions_of}
use Rattle.line_words.specs.words.Colors.{last_color}
use Rattle.line_words.specs.words.Dimensions.{IsExtent, extents_of}
use Rattle.line_words.specs.words.Gravities.{gravity_of}
use Rattle.view_model.specs.declared.placing.Direction.{Direction}
use Rattle.view_model.specs.declared.placing.Direction.TheVariants.{Inherit, Ltr, Rtl}
use Rattle.line_words.specs.words.Names.{id_in}
use Rattle.line_words.specs.words.Numbers.{IsWithin, integer_in, pair_of, within_of}
use Rattle.script_lines.specs.reading.Rules.{rule_of}
use Rattle.line_words.specs.words.Weights.{weight_of}
use Rattle.line_words.specs.words.Words.{◌>>=◌, map_ok, on_of, word_in, end_of}
use Rattle.script_lines.specs.declared.reading.changes.Sides.{Sides}
use Rattle.line_words.specs.declared.fault.LineFault.{LineFault}
use Rattle.line_words.specs.declared.fault.LineFault.TheVariants.{Syntax}
use Rattle.script_lines.specs.declared.verbs.ActVerb.{ActVerb}
use Rattle.script_lines.specs.declared.verbs.ActVerb.TheVariants as act_verb
use Rattle.script_lines.specs.declared.verbs.ChangeVerb.{ChangeVerb}
use Rattle.script_lines.specs.declared.verbs.ChangeVerb.TheVariants as change_verb

-- `l t r b`, the sides of a view, not yet within their bounds
unfoldable pub sides_of : List (List ℕ) → Result Sides LineFault
sides_of words = do
  l ← integer_in words
  t ← integer_in l.1
  r ← integer_in t.1
  b ← integer_in r.1
  _ ← end_of b.1
  Ok (record { left = l.0; top = t.0; right = r.0; bottom = b.0 })

-- sides from a least number on
unfoldable pub insets_of : ℤ → Sides → Result Insets LineFault
insets_of low sides = do
  left ← within_of low max_inset sides.left
  top ← within_of low max_inset sides.top
  right ← within_of low max_inset sides.right
  bottom ← within_of low max_inset sides.bottom
  Ok (record { left = left; top = top; right = right; bottom = bottom })

-- `W H`
abbrev pub size_of : List (List ℕ) → Result Change LineFault
size_of words = map_ok (λ extents. change.Size extents.0 extents.1) (extents_of words)

-- `w h`
abbrev pub min_of : List (List ℕ) → Result Change LineFault
min_of words = map_ok (λ pair. change.Min (record { w = pair.0; h = pair.1 })) (pair_of (pos 0) max_size words)

-- `l t r b`
abbrev pub margins_of : List (List ℕ) → Result Change LineFault
margins_of words = do
  sides ← sides_of words
  map_ok change.Margins (insets_of min_margin sides)

-- `l t r b`
abbrev pub padding_of : List (List ℕ) → Result Change LineFault
padding_of words = do
  sides ← sides_of words
  map_ok change.Padding (insets_of (pos 0) sides)

-- `N`, or `N K`
abbrev pub weight_change_of : List (List ℕ) → Result Change LineFault
weight_change_of words = map_ok change.Weight (weight_of words)

-- whether a gravity is that of a view's children, `kids`, and not its own, `self`
unfoldable pub kids_of : List ℕ → Result Bool LineFault
kids_of word =
    if bytes_eq word (codes "self") then Ok false else (
    if bytes_eq word (codes "kids") then Ok true else
    Err Syntax)

-- `self G` or `kids G`
unfoldable pub gravity_change_of : List (List ℕ) → Result Change LineFault
gravity_change_of words = do
  whose ← word_in words
  kids ← kids_of whose.0
  g ← word_in whose.1
  gravity ← gravity_of g.0
  _ ← end_of g.1
  Ok (change.Gravity kids gravity)

-- `C`
abbrev pub background_of : List (List ℕ) → Result Change LineFault
background_of words = map_ok change.Background (last_color words)

-- what is changed of a view, by the first word of the line and the words after the view
abbrev pub change_by : ChangeVerb → List (List ℕ) → Result Change LineFault
change_by change_verb.Size words = size_of words
change_by change_verb.Min words = min_of words
change_by change_verb.Margins words = margins_of words
change_by change_verb.Padding words = padding_of words
change_by change_verb.Weight words = weight_change_of words
change_by change_verb.Gravity words = gravity_change_of words
change_by change_verb.Background words = background_of words

unfoldable pub visibility_of : List ℕ → Result Visibility LineFault
visibility_of word =
    if bytes_eq word (codes "visible") then Ok visibility.Visible else (
    if bytes_eq word (codes "invisible") then Ok visibility.Invisible else (
    if bytes_eq word (codes "gone") then Ok visibility.Gone else
    Err Syntax))

-- `visible`, `invisible` or `gone`
unfoldable pub visible_of : List (List ℕ) → Result Act LineFault
visible_of words = do
  s ← word_in words
  visibility ← visibility_of s.0
  _ ← end_of s.1
  Ok (act.Visible visibility)

-- `@HEX`
unfoldable pub new_id_of : List (List ℕ) → Result Act LineFault
new_id_of words = do
  id ← id_in words
  _ ← end_of id.1
  Ok (act.Id id.0)

-- `N`, or `N K`
abbrev pub weight_sum_of : List (List ℕ) → Result Act LineFault
weight_sum_of words = map_ok act.WeightSum (weight_of words)

unfoldable pub vertical_of : List ℕ → Result Bool LineFault
vertical_of word =
    if bytes_eq word (codes "horizontal") then Ok false else (
    if bytes_eq word (codes "vertical") then Ok true else
    Err Syntax)

-- `horizontal` or `vertical`
unfoldable pub orient_of : List (List ℕ) → Result Act LineFault
orient_of words = do
  way ← word_in words
  vertical ← vertical_of way.0
  _ ← end_of way.1
  Ok (act.Orient vertical)

-- `ltr`, `rtl` or `inherit`
unfoldable pub direction_named : List ℕ → Result Direction LineFault
direction_named word =
    if bytes_eq word (codes "ltr") then Ok Ltr else (
    if bytes_eq word (codes "rtl") then Ok Rtl else (
    if bytes_eq word (codes "inherit") then Ok Inherit else
    Err Syntax))

unfoldable pub direction_of : List (List ℕ) → Result Act LineFault
direction_of words = do
  way ← word_in words
  direction ← direction_named way.0
  _ ← end_of way.1
  Ok (act.Direction direction)

unfoldable pub flag_named : List ℕ → Result Flag LineFault
flag_named word =
    if bytes_eq word (codes "clip") then Ok flag.Clip else (
    if bytes_eq word (codes "fill") then Ok flag.Fill else (
    if bytes_eq word (codes "split") then Ok flag.Split else
    Err Syntax))

-- `F yes` or `F no`, a flag and whether it is on
unfoldable pub flag_of : List (List ℕ) → Result Act LineFault
flag_of words = do
  f ← word_in words
  flag ← flag_named f.0
  b ← word_in f.1
  on ← on_of b.0
  _ ← end_of b.1
  Ok (act.Flag flag on)

-- `C`
abbrev pub ink_of : List (List ℕ) → Result Act LineFault
ink_of words = map_ok act.Ink (last_color words)

-- `Y`, an offset
unfoldable pub scroll_of : List (List ℕ) → Result Act LineFault
scroll_of words = do
  y ← integer_in words
  _ ← end_of y.1
  map_ok act.Scroll (within_of (pos 0) max_size y.0)

unfoldable pub answer_named : List ℕ → Result Answer LineFault
answer_named word =
    if bytes_eq word (codes "off") then Ok answer.Off else (
    if bytes_eq word (codes "yes") then Ok answer.Yes else (
    if bytes_eq word (codes "click") then Ok answer.Click else
    Err Syntax))

-- `off`, `yes` or `click`
unfoldable pub answer_of : List (List ℕ) → Result Act LineFault
answer_of words = do
  a ← word_in words
  answer ← answer_named a.0
  _ ← end_of a.1
  Ok (act.Answer answer)

-- `none`, or the words of one or more actions
abbrev pub intercept_of : List (List ℕ) → Result Act LineFault
intercept_of words = map_ok act.Intercept (actions_of words)

-- what is set of a view, by the first word of the line and the words after the view
abbrev pub act_by : ActVerb → List (List ℕ) → Result Act LineFault
act_by (act_verb.Change verb) words = map_ok act.Change (change_by verb words)
act_by act_verb.WeightSum words = weight_sum_of words
act_by act_verb.Orient words = orient_of words
act_by act_verb.Direction words = direction_of words
act_by act_verb.Flag words = flag_of words
act_by act_verb.Visible words = visible_of words
act_by act_verb.Ink words = ink_of words
act_by act_verb.Id words = new_id_of words
act_by act_verb.Rule words = rule_of words
act_by act_verb.Answer words = answer_of words
act_by act_verb.Intercept words = intercept_of words
act_by act_verb.Scroll words = scroll_of words

abbrev pub AreWithin : ℤ → ℤ → Insets → Type 0
AreWithin low high sides =
    IsWithin low high sides.left × IsWithin low high sides.top × IsWithin low high sides.right
    × IsWithin low high sides.bottom

-- the numbers of a change are within their bounds
abbrev pub IsChangeInBounds : Change → Type 0
IsChangeInBounds (change.Size width height) = IsExtent width × IsExtent height
IsChangeInBounds (change.Min size) = IsWithin (pos 0) max_size size.w × IsWithin (pos 0) max_size size.h
IsChangeInBounds (change.Margins sides) = AreWithin min_margin max_inset sides
IsChangeInBounds (change.Padding sides) = AreWithin (pos 0) max_inset sides
IsChangeInBounds (change.Weight weight) = weight ≤ max_weight
IsChangeInBounds (change.Gravity kids gravity) = Unit {0}
IsChangeInBounds (change.Background color) = Unit {0}

-- the numbers of what a line sets are within their bounds
abbrev pub IsActInBounds : Act → Type 0
IsActInBounds (act.Change change) = IsChangeInBounds change
IsActInBounds (act.WeightSum sum) = sum ≤ max_weight
IsActInBounds (act.Orient vertical) = Unit {0}
IsActInBounds (act.Flag flag on) = Unit {0}
IsActInBounds (act.Visible visibility) = Unit {0}
IsActInBounds (act.Ink color) = Unit {0}
IsActInBounds (act.Id id) = Unit {0}
IsActInBounds (act.Rule verb value) = verb < verb_count
IsActInBounds (act.Answer answer) = Unit {0}
IsActInBounds (act.Intercept actions) = actions < actions_end
IsActInBounds (act.Direction direction) = Unit {0}
IsActInBounds (act.Scroll offset) = IsWithin (pos 0) max_size offset
