-- What the attributes of an element set.
use Rattle.std.specs.Prelude.{ℕ, ◌<◌, ◌==◌, ◌/◌, ◌%◌, ◌^◌, int_le, ℤ, pos, Bool, true, false, [], Option, Some, None}
use Rattle.std.specs.Prelude.{if◌then◌else◌, slice_set, replicate}
use Rattle.geom_core.specs.declared.geometry.Insets.{Insets}
use Rattle.view_model.specs.declared.facts.Facts.{Facts}
use Rattle.view_model.specs.declared.answer.Answer.{Answer}
use Rattle.view_model.specs.declared.answer.Answer.TheVariants as answer
use Rattle.view_model.specs.declared.visibility.Visibility.{Visibility}
use Rattle.view_model.specs.declared.visibility.Visibility.TheVariants as visibility
use Rattle.view_model.specs.declared.placing.Across.{Across}
use Rattle.view_model.specs.declared.placing.Across.TheVariants as across
use Rattle.view_model.specs.declared.placing.Direction.{Direction}
use Rattle.view_model.specs.declared.placing.Direction.TheVariants as direction
use Rattle.view_model.specs.declared.placing.Down.{Down}
use Rattle.view_model.specs.declared.placing.Down.TheVariants as down
use Rattle.view_model.specs.declared.placing.Gravity.{Gravity}
use Rattle.view_model.specs.Facts.{new_facts}
use Rattle.view_model.specs.Verbs.{verb_count}
use Rattle.attr_table.specs.declared.draft.Draft.{Draft}
use Rattle.attr_table.specs.declared.given.Given.{Given}
use Rattle.attr_table.specs.declared.given.Given.TheVariants as given
use Rattle.attr_table.specs.declared.table.Side.{Side}
use Rattle.attr_table.specs.declared.table.Side.TheVariants as side
use Rattle.attr_table.specs.declared.table.Slot.{Slot}
use Rattle.attr_table.specs.declared.table.Slot.TheVariants as slot
use Rattle.attr_table.specs.Attributes.{known_count}

-- where bits 0 to 2 of a gravity's word place a view across; `relative` is its bit 23, for start and end
unfoldable pub across_of : ℕ → Bool → Across
across_of bits relative =
    if bits == 0 then across.Unset
    else (if bits == 1 then across.Center
    else (if bits == 5 then (if relative then across.End else across.Right)
    else (if relative then across.Start else across.Left)))

-- where bits 4 to 6 place it down
unfoldable pub down_of : ℕ → Down
down_of bits =
    if bits == 0 then down.Unset else (if bits == 1 then down.Center else (if bits == 5 then down.Bottom else down.Top))

unfoldable pub gravity_of : ℕ → Gravity
gravity_of word =
    record { given = true; across = across_of (word % 8) (word / 2 ^ 23 % 2 == 1); down = down_of (word / 16 % 8) }

unfoldable pub visibility_of : ℕ → Visibility
visibility_of word =
    if word == 0 then visibility.Visible else (if word == 1 then visibility.Invisible else visibility.Gone)

-- the direction of the locale counts as from left to right
unfoldable pub direction_of : ℕ → Direction
direction_of word = if word == 1 then direction.Rtl else (if word == 2 then direction.Inherit else direction.Ltr)

unfoldable pub answer_of : ℕ → Answer
answer_of word = if word == 1 then answer.Click else answer.Off

abbrev pub with_margin : Side → ℤ → Facts → Facts
with_margin side.Left n facts = record facts { margins = record facts.margins { left = n } }
with_margin side.Top n facts = record facts { margins = record facts.margins { top = n } }
with_margin side.Right n facts = record facts { margins = record facts.margins { right = n } }
with_margin side.Bottom n facts = record facts { margins = record facts.margins { bottom = n } }
with_margin side.Start n facts = record facts { margin_start = Some n }
with_margin side.End n facts = record facts { margin_end = Some n }

abbrev pub with_padding : Side → ℤ → Facts → Facts
with_padding side.Left n facts = record facts { padding = record facts.padding { left = n } }
with_padding side.Top n facts = record facts { padding = record facts.padding { top = n } }
with_padding side.Right n facts = record facts { padding = record facts.padding { right = n } }
with_padding side.Bottom n facts = record facts { padding = record facts.padding { bottom = n } }
with_padding side.Start n facts = record facts { padding_start = Some n }
with_padding side.End n facts = record facts { padding_end = Some n }

-- the facts with a number of pixels
abbrev pub with_pixels : Slot → ℤ → Facts → Facts
with_pixels slot.Width n facts = record facts { width = n }
with_pixels slot.Height n facts = record facts { height = n }
with_pixels (slot.Margin side) n facts = with_margin side n facts
with_pixels (slot.Padding side) n facts = with_padding side n facts
with_pixels slot.MinWidth n facts = record facts { min = record facts.min { w = n } }
with_pixels slot.MinHeight n facts = record facts { min = record facts.min { h = n } }
with_pixels _ n facts = facts

-- the facts with a number of another kind
abbrev pub with_word : Slot → ℕ → Facts → Facts
with_word slot.Id word facts = record facts { id = word }
with_word slot.Weight word facts = record facts { weight = word }
with_word slot.WeightSum word facts = record facts { weight_sum = word }
with_word slot.LayoutGravity word facts = record facts { layout_gravity = gravity_of word }
with_word slot.Gravity word facts = record facts { gravity = gravity_of word }
with_word slot.Vertical word facts = record facts { vertical = word == 1 }
with_word slot.Visibility word facts = record facts { visibility = visibility_of word }
with_word slot.Direction word facts = record facts { direction = direction_of word }
with_word slot.Background word facts = record facts { background = record { 0 = word } }
with_word slot.Ink word facts = record facts { ink = record { 0 = word } }
with_word slot.Click word facts = record facts { answer = answer_of word }
with_word slot.Clip word facts = record facts { clip = word == 1 }
with_word slot.Fill word facts = record facts { fill = word == 1 }
with_word slot.Split word facts = record facts { split = word == 1 }
with_word (slot.Rule verb) word facts =
    record facts { rules = record { values = slice_set facts.rules.values verb word } }
with_word _ word facts = facts

-- the draft before any attribute
abbrev pub empty_draft : Draft
empty_draft =
    record {
      facts = new_facts (pos 0) (pos 0);
      margin = None;
      padding = None;
      text = [];
      came = replicate known_count false;
      ignored = 0;
    }

-- the draft with a value; a margin or a padding for all sides is kept apart until the end
abbrev pub with_given : Slot → Given → Draft → Draft
with_given slot.Margins (given.Pixels n) draft = record draft { margin = Some n }
with_given slot.Paddings (given.Pixels n) draft = record draft { padding = Some n }
with_given other (given.Pixels n) draft = record draft { facts = with_pixels other n draft.facts }
with_given other (given.Word word) draft = record draft { facts = with_word other word draft.facts }
with_given other (given.Text text) draft = record draft { text = text }

abbrev pub all_sides : ℤ → Insets
all_sides n = record { left = n; top = n; right = n; bottom = n }

-- a margin for all sides counts if it is 0 or more, and then no other one does
unfoldable pub with_margins : Option ℤ → Facts → Facts
with_margins None facts = facts
with_margins (Some n) facts =
    if int_le (pos 0) n then record facts { margins = all_sides n; margin_start = None; margin_end = None } else facts

-- a padding for all sides counts in place of the four sides; start and end still do
unfoldable pub with_paddings : Option ℤ → Facts → Facts
with_paddings None facts = facts
with_paddings (Some n) facts = record facts { padding = all_sides n }

-- the facts that a draft results in
abbrev pub drafted : Draft → Facts
drafted draft = with_paddings draft.padding (with_margins draft.margin draft.facts)

-- a rule that is set is one of those that there are
abbrev pub HasVerb : Slot → Type 0
HasVerb (slot.Rule verb) = verb < verb_count
HasVerb _ = Unit {0}
