-- Which children of a relative layout are tied to which: the rules that name a sibling, by axis.
use Rattle.std.specs.Prelude.{ℕ, zero, suc, ◌==◌, Bool, ◌&&◌, not, if◌then◌else◌, List, [], ◌∷◌, length, Option, Some}
use Rattle.std.specs.Prelude.{None, slice_index, slice_index_or}
use Rattle.std.specs.List.{list_all, list_any}
use Rattle.view_model.specs.declared.facts.Rules.{Rules}
use Rattle.view_model.specs.declared.relative.Axis.{Axis}
use Rattle.view_model.specs.declared.relative.Axis.TheVariants.{Horizontal, Vertical}
use Rattle.view_model.specs.declared.relative.Link.{Link}
use Rattle.view_model.specs.declared.relative.Tie.{Tie}
use Rattle.view_model.specs.declared.relative.Tie.TheVariants.{Before, After, AlignNear, AlignFar}
use Rattle.view_model.specs.Direction.{left_of_two, right_of_two}
use Rattle.view_model.specs.Verbs as verb

-- the verbs of an axis that name a sibling
abbrev pub sibling_verbs : Axis → List ℕ
sibling_verbs Horizontal =
    verb.left_of ∷ verb.right_of ∷ verb.align_left ∷ verb.align_right ∷ verb.start_of ∷ verb.end_of ∷ verb.align_start
    ∷ verb.align_end ∷ []
sibling_verbs Vertical = verb.above ∷ verb.below ∷ verb.align_top ∷ verb.align_bottom ∷ []

-- the verbs that speak of left and right
abbrev pub across_verbs : List ℕ
across_verbs =
    verb.left_of ∷ verb.right_of ∷ verb.align_left ∷ verb.align_right ∷ verb.start_of ∷ verb.end_of ∷ verb.align_start
    ∷ verb.align_end
    ∷ verb.parent_left ∷ verb.parent_right ∷ verb.parent_start ∷ verb.parent_end ∷ verb.center ∷ verb.center_h ∷ []

abbrev pub value_of : Rules → ℕ → ℕ
value_of rules verb = slice_index rules.values verb

-- whether rules name this id on an axis; no child has the id 0
unfoldable pub names : Axis → Rules → ℕ → Bool
names axis rules id = not (id == 0) && list_any (λ verb. value_of rules verb == id) (sibling_verbs axis)

-- a child that has no id and names none
abbrev pub no_link : Link
no_link = record { id = 0; rules = record { values = [] } }

-- the rule relation of an axis: a child leads to each other child whose id it names, gone or not
unfoldable pub leads : Axis → List Link → ℕ → ℕ → Bool
leads axis kids a b =
    not (a == b) && names axis (slice_index_or kids a no_link).rules (slice_index_or kids b no_link).id

-- a start or end form, if set, replaces the left or right form
abbrev pub form_of : ℕ → ℕ → ℕ
form_of start left = if start == 0 then left else start

-- the id of the sibling to which rules tie a child, or 0, in a group that runs from right to left or not
abbrev pub anchor_id : Bool → Axis → Tie → Rules → ℕ
anchor_id rtl Horizontal Before rules =
    form_of (left_of_two rtl (value_of rules verb.start_of) (value_of rules verb.end_of)) (value_of rules verb.left_of)
anchor_id rtl Horizontal After rules =
    form_of (right_of_two rtl (value_of rules verb.start_of) (value_of rules verb.end_of))
    (value_of rules verb.right_of)
anchor_id rtl Horizontal AlignNear rules =
    form_of (left_of_two rtl (value_of rules verb.align_start) (value_of rules verb.align_end))
    (value_of rules verb.align_left)
anchor_id rtl Horizontal AlignFar rules =
    form_of (right_of_two rtl (value_of rules verb.align_start) (value_of rules verb.align_end))
    (value_of rules verb.align_right)
anchor_id rtl Vertical Before rules = value_of rules verb.above
anchor_id rtl Vertical After rules = value_of rules verb.below
anchor_id rtl Vertical AlignNear rules = value_of rules verb.align_top
anchor_id rtl Vertical AlignFar rules = value_of rules verb.align_bottom

-- whether no horizontal rule is set: a rule counts even if it names no sibling
abbrev pub is_free : Rules → Bool
is_free rules = list_all (λ verb. value_of rules verb == 0) across_verbs

-- the last place below a number that passes a test
abbrev pub last_below : (ℕ → Bool) → ℕ → Option ℕ
last_below passes zero = None
last_below passes (suc place) = if passes place then Some place else last_below passes place

-- the last of all children with this id
abbrev pub last_with_id : List Link → ℕ → Option ℕ
last_with_id kids id =
    if id == 0 then None else last_below (λ place. (slice_index_or kids place no_link).id == id) (length kids)

abbrev pub other_than : ℕ → Option ℕ → Option ℕ
other_than place None = None
other_than place (Some other) = if other == place then None else Some other

-- the sibling that a child's own rule names; if that is the child itself, the rule has no effect
abbrev pub named_sibling : Bool → Axis → Tie → List Link → ℕ → Option ℕ
named_sibling rtl axis tie kids place =
    other_than place (last_with_id kids (anchor_id rtl axis tie (slice_index_or kids place no_link).rules))

-- a sibling that takes part in layout, or what is used instead of one that is gone
abbrev pub shown_or : (ℕ → Bool) → (ℕ → Option ℕ) → Option ℕ → Option ℕ
shown_or shown instead None = None
shown_or shown instead (Some sibling) = if shown sibling then Some sibling else instead sibling

-- the anchor of a child: the sibling that it names, or if that is gone, the one to which that one's rule leads in the
-- same way, through as many siblings as there are at most
abbrev pub anchor_within : ℕ → (ℕ → Bool) → (ℕ → Option ℕ) → ℕ → Option ℕ
anchor_within zero shown named place = None
anchor_within (suc left) shown named place = shown_or shown (anchor_within left shown named) (named place)

abbrev pub anchor_of : Bool → Axis → Tie → List Link → (ℕ → Bool) → ℕ → Option ℕ
anchor_of rtl axis tie kids shown place = anchor_within (length kids) shown (named_sibling rtl axis tie kids) place
