-- Which view gets the focus next: the candidate with the least key among all views.
use Rattle.std.specs.Prelude.{ℕ, ◌+◌, ◌*◌, ◌==◌, Bool, true, false, ◌&&◌, ◌||◌, not, nat_lt, if◌then◌else◌, ℤ, pos}
use Rattle.std.specs.Prelude.{◌+ℤ◌, ◌-ℤ◌, int_le, int_lt, unsigned_abs, List, [], ◌∷◌, ◌++◌, Option, Some, None}
use Rattle.std.specs.Int.{int_max}
use Rattle.std.specs.List.{filter_map}
use Rattle.std.specs.Option.{option_map}
use Rattle.geom_core.specs.Rects.{is_empty}
use Rattle.geom_core.specs.declared.geometry.Rect.{Rect}
use Rattle.geom_core.specs.declared.geometry.Size.{Size}
use Rattle.view_model.specs.Forest.{Forest, Nothing, Branch}
use Rattle.view_model.specs.Geometry.{Laid}
use Rattle.view_model.specs.Classes.{scrolls}
use Rattle.view_model.specs.Painting.{is_drawn}
use Rattle.view_model.specs.PlainTree.{PlainView}
use Rattle.view_model.specs.Visible.{visible_rect}
use Rattle.view_model.specs.declared.answer.Answer.{Answer}
use Rattle.view_model.specs.declared.answer.Answer.TheVariants.{Off, Yes, Click}
use Rattle.focus_finder.specs.declared.keys.FocusKey.{FocusKey}
use Rattle.focus_finder.specs.declared.searching.Candidate.{Candidate}
use Rattle.focus_finder.specs.declared.side.Side.{Side}
use Rattle.focus_finder.specs.declared.side.Side.TheVariants.{Left, Right, Up, Down}

abbrev pub takes_clicks : Answer → Bool
takes_clicks Off = false
takes_clicks Yes = false
takes_clicks Click = true

-- whether a view may get the focus, if it is drawn with all its ancestors and something of it is seen
abbrev pub is_focusable : PlainView → Bool
is_focusable view = takes_clicks view.facts.answer && not (scrolls view.class)

-- the numbers of the views that may get it, in preorder: each is drawn with all its ancestors
abbrev pub focusable : Forest PlainView → List ℕ
focusable Nothing = []
focusable (Branch view below after) =
    (if is_drawn view.facts.visibility then (if is_focusable view then view.number ∷ [] else []) ++ focusable below
    else [])
    ++ focusable after

-- a rectangle, with its axes exchanged if the focus moves up or down: then up is left, and down is right
abbrev pub turned : Side → Rect → Rect
turned Left rect = rect
turned Right rect = rect
turned Up rect = record { left = rect.top; top = rect.left; right = rect.bottom; bottom = rect.right }
turned Down rect = record { left = rect.top; top = rect.left; right = rect.bottom; bottom = rect.right }

-- whether the focus moves to lower coordinates
abbrev pub is_low : Side → Bool
is_low Left = true
is_low Right = false
is_low Up = true
is_low Down = false

-- whether a rectangle lies to the left of another; the two may overlap
abbrev pub lies_low : Rect → Rect → Bool
lies_low from to = int_lt to.left from.left && (int_lt to.right from.right || int_le to.right from.left)

-- whether it lies to the right
abbrev pub lies_high : Rect → Rect → Bool
lies_high from to = int_lt from.right to.right && (int_lt from.left to.left || int_le from.right to.left)

abbrev pub lies_on : Bool → Rect → Rect → Bool
lies_on low from to = if low then lies_low from to else lies_high from to

-- whether some row of pixels goes through both
abbrev pub in_beam : Rect → Rect → Bool
in_beam from to = int_lt to.top from.bottom && int_lt from.top to.bottom

-- how many pixels one edge is before another; 0 if it is after it
abbrev pub gap_of : ℤ → ℤ → ℕ
gap_of low high = unsigned_abs (int_max (high -ℤ low) (pos 0))

-- how many pixels lie between two rectangles on the way to the left or to the right
abbrev pub major_of : Bool → Rect → Rect → ℕ
major_of low from to = if low then gap_of to.right from.left else gap_of from.right to.left

-- twice the pixels between their middles, across the way
abbrev pub minor_of : Rect → Rect → ℕ
minor_of from to = unsigned_abs ((from.top +ℤ from.bottom) -ℤ (to.top +ℤ to.bottom))

unfoldable pub distance_of : ℕ → ℕ → ℕ
distance_of major minor = 13 * ((2 * major) * (2 * major)) + minor * minor

-- the key of a candidate to the left or to the right
abbrev pub on_way : Bool → Rect → Rect → FocusKey
on_way low from to =
    record { outside = not (in_beam from to); distance = distance_of (major_of low from to) (minor_of from to) }

-- the key of a candidate that is seen in a rectangle, to this side of another rectangle
abbrev pub key_of : Side → Rect → Rect → FocusKey
key_of side from to = on_way (is_low side) (turned side from) (turned side to)

-- whether a key is less than another: one in the beam comes before one outside it, then the nearer one comes first
abbrev pub is_less : FocusKey → FocusKey → Bool
is_less one other =
    if one.outside
    then other.outside && nat_lt one.distance other.distance
    else other.outside || nat_lt one.distance other.distance

-- whether something is seen in both of two rectangles, and the second lies on a side of the first
abbrev pub is_candidate : Side → Rect → Rect → Bool
is_candidate side from to =
    (not (is_empty from) && not (is_empty to)) && lies_on (is_low side) (turned side from) (turned side to)

-- another view as a candidate, by its number or its key, if what is seen of it lies on the side
abbrev pub candidate_of : Side → ℕ → Rect → ℕ → Rect → Option Candidate
candidate_of side view from other to =
    if other == view || not (is_candidate side from to)
    then None
    else Some (record { view = other; key = key_of side from to })

-- the one of two that has the lesser key, the first if the keys are equal
abbrev pub lesser : Option Candidate → Option Candidate → Option Candidate
lesser one None = one
lesser None (Some other) = Some other
lesser (Some one) (Some other) = Some (if is_less other.key one.key then other else one)

-- the first of those with the least key
abbrev pub least : List Candidate → Option Candidate
least [] = None
least (one ∷ others) = lesser (Some one) (least others)

-- the number of the view that gets the focus next, from the view of this number to a side of it
abbrev pub next_focus : Forest PlainView → List Laid → Size → ℕ → Side → Option ℕ
next_focus tree geometry window number side =
    let seen = visible_rect tree geometry window in
    option_map (λ (best : Candidate). best.view)
    (least (filter_map (λ other. candidate_of side number (seen number) other (seen other)) (focusable tree)))
