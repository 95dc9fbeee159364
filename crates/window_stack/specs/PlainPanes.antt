-- The order of the windows of a stack.
use Rattle.std.specs.Prelude.{ℕ, ◌==◌, ◌+ℤ◌, ◌≤◌, Bool, true, false, ◌≡◌, ◌&&◌, not, if◌then◌else◌, ℤ, int_le, int_lt}
use Rattle.std.specs.Prelude.{List, [], ◌∷◌, ◌++◌, Option, Some, None, IfSome, filter, find, map, slice_index_or}
use Rattle.std.specs.Option.{is_some, option_map}
use Rattle.geom_core.specs.declared.geometry.Size.{Size}
use Rattle.window_stack.specs.Numbers.{max_pane}
use Rattle.window_stack.specs.declared.panes.Pane.{Pane}

pub record PlainPanes : Type 0 where
  -- the open windows, topmost first
  pub panes : List Pane
  -- the window that has the gesture
  pub holder : Option ℕ

abbrev pub no_panes : PlainPanes
no_panes = record { panes = []; holder = None }

-- the number of a window
abbrev pub IsPane : ℕ → Type 0
IsPane k = k ≤ max_pane

-- a window, if it is open
abbrev pub pane_at : List Pane → ℕ → Option Pane
pane_at panes k = find (λ (pane : Pane). pane.k == k) panes

abbrev pub is_open : PlainPanes → ℕ → Bool
is_open stack k = is_some (pane_at stack.panes k)

-- the corner of a window, if it is open
abbrev pub corner_of : PlainPanes → ℕ → Option (ℤ × ℤ)
corner_of stack k = option_map (λ (pane : Pane). (pane.x, pane.y)) (pane_at stack.panes k)

-- the open windows, topmost first
abbrev pub order_of : PlainPanes → List ℕ
order_of stack = map (λ (pane : Pane). pane.k) stack.panes

-- a window with this corner, if it is this one
abbrev pub placed : Pane → Pane → Pane
placed to pane = if pane.k == to.k then to else pane

-- a window with this corner: in its place if it is open, otherwise on top
abbrev pub set_at : PlainPanes → ℕ → ℤ → ℤ → PlainPanes
set_at stack k x y =
    let to : Pane = record { k = k; x = x; y = y } in
    record stack { panes = if is_open stack k then map (placed to) stack.panes else to ∷ stack.panes }

-- this window alone, if it is open
abbrev pub only : ℕ → List Pane → List Pane
only k panes = filter (λ (pane : Pane). pane.k == k) panes

-- all windows but this one
abbrev pub without : ℕ → List Pane → List Pane
without k panes = filter (λ (pane : Pane). not (pane.k == k)) panes

-- this window on top, and the others in their order
abbrev pub raised : PlainPanes → ℕ → PlainPanes
raised stack k = record stack { panes = only k stack.panes ++ without k stack.panes }

-- whether this window has the gesture
abbrev pub holds_gesture : Option ℕ → ℕ → Bool
holds_gesture None k = false
holds_gesture (Some holder) k = holder == k

-- the window that has the gesture after this one is closed
abbrev pub holder_without : Option ℕ → ℕ → Option ℕ
holder_without holder k = if holds_gesture holder k then None else holder

-- without this window, which has the gesture no longer
abbrev pub closed : PlainPanes → ℕ → PlainPanes
closed stack k = record { panes = without k stack.panes; holder = holder_without stack.holder k }

-- whether a coordinate is one of this many from a low edge on
abbrev pub lies_from : ℤ → ℤ → ℤ → Bool
lies_from low length at = int_le low at && int_lt at (low +ℤ length)

-- whether a window of this size holds a point; without a size it holds none
abbrev pub holds_point : ℤ → ℤ → Pane → Option Size → Bool
holds_point x y pane None = false
holds_point x y pane (Some size) = lies_from pane.x size.w x && lies_from pane.y size.h y

-- the size of a window, if it has one
abbrev pub size_at : List (Option Size) → ℕ → Option Size
size_at sizes k = slice_index_or sizes k None

-- whether a window holds a point, if the windows have these sizes
abbrev pub is_under : ℤ → ℤ → List (Option Size) → Pane → Bool
is_under x y sizes pane = holds_point x y pane (size_at sizes pane.k)

-- the topmost window that holds a point
abbrev pub pane_under : ℤ → ℤ → List (Option Size) → List Pane → Option Pane
pane_under x y sizes panes = find (is_under x y sizes) panes

abbrev pub topmost : PlainPanes → ℤ → ℤ → List (Option Size) → Option ℕ
topmost stack x y sizes = option_map (λ (pane : Pane). pane.k) (pane_under x y sizes stack.panes)

-- no window is there twice, and each has a name that a window may have
abbrev pub AreOpen : List Pane → Type 0
AreOpen [] = Unit {0}
AreOpen (pane ∷ panes) = (pane.k ≤ max_pane) × (pane_at panes pane.k ≡ None) × AreOpen panes

-- the window that has the gesture is open too
pub record IsStack (stack : PlainPanes) : Type 0 where
  pub once : AreOpen stack.panes
  pub held : IfSome stack.holder (λ k. is_open stack k ≡ true)
