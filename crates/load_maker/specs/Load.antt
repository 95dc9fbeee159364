-- The load of a size: the lines of a script that makes many views, and edits one of them before each of many frames.
-- What differs from line to line is drawn.
use Rattle.std.specs.Prelude.{ℕ, zero, suc, ◌+◌, ◌*◌, ◌%◌, ◌==◌, if◌then◌else◌, List, [], ◌∷◌, ◌++◌, codes, decimal}
use Rattle.text_lines.specs.Hex.{hex_text}
use Rattle.text_lines.specs.Joined.{◌⧺◌, texts_of}
use Rattle.load_maker.specs.Drawing.{drawn, next_state}

-- the lines so far, without their line feeds, and the state of the draws
pub record Load : Type 0 where
  pub state : ℕ
  pub lines : List (List ℕ)

abbrev pub with_line : Load → List ℕ → Load
with_line load line = record load { lines = load.lines ++ line ∷ [] }

abbrev pub drawn_by : Load → ℕ → ℕ
drawn_by load limit = drawn (next_state load.state) limit

abbrev pub after_draw : Load → Load
after_draw load = record load { state = next_state load.state }

-- what is made with a number below a limit, which is drawn first
abbrev pub drawing : ℕ → Load → (ℕ → Load → Load) → Load
drawing limit load made = made (drawn_by load limit) (after_draw load)

-- the lines

unfoldable pub add_line : ℕ → List ℕ → ℕ → ℕ → List ℕ
add_line parent class width height =
    codes "add v" ⧺ decimal parent ⧺ codes " " ⧺ class ⧺ codes " " ⧺ decimal width ⧺ codes " " ⧺ decimal height

unfoldable pub text_line : ℕ → ℕ → List ℕ
text_line view number = codes "text v" ⧺ decimal view ⧺ codes " " ⧺ decimal number

unfoldable pub size_line : ℕ → ℕ → ℕ → List ℕ
size_line view width height = codes "size v" ⧺ decimal view ⧺ codes " " ⧺ decimal width ⧺ codes " " ⧺ decimal height

unfoldable pub color_line : ℕ → ℕ → List ℕ
color_line view color = codes "bg v" ⧺ decimal view ⧺ codes " #ff" ⧺ hex_text color 6

unfoldable pub visible_line : ℕ → List ℕ → List ℕ
visible_line view visibility = codes "visible v" ⧺ decimal view ⧺ codes " " ⧺ visibility

unfoldable pub weight_line : ℕ → ℕ → List ℕ
weight_line view weight = codes "weight v" ⧺ decimal view ⧺ codes " " ⧺ decimal weight

unfoldable pub margins_line : ℕ → ℕ → ℕ → List ℕ
margins_line view across down =
    codes "margins v" ⧺ decimal view ⧺ codes " " ⧺ decimal across ⧺ codes " " ⧺ decimal down ⧺ codes " " ⧺ decimal
    across ⧺ codes " " ⧺ decimal down

-- a root with six children, which hold the views
abbrev pub opening : ℕ → Load
opening n = record {
  state = n;
  lines =
      codes "window 320 480" ∷ codes "add root LinearLayout match match" ∷ codes "orient v1 vertical"
      ∷ codes "add v1 LinearLayout match wrap" ∷ codes "add v1 LinearLayout match wrap"
      ∷ codes "add v1 LinearLayout match wrap"
      ∷ codes "add v1 LinearLayout match wrap" ∷ codes "add v1 LinearLayout match wrap"
      ∷ codes "add v1 LinearLayout match wrap" ∷ [];
}

unfoldable pub class_name : ℕ → List ℕ
class_name class = if class == 0 then codes "View" else (if class == 1 then codes "TextView" else codes "FrameLayout")

unfoldable pub visibility_name : ℕ → List ℕ
visibility_name visibility =
    if visibility == 0 then codes "visible" else (if visibility == 1 then codes "invisible" else codes "gone")

-- a text for the view that was made, if it has one
abbrev pub with_text : ℕ → ℕ → Load → Load
with_text view class load =
    if class == 1 then drawing 100000 load (λ number load. with_line load (text_line view number)) else load

-- a view more, of this number
unfoldable pub with_view : ℕ → Load → Load
with_view view load =
    drawing 3 load (λ class load.
    drawing 7 load (λ parent load.
    drawing 60 load (λ width load.
    drawing 60 load (λ height load.
    with_text view class (with_line load (add_line (1 + parent) (class_name class) width height))))))

-- an edit of a view

unfoldable pub with_size : ℕ → Load → Load
with_size view load =
    drawing 60 load (λ width load. drawing 60 load (λ height load. with_line load (size_line view width height)))

unfoldable pub with_color : ℕ → Load → Load
with_color view load = drawing 16777216 load (λ color load. with_line load (color_line view color))

unfoldable pub with_visibility : ℕ → Load → Load
with_visibility view load =
    drawing 3 load (λ visibility load. with_line load (visible_line view (visibility_name visibility)))

unfoldable pub with_weight : ℕ → Load → Load
with_weight view load = drawing 3 load (λ weight load. with_line load (weight_line view weight))

unfoldable pub with_margins : ℕ → Load → Load
with_margins view load =
    drawing 8 load (λ across load. drawing 8 load (λ down load. with_line load (margins_line view across down)))

abbrev pub with_edit : ℕ → ℕ → Load → Load
with_edit choice view load =
    if choice == 0 then with_size view load
    else (if choice == 1 then with_color view load
    else (if choice == 2 then with_visibility view load
    else (if choice == 3 then with_weight view load
    else with_margins view load)))

-- a frame, and now and then its digest
unfoldable pub with_frame : ℕ → Load → Load
with_frame step load =
    let framed = with_line load (codes "frame") in
    if step % 16 == 0 then with_line framed (codes "digest") else framed

-- an edit of one of n views, and a frame
unfoldable pub with_step : ℕ → ℕ → Load → Load
with_step views step load =
    drawing views load (λ view load. drawing 5 load (λ choice load. with_frame step (with_edit choice (8 + view) load)))

-- n views more; seven are there before
abbrev pub with_views : ℕ → Load → Load
with_views zero load = load
with_views (suc k) load = with_view (8 + k) (with_views k load)

-- n steps
abbrev pub with_steps : ℕ → ℕ → Load → Load
with_steps views zero load = load
with_steps views (suc k) load = with_step views (k + 1) (with_steps views k load)

unfoldable pub load_of : ℕ → Load
load_of n = with_steps (32 * n) (64 * n) (with_views (32 * n) (opening n))

-- the text of some lines
unfoldable pub text_of : List (List ℕ) → List ℕ
text_of lines = texts_of (λ (line : List ℕ). line ⧺ codes "\n") lines

-- the script of the load of a size
abbrev pub load : ℕ → List ℕ
load n = text_of (load_of n).lines
