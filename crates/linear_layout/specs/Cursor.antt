-- What a cursor represents: a group, and the children that it has placed.
use Rattle.std.specs.Prelude.{◌≡◌, ℤ, ◌+ℤ◌, List, length, not}
use Rattle.geom_core.specs.declared.geometry.Size.{Size}
use Rattle.linear_layout.specs.declared.cursor.Cursor.{Cursor}
use Rattle.view_model.specs.declared.facts.Facts.{Facts}
use Rattle.view_model.specs.LinearLayout.{alignment_on, high_padding, line_begin, low_padding, passed, size_on}
use Rattle.view_model.specs.Measuring.{Measured}
use Rattle.view_model.specs.Placing.{started}

-- the group has these facts and this size, its children take `total` pixels of its length, and these have their places
pub record PlacesLinear (cursor : Cursor) (own : Facts) (room : Size) (total : ℤ) (before : List Measured) : Type 0
  where
    pub vertical : cursor.vertical ≡ own.vertical
    pub rtl : cursor.rtl ≡ own.rtl
    pub alignment : cursor.alignment ≡ alignment_on (not own.vertical) own.rtl (started own.gravity)
    pub padding_low : cursor.padding_low ≡ low_padding (not own.vertical) own
    pub padding_high : cursor.padding_high ≡ high_padding (not own.vertical) own
    pub breadth : cursor.breadth ≡ size_on (not own.vertical) room
    pub count : cursor.mark.count ≡ length before
    pub at : cursor.mark.at
        ≡ line_begin (alignment_on own.vertical own.rtl (started own.gravity)) (low_padding own.vertical own)
        (size_on own.vertical room) total +ℤ passed own.vertical before
