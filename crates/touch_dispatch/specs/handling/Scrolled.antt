-- The scroll views that have moved their children, by a log.
use Rattle.std.specs.Prelude.{ℕ, ◌==◌, Bool, true, false, ◌&&◌, ◌||◌, List, [], ◌∷◌}
use Rattle.touch_dispatch.specs.declared.log.Entry.{Entry}
use Rattle.touch_dispatch.specs.declared.log.Kind.{Kind}
use Rattle.touch_dispatch.specs.declared.log.Kind.TheVariants.{Ask, Touch, Click, Scroll}

abbrev pub is_scroll : Kind → Bool
is_scroll Ask = false
is_scroll Touch = false
is_scroll Click = false
is_scroll Scroll = true

-- whether the view of this number has moved its child
abbrev pub has_scrolled : ℕ → List Entry → Bool
has_scrolled number [] = false
has_scrolled number (entry ∷ entries) = (is_scroll entry.kind && entry.view == number) || has_scrolled number entries
