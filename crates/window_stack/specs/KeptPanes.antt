-- What is kept of the order of windows.
use Rattle.std.specs.Prelude.{ℕ, List, Option, refl}
use Rattle.std.specs.Coded.{Coded, code_by, coded×, coded_ℕ, coded_list, coded_option}
use Rattle.window_stack.specs.PlainPanes.{PlainPanes}
use Rattle.window_stack.specs.contracts.panes.Pane.{the_row as pane_row}
use Rattle.window_stack.specs.declared.panes.Pane.{Pane}
use Rattle.window_stack.specs.declared.panes.Panes.TheInside.{Inside}

abbrev pub panes_of : Inside → PlainPanes
panes_of inside = record { panes = inside.panes.items; holder = inside.holder }

abbrev pub panes_code : Coded PlainPanes
panes_code =
    code_by (List Pane × Option ℕ) (coded× (coded_list pane_row.coded) (coded_option coded_ℕ))
    (λ p. (p.panes, p.holder))
    (λ p. record { panes = p.0; holder = p.1 })
    (λ _. refl)
