-- Below a view that is not forced all is sized.
use Rattle.std.proofs.Common.{◌≡◌, ℕ, Bool, true, false, [], ap, ◌∙◌, sym, refl, subst}
use Rattle.std.proofs.lemmas.Bool.{false_from_ne_true}
use Rattle.std.specs.Prelude.{if◌then◌else◌}
use Rattle.kept_views.specs.Kept.{Around, Kept, Reached, Ready, Sized, firm, hidden_in, inside, loose}
use Rattle.measure_pass.specs.Measured.{Keeps}
use Rattle.view_model.specs.Facts.{is_shown}
use Rattle.view_model.specs.Forest.{Forest, Nothing, Branch}
use Rattle.view_tree.specs.Rows.{Row, first_tree, children_of_first, head_view}
use Rattle.view_tree.specs.Views.{Held}

pub unforced : (v : Bool) → (v ≡ true → false ≡ true) → v ≡ false
unforced v h = false_from_ne_true v (λ e. let g : false ≡ true = h e in absurd (cc))

-- a list of views in one that is shown
abbrev pub below_shown : Bool → Around
below_shown forced = record { hidden = false; forced = forced }

pub shown_in : (up : Around) (row : Row) → is_shown row.view.facts ≡ true → up.hidden ≡ false → hidden_in up row ≡ false
shown_in up row here seen = ap (λ b. if b then up.hidden else true) here ∙ seen

pub inside_shown : (up : Around) (row : Row) (own : Held) → is_shown row.view.facts ≡ true → up.hidden ≡ false → inside up row own ≡ below_shown own.state.forced
inside_shown up row own here seen = ap (λ h. let a : Around = record { hidden = h; forced = own.state.forced } in a) (shown_in up row here seen)

pub kids_kept : (held : ℕ → Held) (up : Around) (row : Row) (own : Held) (kids : Forest Row) → is_shown row.view.facts ≡ true → up.hidden ≡ false
    → Kept [] held (inside up row own) kids → Kept [] held (below_shown own.state.forced) kids
kids_kept held up row own kids here seen k = subst (λ up. Kept [] held up kids) (inside_shown up row own here seen) k

pub kept_kids : (held : ℕ → Held) (up : Around) (row : Row) (own : Held) (kids : Forest Row) → is_shown row.view.facts ≡ true → up.hidden ≡ false
    → Kept [] held (below_shown own.state.forced) kids → Kept [] held (inside up row own) kids
kept_kids held up row own kids here seen k = subst (λ up. Kept [] held up kids) (sym (inside_shown up row own here seen)) k

pub kept_firm : (held : ℕ → Held) (forced : Bool) (list : Forest Row) → forced ≡ false → Kept [] held (below_shown forced) list → Kept [] held firm list
kept_firm held forced list f k = subst (λ v. Kept [] held (below_shown v) list) f k

pub Sized-calm : (held : ℕ → Held) (list : Forest Row) → Kept [] held firm list → Sized held list
Sized-calm held Nothing k = tt
Sized-calm held (Branch row kids siblings) k = (
  λ here.
      let v = k.1 (shown_in firm row here refl) in
      let f = unforced (held row.key).state.forced (v.flags refl) in
      (v.sized refl f, λ m. Sized-calm held kids (kept_firm held _ kids f (kids_kept held firm row (held row.key) kids here refl k.2))),
  Sized-calm held siblings k.3,
)

-- flags are as before, so what was known around the views is still known
pub Kept-firm : (old new : ℕ → Held) (forced : Bool) (list : Forest Row) → Keeps old new → Kept [] old (below_shown forced) list → Kept [] new loose list
    → Kept [] new (below_shown forced) list
Kept-firm old new forced Nothing keeps k n = tt
Kept-firm old new forced (Branch row kids siblings) keeps k n = (
  n.0,
  λ h. let v = n.1 h in record { flags = λ none f. (k.1 h).flags none (sym (keeps.forced row.key) ∙ f); cache = v.cache; sized = v.sized; placed = v.placed; ranged = v.ranged },
  n.2,
  Kept-firm old new forced siblings keeps k.3 n.3,
)

pub Kept-loose : (held : ℕ → Held) (forced : Bool) (list : Forest Row) → Kept [] held (below_shown forced) list → Kept [] held loose list
Kept-loose held forced Nothing k = tt
Kept-loose held forced (Branch row kids siblings) k = (
  k.0,
  λ h. let v = k.1 h in record { flags = λ none f. refl; cache = v.cache; sized = v.sized; placed = v.placed; ranged = v.ranged },
  k.2,
  Kept-loose held forced siblings k.3,
)

pub Reached-loose : (held : ℕ → Held) (up : Bool) (list : Forest Row) → Reached held up list → Reached held true list
Reached-loose held up Nothing k = tt
Reached-loose held up (Branch row kids siblings) k = (λ h. ((k.0 h).0, refl), k.1, k.2, Reached-loose held up siblings k.3)

-- what is below a shown view is ready if the view is
pub Ready-below : (held : ℕ → Held) (list : Forest Row) → is_shown (head_view list).facts ≡ true → Ready held (first_tree list) → Ready held (children_of_first list)
Ready-below held Nothing here h = h
Ready-below held (Branch row kids siblings) here h = record {
  kept = Kept-loose held _ kids (kids_kept held loose row (held row.key) kids here refl h.kept.2);
  reached = Reached-loose held _ kids h.reached.2;
}
