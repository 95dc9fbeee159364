-- What holds of kept views depends only on what is kept with them, and holds of the first one and of the others.
use Rattle.std.proofs.Common.{◌≡◌, ℕ, Bool, true, List, [], ◌∙◌, sym, refl, subst}
use Rattle.kept_views.specs.Kept.{Around, HiddenView, Kept, Reached, Ready, ShownView, inside, last_places, loose, owed}
use Rattle.kept_views.proofs.KeptFrames.{in_range-along}
use Rattle.measure_pass.proofs.held.Parts.{IsSized-along}
use Rattle.view_model.specs.Facts.{is_shown}
use Rattle.view_model.specs.Forest.{Forest, Nothing, Branch}
use Rattle.view_tree.specs.Rows.{Row, later_siblings, first_tree}
use Rattle.view_tree.specs.Views.{Held, KeepsInside}
use Rattle.view_tree.proofs.forest.Walks.{KeepsInside-kids, KeepsInside-self, KeepsInside-siblings}

pub last_places-along : (old new : ℕ → Held) (list : Forest Row) → KeepsInside old new list → last_places new list ≡ last_places old list
last_places-along old new Nothing same = refl
last_places-along old new (Branch row kids siblings) same =
    let own = KeepsInside-self old new row kids siblings same in
    let rest = last_places-along old new siblings (KeepsInside-siblings old new row kids siblings same) in
    rw (own, rest) refl

pub ShownView-along : (keys : List ℕ) (old new : ℕ → Held) (up : Around) (own : Held) (row : Row) (kids : Forest Row) → KeepsInside old new kids
    → ShownView keys old up own row kids → ShownView keys new up own row kids
ShownView-along keys old new up own row kids same h = record {
  flags = h.flags;
  cache = h.cache;
  sized = λ none f. IsSized-along old new own row kids same (h.sized none f);
  placed = λ none f n rect e. last_places-along old new kids same ∙ h.placed none f n rect e;
  ranged = λ none f n rect e. in_range-along old new own row kids rect same (h.ranged none f n rect e);
}

pub Kept-along : (keys : List ℕ) (old new : ℕ → Held) (up : Around) (list : Forest Row) → KeepsInside old new list → Kept keys old up list → Kept keys new up list
Kept-along keys old new up Nothing same k = tt
Kept-along keys old new up (Branch row kids siblings) same k =
    let e : old row.key ≡ new row.key = sym (KeepsInside-self old new row kids siblings same) in
    let below = KeepsInside-kids old new row kids siblings same in (
      λ h. subst HiddenView e (k.0 h),
      λ h. subst (λ own. ShownView keys new up own row kids) e (ShownView-along keys old new up (old row.key) row kids below (k.1 h)),
      subst (λ own. Kept keys new (inside up row own) kids) e (Kept-along keys old new (inside up row (old row.key)) kids below k.2),
      Kept-along keys old new up siblings (KeepsInside-siblings old new row kids siblings same) k.3,
    )

pub Reached-along : (old new : ℕ → Held) (up : Bool) (list : Forest Row) → KeepsInside old new list → Reached old up list → Reached new up list
Reached-along old new up Nothing same k = tt
Reached-along old new up (Branch row kids siblings) same k =
    let e : old row.key ≡ new row.key = sym (KeepsInside-self old new row kids siblings same) in (
      subst (λ (own : Held). own.state.layout_needed ≡ true → (is_shown row.view.facts ≡ true) × (up ≡ true)) e k.0,
      subst (λ (own : Held). own.state.measure_first ≡ true → own.state.layout_needed ≡ true) e k.1,
      subst (λ (own : Held). Reached new own.state.layout_needed kids) e (Reached-along old new (old row.key).state.layout_needed kids (KeepsInside-kids old new row kids siblings same) k.2),
      Reached-along old new up siblings (KeepsInside-siblings old new row kids siblings same) k.3,
    )

pub owed-along : (old new : ℕ → Held) (list : Forest Row) → KeepsInside old new list → owed new list ≡ owed old list
owed-along old new Nothing same = refl
owed-along old new (Branch row kids siblings) same =
    let own = KeepsInside-self old new row kids siblings same in
    let below = owed-along old new kids (KeepsInside-kids old new row kids siblings same) in
    let rest = owed-along old new siblings (KeepsInside-siblings old new row kids siblings same) in
    rw (own, below, rest) refl

pub Ready-along : (old new : ℕ → Held) (list : Forest Row) → KeepsInside old new list → Ready old list → Ready new list
Ready-along old new list same h = record { kept = Kept-along [] old new loose list same h.kept; reached = Reached-along old new true list same h.reached }

pub Ready-alone : (held : ℕ → Held) (list : Forest Row) → Ready held list → Ready held (first_tree list)
Ready-alone held Nothing h = h
Ready-alone held (Branch row kids siblings) h =
    let k = h.kept in let n = h.reached in record { kept = (k.0, k.1, k.2, tt); reached = (n.0, n.1, n.2, tt) }

pub Ready-after : (held : ℕ → Held) (list : Forest Row) → Ready held list → Ready held (later_siblings list)
Ready-after held Nothing h = h
Ready-after held (Branch row kids siblings) h = record { kept = h.kept.3; reached = h.reached.3 }

pub Ready-join : (held : ℕ → Held) (list : Forest Row) → Ready held (first_tree list) → Ready held (later_siblings list) → Ready held list
Ready-join held Nothing one more = one
Ready-join held (Branch row kids siblings) one more = record {
  kept = (one.kept.0, one.kept.1, one.kept.2, more.kept);
  reached = (one.reached.0, one.reached.1, one.reached.2, more.reached);
}
