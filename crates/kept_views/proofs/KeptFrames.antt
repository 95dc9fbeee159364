-- What holds of kept views depends only on what is kept with them.
use Rattle.std.proofs.Common.{◌≡◌, ℕ, ◌<◌, Bool, true, false, Some, None, List, [], ◌∷◌, arith, ap, ◌∙◌, sym, refl, subst}
use Rattle.std.specs.Prelude.{if◌then◌else◌}
use Rattle.geom_core.specs.declared.geometry.Rect.{Rect}
use Rattle.geom_core.specs.declared.geometry.Size.{Size}
use Rattle.view_model.specs.Forest.{Forest, Nothing, Branch}
use Rattle.view_model.specs.Measuring.{Specs}
use Rattle.view_model.specs.Offsets.{brought, range_by}
use Rattle.view_tree.specs.Rows.{Row, count_of_key}
use Rattle.view_tree.proofs.forest.KeyLaws.{times_self}
use Rattle.view_tree.specs.Views.{Held}
use Rattle.measure_cache.specs.Entries.{found}
use Rattle.kept_views.specs.Kept.{Around, HiddenView, InRange, IsSized, Kept, ShownView, first_place, inside, last_edges, last_places, last_specs}

-- what is not hidden has none around it that is
pub outer : (v w : Bool) → (if v then w else true) ≡ false → w ≡ false
outer true w e = e
outer false w e = absurd (let n : true ≡ false = e in cc)

-- nothing is found where nothing was kept
pub none_found : {A : Type 0} (own : Held) (specs : Specs) (size : Size) → own.cache ≡ [] → found own.cache specs ≡ Some size → A
none_found own specs size e y = let n : None ≡ Some size = sym (ap (λ cache. found cache specs) e) ∙ y in absurd (cc)

-- what is kept with each view of a list is the same
abbrev pub Same : (ℕ → Held) → (ℕ → Held) → Forest Row → Type 0
Same old new list = (key : ℕ) → 0 < count_of_key key list → new key ≡ old key

pub same_self : (old new : ℕ → Held) (row : Row) (kids siblings : Forest Row) → Same old new (Branch row kids siblings) → new row.key ≡ old row.key
same_self old new row kids siblings same = same row.key (times_self row kids siblings)

pub same_kids : (old new : ℕ → Held) (row : Row) (kids siblings : Forest Row) → Same old new (Branch row kids siblings) → Same old new kids
same_kids old new row kids siblings same = λ key here. same key (omega arith)

pub same_siblings : (old new : ℕ → Held) (row : Row) (kids siblings : Forest Row) → Same old new (Branch row kids siblings) → Same old new siblings
same_siblings old new row kids siblings same = λ key here. same key (omega arith)

pub specs-along : (old new : ℕ → Held) (list : Forest Row) → Same old new list → last_specs new list ≡ last_specs old list
specs-along old new Nothing same = refl
specs-along old new (Branch row kids siblings) same =
    let own = same_self old new row kids siblings same in
    let rest = specs-along old new siblings (same_siblings old new row kids siblings same) in
    rw (own, rest) refl

pub edges-along : (old new : ℕ → Held) (list : Forest Row) → Same old new list → last_edges new list ≡ last_edges old list
edges-along old new Nothing same = refl
edges-along old new (Branch row kids siblings) same =
    let own = same_self old new row kids siblings same in
    let rest = edges-along old new siblings (same_siblings old new row kids siblings same) in
    rw (own, rest) refl

pub places-along : (old new : ℕ → Held) (list : Forest Row) → Same old new list → last_places new list ≡ last_places old list
places-along old new Nothing same = refl
places-along old new (Branch row kids siblings) same =
    let own = same_self old new row kids siblings same in
    let rest = places-along old new siblings (same_siblings old new row kids siblings same) in
    rw (own, rest) refl

pub first-along : (old new : ℕ → Held) (list : Forest Row) → Same old new list → first_place new list ≡ first_place old list
first-along old new Nothing same = refl
first-along old new (Branch row kids siblings) same = ap (λ (own : Held). own.state.bounds) (same_self old new row kids siblings same)

pub in_range-along : (old new : ℕ → Held) (own : Held) (row : Row) (kids : Forest Row) (rect : Rect) → Same old new kids → InRange old own row kids rect → InRange new own row kids rect
in_range-along old new own row kids rect same r =
    ap (λ first. brought (range_by row.view.class row.view.facts (Some rect) first) own.offset) (first-along old new kids same) ∙ r

pub sized-along : (old new : ℕ → Held) (own : Held) (row : Row) (kids : Forest Row) → Same old new kids → IsSized old own row kids → IsSized new own row kids
sized-along old new own row kids same s = record {
  size = s.size;
  finals = λ m. specs-along old new kids same ∙ s.finals m;
  total = s.total;
  edges = λ m c. edges-along old new kids same ∙ s.edges m c;
}

pub shown-along : (keys : List ℕ) (old new : ℕ → Held) (up : Around) (own : Held) (row : Row) (kids : Forest Row) → Same old new kids
    → ShownView keys old up own row kids → ShownView keys new up own row kids
shown-along keys old new up own row kids same v = record {
  flags = v.flags;
  cache = v.cache;
  sized = λ none unforced. sized-along old new own row kids same (v.sized none unforced);
  placed = λ none unforced calm rect lies. places-along old new kids same ∙ v.placed none unforced calm rect lies;
  ranged = λ none unforced calm rect lies.
      ap (λ first. brought (range_by row.view.class row.view.facts (Some rect) first) own.offset) (first-along old new kids same) ∙ v.ranged none unforced calm rect lies;
}

pub Kept-along : (keys : List ℕ) (old new : ℕ → Held) (up : Around) (list : Forest Row) → Same old new list → Kept keys old up list → Kept keys new up list
Kept-along keys old new up Nothing same k = tt
Kept-along keys old new up (Branch row kids siblings) same k =
    let e : old row.key ≡ new row.key = sym (same_self old new row kids siblings same) in
    let below = same_kids old new row kids siblings same in (
      λ h. subst HiddenView e (k.0 h),
      λ h. subst (λ own. ShownView keys new up own row kids) e (shown-along keys old new up (old row.key) row kids below (k.1 h)),
      subst (λ own. Kept keys new (inside up row own) kids) e (Kept-along keys old new (inside up row (old row.key)) kids below k.2),
      Kept-along keys old new up siblings (same_siblings old new row kids siblings same) k.3,
    )

-- with one requester more
pub Kept-weak : (key : ℕ) (keys : List ℕ) (held : ℕ → Held) (up : Around) (list : Forest Row) → Kept keys held up list → Kept (key ∷ keys) held up list
Kept-weak key keys held up Nothing k = tt
Kept-weak key keys held up (Branch row kids siblings) k = (
  k.0,
  λ h. let v = k.1 h in record {
    flags = λ z. v.flags (omega arith);
    cache = λ z. v.cache (omega arith);
    sized = λ z. v.sized (omega arith);
    placed = λ z. v.placed (omega arith);
    ranged = λ z. v.ranged (omega arith);
  },
  Kept-weak key keys held (inside up row (held row.key)) kids k.2,
  Kept-weak key keys held up siblings k.3,
)

pub Kept-more : (key : ℕ) (keys : List ℕ) (old new : ℕ → Held) (up : Around) (list : Forest Row) → Same old new list → Kept keys old up list → Kept (key ∷ keys) new up list
Kept-more key keys old new up list same k = Kept-along (key ∷ keys) old new up list same (Kept-weak key keys old up list k)
