-- What holds of a list of views: it depends on these views alone, and holds of the first one and of the others.
use Rattle.std.proofs.Common.{◌≡◌, ℕ, ◌+◌, false, List, [], ◌∷◌, ◌++◌, append_assoc, arith, ap, ◌∙◌, sym, refl, subst}
use Rattle.std.specs.Prelude.{Option}
use Rattle.std.proofs.lemmas.List.{append-nil}
use Rattle.measure_pass.specs.Courses.{CanTurn, InCourse, MeasuredFor, phase_calls}
use Rattle.kept_views.specs.Kept.{IsSized, Sized, last_edges, last_specs}
use Rattle.view_model.specs.declared.facts.Facts.{Facts}
use Rattle.view_model.specs.Course.{Requested, after_phase, after_turn, last_of, size_in, sizes_of}
use Rattle.view_model.specs.Facts.{layout_facts}
use Rattle.view_model.specs.Forest.{Forest, Nothing, Branch}
use Rattle.view_model.specs.Measuring.{Measured, Rule, Specs}
use Rattle.view_tree.specs.Rows.{Row, later_siblings, first_tree, children_of_first, head_view}
use Rattle.view_tree.specs.Views.{Held, KeepsInside, specs_of}
use Rattle.view_tree.proofs.forest.Walks.{KeepsInside-kids, KeepsInside-self, KeepsInside-siblings}

-- the facts of the first view of a list, as layout sees them
abbrev pub facts_in : Forest Row → Facts
facts_in list = layout_facts (head_view list).facts

pub last_specs-along : (old new : ℕ → Held) (list : Forest Row) → KeepsInside old new list → last_specs new list ≡ last_specs old list
last_specs-along old new Nothing same = refl
last_specs-along old new (Branch row kids siblings) same =
    let own = KeepsInside-self old new row kids siblings same in
    let rest = last_specs-along old new siblings (KeepsInside-siblings old new row kids siblings same) in
    rw (own, rest) refl

pub last_edges-along : (old new : ℕ → Held) (list : Forest Row) → KeepsInside old new list → last_edges new list ≡ last_edges old list
last_edges-along old new Nothing same = refl
last_edges-along old new (Branch row kids siblings) same =
    let own = KeepsInside-self old new row kids siblings same in
    let rest = last_edges-along old new siblings (KeepsInside-siblings old new row kids siblings same) in
    rw (own, rest) refl

pub IsSized-along : (old new : ℕ → Held) (own : Held) (row : Row) (kids : Forest Row) → KeepsInside old new kids → IsSized old own row kids → IsSized new own row kids
IsSized-along old new own row kids same h = record {
  size = h.size;
  finals = λ whole. last_specs-along old new kids same ∙ h.finals whole;
  total = h.total;
  edges = λ whole is. last_edges-along old new kids same ∙ h.edges whole is;
}

pub Sized-along : (old new : ℕ → Held) (list : Forest Row) → KeepsInside old new list → Sized old list → Sized new list
Sized-along old new Nothing same h = tt
Sized-along old new (Branch row kids siblings) same h =
    let below = KeepsInside-kids old new row kids siblings same in
    let e : old row.key ≡ new row.key = sym (KeepsInside-self old new row kids siblings same) in (
      λ here. subst (λ (own : Held). IsSized new own row kids × (own.state.measure_first ≡ false → Sized new kids)) e
          (IsSized-along old new (old row.key) row kids below (h.0 here).0, λ whole. Sized-along old new kids below ((h.0 here).1 whole)),
      Sized-along old new siblings (KeepsInside-siblings old new row kids siblings same) h.1,
    )

MeasuredFor-along : (old new : ℕ → Held) (row : Row) (kids : Forest Row) (requests : List Specs) → new row.key ≡ old row.key → KeepsInside old new kids
    → MeasuredFor old row kids requests → MeasuredFor new row kids requests
MeasuredFor-along old new row kids [] own same h = tt
MeasuredFor-along old new row kids (specs ∷ more) own same h =
    subst (λ (own : Held). (specs_of own.state ≡ last_of specs more) × IsSized new own row kids × (own.state.measure_first ≡ false → Sized new kids)) (sym own)
    (h.0, IsSized-along old new (old row.key) row kids same h.1, λ whole. Sized-along old new kids same (h.2 whole))

pub InCourse-along : (old new : ℕ → Held) (list : Forest Row) (kids : List Requested) → KeepsInside old new list → InCourse old list kids → InCourse new list kids
InCourse-along old new Nothing [] same h = tt
InCourse-along old new Nothing (kid ∷ more) same h = absurd h
InCourse-along old new (Branch row children_of_first siblings) [] same h = absurd h
InCourse-along old new (Branch row children_of_first siblings) (kid ∷ more) same h = (
  h.0,
  MeasuredFor-along old new row children_of_first kid.requests (KeepsInside-self old new row children_of_first siblings same) (KeepsInside-kids old new row children_of_first siblings same) h.1,
  InCourse-along old new siblings more (KeepsInside-siblings old new row children_of_first siblings same) h.2,
)

-- the children of the first view of a list and of those after it
pub record Split (rule : Rule) (past : List (List Measured)) (held : ℕ → Held) (list : Forest Row) (kids : List Requested) : Type 0 where
  pub first : List Requested
  pub rest : List Requested
  pub whole : kids ≡ first ++ rest
  pub alone : InCourse held (first_tree list) first
  pub following : InCourse held (later_siblings list) rest
  pub turn : CanTurn rule past first
  pub turns : CanTurn rule past rest

pub split : (rule : Rule) (past : List (List Measured)) (held : ℕ → Held) (list : Forest Row) (kids : List Requested) → InCourse held list kids → CanTurn rule past kids
    → Split rule past held list kids
split rule past held Nothing [] h can = record { first = []; rest = []; whole = refl; alone = tt; following = tt; turn = tt; turns = tt }
split rule past held Nothing (kid ∷ more) h can = absurd h
split rule past held (Branch row children_of_first siblings) [] h can = absurd h
split rule past held (Branch row children_of_first siblings) (kid ∷ more) h can =
    record { first = kid ∷ []; rest = more; whole = refl; alone = (h.0, h.1, tt); following = h.2; turn = (can.0, tt); turns = can.1 }

pub InCourse-join : (held : ℕ → Held) (list : Forest Row) (first rest : List Requested) → InCourse held (first_tree list) first → InCourse held (later_siblings list) rest
    → InCourse held list (first ++ rest)
InCourse-join held Nothing [] rest one more = more
InCourse-join held Nothing (kid ∷ kids) rest one more = absurd one
InCourse-join held (Branch row children_of_first siblings) [] rest one more = absurd one
InCourse-join held (Branch row children_of_first siblings) (kid ∷ []) rest one more = (one.0, one.1, more)
InCourse-join held (Branch row children_of_first siblings) (kid ∷ other ∷ kids) rest one more = absurd one.2

-- a phase of children, one part after the other
pub after_phase-append : (ask : List Measured → Measured → Option Specs) (taken : List Measured) (first rest : List Requested)
    → after_phase ask taken (first ++ rest) ≡ after_phase ask taken first ++ after_phase ask (taken ++ sizes_of (after_phase ask taken first)) rest
after_phase-append ask taken [] rest = ap (λ taken. after_phase ask taken rest) (sym (append-nil taken))
after_phase-append ask taken (kid ∷ kids) rest =
    let next = after_turn ask taken kid in
    ap (λ more. next ∷ more) (after_phase-append ask (taken ++ size_in next) kids rest
    ∙ ap (λ taken'. after_phase ask (taken ++ size_in next) kids ++ after_phase ask taken' rest)
    (append_assoc taken (size_in next) (sizes_of (after_phase ask (taken ++ size_in next) kids))))

pub sizes_of-append : (first rest : List Requested) → sizes_of (first ++ rest) ≡ sizes_of first ++ sizes_of rest
sizes_of-append [] rest = refl
sizes_of-append (kid ∷ kids) rest = ap (λ more. size_in kid ++ more) (sizes_of-append kids rest) ∙ sym (append_assoc (size_in kid) (sizes_of kids) (sizes_of rest))

pub phase_calls-append : (ask : List Measured → Measured → Option Specs) (taken : List Measured) (first rest : List Requested)
    → phase_calls ask taken (first ++ rest) ≡ phase_calls ask taken first + phase_calls ask (taken ++ sizes_of (after_phase ask taken first)) rest
phase_calls-append ask taken [] rest = let same = ap (λ taken. phase_calls ask taken rest) (sym (append-nil taken)) in omega arith
phase_calls-append ask taken (kid ∷ kids) rest =
    let next = after_turn ask taken kid in
    let more = phase_calls-append ask (taken ++ size_in next) kids rest in
    let same = ap (λ taken. phase_calls ask taken rest) (append_assoc taken (size_in next) (sizes_of (after_phase ask (taken ++ size_in next) kids))) in
    omega arith
