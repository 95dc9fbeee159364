-- The whole measuring of a group.
use Rattle.std.proofs.Common.{◌≡◌, ℤ, ℕ, zero, suc, ◌+◌, ◌-◌, Bool, true, false, inl, inr, Option, Some, None, List, [], ◌∷◌, ◌++◌, arith, ap, ◌∙◌, sym, refl, subst}
use Rattle.std.proofs.lemmas.Bool.{cases_Bool}
use Rattle.std.proofs.lemmas.List.Sums.{sum_by-cons}
use Rattle.std.specs.Prelude.{if◌then◌else◌, map, filter, sum_by}
use Rattle.geom_core.specs.declared.geometry.Size.{Size}
use Rattle.geom_core.specs.Limits.{IsSide}
use Rattle.measure_pass.specs.Courses.{AfterAll, AfterPhase, CanTurn, InCourse, IsMeasuredBelow, MeasuredFor, StaysReady, calls_for, calls_of, from_here, has_requests, phase_calls}
use Rattle.measure_pass.specs.Caches.{AskedAt}
use Rattle.measure_pass.specs.Sharing.{MeasuringTrace}
use Rattle.kept_views.specs.Kept.{IsSized, Sized, last_specs}
use Rattle.measure_pass.specs.Measured.{calls_under}
use Rattle.measure_pass.specs.Plans.{RuledView, GroupPlan, group_by, rule_in}
use Rattle.measure_pass.proofs.Counts.{costs_own, costs_same, costs_twice}
use Rattle.measure_pass.proofs.held.Grows.{AskedAt-on, AskedAt-through}
use Rattle.measure_pass.proofs.Shares.{trace-mono, trace-trans}
use Rattle.view_model.specs.Course.{Child, Course, MeasuringProgress, Requested, after_phase, after_turn, asked_for, begun, course_of, last_of, measured_of, one_phase, phases_on, size_in}
use Rattle.view_model.specs.Facts.{is_shown}
use Rattle.view_model.specs.Forest.{Forest, Nothing, Branch}
use Rattle.view_model.specs.Layout.{Final, children_of, course_by, course_in, manner_by, manner_of, for_layout}
use Rattle.view_model.specs.Measuring.{ByRule, BySiblings, Measured, Rule, Specs}
use Rattle.view_tree.specs.Rows.{Row, children_of_first, views_of}
use Rattle.view_tree.specs.Views.{Held, specs_of}

pub no_true : {A : Type 0} (v : Bool) → v ≡ false → v ≡ true → A
no_true v f t = let e : true ≡ false = sym t ∙ f in absurd (cc)

-- what a phase costs is what the new requests do
calls_push : (calls : Specs → ℕ) (requests : List Specs) (specs : Specs) → sum_by calls (requests ++ specs ∷ []) ≡ sum_by calls requests + calls specs
calls_push calls [] specs = let one = sum_by-cons calls specs [] in omega arith
calls_push calls (first ∷ more) specs =
    let all = sum_by-cons calls first (more ++ specs ∷ []) in
    let some = sum_by-cons calls first more in
    let rest = calls_push calls more specs in
    omega arith

calls_asked : (answer : Option Specs) (kid : Requested) → sum_by (asked_for answer kid).child.calls (asked_for answer kid).requests ≡ sum_by kid.child.calls kid.requests + calls_for answer kid.child
calls_asked None kid = omega arith
calls_asked (Some specs) kid = calls_push kid.child.calls kid.requests specs

calls_turn : (v : Bool) (answer : Option Specs) (kid : Requested)
    → (let next = (if v then asked_for answer kid else kid) in sum_by next.child.calls next.requests)
    ≡ sum_by kid.child.calls kid.requests + (if v then calls_for answer kid.child else 0)
calls_turn true answer kid = calls_asked answer kid
calls_turn false answer kid = omega arith

calls_after : (ask : List Measured → Measured → Option Specs) (taken : List Measured) (kids : List Requested) → calls_of (after_phase ask taken kids) ≡ calls_of kids + phase_calls ask taken kids
calls_after ask taken [] = refl
calls_after ask taken (kid ∷ kids) =
    let next = after_turn ask taken kid in
    let calls : Requested → ℕ = λ kid. sum_by kid.child.calls kid.requests in
    let new = sum_by-cons calls next (after_phase ask (taken ++ size_in next) kids) in
    let old = sum_by-cons calls kid kids in
    let rest = calls_after ask (taken ++ size_in next) kids in
    let one = calls_turn (is_shown kid.child.facts) (ask taken (measured_of kid)) kid in
    omega arith

phases_stop : (left : ℕ) (rule : Rule) (progress : MeasuringProgress) → rule.turns progress.past ≡ false → phases_on left rule progress ≡ progress
phases_stop zero rule progress over = refl
phases_stop (suc left) rule progress over = ap (λ b. if b then phases_on left rule (one_phase rule progress) else progress) over

one_less : (left : ℕ) → left ≡ suc left - 1
one_less left = omega arith

phases_go : (left : ℕ) (rule : Rule) (progress : MeasuringProgress) → (left ≡ 0 → ⊥) → rule.turns progress.past ≡ true → phases_on left rule progress ≡ phases_on (left - 1) rule (one_phase rule progress)
phases_go zero rule progress some again = absurd (some refl)
phases_go (suc left) rule progress some again =
    ap (λ b. if b then phases_on left rule (one_phase rule progress) else progress) again ∙ ap (λ left. phases_on left rule (one_phase rule progress)) (one_less left)

pub ready_now : (rule : Rule) (left : ℕ) (progress : MeasuringProgress) → StaysReady rule left progress → CanTurn rule progress.past progress.kids
ready_now rule zero progress h = h
ready_now rule (suc left) progress h = h.0

pub ready_then : (rule : Rule) (left : ℕ) (progress : MeasuringProgress) → (left ≡ 0 → ⊥) → rule.turns (one_phase rule progress).past ≡ true → StaysReady rule left progress
    → StaysReady rule (left - 1) (one_phase rule progress)
ready_then rule zero progress some again h = absurd (some refl)
ready_then rule (suc left) progress some again h = subst (λ left. StaysReady rule left (one_phase rule progress)) (one_less left) (h.1 again)

-- after the last phase
pub phases_end : (plan : GroupPlan) (group : RuledView) (left : ℕ) (past : List (List Measured)) (kids : List Requested) (before held : ℕ → Held) (list : Forest Row) (answer : Size) (total : ℤ) (old new : ℕ)
    → (let progress : MeasuringProgress = record { past = past; kids = kids } in
    phases_on left (rule_in group) (one_phase (rule_in group) progress) ≡ one_phase (rule_in group) progress
    → AfterPhase plan group past [] kids before held list old new
    → answer ≡ (rule_in group).size (one_phase (rule_in group) progress).past
    → total ≡ (rule_in group).total (one_phase (rule_in group) progress).past
    → AfterAll group left progress before held list answer total old new)
phases_end plan group left past kids before held list answer total old new ends phase finished summed = record {
  length = summed ∙ ap (λ (progress : MeasuringProgress). (rule_in group).total progress.past) (sym ends);
  size = finished ∙ ap (λ (progress : MeasuringProgress). (rule_in group).size progress.past) (sym ends);
  represents = subst (λ (progress : MeasuringProgress). InCourse held list progress.kids) (sym ends) phase.course;
  more = phase_calls ((rule_in group).ask past) [] kids;
  calls = ap (λ (progress : MeasuringProgress). calls_of progress.kids) ends ∙ calls_after ((rule_in group).ask past) [] kids;
  costs = phase.costs;
  trace = subst (λ (progress : MeasuringProgress). MeasuringTrace (AskedAt progress.kids) (λ place. 1 + left) before held list old new) (sym ends)
      (trace-mono _ _ (λ place. 1) (λ place. 1 + left) before held list old new (λ place specs h. h) (λ place. omega arith) phase.trace);
}

pub ends_at_0 : (group : RuledView) (left : ℕ) (progress : MeasuringProgress) → left ≡ 0 → phases_on left (rule_in group) progress ≡ progress
ends_at_0 group left progress none = ap (λ left. phases_on left (rule_in group) progress) none

pub ends_here : (group : RuledView) (left : ℕ) (progress : MeasuringProgress) → (rule_in group).turns progress.past ≡ false → phases_on left (rule_in group) progress ≡ progress
ends_here group left progress over = phases_stop left (rule_in group) progress over

-- after a phase and those that follow it
pub phases_more : (plan : GroupPlan) (group : RuledView) (left : ℕ) (past : List (List Measured)) (kids : List Requested) (before mid held : ℕ → Held) (list : Forest Row) (answer : Size) (total : ℤ)
    (old between new : ℕ)
    → (let progress : MeasuringProgress = record { past = past; kids = kids } in
    (left ≡ 0 → ⊥) → (rule_in group).turns (one_phase (rule_in group) progress).past ≡ true
    → AfterPhase plan group past [] kids before mid list old between
    → AfterAll group (left - 1) (one_phase (rule_in group) progress) mid held list answer total between new
    → AfterAll group left progress before held list answer total old new)
phases_more plan group left past kids before mid held list answer total old between new some again phase rest =
    let progress : MeasuringProgress = record { past = past; kids = kids } in
    let rule = rule_in group in
    let is = phases_go left rule (one_phase rule progress) some again in
    let calls = rest.calls in
    let first = calls_after (rule.ask past) [] kids in
    let all : calls_of (from_here group (left - 1) (one_phase rule progress)).kids ≡ calls_of kids + (phase_calls (rule.ask past) [] kids + rest.more) = omega arith in
    record {
      size = rest.size ∙ ap (λ (progress : MeasuringProgress). rule.size progress.past) (sym is);
      length = rest.length ∙ ap (λ (progress : MeasuringProgress). rule.total progress.past) (sym is);
      represents = subst (λ (progress : MeasuringProgress). InCourse held list progress.kids) (sym is) rest.represents;
      more = phase_calls (rule.ask past) [] kids + rest.more;
      calls = ap (λ (progress : MeasuringProgress). calls_of progress.kids) is ∙ all;
      costs = costs_twice list before mid held old between new (phase_calls (rule.ask past) [] kids) rest.more phase.costs rest.costs;
      trace = subst (λ (progress : MeasuringProgress). MeasuringTrace (AskedAt progress.kids) (λ place. 1 + left) before held list old new) (sym is)
          (trace-mono _ _ (λ place. 1 + (1 + (left - 1))) (λ place. 1 + left) before held list old new (λ place specs h. h) (λ place. omega arith)
          (trace-trans _ (λ place. 1) (λ place. 1 + (left - 1)) before mid held list old between new
          (trace-mono _ _ (λ place. 1) (λ place. 1) before mid list old between (λ place specs h. AskedAt-through (left - 1) rule (one_phase rule (one_phase rule progress)) place specs
          (AskedAt-on (rule.ask (one_phase rule progress).past) [] (one_phase rule progress).kids place specs h)) (λ place. omega arith) phase.trace)
          rest.trace));
    }

-- every child that takes part in layout was measured, and no other
abbrev pub AllAsked : List Requested → Type 0
AllAsked [] = Unit {0}
AllAsked (kid ∷ kids) = (is_shown kid.child.facts ≡ true → has_requests kid.requests ≡ true) × AllAsked kids

abbrev pub GoneLeft : List Requested → Type 0
GoneLeft [] = Unit {0}
GoneLeft (kid ∷ kids) = (is_shown kid.child.facts ≡ false → kid.requests ≡ []) × GoneLeft kids

pub has-push : (requests : List Specs) (specs : Specs) → has_requests (requests ++ specs ∷ []) ≡ true
has-push [] specs = refl
has-push (first ∷ more) specs = refl

-- what a phase leaves of that
asked_turn : (v : Bool) (answer : Option Specs) (kid : Requested) → (is_shown kid.child.facts ≡ true → has_requests kid.requests ≡ true)
    → (let next = (if v then asked_for answer kid else kid) in is_shown next.child.facts ≡ true → has_requests next.requests ≡ true)
asked_turn true None kid h = h
asked_turn true (Some specs) kid h = λ here. has-push kid.requests specs
asked_turn false answer kid h = h

pub asked_on : (ask : List Measured → Measured → Option Specs) (taken : List Measured) (kids : List Requested) → AllAsked kids → AllAsked (after_phase ask taken kids)
asked_on ask taken [] h = tt
asked_on ask taken (kid ∷ kids) h = (asked_turn (is_shown kid.child.facts) (ask taken (measured_of kid)) kid h.0, asked_on ask (taken ++ size_in (after_turn ask taken kid)) kids h.1)

-- what each phase keeps of the children holds after all phases
kept_through : (P : List Requested → Type 0)
    → ((ask : List Measured → Measured → Option Specs) (taken : List Measured) (kids : List Requested) → P kids → P (after_phase ask taken kids))
    → (left : ℕ) (rule : Rule) (progress : MeasuringProgress) → P progress.kids → P (phases_on left rule progress).kids
kept_through P keeps zero rule progress h = h
kept_through P keeps (suc left) rule progress h =
    by_test (rule.turns progress.past) (kept_through P keeps left rule (one_phase rule progress) (keeps (rule.ask progress.past) [] progress.kids h)) h
  where
    by_test : (v : Bool) → P (phases_on left rule (one_phase rule progress)).kids → P progress.kids → P (if v then phases_on left rule (one_phase rule progress) else progress).kids
    by_test true go stop = go
    by_test false go stop = stop

pub asked_through : (left : ℕ) (rule : Rule) (progress : MeasuringProgress) → AllAsked progress.kids → AllAsked (phases_on left rule progress).kids
asked_through = kept_through AllAsked asked_on

gone_turn : (v : Bool) (answer : Option Specs) (kid : Requested) → v ≡ is_shown kid.child.facts → (is_shown kid.child.facts ≡ false → kid.requests ≡ [])
    → (let next = (if v then asked_for answer kid else kid) in is_shown next.child.facts ≡ false → next.requests ≡ [])
gone_turn true None kid is h = h
gone_turn true (Some specs) kid is h = λ gone. no_true (is_shown kid.child.facts) gone (sym is)
gone_turn false answer kid is h = h

gone_on : (ask : List Measured → Measured → Option Specs) (taken : List Measured) (kids : List Requested) → GoneLeft kids → GoneLeft (after_phase ask taken kids)
gone_on ask taken [] h = tt
gone_on ask taken (kid ∷ kids) h = (gone_turn (is_shown kid.child.facts) (ask taken (measured_of kid)) kid refl h.0, gone_on ask (taken ++ size_in (after_turn ask taken kid)) kids h.1)

gone_begun : (kids : List Child) → GoneLeft (begun kids).kids
gone_begun [] = tt
gone_begun (kid ∷ kids) = (λ gone. refl, gone_begun kids)

gone_course : (rule : Rule) (kids : List Child) → GoneLeft (course_of rule kids).kids
gone_course rule kids = kept_through GoneLeft gone_on 2 rule (one_phase rule (begun kids)) (gone_on (rule.ask []) [] (begun kids).kids (gone_begun kids))

-- children before anything is asked of them
pub begun_course : (held : ℕ → Held) (list : Forest Row) → InCourse held list (begun (children_of (views_of list))).kids
begun_course held Nothing = tt
begun_course held (Branch row kids siblings) = (refl, tt, begun_course held siblings)

-- what is left with children of which all that take part in layout were measured
measured_sized : (held : ℕ → Held) (row : Row) (kids : Forest Row) (requests : List Specs) → MeasuredFor held row kids requests → has_requests requests ≡ true
    → IsSized held (held row.key) row kids × ((held row.key).state.measure_first ≡ false → Sized held kids)
measured_sized held row kids [] m has = let e : true ≡ false = sym has in absurd (cc)
measured_sized held row kids (specs ∷ more) m has = (m.1, m.2)

pub course_sized : (held : ℕ → Held) (list : Forest Row) (kids : List Requested) → InCourse held list kids → AllAsked kids → Sized held list
course_sized held Nothing [] h all = tt
course_sized held Nothing (kid ∷ more) h all = absurd h
course_sized held (Branch row children_of_first siblings) [] h all = absurd h
course_sized held (Branch row children_of_first siblings) (kid ∷ more) h all = (
  λ here. measured_sized held row children_of_first kid.requests h.1 (all.0 (ap (λ (child : Child). is_shown child.facts) h.0 ∙ here)),
  course_sized held siblings more h.2 all.1,
)

measured_last : (held : ℕ → Held) (row : Row) (kids : Forest Row) (specs : Specs) (requests : List Specs) → MeasuredFor held row kids requests → has_requests requests ≡ true
    → specs_of (held row.key).state ≡ last_of specs requests
measured_last held row kids specs [] m has = let e : true ≡ false = sym has in absurd (cc)
measured_last held row kids specs (first ∷ more) m has = m.0

-- those that take part in layout in the end, and their last specs
abbrev pub finals_of : Specs → List Requested → List Final
finals_of specs kids =
    map (λ (kid : Requested). record { child = kid.child; specs = last_of specs kid.requests; edges = kid.edges })
    (filter (λ (kid : Requested). is_shown kid.child.facts) kids)

abbrev pub lasts_of : Specs → List Requested → List Specs
lasts_of specs kids = map (λ (kid : Final). kid.specs) (finals_of specs kids)

pub course_lasts : (held : ℕ → Held) (list : Forest Row) (specs : Specs) (kids : List Requested) → InCourse held list kids → AllAsked kids → last_specs held list ≡ lasts_of specs kids
course_lasts held Nothing specs [] h all = refl
course_lasts held Nothing specs (kid ∷ more) h all = absurd h
course_lasts held (Branch row children_of_first siblings) specs [] h all = absurd h
course_lasts held (Branch row children_of_first siblings) specs (kid ∷ more) h all =
    let rest = course_lasts held siblings specs more h.2 all.1 in
    let same = ap (λ (child : Child). is_shown child.facts) h.0 in
    elim (cases_Bool (is_shown row.view.facts)) [
      | inl here ↦
          let here' = same ∙ here in
          let last = measured_last held row children_of_first specs kid.requests h.1 (all.0 here') in
          rw (here, here', last, rest) refl
      | inr gone ↦ let gone' = same ∙ gone in rw (gone, gone', rest) refl
    ]

-- how many views are measured for the requests of those that take part in layout
abbrev pub calls_shown : List Requested → ℕ
calls_shown kids = sum_by (λ (kid : Requested). sum_by kid.child.calls kid.requests) (filter (λ (kid : Requested). is_shown kid.child.facts) kids)

by_rule : {A : Type 0} {rule : Rule} → BySiblings ≡ ByRule rule → A
by_rule e = absurd (cc)

pub shown_calls : (kids : List Requested) → GoneLeft kids → sum_by (λ (kid : Requested). sum_by kid.child.calls kid.requests) (filter (λ (kid : Requested). is_shown kid.child.facts) kids) ≡ calls_of kids
shown_calls [] h = refl
shown_calls (kid ∷ kids) h =
    let calls : Requested → ℕ = λ kid. sum_by kid.child.calls kid.requests in
    let rest = shown_calls kids h.1 in
    let all = sum_by-cons calls kid kids in
    elim (cases_Bool (is_shown kid.child.facts)) [
      | inl here ↦
          let some = sum_by-cons calls kid (filter (λ (kid : Requested). is_shown kid.child.facts) kids) in
          rw here (omega arith)
      | inr gone ↦
          let none : sum_by kid.child.calls kid.requests ≡ 0 = ap (λ requests. sum_by kid.child.calls requests) (h.0 gone) in
          rw gone (omega arith)
    ]

-- a view that was measured whole by a rule
pub whole_row : (row : Row) (kids siblings : Forest Row) (specs : Specs) (rule : Rule) (before held : ℕ → Held) (answer : Size) (total : ℤ) (old new : ℕ)
    → manner_of (for_layout row.view) specs ≡ ByRule rule
    → AllAsked (course_of rule (children_of (views_of kids))).kids
    → IsSide answer.w → IsSide answer.h
    → AfterAll (group_by rule (for_layout row.view) specs) 2 (begun (children_of (views_of kids))) before held kids answer total old new
    → IsMeasuredBelow (Branch row kids siblings) specs before held answer total old new
whole_row row kids siblings specs rule before held answer total old new is asked width height after =
    let course = course_of rule (children_of (views_of kids)) in
    let same : course_by (for_layout row.view) (children_of (views_of kids)) specs ≡ course = ap (λ manner. course_in manner (for_layout row.view) (children_of (views_of kids)) specs) is in
    let none = calls_begun (children_of (views_of kids)) in
    let all : calls_of course.kids ≡ after.more = after.calls ∙ ap (λ n. n + after.more) none ∙ zero_on after.more in
    let shown = shown_calls course.kids (gone_course rule (children_of (views_of kids))) in
    let calls : calls_under (Branch row kids siblings) specs ≡ 1 + after.more =
    ap (λ (course : Course). 1 + calls_shown course.kids) same ∙ ap (λ n. 1 + n) (shown ∙ all) in
    record {
      size = after.size ∙ ap (λ (course : Course). course.size) (sym same);
      length = after.length ∙ ap (λ (course : Course). course.total) (sym same);
      width = width;
      height = height;
      sized = course_sized held kids course.kids after.represents asked;
      finals = course_lasts held kids specs course.kids after.represents asked ∙ ap (λ (course : Course). lasts_of specs course.kids) (sym same);
      edges = λ class. absurd (by_rule (ap (λ class. manner_by class (for_layout row.view) specs) (sym class) ∙ is));
      costs = costs_same kids before held old (1 + after.more) (calls_under (Branch row kids siblings) specs) (new + 1) calls
          (costs_own kids before held old after.more new after.costs);
      trace = subst (λ (course : Course). MeasuringTrace (AskedAt course.kids) (λ place. 3) before held kids old new) (sym same) after.trace;
    }
  where
    zero_on : (n : ℕ) → 0 + n ≡ n
    zero_on n = omega arith

    calls_begun : (kids : List Child) → calls_of (begun kids).kids ≡ 0
    calls_begun [] = refl
    calls_begun (kid ∷ kids) =
        let calls : Requested → ℕ = λ kid. sum_by kid.child.calls kid.requests in
        let all = sum_by-cons calls (record { child = kid; requests = []; edges = None }) (begun kids).kids in
        let rest = calls_begun kids in
        omega arith
