-- A walk over the children of a view, in which each is measured as the plan of the group asks for it.
use Rattle.std.proofs.Common.{◌≡◌, ℕ, ◌+◌, ◌≤◌, Bool, true, false, Option, List, [], ◌∷◌, ◌++◌, length, append_assoc, arith, ap, ◌∙◌, sym, refl, subst, length-append}
use Rattle.std.specs.Prelude.{if◌then◌else◌}
use Rattle.std.proofs.lemmas.List.{append-nil}
use Rattle.measure_pass.specs.Courses.{AfterPhase, CanTurn, InCourse, phase_calls}
use Rattle.measure_pass.specs.Caches.{AskedAt}
use Rattle.measure_pass.specs.Sharing.{MeasuringTrace}
use Rattle.kept_views.specs.Kept.{Ready}
use Rattle.measure_pass.specs.Measured.{Costs}
use Rattle.measure_pass.specs.Plans.{RuledView, GroupPlan, Represents, rule_in}
use Rattle.measure_pass.proofs.Counts.{costs_nothing, costs_parts, costs_same}
use Rattle.measure_pass.proofs.held.Frames.{Ready-after, Ready-along, Ready-join}
use Rattle.measure_pass.proofs.Shares.{trace-along, trace-join}
use Rattle.measure_pass.proofs.held.Parts.{InCourse-along, InCourse-join, after_phase-append, phase_calls-append, sizes_of-append, split}
use Rattle.view_model.specs.Numbers.{max_views}
use Rattle.view_model.specs.Course.{Requested, after_phase, measured_of, sizes_of, size_in}
use Rattle.view_model.specs.Facts.{is_shown}
use Rattle.view_model.specs.Forest.{Forest, Nothing, Branch, count_of}
use Rattle.view_model.specs.Measuring.{Measured, Specs}
use Rattle.view_tree.specs.Rows.{Row, later_siblings, first_tree, count_of_key}
use Rattle.view_tree.specs.Views.{Held, KeepsInside, KeepsOutside}
use Rattle.view_tree.proofs.forest.Walks.{KeepsInside-first, KeepsInside-rest, KeepsOutside-parts, count_of-parts, count_of_key-parts}

-- a walk over these children, where the rest is left, that trace each ready
pub record ReadyWalk (kids rest : Forest Row) (now : ℕ → Held) : Type 0 where
  pub ready : Ready now rest
  pub whole : (end : ℕ → Held) → KeepsOutside now end rest → Ready end rest → Ready end kids

pub ready_start : (kids : Forest Row) (now : ℕ → Held) → Ready now kids → ReadyWalk kids kids now
ready_start kids now ready = record { ready = ready; whole = λ end others h. h }

pub ready_on : (kids part : Forest Row) (old mid : ℕ → Held) → ((key : ℕ) → count_of_key key part ≤ 1) → KeepsOutside old mid (first_tree part) → Ready mid (first_tree part)
    → ReadyWalk kids part old → ReadyWalk kids (later_siblings part) mid
ready_on kids part old mid once others own walk = record {
  ready = Ready-along old mid (later_siblings part) (KeepsInside-rest old mid part once others) (Ready-after old part walk.ready);
  whole = λ end agree h. walk.whole end (KeepsOutside-parts old mid end part others agree)
      (Ready-join end part (Ready-along mid end (first_tree part) (KeepsInside-first mid end part once agree) own) h);
}

pub ready_end : (kids : Forest Row) (now : ℕ → Held) → ReadyWalk kids Nothing now → Ready now kids
ready_end kids now walk = walk.whole now (λ key absent. refl) walk.ready

-- the first tree that is left is as it was at the start of a walk
first_still : (begin old : ℕ → Held) (part : Forest Row) → KeepsInside begin old part → KeepsInside old begin (first_tree part)
first_still begin old part still = λ key here. sym (still key (let parts = count_of_key-parts key part in omega arith))

-- the plan of a group in a phase, where these children are left
pub record Phasing (plan : GroupPlan) (group : RuledView) (past : List (List Measured)) (asked : List Requested) (kids rest : Forest Row) (begin now : ℕ → Held) (start count : ℕ) : Type 0 where
  pub taken : List Measured
  pub ahead : List Requested
  pub plan_represents : Represents plan group past taken
  pub few : length taken + count_of rest ≤ max_views
  pub before : InCourse now rest ahead
  pub can : CanTurn (rule_in group) past ahead
  pub sizes : taken ++ sizes_of (after_phase ((rule_in group).ask past) taken ahead) ≡ sizes_of (after_phase ((rule_in group).ask past) [] asked)
  pub done : (end : ℕ → Held) → KeepsOutside now end rest → InCourse end rest (after_phase ((rule_in group).ask past) taken ahead)
      → InCourse end kids (after_phase ((rule_in group).ask past) [] asked)
  pub costs : (end : ℕ → Held) (last : ℕ) → KeepsOutside now end rest → Costs rest now end count (phase_calls ((rule_in group).ask past) taken ahead) last
      → Costs kids begin end start (phase_calls ((rule_in group).ask past) [] asked) last
  pub trace : (end : ℕ → Held) (last : ℕ) → KeepsOutside now end rest
      → MeasuringTrace (AskedAt (after_phase ((rule_in group).ask past) taken ahead)) (λ place. 1) begin end rest count last
      → MeasuringTrace (AskedAt (after_phase ((rule_in group).ask past) [] asked)) (λ place. 1) begin end kids start last

pub phase_start : (plan : GroupPlan) (group : RuledView) (past : List (List Measured)) (asked : List Requested) (kids : Forest Row) (now : ℕ → Held) (count : ℕ)
    → Represents plan group past [] → count_of kids ≤ max_views → InCourse now kids asked → CanTurn (rule_in group) past asked
    → Phasing plan group past asked kids kids now now count count
phase_start plan group past asked kids now count represents few course can =
    record { taken = []; ahead = asked; plan_represents = represents; few = omega arith; before = course; can = can; sizes = refl; done = λ end agree h. h; costs = λ end last agree h. h; trace = λ end last agree h. h }

-- no more sizes than views
pub few_if : (v : Bool) (m : Measured) → length (if v then m ∷ [] else []) ≤ 1
few_if true m = omega arith
few_if false m = omega arith

sizes_few : (now : ℕ → Held) (list : Forest Row) (kids : List Requested) → InCourse now list kids → length (sizes_of kids) ≤ count_of list
sizes_few now Nothing [] h = omega arith
sizes_few now Nothing (kid ∷ more) h = absurd h
sizes_few now (Branch row below siblings) [] h = absurd h
sizes_few now (Branch row below siblings) (kid ∷ more) h =
    let rest = sizes_few now siblings more h.2 in
    let one = few_if (is_shown kid.child.facts) (measured_of kid) in
    let both = length-append (size_in kid) (sizes_of more) in
    omega arith

pub phase_on : (before plan : GroupPlan) (group : RuledView) (past : List (List Measured)) (asked : List Requested) (kids part : Forest Row) (begin old mid : ℕ → Held) (start count new : ℕ)
    → ((key : ℕ) → count_of_key key part ≤ 1)
    → Phasing before group past asked kids part begin old start count → KeepsOutside old mid (first_tree part) → KeepsInside begin old part
    → ((taken : List Measured) (first : List Requested) → Represents before group past taken → length taken + count_of (first_tree part) ≤ max_views → InCourse old (first_tree part) first
    → CanTurn (rule_in group) past first → AfterPhase plan group past taken first old mid (first_tree part) count new)
    → Phasing plan group past asked kids (later_siblings part) begin mid start new
phase_on before plan group past asked kids part begin old mid start count new once f others still turn =
    let ask = (rule_in group).ask past in
    let s = split (rule_in group) past old part f.ahead f.before f.can in
    let parts = count_of-parts part in
    let few = f.few in
    let phase = turn f.taken s.first f.plan_represents (omega arith) s.alone s.turn in
    let first = after_phase ask f.taken s.first in
    let taken = f.taken ++ sizes_of first in
    let rest = after_phase ask taken s.rest in
    let apart : after_phase ask f.taken f.ahead ≡ first ++ rest = ap (λ all. after_phase ask f.taken all) s.whole ∙ after_phase-append ask f.taken s.first s.rest in
    let fewer = sizes_few mid (first_tree part) first phase.course in
    let longer = length-append f.taken (sizes_of first) in
    let calls : phase_calls ask f.taken f.ahead ≡ phase_calls ask f.taken s.first + phase_calls ask taken s.rest =
    ap (λ all. phase_calls ask f.taken all) s.whole ∙ phase_calls-append ask f.taken s.first s.rest in
    record {
      taken = taken;
      ahead = s.rest;
      plan_represents = phase.plan_represents;
      few = omega arith;
      before = InCourse-along old mid (later_siblings part) s.rest (KeepsInside-rest old mid part once others) s.following;
      can = s.turns;
      sizes = append_assoc f.taken (sizes_of first) (sizes_of rest) ∙ ap (λ more. f.taken ++ more) (sym (sizes_of-append first rest) ∙ ap sizes_of (sym apart)) ∙ f.sizes;
      done = λ end agree h. f.done end (KeepsOutside-parts old mid end part others agree)
          (subst (λ all. InCourse end part all) (sym apart)
          (InCourse-join end part first rest (InCourse-along mid end (first_tree part) first (KeepsInside-first mid end part once agree) phase.course) h));
      costs = λ end last agree h. f.costs end last (KeepsOutside-parts old mid end part others agree)
          (costs_same part old end count (phase_calls ask f.taken s.first + phase_calls ask taken s.rest) (phase_calls ask f.taken f.ahead) last calls
          (costs_parts part old mid end count new last (phase_calls ask f.taken s.first) (phase_calls ask taken s.rest) once others agree phase.costs h));
      trace = λ end last agree h. f.trace end last (KeepsOutside-parts old mid end part others agree)
          (subst (λ all. MeasuringTrace (AskedAt all) (λ place. 1) begin end part count last) (sym apart)
          (trace-join mid begin end (λ place. 1) part first rest count new last phase.course
          (trace-along (AskedAt first) (λ place. 1) old begin mid end (first_tree part) count new (first_still begin old part still) (KeepsInside-first mid end part once agree) phase.trace) h));
    }

-- no child is left
pub phase_end : (plan : GroupPlan) (group : RuledView) (past : List (List Measured)) (asked : List Requested) (kids : Forest Row) (begin now : ℕ → Held) (start count : ℕ)
    → Phasing plan group past asked kids Nothing begin now start count → AfterPhase plan group past [] asked begin now kids start count
phase_end plan group past asked kids begin now start count f = ended f.ahead f.before f.sizes f.done (f.costs now count (λ key absent. refl)) (f.trace now count (λ key absent. refl))
  where
    ask : List Measured → Measured → Option Specs
    ask = (rule_in group).ask past

    ended : (ahead : List Requested) → InCourse now Nothing ahead
        → f.taken ++ sizes_of (after_phase ask f.taken ahead) ≡ sizes_of (after_phase ask [] asked)
        → ((end : ℕ → Held) → KeepsOutside now end Nothing → InCourse end Nothing (after_phase ask f.taken ahead) → InCourse end kids (after_phase ask [] asked))
        → (Costs Nothing now now count (phase_calls ask f.taken ahead) count → Costs kids begin now start (phase_calls ask [] asked) count)
        → (MeasuringTrace (AskedAt (after_phase ask f.taken ahead)) (λ place. 1) begin now Nothing count count → MeasuringTrace (AskedAt (after_phase ask [] asked)) (λ place. 1) begin now kids start count)
        → AfterPhase plan group past [] asked begin now kids start count
    ended (kid ∷ more) none sizes done costs trace = absurd none
    ended [] none sizes done costs trace = record {
      plan_represents = subst (λ all. Represents plan group past all) (sym (append-nil f.taken) ∙ sizes) f.plan_represents;
      course = done now (λ key absent. refl) tt;
      costs = costs (costs_nothing Nothing now count);
      trace = trace (record { caches = tt; shares = record { count = 0; shared = refl; spent = omega arith } });
    }
