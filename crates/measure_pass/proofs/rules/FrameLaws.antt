-- The laws of a frame layout and of a scroll view: in the first phase each child is measured, whatever its size was, a
-- second phase is the last, and the size is a frame layout's.
use Rattle.std.proofs.Common.{◌≡◌, true, false, Some, List, [], ◌∷◌, refl, sym, ◌∙◌, ap}
use Rattle.std.specs.Option.{is_some}
use Rattle.geom_core.specs.Limits.{IsSide}
use Rattle.geom_core.proofs.Sides.{resolve_of-is_side}
use Rattle.measure_pass.proofs.rules.Lawful.{IsLawful, all_asked, begun_ready, later_ready}
use Rattle.measure_pass.proofs.walks.Whole.{asked_through}
use Rattle.view_model.specs.declared.facts.Facts.{Facts}
use Rattle.view_model.specs.Course.{Child, begun, one_phase}
use Rattle.view_model.specs.FrameLayout.{first_specs, frame_own_size, frame_rule}
use Rattle.view_model.specs.Measuring.{Measured, Rule, Specs}
use Rattle.view_model.specs.ScrollView.{free_specs, scroll_rule}

two_phases : (rule : Rule) (specs : Facts → Specs) → ((taken : List Measured) (kid : Measured) → rule.ask [] taken kid ≡ Some (specs kid.facts))
    → ((first second : List Measured) → rule.turns (first ∷ second ∷ []) ≡ false)
    → ((past : List (List Measured)) → IsSide (rule.size past).w × IsSide (rule.size past).h) → IsLawful true rule
two_phases rule specs asks ends sides =
    let first = λ (kids : List Child). all_asked (rule.ask []) [] (begun kids).kids (λ taken kid. ap is_some (asks taken kid)) in
    record {
      ready = λ kids. (
        begun_ready rule (λ taken facts size other. asks taken _ ∙ sym (asks taken _)) kids,
        λ again. (later_ready rule _ [] (one_phase rule (begun kids)).kids (first kids), λ third. let e : true ≡ false = sym third ∙ ends _ _ in absurd (cc)),
      );
      asked = λ kids group. asked_through 2 rule (one_phase rule (begun kids)) (first kids);
      width = λ past. (sides past).0;
      height = λ past. (sides past).1;
    }

frame_sides : (own : Facts) (specs : Specs) (past : List (List Measured)) → IsSide (frame_own_size own specs past).w × IsSide (frame_own_size own specs past).h
frame_sides own specs [] = (resolve_of-is_side _ _, resolve_of-is_side _ _)
frame_sides own specs (first ∷ more) = (resolve_of-is_side _ _, resolve_of-is_side _ _)

pub frame_lawful : (own : Facts) (specs : Specs) → IsLawful true (frame_rule own specs)
frame_lawful own specs = two_phases (frame_rule own specs) (first_specs own specs) (λ taken kid. refl) (λ first second. refl) (frame_sides own specs)

pub scroll_lawful : (own : Facts) (specs : Specs) → IsLawful true (scroll_rule own specs)
scroll_lawful own specs = two_phases (scroll_rule own specs) (free_specs own specs) (λ taken kid. refl) (λ first second. refl) (frame_sides own specs)
