-- Whether a parent takes a child, as a test computes it.
use Rattle.std.proofs.Common.{◌≡◌, ◌+◌, ◌∙◌, ℕ, suc, Bool, Option, Some, Result, length, ap, sym, subst, arith}
use Rattle.view_model.specs.declared.class.Class.{Class}
use Rattle.view_model.specs.Forest.{count_of}
use Rattle.view_model.specs.Growth.{growth_refusal, refusal_at}
use Rattle.view_model.specs.Refusals.{RefusesExactlyFor, PlainRefusal}
use Rattle.view_tree.specs.Rows.{ancestors, has_kids}
use Rattle.view_tree.specs.Views.{IsLive, IsTree, Views, class_of, number_of, plain_of}
use Rattle.view_model.specs.declared.refusal.Refusal.{Refusal}
use Rattle.view_tree.proofs.values.KeptLaws.{refusal_live}

pub refused_live : (views : Views) (parent : ℕ) (class : Class) (occupied : Bool) (depth count : ℕ) (result : Result (Unit {0}) Refusal) → IsTree views → IsLive views parent
    → class ≡ class_of views parent → occupied ≡ has_kids parent views.tree → depth ≡ length (ancestors parent views.tree) + 1 → count ≡ count_of views.tree
    → RefusesExactlyFor (growth_refusal class occupied depth count) result → RefusesExactlyFor (refusal_at (plain_of views) (Some (number_of views parent))) result
refused_live views parent class occupied depth count result is live class_is occupied_is depth_is count_is refused =
    let deep : depth ≡ suc (length (ancestors parent views.tree)) = omega arith in
    let same : growth_refusal class occupied depth count ≡ refusal_at (plain_of views) (Some (number_of views parent)) =
    ap (λ c. growth_refusal c occupied depth count) class_is
    ∙ ap (λ b. growth_refusal (class_of views parent) b depth count) occupied_is
    ∙ ap (λ d. growth_refusal (class_of views parent) (has_kids parent views.tree) d count) deep
    ∙ ap (λ n. growth_refusal (class_of views parent) (has_kids parent views.tree) (suc (length (ancestors parent views.tree))) n) count_is
    ∙ sym (refusal_live views parent is live) in
    subst (λ (reason : Option PlainRefusal). RefusesExactlyFor reason result) same refused
