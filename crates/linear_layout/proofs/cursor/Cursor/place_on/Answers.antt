use Rattle.std.proofs.Common.{◌≡◌, ◌<◌, Bool, ◌∙◌, ◌+ℤ◌, ap, FitsSigned, w32, w64, rules, arith, subst}
use Rattle.std.proofs.lemmas.Int.{to_z-of_z}
use Rattle.linear_layout.proofs.PlacingLaws.{PlacesLinear-push}
use Rattle.linear_layout.specs.Line.{kid_with}
use Rattle.view_model.specs.declared.limits.TheConstants.{MAX_VIEWS}
use Rattle.view_model.specs.LinearLayout.{margins_on, size_on}
use Rattle.linear_layout.proofs.cursor.Cursor.place_on.Goals as goal

pub returns-clause-next : goal.returns-clause-next
returns-clause-next c = λ own room total before s few.
    let cursor = c.args.self.now in
    let kid = kid_with c.args.kid.now c.args.size in
    let count = s.count in
    let short : cursor.mark.count < MAX_VIEWS = omega arith in
    let size : FitsSigned w32 c.size_on.result = search rules in
    let margins : FitsSigned w64 c.margins_on.result = search rules in
    let past : c.past-self.result.at ≡ cursor.mark.at +ℤ (c.size_on.result +ℤ c.margins_on.result) = simp to_z-of_z at (c.past-self.ensures.at short) in
    let v = c.args.vertical in
    let more : c.past-self.result.at ≡ cursor.mark.at +ℤ (size_on v kid.size +ℤ margins_on v kid.facts) =
    past ∙ ap (λ size. cursor.mark.at +ℤ (size +ℤ c.margins_on.result)) c.size_on.ensures
    ∙ ap (λ margins. cursor.mark.at +ℤ (size_on v kid.size +ℤ margins)) c.margins_on.ensures.value in
    let more : c.past-self.result.at ≡ cursor.mark.at +ℤ (size_on own.vertical kid.size +ℤ margins_on own.vertical kid.facts) =
    subst (λ (vertical : Bool). c.past-self.result.at ≡ cursor.mark.at +ℤ (size_on vertical kid.size +ℤ margins_on vertical kid.facts)) (c.requires.axis ∙ s.vertical) more in
    PlacesLinear-push cursor c.past-self.result own room total before kid (c.past-self.ensures.count short) more s
