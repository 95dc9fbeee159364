use Rattle.std.proofs.Common.{◌≡◌, ◌∙◌, FitsSigned, w32, w64, rules, refl}
use Rattle.std.proofs.lemmas.Int.{to_z-of_z}
use Rattle.linear_layout.specs.Line.{own_in, specs_in}
use Rattle.view_model.specs.LinearLayout.{breadth_twice, resolved_breadth}
use Rattle.linear_layout.proofs.breadth.own_breadth.Goals as goal

pub returns-clause-twice : goal.returns-clause-twice
returns-clause-twice c = λ pass kids second is f w.
    let own = own_in c.args.line.now in
    let specs = specs_in c.args.line.now in
    let fits : FitsSigned w32 c.resolved_breadth.result = search rules in
    let least : FitsSigned w32 c.min_on.result = search rules in
    let padding : FitsSigned w64 c.padding_on.result = search rules in
    let wide : FitsSigned w64 c.needed_breadth.result = search rules in
    let needed : c.needed_breadth.result ≡ breadth_twice own specs kids second = c.needed_breadth.ensures.twice pass kids second is f w in
    let resolved : c.resolved_breadth.result ≡ resolved_breadth c.min_on.result c.padding_on.result c.needed_breadth.result c.spec_beside.result =
    simp to_z-of_z at c.resolved_breadth.ensures.value in
    simp to_z-of_z (resolved ∙ rw (needed, c.min_on.ensures, c.padding_on.ensures.value, c.spec_beside.ensures, c.vertical-beside.ensures) refl)
