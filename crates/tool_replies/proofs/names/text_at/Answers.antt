use Rattle.std.proofs.Common.{ℕ, [], List, Bor, ap, ◌∙◌}
use Rattle.std.specs.Option.{option_map}
use Rattle.std.proofs.lemmas.Option.{slice_get-map, slice_get-get_or}
use Rattle.tool_replies.proofs.names.text_at.Goals as goal

pub returns : goal.returns
returns c =
    let none : Bor (List ℕ) = record { ref_ptr = (0, 0); now = [] } in
    let now = λ (text : Bor (List ℕ)). text.now in
    slice_get-map now c.args.texts.now c.args.place ∙ ap (option_map now) (slice_get-get_or c.args.texts.now c.args.place none c.requires)
