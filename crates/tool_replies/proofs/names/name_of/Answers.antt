use Rattle.std.proofs.Common.{ℕ, ◌<◌, ◌≤◌, [], List, length, sym, subst, ap}
use Rattle.std.specs.Prelude.{Option, unwrap_or}
use Rattle.tool_replies.specs.Names.{refusal_name, refusal_names}
use Rattle.tool_replies.proofs.NameLaws.{short_name}
use Rattle.tool_replies.proofs.names.name_of.Goals as goal

pub returns-clause-name : goal.returns-clause-name
unfolding refusal_name refusal_names
returns-clause-name c = sym (ap (λ (name : Option (List ℕ)). unwrap_or name []) c.text_at.ensures)

pub returns-clause-named : goal.returns-clause-named
unfolding refusal_name refusal_names
returns-clause-named c =
    subst (λ (name : List ℕ). 0 < length name) (ap (λ (name : Option (List ℕ)). unwrap_or name []) c.text_at.ensures) (short_name c.args.number c.requires.first c.requires.last).0

pub returns-clause-short : goal.returns-clause-short
unfolding refusal_name refusal_names
returns-clause-short c =
    subst (λ (name : List ℕ). length name ≤ 16) (ap (λ (name : Option (List ℕ)). unwrap_or name []) c.text_at.ensures) (short_name c.args.number c.requires.first c.requires.last).1
