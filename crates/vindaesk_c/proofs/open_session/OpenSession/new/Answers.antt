use Rattle.std.proofs.Common.{◌∙◌, ap}
use Rattle.vindaesk_c.proofs.open_session.OpenSession.new.Goals as goal

pub returns-clause-none : goal.returns-clause-none
returns-clause-none c held given = record {
  files = c.in_ok-from_slice.ensures.items ∙ given;
  run = c.new.ensures held;
  answer = ap (λ s. s.gone) c.new-3.ensures;
}
