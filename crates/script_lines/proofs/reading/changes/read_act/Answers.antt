use Rattle.script_lines.proofs.reading.changes.read_act.Goals as goal

pub returns-in-WeightSum-clause-bounds : goal.returns-in-WeightSum-clause-bounds
returns-in-WeightSum-clause-bounds c = c.weight_sum.ensures.bounds

pub returns-in-Orient-clause-bounds : goal.returns-in-Orient-clause-bounds
returns-in-Orient-clause-bounds c = c.orient.ensures.bounds

pub returns-in-Direction-clause-bounds : goal.returns-in-Direction-clause-bounds
returns-in-Direction-clause-bounds c = c.direction.ensures.bounds

pub returns-in-Flag-clause-bounds : goal.returns-in-Flag-clause-bounds
returns-in-Flag-clause-bounds c = c.flag.ensures.bounds

pub returns-in-Visible-clause-bounds : goal.returns-in-Visible-clause-bounds
returns-in-Visible-clause-bounds c = c.visible.ensures.bounds

pub returns-in-Ink-clause-bounds : goal.returns-in-Ink-clause-bounds
returns-in-Ink-clause-bounds c = c.ink.ensures.bounds

pub returns-in-Id-clause-bounds : goal.returns-in-Id-clause-bounds
returns-in-Id-clause-bounds c = c.new_id.ensures.bounds

pub returns-in-Rule-clause-bounds : goal.returns-in-Rule-clause-bounds
returns-in-Rule-clause-bounds c = c.rule.ensures.bounds

pub returns-in-Answer-clause-bounds : goal.returns-in-Answer-clause-bounds
returns-in-Answer-clause-bounds c = c.answer.ensures.bounds

pub returns-in-Intercept-clause-bounds : goal.returns-in-Intercept-clause-bounds
returns-in-Intercept-clause-bounds c = c.intercept.ensures.bounds

pub returns-in-Scroll-clause-bounds : goal.returns-in-Scroll-clause-bounds
returns-in-Scroll-clause-bounds c = c.scroll.ensures.bounds
