-- How counts of work grow.
use Rattle.std.specs.Prelude.{◌-◌, ◌^◌, ◌≤◌, min}
use Rattle.view_model.specs.declared.work.Work.{Work}

-- what was counted as painted stays counted
abbrev pub KeepsPainted : Work → Work → Type 0
KeepsPainted old new = old.painted ≤ new.painted

-- what was counted as measured stays counted, up to the greatest number
abbrev pub KeepsMeasured : Work → Work → Type 0
KeepsMeasured old new = min old.measured (2 ^ 64 - 1) ≤ new.measured
