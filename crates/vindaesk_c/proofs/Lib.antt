mod HandleSteps
mod LookupLaws
mod LooseSteps
mod PackedLaws
mod PageLaws
mod QuestionLaws
mod SessionLaws
