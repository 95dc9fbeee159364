-- Laws of the lines of a script, one after another.
pub mod CarrierLaws
pub mod LongScriptLaws
pub mod RunLaws
pub mod ScriptLaws
pub mod SessionLaws
