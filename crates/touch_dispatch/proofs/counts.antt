-- How often an event goes to a view.
pub mod OnceLaws
pub mod OnceTheorem
pub mod OnceTries
