mod Examples
mod PaneLaws
mod PassedLaws
mod TextLaws
