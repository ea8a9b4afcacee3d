pub mod Selectable
