-- The merge of some neighbouring runs of a tray.
pub mod Folding
