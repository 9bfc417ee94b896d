pub mod Attrsets
