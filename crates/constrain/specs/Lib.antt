pub mod Fields
pub mod Next
