-- what is known of the parts of a body that were read
pub mod BodyParts
-- what a refusal of a text tells
pub mod Refusals
