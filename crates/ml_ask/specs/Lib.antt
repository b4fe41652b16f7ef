-- what private contracts cite
pub mod private
