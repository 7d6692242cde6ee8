pub mod Roles
pub mod Audiences
