pub mod Stuffing
pub mod Sayables
pub mod Growing
pub mod HearingOut
pub mod Hearings
pub mod Pushing
pub mod Following
mod Examples
