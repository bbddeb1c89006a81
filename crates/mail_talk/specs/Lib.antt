pub mod Results
pub mod States
pub mod Units
pub mod Taking
pub mod Talks
pub mod Told
pub mod Saying
