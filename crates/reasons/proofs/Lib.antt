pub mod Places
pub mod Tests
pub mod Finding
pub mod Explaining
pub mod StillHeld
pub mod Deciding
pub mod SmallWhy
