pub mod Same
pub mod ReadLaws
pub mod SmallBook
