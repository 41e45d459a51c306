pub mod Rooms
pub mod SaidSo
pub mod ReadingBack
