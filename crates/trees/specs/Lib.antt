-- In reading order: a plan and how entries are shared, what a plan's call comes to; the blocks of a fresh tree and their keys, what build comes to and leaves; and
-- that the walk returns what was built. `Inner` is what the functions of this crate promise one another: no other crate names it.
pub mod Plan
pub mod PlanAnswer
pub mod BlockLayout
pub mod Build
pub mod Keys
pub mod HighKeys
pub mod BuildCall
pub mod BuildAnswer
pub mod RoundTrip
pub mod Inner
