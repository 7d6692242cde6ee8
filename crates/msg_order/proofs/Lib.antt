-- Lists, sets of systems, and paths
pub mod Elements
mod SystemSets
mod Chains
pub mod PathTest
-- The settled order
pub mod SettledPairs
pub mod SetPaths
mod UserRows
pub mod SettledOrders
-- Batches and turns
pub mod BatchLevels
pub mod TurnOrders
-- What a plan says
pub mod PlanViews
mod AcceptedOrders
-- The functions are what the relations say
pub mod Functions
