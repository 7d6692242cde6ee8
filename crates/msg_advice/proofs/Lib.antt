-- the accesses of systems, and the plan that they make
pub mod Tables
-- rules that lead on
pub mod Cycles
-- frames in the order of their plans
mod Orders
