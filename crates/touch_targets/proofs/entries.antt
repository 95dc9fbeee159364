-- Laws of the map from views to nodes.
pub mod EntryCounts
pub mod LastEntries
