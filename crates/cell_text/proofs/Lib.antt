mod BreakLaws
mod CellLaws
mod SegmentLaws
