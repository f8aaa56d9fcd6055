pub mod GatherBuffer
pub mod GatherMore
pub mod ReadRecord
pub mod RecordPlan
pub mod ReplayRefuses
pub mod ReplyRecord
