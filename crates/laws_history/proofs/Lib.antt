-- What each event adds to a history and to the state, field by field; and so each call and each lifetime.
pub mod UnchangedHistories
pub mod EventFacts
pub mod ReceivedEvents
pub mod UnchangedFacts
pub mod VoteEvents
pub mod ReplayEvents
pub mod DroppedViews
pub mod Worked
pub mod work
pub mod EventsWorked
pub mod ShownWork
pub mod HistoryRounds
pub mod Events
pub mod Lives
