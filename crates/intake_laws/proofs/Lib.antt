pub mod Longer
pub mod Streams
pub mod Ends
pub mod Conversations
pub mod States
pub mod Refusals
pub mod Readers
pub mod Rooms
