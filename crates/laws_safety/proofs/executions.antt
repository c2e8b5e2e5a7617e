-- For the code of `lawful_member`: a member's execution so far, and the part of it that the code shows.
pub mod ExecutionSteps
pub mod Shown
