-- Document 01, "The exact rules and the build", as definitions, in the paper's words. Three modules of common words (tests, octets,
-- areas), then the paper's sections in its order; the classes of a frame stand with the refusals, and the calls as wholes after them.
-- A definition carries the sentence that it says.
pub mod Tests
pub mod Octets
pub mod Areas
pub mod Settings
pub mod Frames
pub mod Packets
pub mod Writing
pub mod Reading
pub mod Refusals
pub mod Valid
pub mod Calls
pub mod Promises
pub mod Passes
pub mod Worked
pub mod Listing
pub mod Errors
pub mod Families
pub mod RuledOut
