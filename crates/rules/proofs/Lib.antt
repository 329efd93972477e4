-- Laws of the rules, for those who build on them.
pub mod Tests
pub mod Areas
pub mod Octets
pub mod Counts
pub mod Valid
pub mod Measures
pub mod Printed
pub mod Lanes
pub mod Judged
pub mod States
pub mod Calls
pub mod Promises
pub mod Looks
pub mod Repeats
pub mod Written
pub mod Worked
pub mod RuledOut
