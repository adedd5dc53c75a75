pub mod Laws
pub mod Others
pub mod Replaying
pub mod SessionTable
pub mod Worked
pub mod WorkedInsert
pub mod WrongEvents
