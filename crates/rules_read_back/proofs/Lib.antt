mod Cut
mod Tests
mod Conditions
mod Fields
mod Values
mod Validators
mod PostFunctions
