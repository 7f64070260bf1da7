mod Calls
mod ManyRounds
mod OneRound
mod ServerWords
mod Sent
