mod Answered
mod Loop
