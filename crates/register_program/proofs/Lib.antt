mod Living
mod Refusing
mod Told
mod Acts
mod FoundAgain
mod Answered
