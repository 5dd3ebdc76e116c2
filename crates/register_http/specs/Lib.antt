pub mod ActionReply
pub mod Action
pub mod SentReply
pub mod Exchange
pub mod OneItem
pub mod Within
pub mod ServedExchanges
