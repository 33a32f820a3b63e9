pub mod Totals
mod Slots
mod Claiming
mod Sharing
mod Opening
mod Closing
mod Gathering
