pub mod Wireless
pub mod WirelessLaws
pub mod Tables
