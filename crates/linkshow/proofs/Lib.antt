mod Faults
mod Begun
mod Meant
