mod Lines
mod Told
