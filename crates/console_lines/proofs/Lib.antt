mod Digits
mod Hex
