mod Judged
mod Lists
