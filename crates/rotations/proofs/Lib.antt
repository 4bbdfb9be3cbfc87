mod Values
mod Words
