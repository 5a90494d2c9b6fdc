mod Tables
mod Rows
mod Interfaces
mod Joins
