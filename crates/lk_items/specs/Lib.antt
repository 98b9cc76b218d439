pub mod Accesses
