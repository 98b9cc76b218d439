pub mod Named
pub mod Trails
pub mod Holding
pub mod Rising
pub mod Counting
pub mod Laws
