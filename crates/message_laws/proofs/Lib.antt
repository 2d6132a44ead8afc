-- What holds of reading and writing messages together: Again and Accepted hold the theorems, and Host holds them as the C host meets them.
pub mod Covers
pub mod RoundTrip
pub mod Again
pub mod Words
pub mod ReadBack
pub mod Accepted
pub mod Host
