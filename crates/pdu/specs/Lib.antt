pub mod Pdu
pub mod RoundTrip
