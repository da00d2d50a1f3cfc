-- Lists of lent event calls, and what is promised of them (Lending); what an accepted one leaves in the words of the state (Stored).
pub mod Lending
pub mod Stored
