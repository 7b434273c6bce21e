pub mod AgreementRows
pub mod CountRows
pub mod PartRows
pub mod PinRows
pub mod PlaceRows
pub mod StarRows
pub mod ToldRows
