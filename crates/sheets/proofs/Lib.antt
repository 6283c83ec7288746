-- Laws of the rules' definitions of a sheet, cited by the functions' proofs and by the theorems.
pub mod RecordLaws
pub mod EntryLaws
pub mod HeadLaws
pub mod RowLaws
pub mod ReadLaws
pub mod BinLaws
pub mod WriteLaws
pub mod SetLaws
pub mod RoundTrip
pub mod BothWays
pub mod TwoReaders
