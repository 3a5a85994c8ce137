pub mod Vouchers
pub mod BranchKind
