pub mod Banks
pub mod AnyBankLaws
