pub mod SdoLemmas
pub mod MailLemmas
pub mod MailStepLemmas
pub mod ObjectLemmas
pub mod AreaLemmas
pub mod LeftLemmas
pub mod Laws
