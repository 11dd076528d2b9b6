pub mod Names
pub mod Tags
pub mod Standing
pub mod Origins
pub mod inner
