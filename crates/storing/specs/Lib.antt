pub mod Order
pub mod Placing
pub mod PlacingLaws
pub mod Rewriting
pub mod StoreLaws
pub mod StoreCallLaws
pub mod Losing
pub mod Given
