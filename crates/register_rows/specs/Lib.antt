pub mod Change
pub mod AcceptedRequest
pub mod KeyScan
pub mod Within
