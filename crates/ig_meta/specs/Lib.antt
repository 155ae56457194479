pub mod KeyOrder
pub mod TypeFields
pub mod Requests
pub mod Results
pub mod MemberViews
pub mod TypeViews
pub mod Laws
