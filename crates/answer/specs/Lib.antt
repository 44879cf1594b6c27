-- The answer to a case, the lanes question, and the shape of the method.
-- meeting a letter, and service volumes
pub mod Volumes
-- the answer to a case
pub mod Answers
-- the lanes question
pub mod Lanes
-- the test that a search puts to a demand
pub mod Search
-- which demands the searches try, and how many
pub mod Tries
-- the shape of the method, stated
pub mod Promises
-- the boundary sections that this layer adds
pub mod Boundary
-- laws of the answers
pub mod Laws
-- the order of the searches for the service volumes, and how many demands they try
pub mod SearchOrder
-- instances of each part of the shape
pub mod Instances
