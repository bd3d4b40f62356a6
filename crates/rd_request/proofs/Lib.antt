-- The refusals that a request alone decides, and what follows where there is none (AskedLaws); what
-- requests are about, by their path (ResourceLaws); what the query options of a lookup say
-- (QueryLaws). Which datagrams only look, and which write (IncomingLaws, WriteRequestLaws). What is
-- read of a request that is kept (KeptRequestLaws).
pub mod AskedLaws
pub mod ResourceLaws
pub mod QueryLaws
pub mod IncomingLaws
pub mod WriteRequestLaws
pub mod KeptRequestLaws
