-- ShareLaws: how the share of an ask changes by a step. SendLaws: datagrams that are sent one after
-- the other. BeginLaws: which talk begins, and what stands then. EventLaws: an event is handed to
-- each line. AsideLaws: what is decided is put aside. MadeLaws: what a list of asks comes to.
pub mod ShareLaws
pub mod SendLaws
pub mod BeginLaws
pub mod EventLaws
pub mod AsideLaws
pub mod MadeLaws
