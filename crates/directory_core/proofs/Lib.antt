-- Lists of records: in order (InOrderLaws), under their numbers in a map (RecordMapLaws), with one
-- changed (ChangeLaws), slots of their names (SlotLaws), their leases (LeaseLaws), and the index
-- (IndexLaws). Links and the base that they stand against: AgainstLaws. What lapses and what is
-- live: CountLaws, LapsingLaws, SweptLaws, ReadLaws. Versions: without a record (EmptyLaws), with
-- an entry more (FitLaws, RenewLaws, KeptLaws, EntryLaws), and what each change answers
-- (AnswerLaws). Lookups: PageLaws, SeekerLaws, RaceLaws, CandidateLaws, LookupLaws.
pub mod InOrderLaws
pub mod RecordMapLaws
pub mod SlotLaws
pub mod LeaseLaws
pub mod CountLaws
pub mod AgainstLaws
pub mod ChangeLaws
pub mod LapsingLaws
pub mod ReadLaws
pub mod KeptLaws
pub mod EmptyLaws
pub mod EntryLaws
pub mod RenewLaws
pub mod FitLaws
pub mod AnswerLaws
pub mod SweptLaws
pub mod IndexLaws
pub mod PageLaws
pub mod SeekerLaws
pub mod RaceLaws
pub mod CandidateLaws
pub mod LookupLaws
pub mod DistinctLaws
