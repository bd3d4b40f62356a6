-- Messages that wait: ResendLaws. The exchanges of a table: RowLaws. How exchanges are found:
-- ChainLaws. What a table stands for: FilterLemmas and RepeatLaws (admissions), ExchangeLaws (an
-- admission as an exchange), TableLaws (the table used and changed), KeyedLaws (a write that is
-- handed to it). FreshLaws: a write that is answered as a new one repeats none. OpenLaws: an
-- admission stays open until it is failed.
pub mod ResendLaws
pub mod ChainLaws
pub mod RowLaws
pub mod FilterLemmas
pub mod RepeatLaws
pub mod ExchangeLaws
pub mod TableLaws
pub mod FreshLaws
pub mod KeyedLaws
pub mod OpenLaws
