-- The tests of peers, requests and queries: SameLaws. Looking back over events: NotedLaws (the
-- notes of a row), EventEquations (one event more), KeptLaws and OrderLaws (admissions). Notes that
-- are aside: AsideLaws, AsideTables (a law for each table). Who is due: TransitionLaws (time and an
-- entry), DueLaws (in the middle of a step). Observers: ObserverLaws (no two have one name),
-- AddedObservers and ManyObservers (those that notes add), ObserverEvents (those that stand with
-- one event more). With one event more: notifications in flight (FlightLaws), the counters
-- (CounterLaws), challenges (ChallengeLaws: which value is good, too), and what a table of
-- observers shows (StandingLaws). OnLiterals unfolds the definitions, so that examples compute.
pub mod OnLiterals
pub mod SameLaws
pub mod KeptLaws
pub mod NotedLaws
pub mod EventEquations
pub mod ObserverLaws
pub mod AddedObservers
pub mod ManyObservers
pub mod OrderLaws
pub mod AsideLaws
pub mod AsideTables
pub mod TransitionLaws
pub mod DueLaws
pub mod FlightLaws
pub mod ObserverEvents
pub mod CounterLaws
pub mod ChallengeLaws
pub mod StandingLaws
mod examples
