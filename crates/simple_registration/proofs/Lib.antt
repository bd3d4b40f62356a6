-- The octets of requests: AskLaws. Events, and the fetches that run after them: NoteLaws (one event
-- more, for one fetch), PeerLaws (who is fetched from), RunningLaws (the list of the fetches). What
-- a table stands for: TableLaws. For a desk above: CallLaws, DeskLaws. That requests can be sent:
-- SendableLaws. Challenges: ChallengeLaws.
pub mod AskLaws
pub mod NoteLaws
pub mod PeerLaws
pub mod RunningLaws
pub mod TokenLaws
pub mod RuleLaws
pub mod TableLaws
pub mod CallLaws
pub mod DeskLaws
pub mod SendableLaws
pub mod ChallengeLaws
mod examples
