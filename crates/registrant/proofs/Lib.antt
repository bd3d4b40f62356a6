-- AskLaws: the message of an ask, option by option. EchoLaws: its options with one more.
-- UriLaws, PartLaws, OptionLaws: a URI, its parts
-- and the options that they become. PathLaws: the path of a location, segment by segment. TalkLaws:
-- a talk stands for what came, and answers as the verdict says. TurnLaws: what a turn takes and
-- sends, and what a registrant gives by it.
pub mod AskLaws
pub mod EchoLaws
pub mod UriLaws
pub mod PartLaws
pub mod OptionLaws
pub mod PathLaws
pub mod TalkLaws
pub mod TurnLaws
