-- What an example unfolds, so that histories compute on octets that are written out.
use Rattle.std.specs.Prelude.{⊤}
use Rattle.record_model.proofs.RecordLiterals.{record_on_literals}
use Rattle.rd_base.specs.LinkLines.{submitted_line, submitted}
use Rattle.history_model.specs.Replay.{replaced, apply, replay, counted}
use Rattle.history_model.specs.Live.{live, last_moment}
use Rattle.history_model.specs.Listing.{all_lines, listing, lapsed_since, tag_from}
use Rattle.history_model.specs.Refusals.{refusal_in, change_refusal}
use Rattle.history_model.specs.Sources.{source}

-- the definitions of histories
unfoldable pub history_on_literals : ⊤
unfolding record_on_literals submitted_line submitted replaced apply replay counted live
    last_moment all_lines listing lapsed_since tag_from refusal_in change_refusal source
history_on_literals = tt
