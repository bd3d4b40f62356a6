use Rattle.stream_model.specs.declared.signals.TheConstants as signals
use Rattle.std.proofs.Common.{[], ◌∷◌}
use Rattle.stream_registrant.specs.Saying.{abort, voice_seen}
use Rattle.stream_registrant.proofs.FlightLaws.{abort_octets}
use Rattle.stream_registrant.proofs.VoiceLaws.{is_said}
use Rattle.stream_registrant.proofs.flights.say_abort.Goals as goal

pub returns : goal.returns
returns g c =
    is_said (voice_seen g.K.Sink c.args.out.now) (voice_seen g.K.Sink c.write_all.new.out)
    (0 ∷ signals.ABORT ∷ []) abort c.write_all.result abort_octets c.write_all.ensures.all
    c.write_all.ensures.front c.write_all.ensures.cause
