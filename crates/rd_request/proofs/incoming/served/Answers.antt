use Rattle.std.proofs.Common.{ap}
use Rattle.journal_model.specs.Requests.{is_location}
use Rattle.rd_request.proofs.ResourceLaws.{location_path}
use Rattle.rd_request.proofs.incoming.served.Goals as goal

pub on_location-requires : goal.on_location-requires
on_location-requires c =
    ap is_location (location_path c.args.request c.in-Location.field-0 c.in-Location.is)
