use Rattle.std.proofs.Common.{sym, ◌∙◌}
use Rattle.directory_core.proofs.ReadLaws.{source_found, source_none}
use Rattle.directory_core.proofs.directory.Directory.source.Goals as goal

pub returns-in_default : goal.returns-in_default
returns-in_default c first history stands =
    source_none c.args.number history c.args.now.0 (sym (c.in_default.ensures first history stands))

pub returns : goal.returns
returns c first history stands =
    source_found c.args.number history c.args.now.0 c.in-Some.registration.now
    c.in_ok-octets.octets (sym (c.in-Some.ensures first history stands))
    (c.in_ok-octets.ensures ∙ c.as_bytes.ensures.value ∙ c.source-text.ensures)
