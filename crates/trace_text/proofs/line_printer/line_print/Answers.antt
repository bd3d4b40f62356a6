use Rattle.std.proofs.Common.{◌∙◌, ap}
use Rattle.trace_text.proofs.LineFields.{read_back}
use Rattle.trace_text.proofs.line_printer.line_print.Goals as goal

pub returns-clause-back : goal.returns-clause-back
returns-clause-back c =
    read_back c.of.result c.args.line.now c.requires
    (c.of.ensures ∙ ap (λ v. v.items) c.into_bytes.ensures.value ∙ c.in_ok-text.ensures)
