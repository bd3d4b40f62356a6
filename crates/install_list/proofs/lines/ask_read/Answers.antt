use Rattle.install_list.proofs.LineLaws.{text_other, text_asked}
use Rattle.install_list.proofs.lines.ask_read.Goals as goal

pub returns-in_default-clause-exact : goal.returns-in_default-clause-exact
returns-in_default-clause-exact c =
    text_other c.args.from c.args.uri.now c.args.links.now c.in_default.ensures.cases.0

pub returns-in-Ok-register_ask-clause-exact : goal.returns-in-Ok-register_ask-clause-exact
returns-in-Ok-register_ask-clause-exact c =
    text_asked c.args.from c.args.uri.now c.in-Ok.uri.now c.args.links.now
    c.in-Ok-register_ask.ask
    c.reached.result c.in-Ok.ensures.cases.0 c.in-Ok.ensures.cases.1
    c.in-Ok-register_ask.ensures.exact
    c.reached.ensures.exact
