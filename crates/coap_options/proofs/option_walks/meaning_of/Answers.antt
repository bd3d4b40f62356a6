use Rattle.coap_message.specs.Views.{message_in}
use Rattle.coap_options.proofs.ValueLengths.{
  observe_short,
  accept_short,
  format_short,
  block1_short,
  block2_short,
  echo_short,
}
use Rattle.coap_options.proofs.option_walks.meaning_of.Goals as goal

pub uint_in-requires : goal.uint_in-requires
uint_in-requires c =
    observe_short (message_in c.args.view.now).options c.args.found.now.observe c.requires.observe

pub short_uint_in-requires : goal.short_uint_in-requires
short_uint_in-requires c =
    accept_short (message_in c.args.view.now).options c.args.found.now.accept c.requires.accept

pub short_uint_in-requires-2 : goal.short_uint_in-requires-2
short_uint_in-requires-2 c =
    format_short (message_in c.args.view.now).options c.args.found.now.format c.requires.format

pub returns-clause-short : goal.returns-clause-short
returns-clause-short c = record {
  block1 =
      block1_short (message_in c.args.view.now).options c.args.found.now.block1 c.requires.block1;
  block2 =
      block2_short (message_in c.args.view.now).options c.args.found.now.block2 c.requires.block2;
}

pub invariant_of-result-clause-block1_short : goal.invariant_of-result-clause-block1_short
invariant_of-result-clause-block1_short c =
    block1_short (message_in c.args.view.now).options c.args.found.now.block1 c.requires.block1

pub invariant_of-result-clause-block2_short : goal.invariant_of-result-clause-block2_short
invariant_of-result-clause-block2_short c =
    block2_short (message_in c.args.view.now).options c.args.found.now.block2 c.requires.block2

pub invariant_of-result-clause-echo_short : goal.invariant_of-result-clause-echo_short
invariant_of-result-clause-echo_short c =
    echo_short (message_in c.args.view.now).options c.args.found.now.echo c.requires.echo
