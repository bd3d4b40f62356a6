-- What waits stands where it stood.
use Rattle.std.specs.String.{string_bytes}
use Rattle.rd_base.proofs.LinkTextLemmas.{raw-view, raw-waiting}
use Rattle.rd_base.proofs.links_builder.LinksBuilder.with_raw.Goals as goal

pub invariant_of-result : goal.invariant_of-result
invariant_of-result c = record {
  links = c.self.invariant.links;
  waiting =
      raw-waiting (string_bytes c.self.inside.texts.apart) (string_bytes c.self.inside.raw)
      c.args.raw.now (string_bytes c.push_str.new.self) c.self.inside.texts.pairs.items
      c.self.inside.taken c.in_ok-push_str.ensures.bytes c.self.invariant.waiting;
  within = c.self.invariant.within;
}

pub returns : goal.returns
returns c =
    rw (← c.self.view_is)
    (raw-view (string_bytes c.self.inside.texts.apart) (string_bytes c.self.inside.raw)
    c.args.raw.now (string_bytes c.push_str.new.self) c.self.inside.texts.pairs.items
    c.self.inside.taken c.in_ok-push_str.ensures.bytes c.self.invariant.waiting _)
