use Rattle.std.proofs.Common.{◌≡◌, ◌+◌, ◌<◌, length, take, sym, subst, arith}
use Rattle.stream_model.specs.declared.messages.Judged.TheVariants as judged
use Rattle.stream_reader.specs.Wanting.{wanted_of}
use Rattle.stream_reader.specs.Reading.{Held, held_as}
use Rattle.stream_reader.proofs.ReaderLemmas.{open_held, held_judged, held_wanted}
use Rattle.stream_reader.proofs.reader.StreamReader.hold.Goals as goal

pub put_octets-requires : goal.put_octets-requires
put_octets-requires c =
    let r = c.self.inside in
    let held = open_held r.is_first r.octets r.length r.wanted r.judged c.args.self.now c.self.told
    c.self.invariant.0 c.self.invariant.1 c.self.invariant.2 c.self.view_is c.requires.more in
    omega (arith, held.size_is, held.wanted_is, held.few, c.requires.few, c.self.told)

pub invariant_of-self : goal.invariant_of-self
invariant_of-self c =
    let r = c.self.inside in
    let held = open_held r.is_first r.octets r.length r.wanted r.judged c.args.self.now c.self.told
    c.self.invariant.0 c.self.invariant.1 c.self.invariant.2 c.self.view_is c.requires.more in
    let more =
    subst (λ (h : Held). held_as h ≡ judged.More) (sym c.self.view_is) c.requires.more in
    let few = subst
    (λ (h : Held). length h.pending + length c.args.octets.now < wanted_of h.pending)
    (sym c.self.view_is) c.requires.few in (
      omega (arith, held.size_is, held.wanted_is, held.few, c.requires.few),
      held_judged r.is_first (take r.length r.octets) c.args.octets.now
          (take (r.length + length c.args.octets.now) c.put_octets.new.octets) r.judged
          c.put_octets.ensures more few c.self.invariant.1,
      held_wanted r.is_first (take r.length r.octets) c.args.octets.now
          (take (r.length + length c.args.octets.now) c.put_octets.new.octets) r.judged r.wanted
          c.put_octets.ensures more few c.self.invariant.1 c.self.invariant.2,
    )
