use Rattle.std.proofs.Common.{◌≡◌, sym, ap, ◌∙◌}
use Rattle.directory_core.specs.AfterEntries.{without}
use Rattle.directory_core.specs.NameSlots.{hash_of, slots_of, without_slot}
use Rattle.directory_core.proofs.SweptLaws.{slots_without, without_none, ok_so}
use Rattle.directory_core.proofs.sweep.names_without.Goals as goal

pub returns-in-Some : goal.returns-in-Some
returns-in-Some c =
    let rs = c.args.records.now in
    let number = c.args.number in
    ok_so c.take.result (λ left. left ≡ slots_of (without number rs))
    (without_slot (record { hash = hash_of c.as_record.result.now.name; number = number })
    c.args.names.now) c.take.ensures
    (ap (without_slot (record { hash = hash_of c.as_record.result.now.name; number = number }))
    c.requires.named
    ∙ slots_without rs number c.in-Some.kept.now c.requires.rising (sym c.in-Some.ensures)
    c.as_record.result.now c.as_record.ensures)

pub returns-in-None : goal.returns-in-None
returns-in-None c =
    let rs = c.args.records.now in
    ok_so c.share.result (λ left. left ≡ slots_of (without c.args.number rs)) c.args.names.now
    c.share.ensures (c.requires.named
    ∙ ap slots_of (sym (without_none rs c.args.number (sym c.in-None.ensures))))
